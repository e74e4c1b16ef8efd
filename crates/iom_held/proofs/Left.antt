-- The entries that a command leaves.
use Rattle.std.proofs.Common.{◌≡◌, ◌++◌, ℕ, Bool, true, false, List, [], ◌∷◌, Option, Some, None, map, if◌then◌else◌, refl, sym, subst}
use Rattle.std.specs.Prelude.{filter}
use Rattle.std.proofs.lemmas.List.{map-append}
use Rattle.std.proofs.lemmas.List.Elements.{filter-append}
use Rattle.iom_choices.specs.Systems.{IsAmong}
use Rattle.iom_choices.proofs.Lists.{IsPassed, passed}
use Rattle.iom_cache.specs.Drops as cached
use Rattle.iom_every.specs.Drops as drops
use Rattle.iom_every.specs.Drops.{drops_entry}
use Rattle.iom_every.specs.declared.entry.Entry.TheVariants.{Directory as OfDirectory, Device as OfDevice, First as OfFirst, Second as OfSecond, File as OfFile, Page as OfPage}
use Rattle.iom_queue.specs.declared.command.Command.TheVariants.{Vma, Gvma, Fence, Iodir}
use Rattle.iom_every.specs.Every.{is_fence}
use Rattle.iom_every.specs.declared.entry.Entry.{Entry}
use Rattle.iom_queue.specs.declared.command.Command.{Command}
use Rattle.iom_held.specs.Kept.{HasNoneTwice, entries_in, entry_of, is_spared, left_by, named_by}
use Rattle.iom_held.specs.declared.kept.Kept.{Kept}
use Rattle.iom_held.proofs.Lists.{IsFrom, among_of, from_among}

-- a fence names nothing
fence_drops : (av wsi pr pw : Bool) (value addr : ℕ) (entry : Entry) → drops_entry (Fence av wsi pr pw value addr) entry ≡ false
unfolding drops.drops_entry cached.drops_device cached.drops_page
fence_drops av wsi pr pw value addr (OfDirectory level part word) = refl
fence_drops av wsi pr pw value addr (OfDevice did said) = refl
fence_drops av wsi pr pw value addr (OfFirst gscid pscid held) = refl
fence_drops av wsi pr pw value addr (OfSecond gscid held) = refl
fence_drops av wsi pr pw value addr (OfFile gscid page word) = refl
fence_drops av wsi pr pw value addr (OfPage key hit) = refl

pub fence_names : (command : Command) (entry : Entry) → is_fence command ≡ true → drops_entry command entry ≡ false
fence_names (Fence av wsi pr pw value addr) entry is = fence_drops av wsi pr pw value addr entry
fence_names (Vma av page pscv pscid gv gscid nl s) entry is = absurd (cc)
fence_names (Gvma av page pscid gv gscid nl s) entry is = absurd (cc)
fence_names (Iodir dv did) entry is = absurd (cc)

-- A fence leaves what no command names; of another command the entries are the same.
pub fence_leaves : (number : ℕ) (command : Command) (kept : List Kept) → is_fence command ≡ true → left_by number (Some command) kept ≡ filter is_spared kept
fence_leaves number command kept is = rw (is) refl

pub other_leaves : (number : ℕ) (command : Command) (kept : List Kept) → is_fence command ≡ false → left_by number (Some command) kept ≡ map (named_by number command) kept
other_leaves number command kept off = rw (off) refl

named_entry : (number : ℕ) (command : Command) (each : Kept) → (named_by number command each).entry ≡ each.entry
named_entry number command each = elim (drops_entry command each.entry) as (λ b. (if b then record each { unfenced = Some number } else each).entry ≡ each.entry) [
  | true ↦ refl
  | false ↦ refl
]

pub named_entries : (number : ℕ) (command : Command) (kept : List Kept) → entries_in (map (named_by number command) kept) ≡ entries_in kept
named_entries number command [] = refl
named_entries number command (each ∷ kept) = λ i. named_entry number command each i ∷ named_entries number command kept i

-- what is left was there
pub left_entry : (number : ℕ) (command : Option Command) (kept : List Kept) (each : Kept) → IsAmong (left_by number command kept) each → IsAmong (entries_in kept) each.entry
left_entry number None kept each h = among_of entry_of kept each h
left_entry number (Some command) kept each h =
    let Goal : Bool → Type 0 = λ b. IsAmong (if b then filter is_spared kept else map (named_by number command) kept) each → IsAmong (entries_in kept) each.entry in
    let by_fence : (b : Bool) → Goal b = λ b. elim b as Goal [
      | true ↦ λ h. let p : IsPassed is_spared kept each = passed is_spared kept each h in among_of entry_of kept each p.among
      | false ↦ λ h. subst (λ (entries : List Entry). IsAmong entries each.entry) (named_entries number command kept) (among_of entry_of (map (named_by number command) kept) each h)
    ] in by_fence (is_fence command) h

pub left_none : (number : ℕ) (command : Command) → left_by number (Some command) [] ≡ []
left_none number command = elim (is_fence command) as (λ b. (if b then filter is_spared [] else map (named_by number command) []) ≡ []) [
  | true ↦ refl
  | false ↦ refl
]

pub left_both : (number : ℕ) (command : Command) (xs ys : List Kept) → left_by number (Some command) (xs ++ ys) ≡ left_by number (Some command) xs ++ left_by number (Some command) ys
left_both number command xs ys =
    let Goal : Bool → Type 0 = λ b.
    (if b then filter is_spared (xs ++ ys) else map (named_by number command) (xs ++ ys))
    ≡ (if b then filter is_spared xs else map (named_by number command) xs) ++ (if b then filter is_spared ys else map (named_by number command) ys) in
    let by_fence : (b : Bool) → Goal b = λ b. elim b as Goal [
      | true ↦ filter-append is_spared xs ys
      | false ↦ map-append (named_by number command) xs ys
    ] in by_fence (is_fence command)

-- none stands there twice
pub test_once : (test : Kept → Bool) (kept : List Kept) → HasNoneTwice (entries_in kept) → HasNoneTwice (entries_in (filter test kept))
test_once test [] once = tt
test_once test (each ∷ kept) once =
    let Goal : Bool → Type 0 = λ b. HasNoneTwice (entries_in (if b then each ∷ filter test kept else filter test kept)) in
    let rest : HasNoneTwice (entries_in (filter test kept)) = test_once test kept once.1 in
    let among : IsAmong (entries_in (filter test kept)) each.entry → IsAmong (entries_in kept) each.entry = λ h.
    let f : IsFrom entry_of (filter test kept) each.entry = from_among entry_of (filter test kept) each.entry h in
    let p : IsPassed test kept f.thing = passed test kept f.thing f.among in
    subst (IsAmong (entries_in kept)) f.is (among_of entry_of kept f.thing p.among) in
    let by_test : (b : Bool) → Goal b = λ b. elim b as Goal [
      | true ↦ (λ h. once.0 (among h), rest)
      | false ↦ rest
    ] in by_test (test each)

pub left_once : (number : ℕ) (command : Option Command) (kept : List Kept) → HasNoneTwice (entries_in kept) → HasNoneTwice (entries_in (left_by number command kept))
left_once number None kept once = once
left_once number (Some command) kept once =
    let Goal : Bool → Type 0 = λ b. HasNoneTwice (entries_in (if b then filter is_spared kept else map (named_by number command) kept)) in
    let by_fence : (b : Bool) → Goal b = λ b. elim b as Goal [
      | true ↦ test_once is_spared kept once
      | false ↦ subst HasNoneTwice (sym (named_entries number command kept)) once
    ] in by_fence (is_fence command)
