-- What a command leaves of what is held, as the system has it.
use Rattle.std.proofs.Common.{◌≡◌, not, Bool, true, false, List, [], ◌∷◌, map, Option, Some, None, if◌then◌else◌, refl, sym, ap, subst}
use Rattle.std.specs.Prelude.{filter, ℕ}
use Rattle.iom_choices.specs.Late.{is_fence_by, named_by}
use Rattle.iom_choices.proofs.Lists.{IsPassed, passed}
use Rattle.iom_choices.proofs.Trees.{among_filter}
use Rattle.iom_every.specs.Drops.{drops_entry}
use Rattle.iom_every.specs.Every.{is_fence, queue_commands}
use Rattle.iom_every.specs.declared.entry.Entry.{Entry}
use Rattle.iom_queue.specs.declared.command.Command.{Command}
use Rattle.iom_held.specs.Kept.{entries_in, is_spared, left_by, named_by as noted_by}
use Rattle.iom_held.specs.declared.kept.Kept.{Kept}
use Rattle.iom_held.proofs.Left.{fence_names, named_entries}
use Rattle.iom_judge.proofs.Held.{AreSame}

pub same_filtered : {X : Type 0} (test : X → Bool) (some all : List X) → AreSame some all → AreSame (filter test some) (filter test all)
same_filtered {X} test some all same = record {
  within = λ x h. let p : IsPassed test some x = passed test some x h in among_filter test all x (same.within x p.among) p.passes;
  enough = λ x h. let p : IsPassed test all x = passed test all x h in among_filter test some x (same.enough x p.among) p.passes;
}

pub same_left : {X : Type 0} (few some all : List X) → few ≡ some → AreSame some all → AreSame few all
same_left {X} few some all is same = subst (λ (xs : List X). AreSame xs all) (sym is) same

pub same_right : {X : Type 0} (some all more : List X) → AreSame some all → all ≡ more → AreSame some more
same_right {X} some all more same is = subst (AreSame some) is same

all_pass : {X : Type 0} (xs : List X) → filter (λ (x : X). true) xs ≡ xs
all_pass [] = refl
all_pass {X} (x ∷ xs) = ap (λ (rest : List X). x ∷ rest) (all_pass xs)

filter_pass : {X : Type 0} (test : X → Bool) (xs : List X) → ((x : X) → test x ≡ true) → filter test xs ≡ xs
filter_pass test [] each = refl
filter_pass {X} test (x ∷ xs) each = rw (each x) (ap (λ (rest : List X). x ∷ rest) (filter_pass test xs each))

filter_again : {X : Type 0} (test : X → Bool) (xs : List X) → filter test (filter test xs) ≡ filter test xs
filter_again test [] = refl
filter_again {X} test (x ∷ xs) =
    let Goal : Bool → Type 0 = λ b. test x ≡ b → filter test (if b then x ∷ filter test xs else filter test xs) ≡ (if b then x ∷ filter test xs else filter test xs) in
    let by_test : (b : Bool) → Goal b = λ b. elim b as Goal [
      | true ↦ λ is. rw is (ap (λ (rest : List X). x ∷ rest) (filter_again test xs))
      | false ↦ λ is. filter_again test xs
    ] in by_test (test x) refl

-- a command that isn't a fence
spared_noted : (number : ℕ) (command : Command) (kept : List Kept) →
    entries_in (filter is_spared (map (noted_by number command) kept)) ≡ filter (λ (entry : Entry). not (drops_entry command entry)) (entries_in (filter is_spared kept))
spared_noted number command [] = refl
spared_noted number command (one ∷ kept) =
    let few : List Kept = filter is_spared (map (noted_by number command) kept) in
    let some : List Kept = filter is_spared kept in
    let spare : Entry → Bool = λ entry. not (drops_entry command entry) in
    let rest : entries_in few ≡ filter spare (entries_in some) = spared_noted number command kept in
    let named : Bool = drops_entry command one.entry in
    let add : Bool → Kept → List Kept → List Kept = λ b x xs. if b then x ∷ xs else xs in
    let Goal : Bool → Type 0 = λ b. named ≡ b →
    entries_in (add (is_spared (if b then record one { unfenced = Some number } else one)) (if b then record one { unfenced = Some number } else one) few)
    ≡ filter spare (entries_in (add (is_spared one) one some)) in
    let Spared : Bool → Type 0 = λ s. named ≡ true → entries_in few ≡ filter spare (entries_in (add s one some)) in
    let spared : (s : Bool) → Spared s = λ s. elim s as Spared [
      | true ↦ λ is. rw is rest
      | false ↦ λ is. rest
    ] in
    let Left : Bool → Type 0 = λ s. named ≡ false → entries_in (add s one few) ≡ filter spare (entries_in (add s one some)) in
    let left : (s : Bool) → Left s = λ s. elim s as Left [
      | true ↦ λ is. rw is (ap (λ (rest : List Entry). one.entry ∷ rest) rest)
      | false ↦ λ is. rest
    ] in
    let by_name : (b : Bool) → Goal b = λ b. elim b as Goal [
      | true ↦ λ is. spared (is_spared one) is
      | false ↦ λ is. left (is_spared one) is
    ] in by_name named refl

-- what a command leaves of what outlasts the next fence, and of what is held
abbrev pub spares : Option Command → Entry → Bool
spares command entry = not (named_by queue_commands command entry)

pub left_spared : (number : ℕ) (command : Option Command) (kept : List Kept) (outlasts : List Entry) → AreSame (entries_in (filter is_spared kept)) outlasts →
    AreSame (entries_in (filter is_spared (left_by number command kept))) (filter (spares command) outlasts)
left_spared number None kept outlasts same = same_right _ outlasts _ same (sym (all_pass outlasts))
left_spared number (Some command) kept outlasts same =
    let Goal : Bool → Type 0 = λ b. is_fence command ≡ b → AreSame (entries_in (filter is_spared (if b then filter is_spared kept else map (noted_by number command) kept))) (filter (spares (Some command)) outlasts) in
    let by_fence : (b : Bool) → Goal b = λ b. elim b as Goal [
      | true ↦ λ is. same_left _ _ _ (ap (λ (kept : List Kept). entries_in kept) (filter_again is_spared kept))
          (same_right _ outlasts _ same (sym (filter_pass (spares (Some command)) outlasts (λ entry. ap not (fence_names command entry is)))))
      | false ↦ λ is. same_left _ _ _ (spared_noted number command kept) (same_filtered (spares (Some command)) (entries_in (filter is_spared kept)) outlasts same)
    ] in by_fence (is_fence command) refl

pub left_held : (number : ℕ) (command : Option Command) (kept : List Kept) (outlasts held : List Entry) → AreSame (entries_in (filter is_spared kept)) outlasts → AreSame (entries_in kept) held →
    AreSame (entries_in (left_by number command kept)) (if is_fence_by queue_commands command then filter (spares command) outlasts else held)
left_held number None kept outlasts held spared same = same
left_held number (Some command) kept outlasts held spared same =
    let Goal : Bool → Type 0 = λ b. is_fence command ≡ b → AreSame (entries_in (if b then filter is_spared kept else map (noted_by number command) kept)) (if b then filter (spares (Some command)) outlasts else held) in
    let by_fence : (b : Bool) → Goal b = λ b. elim b as Goal [
      | true ↦ λ is. same_right _ outlasts _ spared (sym (filter_pass (spares (Some command)) outlasts (λ entry. ap not (fence_names command entry is))))
      | false ↦ λ is. same_left _ _ _ (named_entries number command kept) same
    ] in by_fence (is_fence command) refl
