-- A leaf of sixteen pages, as an entry of each of them.
use Rattle.std.proofs.Common.{◌≡◌, ◌∙◌, ◌+◌, ◌-◌, ◌*◌, ◌/◌, ◌%◌, ◌^◌, ◌==◌, ◌&&◌, ◌≤◌, ◌<◌, ℕ, zero, suc, Bool, true, false, List, [], ◌∷◌, map, if◌then◌else◌, refl, sym, ap, subst, inl, inr, arith}
use Rattle.std.specs.Prelude.{Option, None, Some, filter, flat_map, nat_le, nat_lt}
use Rattle.std.specs.List.{range_with_len}
use Rattle.std.proofs.Math.Nat.{div-div-eq-div-mul}
use Rattle.std.proofs.lemmas.Bool.{eq-eqb, eqb-true, leb-false, leb-true}
use Rattle.std.proofs.lemmas.Nat.{pow-add}
use Rattle.iom_bits.specs.Features.{Features}
use Rattle.iom_queue.specs.declared.command.Command.{Command}
use Rattle.iom_queue.specs.declared.command.Command.TheVariants.{Vma, Gvma, Fence, Iodir}
use Rattle.iom_nested.specs.declared.translation.Hit.{Hit}
use Rattle.iom_cache.specs.Drops.{drops_page, larger, meets, range_width, vma_guest, vma_page, vma_process}
use Rattle.iom_cache.specs.declared.key.Key.{Key}
use Rattle.iom_core.specs.declared.way.Way.{Way as Led}
use Rattle.iom_choices.specs.Systems.{IsAmong, ModelWalk}
use Rattle.iom_choices.specs.Trees.{Ends, IsApart, Looks, picked, way_over, ways_over}
use Rattle.iom_choices.proofs.Lists.{among-left, among-right, among_either}
use Rattle.iom_every.specs.Drops.{single}
use Rattle.iom_every.specs.Entries.{Entry, Held, OfDevice, OfDirectory, OfFile, OfFirst, OfPage, OfSecond, is_of_sixteen, kept_as, of_sixteen, page_of, sixteen_of, split}
use Rattle.iom_every.specs.Trees.{Walk, kept_tree}
use Rattle.iom_every.specs.Uses.{Look, is_for}
use Rattle.iom_walk.specs.Shape.{levels}
use Rattle.iom_walk.specs.declared.shape.Shape.{Shape}
use Rattle.iom_every.specs.Ways.{Goes, kept_walk}

-- walks whose reads are kept in each form
pub way_kept : (features : Features) (iova : ℕ) (source : List (Look × Entry)) (tree : Walk) → way_over source (kept_tree features iova tree) ≡ kept_walk features iova (way_over source tree)
way_kept features iova source (Ends way) = refl
way_kept features iova source (Looks look fits more) = way_kept features iova source (more (picked fits source))

pub apart_kept : (features : Features) (iova : ℕ) (asked : List Look) (tree : Walk) → IsApart asked tree → IsApart asked (kept_tree features iova tree)
apart_kept features iova asked (Ends way) h = tt
apart_kept features iova asked (Looks look fits more) h = (h.0, h.1, λ used. apart_kept features iova (look ∷ asked) (more used) (h.2 used))

-- an entry of a range
among_map : {X Y : Type 0} (f : X → Y) (xs : List X) (x : X) → IsAmong xs x → IsAmong (map f xs) (f x)
among_map f [] x h = absurd h
among_map f (y ∷ xs) x (inl same) = inl (ap f same)
among_map f (y ∷ xs) x (inr h) = inr (among_map f xs x h)

in_range : (first count offset : ℕ) → offset < count → IsAmong (range_with_len first count) (first + offset)
in_range first zero offset less = absurd (omega (arith, less))
in_range first (suc count) zero less = inl (omega arith)
in_range first (suc count) (suc offset) less =
    let here : first + 1 + offset ≡ first + suc offset = omega arith in
    inr (subst (IsAmong (range_with_len (first + 1) count)) here (in_range (first + 1) count offset (omega (arith, less))))

split_up : (page : ℕ) → page / 16 * 16 + page % 16 ≡ page
split_up page = omega arith

less_sixteen : (page : ℕ) → page % 16 < 16
less_sixteen page = omega arith

-- each page of the sixteen has its entry
pub each_of_sixteen : (held : Held) (page : ℕ) → page / 16 ≡ held.part / 16 → IsAmong (sixteen_of held) (record held { part = page })
each_of_sixteen held page same =
    let at : held.part / 16 * 16 + page % 16 ≡ page = ap (λ (n : ℕ). n * 16 + page % 16) (sym same) ∙ split_up page in
    let there : 0 + page % 16 ≡ page % 16 = omega arith in
    subst (IsAmong (sixteen_of held)) (λ i. record held { part = at i })
    (among_map (of_sixteen held) (range_with_len 0 16) (page % 16)
    (subst (IsAmong (range_with_len 0 16)) there (in_range 0 16 (page % 16) (less_sixteen page))))

pub split_itself : (features : Features) (held : Held) → IsAmong (split features held) held
split_itself features held = elim (is_of_sixteen features held) as (λ b. IsAmong (if b then sixteen_of held else held ∷ []) held) [
  | true ↦ each_of_sixteen held held.part refl
  | false ↦ inl refl
]

pub itself : (features : Features) (entry : Entry) → IsAmong (kept_as features entry) entry
itself features (OfDirectory level part word) = inl refl
itself features (OfDevice did said) = inl refl
itself features (OfFirst gscid pscid held) = among_map (OfFirst gscid pscid) (split features held) held (split_itself features held)
itself features (OfSecond gscid held) = among_map (OfSecond gscid) (split features held) held (split_itself features held)
itself features (OfFile gscid page word) = inl refl
itself features (OfPage key hit) = inl refl

-- what is read may be kept as it is
pub kept_itself : (features : Features) (reads : List Entry) (entry : Entry) → IsAmong reads entry → IsAmong (flat_map (kept_as features) reads) entry
kept_itself features [] entry h = absurd h
kept_itself features (one ∷ reads) entry (inl same) =
    among-left (kept_as features one) (flat_map (kept_as features) reads) entry (subst (IsAmong (kept_as features one)) same (itself features one))
kept_itself features (one ∷ reads) entry (inr h) = among-right (kept_as features one) (flat_map (kept_as features) reads) entry (kept_itself features reads entry h)

-- An invalidation of one page drops a whole translation from the caches also where it drops no entry of that page alone.
apart_wider : (n width wider : ℕ) → width ≤ wider → n / 2 ^ wider ≡ n / 2 ^ width / 2 ^ (wider - width)
apart_wider n width wider le =
    let whole : width + (wider - width) ≡ wider = omega (arith, le) in
    ap (λ k. n / 2 ^ k) (sym whole)
    ∙ ap (λ d. n / d) (pow-add 2 width (wider - width))
    ∙ sym (div-div-eq-div-mul n (2 ^ width) (2 ^ (wider - width)))

still_meets : (n m width wider : ℕ) → width ≤ wider → n / 2 ^ width ≡ m / 2 ^ width → n / 2 ^ wider ≡ m / 2 ^ wider
still_meets n m width wider le same = apart_wider n width wider le ∙ ap (λ k. k / 2 ^ (wider - width)) same ∙ sym (apart_wider m width wider le)

larger_le : (width small wide : ℕ) → small ≤ wide → larger width small ≤ larger width wide
larger_le width small wide le =
    let Goal : Bool → Bool → Type 0 = λ b c. nat_le width small ≡ b → nat_le width wide ≡ c → (if b then small else width) ≤ (if c then wide else width) in
    let by_tests : (b c : Bool) → Goal b c = λ b c. elim b as (λ b. Goal b c) [
      | true ↦ elim c as (λ c. Goal true c) [
        | true ↦ λ low high. le
        | false ↦ λ low high. omega (arith, leb-true width small low, leb-false width wide high, le)
      ]
      | false ↦ elim c as (λ c. Goal false c) [
        | true ↦ λ low high. leb-true width wide high
        | false ↦ λ low high. omega arith
      ]
    ] in by_tests (nat_le width small) (nat_le width wide) refl refl

meets_wider : (page width own small wide : ℕ) → small ≤ wide → meets page width own small ≡ true → meets page width own wide ≡ true
meets_wider page width own small wide le is =
    eq-eqb (own / 2 ^ larger width wide) (page / 2 ^ larger width wide)
    (still_meets own page (larger width small) (larger width wide) (larger_le width small wide le)
    (eqb-true (own / 2 ^ larger width small) (page / 2 ^ larger width small) is))

false_if : (a b : Bool) → (a ≡ true → b ≡ true) → b ≡ false → a ≡ false
false_if true b more off = sym (more refl) ∙ off
false_if false b more off = refl

true_right : (a b : Bool) → (a && b) ≡ true → b ≡ true
true_right true b is = is
true_right false b is = absurd (cc)

with_right : (a b c : Bool) → (b ≡ true → c ≡ true) → (a && b) ≡ true → (a && c) ≡ true
with_right true b c more is = more is
with_right false b c more is = absurd (cc)

page_wider : (av s : Bool) (page own small wide : ℕ) → small ≤ wide → vma_page av s page own small ≡ true → vma_page av s page own wide ≡ true
page_wider true s page own small wide le is = meets_wider page (range_width s page) own small wide le is
page_wider false s page own small wide le is = refl

pub napot_left : (command : Command) (key : Key) (hit : Hit) → hit.napot ≡ true → drops_page command key hit ≡ false → drops_page command key (single hit) ≡ false
unfolding drops_page
napot_left (Vma av page pscv pscid gv gscid nl s) key hit is off =
    let own : Bool = vma_guest gv gscid key.gscid && vma_process pscv pscid key.pscid hit.global in
    let wide : (own && vma_page av s page key.page 4) ≡ false = subst (λ (b : Bool). (own && vma_page av s page key.page (if b then 4 else 9 * hit.level)) ≡ false) is off in
    let narrow : (own && vma_page av s page key.page 0) ≡ false =
    false_if (own && vma_page av s page key.page 0) (own && vma_page av s page key.page 4)
    (with_right own (vma_page av s page key.page 0) (vma_page av s page key.page 4) (page_wider av s page key.page 0 4 (omega arith))) wide in
    rw (is) narrow
napot_left (Gvma av page pscid gv gscid nl s) key hit is off = off
napot_left (Fence av wsi pr pw value addr) key hit is off = off
napot_left (Iodir dv did) key hit is off = off

-- the entries that are kept of one differ in their page alone
record IsPageOf (read held : Held) : Type 0 where
  pub same : record read { part = held.part } ≡ held
  pub level : held.level ≡ read.level

pages_are : (read held : Held) (pages : List ℕ) → IsAmong (map (of_sixteen read) pages) held → IsPageOf read held
pages_are read held [] h = absurd h
pages_are read held (page ∷ pages) (inl is) = subst (IsPageOf read) is (record { same = refl; level = refl })
pages_are read held (page ∷ pages) (inr h) = pages_are read held pages h

split_is : (features : Features) (read held : Held) → IsAmong (split features read) held → IsPageOf read held
split_is features read held among = elim (is_of_sixteen features read) as (λ b. IsAmong (if b then sixteen_of read else read ∷ []) held → IsPageOf read held) [
  | true ↦ λ h. pages_are read held (range_with_len 0 16) h
  | false ↦ λ h. elim h [
    | inl is ↦ subst (IsPageOf read) is (record { same = refl; level = refl })
    | inr none ↦ absurd none
  ]
] among

-- so that of a page which the entry stands for is that entry
pub own_page : (features : Features) (shape : Shape) (address : ℕ) (read held : Held) → is_for shape address read ≡ true →
    IsAmong (split features read) held → is_for shape address held ≡ true → held ≡ read
own_page features shape address read held fits among other =
    let p : IsPageOf read held = split_is features read held among in
    let place : ℕ → ℕ = λ level. address / 4096 / 2 ^ (9 * level) in
    let own : read.part ≡ place read.level = eqb-true read.part (place read.level) (true_right (nat_lt read.level (levels shape)) (read.part == place read.level) fits) in
    let its : held.part ≡ place held.level = eqb-true held.part (place held.level) (true_right (nat_lt held.level (levels shape)) (held.part == place held.level) other) in
    let part : held.part ≡ read.part = its ∙ ap place p.level ∙ sym own in
    sym p.same ∙ (λ i. record read { part = part i })

-- an element of the lists that a function gives
pub record IsFlatFrom {X Y : Type 0} (f : X → List Y) (xs : List X) (y : Y) : Type 0 where
  pub source : X
  pub of : IsAmong xs source
  pub among : IsAmong (f source) y

pub flat_from : {X Y : Type 0} (f : X → List Y) (xs : List X) (y : Y) → IsAmong (flat_map f xs) y → IsFlatFrom f xs y
flat_from f [] y h = absurd h
flat_from f (x ∷ xs) y h = elim (among_either (f x) (flat_map f xs) y h) [
  | inl here ↦ record { source = x; of = inl refl; among = here }
  | inr later ↦ let k : IsFlatFrom f xs y = flat_from f xs y later in record { source = k.source; of = inr k.of; among = k.among }
]

pub flat_to : {X Y : Type 0} (f : X → List Y) (xs : List X) (x : X) (y : Y) → IsAmong xs x → IsAmong (f x) y → IsAmong (flat_map f xs) y
flat_to f [] x y h among = absurd h
flat_to {X} f (z ∷ xs) x y (inl same) among = among-left (f z) (flat_map f xs) y (subst (λ (x : X). IsAmong (f x) y) (sym same) among)
flat_to f (z ∷ xs) x y (inr h) among = among-right (f z) (flat_map f xs) y (flat_to f xs x y h among)

-- each way of the walks whose reads are kept in each form is one of the walks
pub record IsKeptWay (features : Features) (iova : ℕ) (ways : List (ModelWalk Entry Led)) (way : ModelWalk Entry Goes) : Type 0 where
  pub own : ModelWalk Entry Led
  pub among : IsAmong ways own
  pub same : kept_walk features iova own ≡ way

pub kept_way : (features : Features) (iova : ℕ) (held : List Entry) (tree : Walk) (way : ModelWalk Entry Goes) → IsAmong (ways_over held (kept_tree features iova tree)) way →
    IsKeptWay features iova (ways_over held tree) way
kept_way features iova held (Ends own) way (inl same) = record { own = own; among = inl refl; same = same }
kept_way features iova held (Ends own) way (inr none) = absurd none
kept_way features iova held (Looks look fits more) way h =
    elim (among_either (ways_over held (kept_tree features iova (more None))) (flat_map (λ entry. ways_over held (kept_tree features iova (more (Some entry)))) (filter (fits look) held)) way h) [
      | inl memory ↦
          let k : IsKeptWay features iova (ways_over held (more None)) way = kept_way features iova held (more None) way memory in
          record { own = k.own; among = among-left (ways_over held (more None)) (flat_map (λ entry. ways_over held (more (Some entry))) (filter (fits look) held)) k.own k.among; same = k.same }
      | inr used ↦
          let f : IsFlatFrom (λ entry. ways_over held (kept_tree features iova (more (Some entry)))) (filter (fits look) held) way =
          flat_from (λ entry. ways_over held (kept_tree features iova (more (Some entry)))) (filter (fits look) held) way used in
          let k : IsKeptWay features iova (ways_over held (more (Some f.source))) way = kept_way features iova held (more (Some f.source)) way f.among in
          record {
            own = k.own;
            among = among-right (ways_over held (more None)) (flat_map (λ entry. ways_over held (more (Some entry))) (filter (fits look) held)) k.own
                (flat_to (λ entry. ways_over held (more (Some entry))) (filter (fits look) held) f.source k.own f.of k.among);
            same = k.same;
          }
    ]

-- the forms of a leaf of sixteen pages are the entries of its pages
pub first_pages : (features : Features) (gscid : Option ℕ) (pscid : ℕ) (held : Held) → is_of_sixteen features held ≡ true →
    map (page_of (OfFirst gscid pscid held)) (range_with_len 0 16) ≡ kept_as features (OfFirst gscid pscid held)
first_pages features gscid pscid held is = rw (is) refl

pub second_pages : (features : Features) (gscid : ℕ) (held : Held) → is_of_sixteen features held ≡ true →
    map (page_of (OfSecond gscid held)) (range_with_len 0 16) ≡ kept_as features (OfSecond gscid held)
second_pages features gscid held is = rw (is) refl

pub first_alone : (features : Features) (gscid : Option ℕ) (pscid : ℕ) (held : Held) → is_of_sixteen features held ≡ false → kept_as features (OfFirst gscid pscid held) ≡ OfFirst gscid pscid held ∷ []
first_alone features gscid pscid held off = rw (off) refl

pub second_alone : (features : Features) (gscid : ℕ) (held : Held) → is_of_sixteen features held ≡ false → kept_as features (OfSecond gscid held) ≡ OfSecond gscid held ∷ []
second_alone features gscid held off = rw (off) refl

-- a range begins with its first number
pub range_begins : (first count : ℕ) → 0 < count → range_with_len first count ≡ first ∷ range_with_len (first + 1) (count - 1)
range_begins first zero less = absurd (omega (arith, less))
range_begins first (suc count) less = ap (λ (n : ℕ). first ∷ range_with_len (first + 1) n) (omega arith)
