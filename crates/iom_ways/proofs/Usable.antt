-- The held entries that the walk in memory alone may use.
use Rattle.std.proofs.Common.{◌≡◌, ◌∙◌, ◌⊎◌, ◌++◌, ◌+◌, ◌<◌, ◌≤◌, ◌||◌, arith, ℕ, zero, suc, Bool, true, false, List, [], ◌∷◌, length, drop, Some, None, if◌then◌else◌, refl, sym, ap, subst, inl, inr}
use Rattle.std.specs.Prelude.{OnOk, Result, Ok, Err, filter, flat_map, get_or}
use Rattle.std.proofs.lemmas.List.{append-nil, drop_all, drop_more}
use Rattle.iom_core.specs.State.{State}
use Rattle.iom_core.specs.declared.access.Request.{Request}
use Rattle.iom_core.specs.declared.way.Way.{Way as Led}
use Rattle.iom_choices.specs.Systems.{IsAmong, ModelWalk}
use Rattle.iom_choices.specs.Trees.{Ends, Looks, way_over, ways_over}
use Rattle.iom_choices.proofs.Lists.{among-left, among-right, among_either}
use Rattle.iom_every.specs.declared.entry.Entry.{Entry}
use Rattle.iom_every.specs.Trees.{Walk, tree_of}
use Rattle.iom_every.specs.Ways.{way_of}
use Rattle.iom_every.proofs.Trees.{tree_is}
use Rattle.iom_held.specs.Tags.{tag_of}
use Rattle.iom_held.specs.declared.kept.Kept.{Kept}
use Rattle.iom_held.specs.declared.tags.Tag.{Tag}
use Rattle.iom_ways.specs.Asked.{Collects, is_asked}

neither : (a b : Bool) → (a || b) ≡ false → (a ≡ false) × (b ≡ false)
neither true b is = absurd (cc)
neither false b is = (refl, is)

-- an entry that no look-up in memory alone may use leaves its way alone
filtered : {X : Type 0} (test : X → Bool) (x : X) → test x ≡ false → filter test (x ∷ []) ≡ []
filtered {X} test x is = ap (λ (b : Bool). if b then x ∷ [] else []) is

unasked_over : (tree : Walk) (entry : Entry) → is_asked tree entry ≡ false → ways_over (entry ∷ []) tree ≡ way_over [] tree ∷ []
unasked_over (Ends way) entry none = refl
unasked_over (Looks look fits more) entry none =
    let two : (fits look entry ≡ false) × (is_asked (more None) entry ≡ false) = neither (fits look entry) (is_asked (more None) entry) none in
    ap (λ (used : List Entry). ways_over (entry ∷ []) (more None) ++ flat_map (λ (e : Entry). ways_over (entry ∷ []) (more (Some e))) used) (filtered (fits look) entry two.0)
    ∙ append-nil (ways_over (entry ∷ []) (more None)) ∙ unasked_over (more None) entry two.1

pub unasked : (state : State) (request : Request) (entry : Entry) → is_asked (tree_of state request) entry ≡ false →
    ways_over (entry ∷ []) (tree_of state request) ≡ way_of state [] request ∷ []
unasked state request entry none =
    unasked_over (tree_of state request) entry none ∙ ap (λ (way : ModelWalk Entry Led). way ∷ []) (tree_is state [] request)

-- what is put in
pub collects_none : (held : List Kept) (passes : Entry → Bool) (at : List Kept) → ((entry : Entry) → passes entry ≡ false) → Collects held passes at at
collects_none held passes at none = record {
  old = λ kept h. h;
  among = λ kept h. inl h;
  all = λ kept h is. absurd (let no : passes kept.entry ≡ false = none kept.entry in cc);
}

-- what is put in so far: each that passes is left, or is there
pub record AreCollected (held : List Kept) (passes : Entry → Bool) (left : Kept → Type 0) (before at : List Kept) : Type 0 where
  pub old : (kept : Kept) → IsAmong before kept → IsAmong at kept
  pub among : (kept : Kept) → IsAmong at kept → IsAmong before kept ⊎ IsAmong held kept
  pub all : (kept : Kept) → IsAmong held kept → passes kept.entry ≡ true → left kept ⊎ IsAmong at kept

pub begun : (held : List Kept) (passes : Entry → Bool) (left : Kept → Type 0) (at : List Kept) → ((kept : Kept) → IsAmong held kept → passes kept.entry ≡ true → left kept) →
    AreCollected held passes left at at
begun held passes left at all = record {
  old = λ kept h. h;
  among = λ kept h. inl h;
  all = λ kept h is. inl (all kept h is);
}

pub went_on : (held some : List Kept) (passes tests : Entry → Bool) (left later : Kept → Type 0) (before at now : List Kept) →
    ((kept : Kept) → IsAmong some kept → IsAmong held kept) →
    ((kept : Kept) → IsAmong held kept → passes kept.entry ≡ true → left kept → later kept ⊎ (IsAmong some kept × (tests kept.entry ≡ true))) →
    AreCollected held passes left before at → Collects some tests at now → AreCollected held passes later before now
went_on held some passes tests left later before at now are either so_far put = record {
  old = λ kept h. put.old kept (so_far.old kept h);
  among = λ kept h. elim (put.among kept h) [
    | inl mid ↦ so_far.among kept mid
    | inr new ↦ inr (are kept new)
  ];
  all = λ kept h is. elim (so_far.all kept h is) [
    | inl l ↦ elim (either kept h is l) [
      | inl rest ↦ inl rest
      | inr here ↦ inr (put.all kept here.0 here.1)
    ]
    | inr there ↦ inr (put.old kept there)
  ];
}

pub done : (held : List Kept) (passes : Entry → Bool) (left : Kept → Type 0) (before at : List Kept) → ((kept : Kept) → left kept → ⊥) →
    AreCollected held passes left before at → Collects held passes before at
done held passes left before at none so_far = record {
  old = so_far.old;
  among = so_far.among;
  all = λ kept h is. elim (so_far.all kept h is) [
    | inl l ↦ absurd (none kept l)
    | inr there ↦ there
  ];
}

-- one element of a list
pub among_rest : {X : Type 0} (xs : List X) (n : ℕ) (x y : X) → n < length xs → x ≡ get_or xs n x → IsAmong (drop n xs) y → IsAmong (drop (n + 1) xs) y ⊎ (x ≡ y)
among_rest {X} xs n x y within is h =
    elim (subst (λ (rest : List X). IsAmong rest y) (drop_more xs n x within) h) [
      | inl here ↦ inr (is ∙ here)
      | inr later ↦ inl later
    ]

pub among_next : {X : Type 0} (xs : List X) (n : ℕ) (d y : X) → n < length xs → IsAmong (drop n xs) y → IsAmong (drop (n + 1) xs) y ⊎ (get_or xs n d ≡ y)
among_next {X} xs n d y within h =
    elim (subst (λ (rest : List X). IsAmong rest y) (drop_more xs n d within) h) [
      | inl here ↦ inr here
      | inr later ↦ inl later
    ]

pub none_left : {X : Type 0} (xs : List X) (n : ℕ) (y : X) → length xs ≤ n → IsAmong (drop n xs) y → ⊥
none_left {X} xs n y end h = subst (λ (rest : List X). IsAmong rest y) (drop_all n xs end) h

pub read_among : {X : Type 0} (xs : List X) (n : ℕ) (x : X) → n < length xs → x ≡ get_or xs n x → IsAmong xs x
read_among [] n x within is = absurd (omega arith)
read_among (y ∷ xs) zero x within is = inl (sym is)
read_among (y ∷ xs) (suc n) x within is = inr (read_among xs n x (omega arith) is)

pub pushed : (kept : Kept) (at now : List Kept) → now ≡ at ++ kept ∷ [] → Collects (kept ∷ []) (λ entry. true) at now
pushed kept at now is = record {
  old = λ other h. subst (λ (all : List Kept). IsAmong all other) (sym is) (among-left at (kept ∷ []) other h);
  among = λ other h. among_either at (kept ∷ []) other (subst (λ (all : List Kept). IsAmong all other) is h);
  all = λ other h passes. subst (λ (all : List Kept). IsAmong all other) (sym is) (among-right at (kept ∷ []) other h);
}

pub on_ok : {T E : Type 0} (r : Result T E) (P Q : Type 0) → (P → Q) → OnOk r P → OnOk r Q
on_ok (Ok x) P Q next h = next h
on_ok (Err e) P Q next h = tt

-- In a loop over entries, one that fits or not; over tags, a shelf.
pub one_put : (shelf : List Kept) (passes : Entry → Bool) (n : ℕ) (kept : Kept) (before at now : List Kept) → n < length shelf → kept ≡ get_or shelf n kept → now ≡ at ++ kept ∷ [] →
    AreCollected shelf passes (λ (other : Kept). IsAmong (drop n shelf) other) before at → AreCollected shelf passes (λ (other : Kept). IsAmong (drop (n + 1) shelf) other) before now
one_put shelf passes n kept before at now within is put so_far =
    went_on shelf (kept ∷ []) passes (λ (entry : Entry). true) (λ (other : Kept). IsAmong (drop n shelf) other) (λ (other : Kept). IsAmong (drop (n + 1) shelf) other) before at now
    (λ other h. elim h [
      | inl same ↦ subst (λ (k : Kept). IsAmong shelf k) same (read_among shelf n kept within is)
      | inr none ↦ absurd none
    ])
    (λ other among fits left. elim (among_rest shelf n kept other within is left) [
      | inl later ↦ inl later
      | inr same ↦ inr (inl same, refl)
    ])
    so_far (pushed kept at now put)

pub one_passes : (shelf : List Kept) (passes : Entry → Bool) (n : ℕ) (kept : Kept) (before at : List Kept) → n < length shelf → kept ≡ get_or shelf n kept → passes kept.entry ≡ false →
    AreCollected shelf passes (λ (other : Kept). IsAmong (drop n shelf) other) before at → AreCollected shelf passes (λ (other : Kept). IsAmong (drop (n + 1) shelf) other) before at
one_passes shelf passes n kept before at within is not so_far = record {
  old = so_far.old;
  among = so_far.among;
  all = λ other among fits. elim (so_far.all other among fits) [
    | inl left ↦ elim (among_rest shelf n kept other within is left) [
      | inl later ↦ inl later
      | inr same ↦ absurd (let own : passes kept.entry ≡ true = subst (λ (k : Kept). passes k.entry ≡ true) (sym same) fits in cc)
    ]
    | inr there ↦ inr there
  ];
}

pub shelf_put : (held shelf : List Kept) (passes : Entry → Bool) (tags : List Tag) (n : ℕ) (d : Tag) (before at now : List Kept) → n < length tags →
    ((kept : Kept) → IsAmong shelf kept → IsAmong held kept) → ((kept : Kept) → IsAmong held kept → tag_of kept.entry ≡ get_or tags n d → IsAmong shelf kept) →
    AreCollected held passes (λ (kept : Kept). IsAmong (drop n tags) (tag_of kept.entry)) before at → Collects shelf passes at now →
    AreCollected held passes (λ (kept : Kept). IsAmong (drop (n + 1) tags) (tag_of kept.entry)) before now
shelf_put held shelf passes tags n d before at now within among all so_far put =
    went_on held shelf passes passes (λ (kept : Kept). IsAmong (drop n tags) (tag_of kept.entry)) (λ (kept : Kept). IsAmong (drop (n + 1) tags) (tag_of kept.entry)) before at now among
    (λ kept here fits left. elim (among_next tags n d (tag_of kept.entry) within left) [
      | inl later ↦ inl later
      | inr same ↦ inr (all kept here (sym same), fits)
    ])
    so_far put
