-- Places that are looked at one after the other.
use Rattle.std.proofs.Common.{◌≡◌, ◌+◌, ◌-◌, ◌<◌, ◌≤◌, ◌++◌, ◌∙◌, ℕ, suc, true, List, [], Option, sym, ap, subst, refl, append_assoc, append-nil, length-append, arith}
use Rattle.std.specs.Io.KnownBytes.{Appends}
use Rattle.std.proofs.KnownBytes.{Appends-nil, Appends-trans}
use Rattle.iom_reader.specs.Running.{WritesFront}
use Rattle.iom_core.specs.State.{Machine}
use Rattle.iom_check.specs.Looking.{all_looked, asked_at, looked, looked_at, looked_by, standing_at}
use Rattle.iom_debug.specs.Places.{PlaceView}
use Rattle.iom_check.specs.Scoring.{Score, Told}
use Rattle.iom_check.specs.declared.looking.Cache.{Cache}
use Rattle.iom_check.specs.declared.looking.Cache.TheVariants as cache

-- some front of a text is one of a longer text, at its beginning or behind what was written whole
pub front_more : (a b : Option (List ℕ)) (text more : List ℕ) → WritesFront a b text → WritesFront a b (text ++ more)
front_more a b text more w =
    let some = w.missing in
    record {
      front = w.front;
      rest = w.rest ++ more;
      whole = sym (append_assoc w.front w.rest more) ∙ ap (λ t. t ++ more) w.whole;
      missing = omega (arith, length-append w.rest more, some);
      written = w.written;
    }

pub front_after : (a b c : Option (List ℕ)) (text more : List ℕ) → Appends a b text → WritesFront b c more → WritesFront a c (text ++ more)
front_after a b c text more wrote w = record {
  front = text ++ w.front;
  rest = w.rest;
  whole = append_assoc text w.front w.rest ∙ ap (λ t. text ++ t) w.whole;
  missing = w.missing;
  written = Appends-trans _ _ _ _ _ wrote w.written;
}

-- something was said before
abbrev pub behind : List ℕ → Told → Told
behind said told = record { said = said ++ told.said; after = told.after }

-- of so many places those before place i were looked at
pub record LooksOn (m : Machine) (one : Cache) (place : PlaceView) (start now : Score) (count i : ℕ) (old new : Option (List ℕ)) : Type 0 where
  pub said : List ℕ
  pub wrote : Appends old new said
  pub left : looked m one place start 0 count ≡ behind said (looked m one place now i (count - i))

module _ (m : Machine) (one : Cache) (place : PlaceView) where
  pub begins : (s : Score) (count : ℕ) (a : Option (List ℕ)) → LooksOn m one place s s count 0 a a
  begins s count a =
      let all : count - 0 ≡ count = omega arith in
      record {
        said = [];
        wrote = Appends-nil a;
        left = ap (looked m one place s 0) (sym all);
      }

  one_less : (s : Score) (count i : ℕ) → i < count →
      looked m one place s i (count - i) ≡ behind (looked_at s place one i (standing_at m one i) (asked_at m one i)).said
      (looked m one place (looked_at s place one i (standing_at m one i) (asked_at m one i)).after (i + 1) (count - (i + 1)))
  unfolding looked
  one_less s count i lt =
      let is : count - i ≡ suc (count - (i + 1)) = omega arith in
      ap (looked m one place s i) is

  pub goes_on : (start now next : Score) (count i : ℕ) (a b c : Option (List ℕ)) → LooksOn m one place start now count i a b → i < count →
      Appends b c (looked_at now place one i (standing_at m one i) (asked_at m one i)).said → next ≡ (looked_at now place one i (standing_at m one i) (asked_at m one i)).after →
      LooksOn m one place start next count (i + 1) a c
  goes_on start now next count i a b c so_far lt wrote is =
      let first = looked_at now place one i (standing_at m one i) (asked_at m one i) in
      record {
        said = so_far.said ++ first.said;
        wrote = Appends-trans _ _ _ _ _ so_far.wrote wrote;
        left = so_far.left ∙ ap (behind so_far.said) (one_less now count i lt)
            ∙ ap (λ l. record { said = l; after = (looked m one place first.after (i + 1) (count - (i + 1))).after })
            (sym (append_assoc so_far.said first.said (looked m one place first.after (i + 1) (count - (i + 1))).said))
            ∙ ap (λ s. behind (so_far.said ++ first.said) (looked m one place s (i + 1) (count - (i + 1)))) (sym is);
      }

  -- a write failed within the next place
  pub breaks_off : (start now : Score) (count i : ℕ) (a b c : Option (List ℕ)) → LooksOn m one place start now count i a b → i < count →
      WritesFront b c (looked_at now place one i (standing_at m one i) (asked_at m one i)).said → WritesFront a c (looked m one place start 0 count).said
  breaks_off start now count i a b c so_far lt w =
      let first = looked_at now place one i (standing_at m one i) (asked_at m one i) in
      let rest = looked m one place first.after (i + 1) (count - (i + 1)) in
      let is : (looked m one place start 0 count).said ≡ so_far.said ++ (first.said ++ rest.said) =
      ap (λ (t : Told). t.said) (so_far.left ∙ ap (behind so_far.said) (one_less now count i lt)) in
      subst (WritesFront a c) (sym is)
      (front_after a b c so_far.said (first.said ++ rest.said) so_far.wrote (front_more b c first.said rest.said w))

  pub finishes : (start now : Score) (count i : ℕ) (a b : Option (List ℕ)) → LooksOn m one place start now count i a b → count ≤ i →
      Appends a b (looked m one place start 0 count).said × (now ≡ (looked m one place start 0 count).after)
  unfolding looked
  finishes start now count i a b so_far over =
      let none : count - i ≡ 0 = omega arith in
      let is : looked m one place start 0 count ≡ behind so_far.said (looked m one place now i 0) =
      so_far.left ∙ ap (λ n. behind so_far.said (looked m one place now i n)) none in
      let said : (looked m one place start 0 count).said ≡ so_far.said = ap (λ (t : Told). t.said) is ∙ append-nil so_far.said in (
        subst (Appends a b) (sym said) so_far.wrote,
        sym (ap (λ (t : Told). t.after) is),
      )

-- both caches, one after the other
pub all_of : (m : Machine) (place : PlaceView) (s mid after : Score) (a b c : Option (List ℕ)) → Appends a b (looked m cache.Contexts place s 0 16).said →
    mid ≡ (looked m cache.Contexts place s 0 16).after → Appends b c (looked m cache.Pages place mid 0 64).said →
    after ≡ (looked m cache.Pages place mid 0 64).after → s.rules.fails_if_stale ≡ true →
    Appends a c (looked_by m place s).said × (after ≡ (looked_by m place s).after)
unfolding all_looked
all_of m place s mid after a b c first moved second ended judged =
    let is : looked_by m place s ≡ all_looked m place s = rw judged refl in (
      subst (λ (t : Told). Appends a c t.said) (sym is)
          (Appends-trans _ _ _ _ _ first (subst (λ (t : Score). Appends b c (looked m cache.Pages place t 0 64).said) moved second)),
      ended ∙ ap (λ (t : Score). (looked m cache.Pages place t 0 64).after) moved ∙ ap (λ (t : Told). t.after) (sym is),
    )

-- a write failed within one of them
pub first_breaks : (m : Machine) (place : PlaceView) (s : Score) (a b : Option (List ℕ)) → WritesFront a b (looked m cache.Contexts place s 0 16).said →
    s.rules.fails_if_stale ≡ true → WritesFront a b (looked_by m place s).said
unfolding all_looked
first_breaks m place s a b w judged =
    let contexts = looked m cache.Contexts place s 0 16 in
    let is : looked_by m place s ≡ all_looked m place s = rw judged refl in
    subst (λ (t : Told). WritesFront a b t.said) (sym is)
    (front_more a b contexts.said (looked m cache.Pages place contexts.after 0 64).said w)

pub second_breaks : (m : Machine) (place : PlaceView) (s mid : Score) (a b c : Option (List ℕ)) → Appends a b (looked m cache.Contexts place s 0 16).said →
    mid ≡ (looked m cache.Contexts place s 0 16).after → WritesFront b c (looked m cache.Pages place mid 0 64).said →
    s.rules.fails_if_stale ≡ true → WritesFront a c (looked_by m place s).said
unfolding all_looked
second_breaks m place s mid a b c wrote moved w judged =
    let contexts = looked m cache.Contexts place s 0 16 in
    let is : looked_by m place s ≡ all_looked m place s = rw judged refl in
    subst (λ (t : Told). WritesFront a c t.said) (sym is)
    (front_after a b c contexts.said (looked m cache.Pages place contexts.after 0 64).said wrote
    (subst (λ (t : Score). WritesFront b c (looked m cache.Pages place t 0 64).said) moved w))
