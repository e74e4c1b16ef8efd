-- Ways that are gathered look-up by look-up.
use Rattle.std.proofs.Common.{◌≡◌, ◌∙◌, ◌++◌, ◌+◌, ◌<◌, ◌≤◌, ℕ, zero, suc, arith, List, [], ◌∷◌, length, drop, Bool, Option, Some, None, if◌then◌else◌, refl, sym, ap, subst, inl, inr}
use Rattle.std.specs.Prelude.{filter, flat_map, get_or, is_some}
use Rattle.std.proofs.lemmas.List.{append-nil, map-append, drop_all, drop_more}
use Rattle.std.proofs.lemmas.Grind.{flat_map-append}
use Rattle.iom_core.specs.declared.way.Way.{Way as Led}
use Rattle.iom_choices.specs.Systems.{IsAmong, ModelWalk}
use Rattle.iom_choices.proofs.Lists.{among-left, among-right, among_either}
use Rattle.iom_choices.specs.Trees.{reads_in, ways_over}
use Rattle.iom_every.specs.declared.entry.Entry.{Entry}
use Rattle.iom_every.specs.Trees.{Walk, looking}
use Rattle.iom_every.specs.Uses.{Look}
use Rattle.iom_ways.specs.Branches.{by_use, each_use, own_ways}
use Rattle.iom_ways.specs.Ways.{AreAdded, Gathers, Has, leads}
use Rattle.iom_ways.specs.declared.ways.Ways.{Ways}

abbrev pub WayList : Type 0
WayList = List (ModelWalk Entry Led)

-- what is added to a list
pub added_none : {X : Type 0} (xs : List X) → AreAdded [] xs xs
added_none xs = λ x. (
  λ h. inl h,
  λ h. elim h [
    | inl old ↦ old
    | inr none ↦ absurd none
  ],
)

pub added_then : {X : Type 0} (xs ys a b c : List X) → AreAdded xs a b → AreAdded ys b c → AreAdded (xs ++ ys) a c
added_then xs ys a b c one other = λ x. (
  λ h. elim ((other x).0 h) [
    | inl mid ↦ elim ((one x).0 mid) [
      | inl old ↦ inl old
      | inr new ↦ inr (among-left xs ys x new)
    ]
    | inr new ↦ inr (among-right xs ys x new)
  ],
  λ h. elim h [
    | inl old ↦ (other x).1 (inl ((one x).1 (inl old)))
    | inr new ↦ elim (among_either xs ys x new) [
      | inl first ↦ (other x).1 (inl ((one x).1 (inr first)))
      | inr second ↦ (other x).1 (inr second)
    ]
  ],
)

pub added_same : {X : Type 0} (xs ys a b : List X) → xs ≡ ys → AreAdded xs a b → AreAdded ys a b
added_same {X} xs ys a b is h = subst (λ (news : List X). AreAdded news a b) is h

pub none_gathered : (at : Ways) → Gathers [] at at
none_gathered at = record { led = added_none at.led.items; reads = added_none at.reads.items }

pub both : (xs ys : WayList) (before between after : Ways) → Gathers xs before between → Gathers ys between after → Gathers (xs ++ ys) before after
both xs ys before between after one other = record {
  led = added_same (leads xs ++ leads ys) (leads (xs ++ ys)) before.led.items after.led.items
      (sym (map-append (λ (way : ModelWalk Entry Led). way.led) xs ys))
      (added_then (leads xs) (leads ys) before.led.items between.led.items after.led.items one.led other.led);
  reads = added_same (reads_in xs ++ reads_in ys) (reads_in (xs ++ ys)) before.reads.items after.reads.items
      (sym (flat_map-append (λ (way : ModelWalk Entry Led). way.reads) xs ys))
      (added_then (reads_in xs) (reads_in ys) before.reads.items between.reads.items after.reads.items one.reads other.reads);
}

-- one way
pub one : (led : Led) (reads : List Entry) (before after : Ways) → AreAdded (led ∷ []) before.led.items after.led.items → AreAdded reads before.reads.items after.reads.items →
    Gathers (record { led = led; reads = reads } ∷ []) before after
one led reads before after led_is reads_are = record {
  led = led_is;
  reads = added_same reads (reads ++ []) before.reads.items after.reads.items (sym (append-nil reads)) reads_are;
}

pub added_all : {X : Type 0} (more xs ys : List X) → ys ≡ xs ++ more → AreAdded more xs ys
added_all {X} more xs ys is = subst (λ (all : List X). AreAdded more xs all) (sym is) (λ y. (
  λ h. among_either xs more y h,
  λ h. elim h [
    | inl old ↦ among-left xs more y old
    | inr new ↦ among-right xs more y new
  ],
))

pub added_end : {X : Type 0} (x : X) (xs ys : List X) → ys ≡ xs ++ x ∷ [] → AreAdded (x ∷ []) xs ys
added_end x xs ys is = added_all (x ∷ []) xs ys is

-- an element that is read is among them
pub among_read : {X : Type 0} (xs : List X) (i : ℕ) (x d : X) → i < length xs → x ≡ get_or xs i d → IsAmong xs x
among_read [] i x d inside is = absurd (omega arith)
among_read (y ∷ xs) zero x d inside is = inl (sym is)
among_read (y ∷ xs) (suc i) x d inside is = inr (among_read xs i x d (omega arith) is)

pub has_still : (ways others : WayList) (before after : Ways) → Has ways before → Gathers others before after → Has ways after
has_still ways others before after has done = record {
  led = λ led h. (done.led led).1 (inl (has.led led h));
  reads = λ entry h. (done.reads entry).1 (inl (has.reads entry h));
}

uses_are : {X : Type 0} (held : List Entry) (look : Look) (fits : Look → Entry → Option X) (more : Option X → Walk) (entries : List Entry) →
    flat_map (λ (entry : Entry). ways_over held (more (fits look entry))) (filter (λ (entry : Entry). is_some (fits look entry)) entries)
    ≡ each_use (fits look) (own_ways held more) entries
uses_are held look fits more [] = refl
uses_are {X} held look fits more (entry ∷ entries) =
    let later : Entry → WayList = λ entry. ways_over held (more (fits look entry)) in
    let test : Entry → Bool = λ entry. is_some (fits look entry) in
    let Goal : Option X → Type 0 = λ o. fits look entry ≡ o →
    flat_map later (if is_some o then entry ∷ filter test entries else filter test entries)
    ≡ by_use (own_ways held more) o ++ each_use (fits look) (own_ways held more) entries in
    let by_fit : (o : Option X) → Goal o = λ o. elim o as Goal [
      | None ↦ λ is. uses_are held look fits more entries
      | Some x ↦ λ is. ap (λ (o : Option X). ways_over held (more o) ++ flat_map later (filter test entries)) is
          ∙ ap (λ (rest : WayList). ways_over held (more (Some x)) ++ rest) (uses_are held look fits more entries)
    ] in by_fit (fits look entry) refl

pub looked : {X : Type 0} (held : List Entry) (look : Look) (fits : Look → Entry → Option X) (more : Option X → Walk) →
    ways_over held (more None) ++ each_use (fits look) (own_ways held more) held ≡ ways_over held (looking look fits more)
looked held look fits more = ap (λ (rest : WayList). ways_over held (more None) ++ rest) (sym (uses_are held look fits more held))

-- once the ways that are left are gathered, all are
abbrev pub AreLeft : WayList → WayList → Ways → Ways → Type 0
AreLeft left all before at = (after : Ways) → Gathers left at after → Gathers all before after

-- behind memory's branch, and each entry's
pub begun : {X : Type 0} (held : List Entry) (look : Look) (fits : Look → Entry → Option X) (more : Option X → Walk) (before at after : Ways) →
    Gathers (ways_over held (more None)) before at → Gathers (each_use (fits look) (own_ways held more) held) at after →
    Gathers (ways_over held (looking look fits more)) before after
begun held look fits more before at after done rest =
    subst (λ (ways : WayList). Gathers ways before after) (looked held look fits more)
    (both (ways_over held (more None)) (each_use (fits look) (own_ways held more) held) before at after done rest)

-- In a loop over entries: behind one that doesn't fit; behind one that does; and at the end.

step : {E X : Type 0} (fits : E → Option X) (own : X → WayList) (entries : List E) (n : ℕ) (entry : E) → n < length entries → entry ≡ get_or entries n entry →
    each_use fits own (drop n entries) ≡ by_use own (fits entry) ++ each_use fits own (drop (n + 1) entries)
step {E} fits own entries n entry within is =
    ap (λ (rest : List E). each_use fits own rest) (drop_more entries n entry within)
    ∙ ap (λ (e : E). by_use own (fits e) ++ each_use fits own (drop (n + 1) entries)) (sym is)

pub passed : {E X : Type 0} (fits : E → Option X) (own : X → WayList) (entries : List E) (all : WayList) (n : ℕ) (entry : E) (found : Option X) (before at : Ways) →
    AreLeft (each_use fits own (drop n entries)) all before at → n < length entries → entry ≡ get_or entries n entry →
    found ≡ fits entry → found ≡ None → AreLeft (each_use fits own (drop (n + 1) entries)) all before at
passed {E} {X} fits own entries all n entry found before at left within is fit none = λ after rest. left after
    (subst (λ (ways : WayList). Gathers ways at after)
    (ap (λ (o : Option X). by_use own o ++ each_use fits own (drop (n + 1) entries)) (sym none ∙ fit) ∙ sym (step fits own entries n entry within is)) rest)

pub turned : {E X : Type 0} (fits : E → Option X) (own : X → WayList) (entries : List E) (all : WayList) (n : ℕ) (entry : E) (found : Option X) (x : X) (before at now : Ways) →
    AreLeft (each_use fits own (drop n entries)) all before at → n < length entries → entry ≡ get_or entries n entry →
    found ≡ fits entry → found ≡ Some x → Gathers (own x) at now → AreLeft (each_use fits own (drop (n + 1) entries)) all before now
turned {E} {X} fits own entries all n entry found x before at now left within is fit some done = λ after rest. left after
    (subst (λ (ways : WayList). Gathers ways at after)
    (ap (λ (o : Option X). by_use own o ++ each_use fits own (drop (n + 1) entries)) (sym some ∙ fit) ∙ sym (step fits own entries n entry within is))
    (both (own x) (each_use fits own (drop (n + 1) entries)) at now after done rest))

pub ended : {E X : Type 0} (fits : E → Option X) (own : X → WayList) (entries : List E) (all : WayList) (n : ℕ) (before at : Ways) →
    AreLeft (each_use fits own (drop n entries)) all before at → length entries ≤ n → Gathers all before at
ended {E} fits own entries all n before at left end = left at
    (subst (λ (rest : List E). Gathers (each_use fits own rest) at at) (sym (drop_all n entries end)) (none_gathered at))
