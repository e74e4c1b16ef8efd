-- What is put in of a walk, look-up by look-up: the ways by the entries that are followed, or the entries that it asks for.
use Rattle.std.proofs.Common.{◌≡◌, ◌++◌, ◌∙◌, Bool, true, false, List, [], ◌∷◌, Option, Some, None, refl, sym, ap, subst, inl, inr}
use Rattle.std.specs.Prelude.{IfSome, OnOk, Result, is_some}
use Rattle.std.proofs.lemmas.List.{map-append}
use Rattle.std.proofs.lemmas.Grind.{flat_map-append}
use Rattle.iom_core.specs.declared.way.Way.{Way as Led}
use Rattle.iom_choices.specs.Systems.{IsAmong, ModelWalk}
use Rattle.iom_choices.specs.Trees.{Ends, reads_in, ways_over}
use Rattle.iom_choices.proofs.Lists.{among-left, among-right, among_either}
use Rattle.iom_every.specs.declared.entry.Entry.{Entry}
use Rattle.iom_every.specs.Trees.{Walk, looking}
use Rattle.iom_every.specs.Uses.{Look}
use Rattle.iom_held.proofs.Lists.{IsFrom, among_of, from_among}
use Rattle.iom_held.specs.Kept.{entries_in, entry_of}
use Rattle.iom_held.specs.declared.kept.Kept.{Kept}
use Rattle.iom_ways.specs.Asked.{Collects, Explores, is_asked}
use Rattle.iom_ways.specs.Branches.{by_use, each_use, own_ways}
use Rattle.iom_ways.specs.Ways.{AreAdded, Gathers, leads}
use Rattle.iom_ways.specs.declared.exploring.Explored.{Explored}
use Rattle.iom_ways.specs.declared.ways.Ways.{Ways}
use Rattle.iom_ways.proofs.Gathering.{WayList, begun}
use Rattle.iom_ways.proofs.Usable.{collects_none, on_ok}

-- what the ways of each use give is what one of them gives
module _ {Z : Type 0} (given : WayList → List Z) (append : (xs ys : WayList) → given (xs ++ ys) ≡ given xs ++ given ys) (none : given [] ≡ []) where
  of_each : {E X : Type 0} (fits : E → Option X) (own : X → WayList) (entries : List E) (z : Z) → IsAmong (given (each_use fits own entries)) z →
      (entry : E) × (IsAmong entries entry × IsAmong (given (by_use own (fits entry))) z)
  of_each fits own [] z h = absurd (subst (λ (all : List Z). IsAmong all z) none h)
  of_each fits own (entry ∷ entries) z h =
      elim (among_either (given (by_use own (fits entry))) (given (each_use fits own entries)) z
      (subst (λ (all : List Z). IsAmong all z) (append (by_use own (fits entry)) (each_use fits own entries)) h)) [
        | inl here ↦ (entry, (inl refl, here))
        | inr there ↦ let rest = of_each fits own entries z there in (rest.0, (inr rest.1.0, rest.1.1))
      ]

  to_each : {E X : Type 0} (fits : E → Option X) (own : X → WayList) (entries : List E) (entry : E) (z : Z) → IsAmong entries entry →
      IsAmong (given (by_use own (fits entry))) z → IsAmong (given (each_use fits own entries)) z
  to_each fits own [] entry z among h = absurd among
  to_each {E} fits own (other ∷ entries) entry z among h =
      subst (λ (all : List Z). IsAmong all z) (sym (append (by_use own (fits other)) (each_use fits own entries)))
      (elim among [
        | inl same ↦ among-left (given (by_use own (fits other))) (given (each_use fits own entries)) z
            (subst (λ (e : E). IsAmong (given (by_use own (fits e))) z) (sym same) h)
        | inr there ↦ among-right (given (by_use own (fits other))) (given (each_use fits own entries)) z (to_each fits own entries entry z there h)
      ])

  some_used : {X : Type 0} (own : X → WayList) (used : Option X) (z : Z) → IsAmong (given (by_use own used)) z → is_some used ≡ true
  some_used own None z h = absurd (subst (λ (all : List Z). IsAmong all z) none h)
  some_used own (Some x) z h = refl

  -- over all that is held as over those that fit
  all_added : {X : Type 0} (fits : Entry → Option X) (own : X → WayList) (held used : List Kept) (before after : List Z) →
      Collects held (λ (entry : Entry). is_some (fits entry)) [] used → AreAdded (given (each_use (λ (kept : Kept). fits kept.entry) own used)) before after →
      AreAdded (given (each_use fits own (entries_in held))) before after
  all_added {X} fits own held used before after put added = λ z. (
    λ h. elim ((added z).0 h) [
      | inl old ↦ inl old
      | inr new ↦ let one = of_each (λ (kept : Kept). fits kept.entry) own used z new in
          inr (to_each fits own (entries_in held) one.0.entry z
          (among_of entry_of held one.0 (elim (put.among one.0 one.1.0) [
            | inl none ↦ absurd none
            | inr among ↦ among
          ])) one.1.1)
    ],
    λ h. (added z).1 (elim h [
      | inl old ↦ inl old
      | inr new ↦ let one = of_each fits own (entries_in held) z new in
          let from : IsFrom entry_of held one.0 = from_among entry_of held one.0 one.1.0 in
          let own_use : IsAmong (given (by_use own (fits from.thing.entry))) z = subst (λ (e : Entry). IsAmong (given (by_use own (fits e))) z) (sym from.is) one.1.1 in
          inr (to_each (λ (kept : Kept). fits kept.entry) own used from.thing z (put.all from.thing from.among (some_used own (fits from.thing.entry) z own_use)) own_use)
    ]),
  )

all_gathered : {X : Type 0} (fits : Entry → Option X) (own : X → WayList) (held used : List Kept) (before after : Ways) →
    Collects held (λ (entry : Entry). is_some (fits entry)) [] used → Gathers (each_use (λ (kept : Kept). fits kept.entry) own used) before after →
    Gathers (each_use fits own (entries_in held)) before after
all_gathered fits own held used before after put done = record {
  led = all_added leads (λ xs ys. map-append (λ (way : ModelWalk Entry Led). way.led) xs ys) refl fits own held used before.led.items after.led.items put done.led;
  reads = all_added reads_in (λ xs ys. flat_map-append (λ (way : ModelWalk Entry Led). way.reads) xs ys) refl fits own held used before.reads.items after.reads.items put done.reads;
}

-- ways alone
pub only_ways : (asks : Bool) (held : List Kept) (tree : Walk) (before after : Explored) → asks ≡ false → Gathers (ways_over (entries_in held) tree) before.ways after.ways → Explores asks held tree before after
only_ways asks held tree before after follows done = record {
  ways = λ is. done;
  asked = λ is. absurd (let not : true ≡ false = sym is ∙ follows in cc);
}

-- a look-up: behind memory's branch entries are followed, or only asked for
pub looked : {T E X : Type 0} (result : Result T E) (asks : Bool) (held entries used : List Kept) (look : Look) (fits : Look → Entry → Option X) (more : Option X → Walk) (before at now after : Explored) →
    (asks ≡ false) × (now ≡ at) × Collects held (λ (entry : Entry). is_some (fits look entry)) [] entries → used ≡ entries → Explores asks held (more None) before at →
    OnOk result (Gathers (each_use (λ (kept : Kept). fits look kept.entry) (own_ways (entries_in held) more) used) now.ways after.ways) →
    OnOk result (Explores asks held (looking look fits more) before after)
looked result asks held entries used look fits more before at now after follows same first rest =
    let put : Collects held (λ (entry : Entry). is_some (fits look entry)) [] used = subst (λ (list : List Kept). Collects held (λ (entry : Entry). is_some (fits look entry)) [] list) (sym same) follows.2 in
    on_ok result _ _ (λ done. only_ways asks held (looking look fits more) before after follows.0
    (begun (entries_in held) look fits more before.ways at.ways after.ways (first.ways follows.0)
    (all_gathered (fits look) (own_ways (entries_in held) more) held used at.ways after.ways put
    (subst (λ (e : Explored). Gathers (each_use (λ (kept : Kept). fits look kept.entry) (own_ways (entries_in held) more) used) e.ways after.ways) follows.1 done)))) rest

pub of_some : {X : Type 0} (P : X → Type 0) (o : Option X) (x : X) → o ≡ Some x → IfSome o P → P x
of_some {X} P o x is h = subst (λ (o : Option X). IfSome o P) is h

-- the end of a way
pub ended_way : (asks : Bool) (held : List Kept) (way : ModelWalk Entry Led) (before after : Explored) → Gathers (way ∷ []) before.ways after.ways → after.asked ≡ before.asked → Explores asks held (Ends way) before after
ended_way asks held way before after done same = record {
  ways = λ is. done;
  asked = λ is. subst (λ (list : List Kept). Collects held (is_asked (Ends way)) before.asked.items list) (sym (ap (λ v. v.items) same)) (collects_none held (is_asked (Ends way)) before.asked.items (λ entry. refl));
}

-- over an equal tree
pub same_tree : {T E : Type 0} (result : Result T E) (asks : Bool) (held : List Kept) (tree other : Walk) (before after : Explored) → tree ≡ other →
    OnOk result (Explores asks held tree before after) → OnOk result (Explores asks held other before after)
same_tree result asks held tree other before after same done = subst (λ (tree : Walk). OnOk result (Explores asks held tree before after)) same done
