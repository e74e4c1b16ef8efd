-- What a decider keeps, up to likeness.
use Rattle.std.proofs.Common.{◌≡◌, ◌∙◌, ◌++◌, Bool, true, List, [], ◌∷◌, refl, sym, ap, subst, inl, inr}
use Rattle.std.specs.Prelude.{flat_map}
use Rattle.iom_choices.specs.Systems.{System, IsAmong}
use Rattle.iom_choices.specs.Choices.{Choice, Holder, end_as, next_as}
use Rattle.iom_choices.specs.Trees.{AreAhead, AreTrees, Tree}
use Rattle.iom_choices.specs.Traces.{AreAlike, ArePossible, IsBehind, IsEnd, IsMore, IsOneAllowed, IsShown, Shows, is_any, onward, possible_behind}
use Rattle.iom_choices.proofs.Lists.{among-left, among-right, among_either}
use Rattle.iom_choices.proofs.Trees.{IsFromOne, from_one}
use Rattle.iom_choices.proofs.Traces.{IsCovered, IsImage, IsOne, among_mapped, IsStep, any_of, covered_next, covered_step, image_of, one_of, step_to}

more_still : {S E : Type 0} (a b c : Holder S E) → IsMore a b → IsMore b c → IsMore a c
more_still a b c h k = record { state = h.state ∙ k.state; holds = λ entry held. k.holds entry (h.holds entry held) }

behind_still : {S E : Type 0} (all few : List (Holder S E)) → ((one : Holder S E) → IsAmong all one → IsBehind few one) → (i : Holder S E) → IsBehind all i → IsBehind few i
behind_still {S} {E} all few each i h =
    let k : IsBehind few h.more = each h.more h.among in record { more = k.more; among = k.among; is = more_still i h.more k.more h.is k.is }

begun_covers : {S T R K E L A O : Type 0} (sys : System S T R K E L A) (fits : A → O → Bool) (start : S) (trace : List (T × O)) → IsAmong ([] ∷ []) trace → (chosen : List (T × Choice R K)) →
    Shows sys fits start chosen trace → IsBehind (record { state = start; holds = [] } ∷ []) (end_as sys start chosen)
begun_covers sys fits start [] none [] shows = record { more = record { state = start; holds = [] }; among = inl refl; is = record { state = refl; holds = λ entry h. h } }
begun_covers sys fits start [] none (last ∷ chosen) shows = absurd shows
begun_covers sys fits start (seen ∷ trace) (inl same) chosen shows = absurd (cc)
begun_covers sys fits start (seen ∷ trace) (inr h) chosen shows = absurd h

begun_reached : {S T R K E L A O : Type 0} (sys : System S T R K E L A) (fits : A → O → Bool) (start : S) (one : Holder S E) → IsAmong (record { state = start; holds = [] } ∷ []) one →
    IsEnd sys fits start ([] ∷ []) one
begun_reached {S} {T} {R} {K} {E} sys fits start one (inl same) = record {
  trace = [];
  among = inl refl;
  shown = record {
    chosen = [];
    shows = tt;
    is = record { state = ap (λ (i : Holder S E). i.state) (sym same); holds = λ entry held. subst (λ (i : Holder S E). IsAmong i.holds entry) (sym same) held };
  };
}
begun_reached sys fits start one (inr h) = absurd h

pub begun : {S T R K E L A O : Type 0} (sys : System S T R K E L A) (fits : A → O → Bool) (start : S) → ArePossible sys fits start ([] ∷ []) (record { state = start; holds = [] } ∷ [])
begun sys fits start = record { covers = begun_covers sys fits start; reached = begun_reached sys fits start }

-- a run's next step, where one of the list is as it is or holds more
next_covers : {S T R K E L A O : Type 0} (sys : System S T R K E L A) (tree : S → R → Tree K E L) → AreTrees sys tree → (requests : List R) → AreAhead sys requests → (fits : A → O → Bool) (start : S)
    (traces : List (List (T × O))) (list : List (Holder S E)) → ArePossible sys fits start traces list → (seen : T × O) (trace : List (T × O)) → IsAmong traces trace →
    (chosen : List (T × Choice R K)) → Shows sys fits start chosen (seen ∷ trace) → IsBehind (flat_map (possible_behind sys tree requests fits seen) list) (end_as sys start chosen)
next_covers sys tree trees requests ahead fits start traces list are seen trace among [] shows = absurd shows
next_covers {S} {T} {R} {K} {E} sys tree trees requests ahead fits start traces list are seen trace among (step ∷ chosen) shows =
    let i : Holder S E = end_as sys start chosen in
    let b : IsBehind list i = are.covers trace among chosen shows.2 in
    let c : IsCovered list i = record { one = b.more; among = b.among; state = b.is.state; holds = b.is.holds } in
    let k : IsCovered (flat_map (possible_behind sys tree requests fits seen) list) (next_as sys i step.0 step.1) =
    covered_next sys tree trees requests ahead fits list i c step.0 step.1 seen shows.0 shows.1 in
    record { more = k.one; among = k.among; is = record { state = k.state; holds = k.holds } }

on_covers : {S T R K E L A O : Type 0} (sys : System S T R K E L A) (tree : S → R → Tree K E L) → AreTrees sys tree → (requests : List R) → AreAhead sys requests → (fits : A → O → Bool) (start : S)
    (traces : List (List (T × O))) (list : List (Holder S E)) → ArePossible sys fits start traces list → (seen : T × O) (trace : List (T × O)) → IsAmong (onward seen traces) trace →
    (chosen : List (T × Choice R K)) → Shows sys fits start chosen trace → IsBehind (flat_map (possible_behind sys tree requests fits seen) list) (end_as sys start chosen)
on_covers {S} {T} {R} {K} {E} {L} {A} {O} sys tree trees requests ahead fits start traces list are seen trace among chosen shows =
    let m : IsImage (λ (trace : List (T × O)). seen ∷ trace) traces trace = image_of (λ (trace : List (T × O)). seen ∷ trace) traces trace among in
    next_covers sys tree trees requests ahead fits start traces list are seen m.source m.among chosen (subst (Shows sys fits start chosen) (sym m.is) shows)

among_onward : {T O : Type 0} (seen : T × O) (traces : List (List (T × O))) (trace : List (T × O)) → IsAmong traces trace → IsAmong (onward seen traces) (seen ∷ trace)
among_onward {T} {O} seen traces trace h = among_mapped (λ (trace : List (T × O)). seen ∷ trace) traces trace h

-- what may come behind one of the list may come behind a run that is as it is or holds more
on_reached : {S T R K E L A O : Type 0} (sys : System S T R K E L A) (tree : S → R → Tree K E L) → AreTrees sys tree → (requests : List R) → AreAhead sys requests → (fits : A → O → Bool) (start : S)
    (traces : List (List (T × O))) (list : List (Holder S E)) → ArePossible sys fits start traces list → (seen : T × O) (one : Holder S E) →
    IsAmong (flat_map (possible_behind sys tree requests fits seen) list) one → IsEnd sys fits start (onward seen traces) one
on_reached {S} {T} {R} {K} {E} {L} {A} {O} sys tree trees requests ahead fits start traces list are seen one h =
    let f : IsFromOne (possible_behind sys tree requests fits seen) list one = from_one (possible_behind sys tree requests fits seen) list one h in
    let r : IsEnd sys fits start traces f.source = are.reached f.source f.at in
    let run : IsShown sys fits start r.trace f.source = r.shown in
    let i : Holder S E = end_as sys start run.chosen in
    let s : IsStep sys fits f.source seen.0 seen.1 one = step_to sys tree trees requests ahead fits f.source seen.0 seen.1 one f.among in
    let c : IsCovered (possible_behind sys tree requests fits seen i) (next_as sys f.source seen.0 s.choice) =
    covered_step sys tree trees requests ahead fits f.source i run.is.state run.is.holds seen.0 s.choice seen.1 s.fit in
    let k : IsStep sys fits i seen.0 seen.1 c.one = step_to sys tree trees requests ahead fits i seen.0 seen.1 c.one c.among in
    record {
      trace = seen ∷ r.trace;
      among = among_onward seen traces r.trace r.among;
      shown = record {
        chosen = (seen.0, k.choice) ∷ run.chosen;
        shows = (refl, k.fit, run.shows);
        is = record {
          state = ap (λ (x : Holder S E). x.state) (sym s.is) ∙ c.state ∙ ap (λ (x : Holder S E). x.state) (sym k.is);
          holds = λ entry held.
              subst (λ (x : Holder S E). IsAmong x.holds entry) (sym k.is) (c.holds entry (subst (λ (x : Holder S E). IsAmong x.holds entry) (sym s.is) held));
        };
      };
    }

pub alike_possible : {S T R K E L A O : Type 0} (sys : System S T R K E L A) (fits : A → O → Bool) (start : S) (traces : List (List (T × O))) (list few : List (Holder S E)) →
    ArePossible sys fits start traces list → AreAlike few list → ArePossible sys fits start traces few
alike_possible {S} {T} {R} {K} {E} {L} {A} {O} sys fits start traces list few are alike = record {
  covers = λ trace among chosen shows. behind_still list few alike.enough (end_as sys start chosen) (are.covers trace among chosen shows);
  reached = λ one among.
      let b : IsBehind list one = alike.within one among in
      let r : IsEnd sys fits start traces b.more = are.reached b.more b.among in
      let run : IsShown sys fits start r.trace b.more = r.shown in
      record {
        trace = r.trace;
        among = r.among;
        shown = record { chosen = run.chosen; shows = run.shows; is = more_still one b.more (end_as sys start run.chosen) b.is run.is };
      };
}

pub goes_on : {S T R K E L A O : Type 0} (sys : System S T R K E L A) (tree : S → R → Tree K E L) → AreTrees sys tree → (requests : List R) → AreAhead sys requests → (fits : A → O → Bool) (start : S)
    (traces : List (List (T × O))) (list : List (Holder S E)) → ArePossible sys fits start traces list → (seen : T × O) (next : List (Holder S E)) →
    AreAlike next (flat_map (possible_behind sys tree requests fits seen) list) → ArePossible sys fits start (onward seen traces) next
goes_on {S} {T} {R} {K} {E} sys tree trees requests ahead fits start traces list are seen next alike =
    alike_possible sys fits start (onward seen traces) (flat_map (possible_behind sys tree requests fits seen) list) next
    (record {
      covers = on_covers sys tree trees requests ahead fits start traces list are seen;
      reached = on_reached sys tree trees requests ahead fits start traces list are seen;
    }) alike

pub joined : {S T R K E L A O : Type 0} (sys : System S T R K E L A) (fits : A → O → Bool) (start : S) (traces others : List (List (T × O))) (list more : List (Holder S E)) →
    ArePossible sys fits start traces list → ArePossible sys fits start others more → ArePossible sys fits start (traces ++ others) (list ++ more)
joined {S} {T} {R} {K} {E} {L} {A} {O} sys fits start traces others list more first second = record {
  covers = λ trace among chosen shows. elim (among_either traces others trace among) [
    | inl here ↦ let b = first.covers trace here chosen shows in record { more = b.more; among = among-left list more b.more b.among; is = b.is }
    | inr there ↦ let b = second.covers trace there chosen shows in record { more = b.more; among = among-right list more b.more b.among; is = b.is }
  ];
  reached = λ one among. elim (among_either list more one among) [
    | inl here ↦ let r = first.reached one here in record { trace = r.trace; among = among-left traces others r.trace r.among; shown = r.shown }
    | inr there ↦ let r = second.reached one there in record { trace = r.trace; among = among-right traces others r.trace r.among; shown = r.shown }
  ];
}

pub possible_decides : {S T R K E L A O : Type 0} (sys : System S T R K E L A) (fits : A → O → Bool) (start : S) (traces : List (List (T × O))) (list : List (Holder S E)) →
    ArePossible sys fits start traces list → is_any list ≡ true → IsOneAllowed sys fits start traces
possible_decides {S} {T} {R} {K} {E} sys fits start traces list are any =
    let o : IsOne list = one_of list any in
    let r : IsEnd sys fits start traces o.one = are.reached o.one o.among in
    record { trace = r.trace; among = r.among; allowed = record { chosen = r.shown.chosen; shows = r.shown.shows } }

pub allowed_decides : {S T R K E L A O : Type 0} (sys : System S T R K E L A) (fits : A → O → Bool) (start : S) (traces : List (List (T × O))) (list : List (Holder S E)) →
    ArePossible sys fits start traces list → IsOneAllowed sys fits start traces → is_any list ≡ true
allowed_decides {S} {T} {R} {K} {E} sys fits start traces list are a =
    let b : IsBehind list (end_as sys start a.allowed.chosen) = are.covers a.trace a.among a.allowed.chosen a.allowed.shows in any_of list b.more b.among
