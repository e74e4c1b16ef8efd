-- What the ways over what may be held say of a request.
use Rattle.std.proofs.Common.{◌≡◌, ◌∙◌, ◌⊎◌, ◌++◌, ◌+◌, ◌≤◌, ℕ, zero, suc, arith, drop, length, false, List, [], ◌∷◌, Option, Some, None, refl, sym, ap, subst, inl, inr}
use Rattle.std.specs.Prelude.{Bool, true, not, IsTrue, ◌↔◌, is_some, slice_get}
use Rattle.std.proofs.lemmas.List.{append-nil, append_assoc, drop_all, drop_more, map-append}
use Rattle.std.proofs.lemmas.Option.{get_or_from_slice_get, slice_get_within}
use Rattle.iom_choices.specs.Models.{end_of}
use Rattle.iom_choices.specs.Systems.{ModelWalk, IsAmong}
use Rattle.iom_choices.specs.Trees.{ways_over}
use Rattle.iom_choices.proofs.Lists.{among-left, among-right, among_at, among_either}
use Rattle.iom_core.specs.Access.{address_on}
use Rattle.iom_core.specs.Looking.{by_tables}
use Rattle.iom_core.specs.State.{State}
use Rattle.iom_core.specs.declared.access.Request.{Request}
use Rattle.iom_core.specs.declared.step.Step.{Step}
use Rattle.iom_core.specs.declared.way.Way.{Way as Led}
use Rattle.iom_every.specs.declared.entry.Entry.{Entry}
use Rattle.iom_every.specs.Every.{MayAhead, is_listed, platform}
use Rattle.iom_every.specs.Rows.{bare}
use Rattle.iom_every.specs.Trees.{tree_of}
use Rattle.iom_every.specs.Ways.{Goes, way_of}
use Rattle.iom_every.proofs.Caching.{by_tables_is}
use Rattle.iom_ways.specs.Ways.{leads}
use Rattle.iom_owed.specs.Alike.{IsAlike}
use Rattle.iom_owed.specs.Alone.{AreStepTold, IsBesideTold, IsTold}
use Rattle.iom_held.specs.Kept.{entries_in}
use Rattle.iom_owed.specs.Holdings.{HoldingsView, Keeps}
use Rattle.iom_owed.specs.Newest.{steps_of}
use Rattle.iom_owed.specs.Settled.{AreOwed, AreSomeOf, IsBeside, IsJudged, IsOwedAt, IsSameWayNow, IsServed, IsSettledNow, IsStepBeside, IsStepJudged, LeadsElsewhere, LeadsOtherwise, requests_owed}
use Rattle.iom_owed.specs.declared.noting.Made.{Made}
use Rattle.iom_owed.specs.declared.settling.Judgement.{Judgement}
use Rattle.iom_owed.specs.declared.settling.Owed.{Owed}
use Rattle.iom_owed.specs.declared.settling.Unsettled.{Unsettled}
use Rattle.iom_owed.proofs.Alone.{alike_to, none_served, one_served, same_over, settled_over}
use Rattle.iom_held.proofs.Lists.{IsFrom, from_among}
use Rattle.iom_owed.proofs.Reading.{HasSource, source_of}

-- all ways take the request where the tables take it
pub settled_by : (ahead : List Request) (held : HoldingsView) (state start : State) (taken : List (Step × ℕ)) (request : Request) → Keeps ahead held state start taken →
    IsTold false state held.entries request None → IsSettledNow ahead start (steps_of taken) request
settled_by ahead held state start taken request k alike =
    let at : State = end_of platform start (steps_of taken) in
    let P : State → Type 0 = λ state. IsTold false state held.entries request None → IsSettledNow ahead start (steps_of taken) request in
    let there : P at = λ alike. settled_over (MayAhead (is_listed ahead) start (steps_of taken)) (entries_in held.entries) (λ entry may. (k.entries entry).1 may) at request (by_tables at.machine request) refl alike in
    subst P (sym k.reached) there alike

-- all are the tables' way
pub same_by : (ahead : List Request) (held : HoldingsView) (state start : State) (taken : List (Step × ℕ)) (request : Request) → Keeps ahead held state start taken →
    IsTold true state held.entries request None → IsSameWayNow ahead start (steps_of taken) request
same_by ahead held state start taken request k alike =
    let at : State = end_of platform start (steps_of taken) in
    let P : State → Type 0 = λ state. IsTold true state held.entries request None → IsSameWayNow ahead start (steps_of taken) request in
    let there : P at = λ alike. same_over (MayAhead (is_listed ahead) start (steps_of taken)) (entries_in held.entries) (λ entry may. (k.entries entry).1 may) at request (by_tables at.machine request) refl alike in
    subst P (sym k.reached) there alike

-- one of the ways leads otherwise, and no entry alone does
pub led_by : (ahead : List Request) (whole : Bool) (held : HoldingsView) (state start : State) (taken : List (Step × ℕ)) (request : Request) (found : Unsettled) → Keeps ahead held state start taken →
    found.tables ≡ by_tables state.machine request →
    IsAmong (leads (ways_over (entries_in held.entries) (tree_of (bare state) request))) found.elsewhere → (IsAlike whole request.iova found.elsewhere found.tables → ⊥) →
    IsServed whole held state request found.elsewhere found.serving → LeadsOtherwise ahead whole held start (steps_of taken) request found
led_by ahead whole held state start taken request found k told among differs served =
    let at : State = end_of platform start (steps_of taken) in
    let P : State → Type 0 = λ state. found.tables ≡ by_tables state.machine request →
    IsAmong (leads (ways_over (entries_in held.entries) (tree_of (bare state) request))) found.elsewhere →
    IsServed whole held state request found.elsewhere found.serving → LeadsOtherwise ahead whole held start (steps_of taken) request found in
    let there : P at = λ told among served.
    let f : IsFrom (λ (way : ModelWalk Entry Led). way.led) (ways_over (entries_in held.entries) (tree_of (bare at) request)) found.elsewhere =
    from_among (λ (way : ModelWalk Entry Led). way.led) (ways_over (entries_in held.entries) (tree_of (bare at) request)) found.elsewhere among in
    let s : HasSource (MayAhead (is_listed ahead) start (steps_of taken)) (bare at) request f.thing =
    source_of (MayAhead (is_listed ahead) start (steps_of taken)) (entries_in held.entries) (λ entry h. (k.entries entry).0 h) (bare at) request f.thing f.among in record {
      source = s.source;
      may = s.may;
      led = ap (λ (way : ModelWalk Entry Led). way.led) s.is ∙ f.is;
      tables = sym told;
      differs = differs;
      served = served;
    } in
    subst P (sym k.reached) there told among served

-- what is told of a way that leads otherwise
pub told_otherwise : (ahead : List Request) (whole : Bool) (held : HoldingsView) (state start : State) (taken : List (Step × ℕ)) (request : Request) (found : Unsettled) → Keeps ahead held state start taken →
    IsTold whole state held.entries request (Some found) → LeadsOtherwise ahead whole held start (steps_of taken) request found
told_otherwise ahead whole held state start taken request found k told = elim told [
  | inl alone ↦ one_served ahead whole held state start taken request (by_tables state.machine request) found k refl alone
  | inr both ↦ led_by ahead whole held state start taken request found k both.told both.led
      (λ alike. both.differs (alike_to whole request.iova found.elsewhere found.tables (by_tables state.machine request) alike both.told))
      (subst (IsServed whole held state request found.elsewhere) (sym both.by) (none_served whole held state request (by_tables state.machine request) refl both.none))
]

-- what is told over what is held is the judgement
pub told_judged : (ahead : List Request) (held : HoldingsView) (state start : State) (taken : List (Step × ℕ)) (request : Request) (found : Option Unsettled) → Keeps ahead held state start taken →
    IsTold false state held.entries request found → IsJudged ahead held start (steps_of taken) request found
told_judged ahead held state start taken request None k alike = settled_by ahead held state start taken request k alike
told_judged ahead held state start taken request (Some found) k told = told_otherwise ahead false held state start taken request found k told

told_beside : (ahead : List Request) (held : HoldingsView) (state start : State) (taken : List (Step × ℕ)) (request : Request) (unsettled beside : Option Unsettled) → Keeps ahead held state start taken →
    IsBesideTold state held.entries request unsettled beside → IsBeside ahead held start (steps_of taken) request unsettled beside
told_beside ahead held state start taken request (Some elsewhere) beside k none = none
told_beside ahead held state start taken request None None k alike = same_by ahead held state start taken request k alike
told_beside ahead held state start taken request None (Some found) k told = told_otherwise ahead true held state start taken request found k told

pub step_judged : (ahead : List Request) (held : HoldingsView) (state start : State) (taken : List (Step × ℕ)) (request : Option Request) (judged : Judgement) → Keeps ahead held state start taken →
    AreStepTold state held.entries request judged → IsStepJudged ahead held start (steps_of taken) request judged.unsettled
step_judged ahead held state start taken None judged k told = told.0
step_judged ahead held state start taken (Some request) judged k told = told_judged ahead held state start taken request judged.unsettled k told.unsettled

pub step_beside : (ahead : List Request) (held : HoldingsView) (state start : State) (taken : List (Step × ℕ)) (request : Option Request) (judged : Judgement) → Keeps ahead held state start taken →
    AreStepTold state held.entries request judged → IsStepBeside ahead held start (steps_of taken) request judged
step_beside ahead held state start taken None judged k told = told.1
step_beside ahead held state start taken (Some request) judged k told = told_beside ahead held state start taken request judged.unsettled judged.beside k told.beside

some_thing : {X : Type 0} {a b : X} → Some a ≡ Some b → a ≡ b
some_thing is = search is

-- no request is settled and led elsewhere
pub not_both : (ahead : List Request) (held : HoldingsView) (start : State) (steps : List Step) (request : Request) (found : Unsettled) → LeadsElsewhere ahead held start steps request found → IsSettledNow ahead start steps request → ⊥
not_both ahead held start steps request found elsewhere settled =
    let to : Led → Goes = λ way. address_on way request.iova in
    let same : to (way_of (bare (end_of platform start steps)) elsewhere.source request).led ≡ to (way_of (bare (end_of platform start steps)) [] request).led =
    some_thing (settled elsewhere.source elsewhere.may) in
    elsewhere.differs (ap to (sym elsewhere.led) ∙ same ∙ ap to (by_tables_is (end_of platform start steps) request ∙ elsewhere.tables))

-- what is owed of some requests, but for those that remain to be looked at
pub record IsOwedBut (ahead : List Request) (held : HoldingsView) (start : State) (steps : List Step) (rest : List Made) (owed : List Owed) : Type 0 where
  pub told : (each : Owed) → IsAmong owed each → IsAmong held.requests each.made × LeadsElsewhere ahead held start steps each.made.request each.unsettled
  pub settled : (each : Made) → IsAmong held.requests each → IsAmong (requests_owed owed) each ⊎ (IsSettledNow ahead start steps each.request ⊎ IsAmong rest each)
  pub in_order : (more : List Made) → AreSomeOf more rest → AreSomeOf (requests_owed owed ++ more) held.requests

but_one : {X : Type 0} (some all : List X) (x : X) → AreSomeOf some all → AreSomeOf some (x ∷ all)
but_one [] all x are = tt
but_one (y ∷ some) all x are = inr are

pub owed_none : (ahead : List Request) (held : HoldingsView) (start : State) (steps : List Step) → IsOwedBut ahead held start steps held.requests []
owed_none ahead held start steps = record {
  told = λ each h. absurd h;
  settled = λ each h. inr (inr h);
  in_order = λ more are. are;
}

pub owed_settled : (ahead : List Request) (held : HoldingsView) (start : State) (steps : List Step) (rest : List Made) (owed : List Owed) (one : Made) → IsOwedBut ahead held start steps (one ∷ rest) owed →
    IsSettledNow ahead start steps one.request → IsOwedBut ahead held start steps rest owed
owed_settled ahead held start steps rest owed one k settled = record {
  told = k.told;
  settled = λ each h. elim (k.settled each h) [
    | inl told ↦ inl told
    | inr other ↦ elim other [
      | inl it ↦ inr (inl it)
      | inr remains ↦ elim remains [
        | inl same ↦ inr (inl (subst (λ (each : Made). IsSettledNow ahead start steps each.request) same settled))
        | inr later ↦ inr (inr later)
      ]
    ]
  ];
  in_order = λ more are. k.in_order more (but_one more rest one are);
}

abbrev pub owed_of : Made → Unsettled → Owed
owed_of made unsettled = record { made = made; unsettled = unsettled }

pub owed_more : (ahead : List Request) (held : HoldingsView) (start : State) (steps : List Step) (rest : List Made) (owed : List Owed) (one : Made) (found : Unsettled) → IsOwedBut ahead held start steps (one ∷ rest) owed →
    IsAmong held.requests one → LeadsElsewhere ahead held start steps one.request found → IsOwedBut ahead held start steps rest (owed ++ owed_of one found ∷ [])
owed_more ahead held start steps rest owed one found k among elsewhere =
    let keys : requests_owed (owed ++ owed_of one found ∷ []) ≡ requests_owed owed ++ one ∷ [] = map-append (λ (told : Owed). told.made) owed (owed_of one found ∷ []) in record {
      told = λ each h. elim (among_either owed (owed_of one found ∷ []) each h) [
        | inl before ↦ k.told each before
        | inr last ↦ elim last [
          | inl same ↦ subst (λ (each : Owed). IsAmong held.requests each.made × LeadsElsewhere ahead held start steps each.made.request each.unsettled) same (among, elsewhere)
          | inr none ↦ absurd none
        ]
      ];
      settled = λ each h. elim (k.settled each h) [
        | inl told ↦ inl (subst (λ (xs : List Made). IsAmong xs each) (sym keys) (among-left (requests_owed owed) (one ∷ []) each told))
        | inr other ↦ elim other [
          | inl it ↦ inr (inl it)
          | inr remains ↦ elim remains [
            | inl same ↦ inl (subst (λ (xs : List Made). IsAmong xs each) (sym keys) (among-right (requests_owed owed) (one ∷ []) each (inl same)))
            | inr later ↦ inr (inr later)
          ]
        ]
      ];
      in_order = λ more are. subst (λ (xs : List Made). AreSomeOf xs held.requests)
          (sym (ap (λ (xs : List Made). xs ++ more) keys ∙ append_assoc (requests_owed owed) (one ∷ []) more)) (k.in_order (one ∷ more) (inl (refl, are)));
    }

pub owed_all : (ahead : List Request) (held : HoldingsView) (start : State) (steps : List Step) (owed : List Owed) → IsOwedBut ahead held start steps [] owed → AreOwed ahead held start steps owed
owed_all ahead held start steps owed k = record {
  told = k.told;
  settled = λ each h. elim (k.settled each h) [
    | inl told ↦ inl told
    | inr other ↦ elim other [
      | inl it ↦ inr it
      | inr none ↦ absurd none
    ]
  ];
  in_order = subst (λ (xs : List Made). AreSomeOf xs held.requests) (append-nil (requests_owed owed)) (k.in_order [] tt);
}

-- a judgement of None tells that it is settled
pub told_settled : (ahead : List Request) (held : HoldingsView) (start : State) (steps : List Step) (request : Request) (found : Option Unsettled) (settled : Bool) → is_some found ≡ not settled →
    IsJudged ahead held start steps request found → IsTrue settled ↔ IsSettledNow ahead start steps request
told_settled ahead held start steps request None true is judged = (λ told. judged, λ same. refl)
told_settled ahead held start steps request None false is judged = absurd (cc)
told_settled ahead held start steps request (Some found) true is judged = absurd (cc)
told_settled ahead held start steps request (Some found) false is judged = (λ told. absurd (cc), λ same. absurd (not_both ahead held start steps request found judged same))

-- one request of the list is looked at
pub remains : {X : Type 0} (xs : List X) (i : ℕ) (x : X) → slice_get xs i ≡ Some x → drop i xs ≡ x ∷ drop (i + 1) xs
remains {X} xs i x is =
    drop_more xs i x (slice_get_within xs i x is) ∙ ap (λ (y : X). y ∷ drop (i + 1) xs) (get_or_from_slice_get xs i x x is)

none_past : {X : Type 0} (xs : List X) (i : ℕ) → slice_get xs i ≡ None → length xs ≤ i
none_past [] i is = omega arith
none_past (y ∷ xs) zero is = absurd (cc)
none_past (y ∷ xs) (suc i) is = let h : length xs ≤ i = none_past xs i is in omega arith

remain_none : {X : Type 0} (xs : List X) (i : ℕ) → slice_get xs i ≡ None → drop (i + 1) xs ≡ drop i xs
remain_none xs i is =
    let h : length xs ≤ i = none_past xs i is in drop_all (i + 1) xs (omega arith) ∙ sym (drop_all i xs h)

module _ (ahead : List Request) (held : HoldingsView) (start : State) (steps : List Step) (i : ℕ) (owed : List Owed) (k : IsOwedBut ahead held start steps (drop i held.requests) owed) where
  looked_none : (made : Option Made) → slice_get held.requests i ≡ made → IsOwedAt ahead held start steps made None → IsOwedBut ahead held start steps (drop (i + 1) held.requests) owed
  looked_none None at settled = subst (λ (rest : List Made). IsOwedBut ahead held start steps rest owed) (sym (remain_none held.requests i at)) k
  looked_none (Some made) at settled =
      owed_settled ahead held start steps (drop (i + 1) held.requests) owed made
      (subst (λ (rest : List Made). IsOwedBut ahead held start steps rest owed) (remains held.requests i made at) k) settled

  looked_one : (made : Option Made) (one : Owed) → slice_get held.requests i ≡ made → IsOwedAt ahead held start steps made (Some one) →
      IsOwedBut ahead held start steps (drop (i + 1) held.requests) (owed ++ one ∷ [])
  looked_one None one at none = absurd (cc)
  looked_one (Some made) one at is =
      let here : Owed = owed_of made one.unsettled in
      let same : here ≡ one = λ j. owed_of (sym is.0 j) one.unsettled in
      subst (λ (each : Owed). IsOwedBut ahead held start steps (drop (i + 1) held.requests) (owed ++ each ∷ [])) same
      (owed_more ahead held start steps (drop (i + 1) held.requests) owed made one.unsettled
      (subst (λ (rest : List Made). IsOwedBut ahead held start steps rest owed) (remains held.requests i made at) k) (among_at held.requests i made at) is.1)

  pub looked_settled : IsOwedAt ahead held start steps (slice_get held.requests i) None → IsOwedBut ahead held start steps (drop (i + 1) held.requests) owed
  looked_settled settled = looked_none (slice_get held.requests i) refl settled

  pub looked_owed : (one : Owed) → IsOwedAt ahead held start steps (slice_get held.requests i) (Some one) → IsOwedBut ahead held start steps (drop (i + 1) held.requests) (owed ++ one ∷ [])
  looked_owed one is = looked_one (slice_get held.requests i) one refl is
