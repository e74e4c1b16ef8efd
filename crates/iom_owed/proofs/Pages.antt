-- A request is settled if the one for another byte of its page is. So what is owed of a page is owed of each byte.
use Rattle.std.proofs.Common.{◌≡◌, ◌∙◌, ◌⊎◌, ◌*◌, ◌/◌, ℕ, Bool, true, false, List, [], ◌∷◌, Option, Some, None, refl, ap, sym, subst, inl, inr, arith}
use Rattle.std.specs.Option.{option_map}
use Rattle.iom_choices.specs.Models.{end_of}
use Rattle.iom_choices.specs.Settled.{EachUse}
use Rattle.iom_choices.specs.Systems.{IsAmong}
use Rattle.iom_core.specs.Access.{address_on}
use Rattle.iom_core.specs.State.{State}
use Rattle.iom_core.specs.Table.{request_of_step}
use Rattle.iom_core.specs.declared.access.Request.{Request}
use Rattle.iom_core.specs.declared.step.Step.{Step}
use Rattle.iom_every.specs.declared.entry.Entry.{Entry}
use Rattle.iom_every.specs.Every.{MayAhead, is_listed, is_request, platform}
use Rattle.iom_every.specs.Guards.{IsValid}
use Rattle.iom_every.specs.Pages.{for_iova, goes_at}
use Rattle.iom_every.specs.Rows.{bare}
use Rattle.iom_every.specs.Uses.{Look}
use Rattle.iom_every.specs.Ways.{Goes, way_of}
use Rattle.iom_every.proofs.Ahead.{request_itself, requests_same}
use Rattle.iom_every.proofs.Pages.{one_goal}
use Rattle.iom_every.proofs.Reading.{ahead_valid}
use Rattle.iom_held.proofs.Lists.{IsFrom, among_of, from_among}
use Rattle.iom_owed.specs.Holdings.{HoldingsView, IsMadeIn, IsMadeLast, Keeps, at_page, request_of}
use Rattle.iom_owed.specs.Newest.{steps_of}
use Rattle.iom_owed.specs.Notes.{made_of}
use Rattle.iom_owed.specs.Settled.{AreOwed, IsToldOwed, IsSettledNow, LeadsElsewhere, requests_owed}
use Rattle.iom_owed.specs.declared.noting.Made.{Made}
use Rattle.iom_owed.specs.declared.settling.Owed.{Owed}
use Rattle.iom_owed.proofs.Judged.{not_both}

valid_uses : (ahead : List Request) (start : State) (steps : List Step) (source : List (Look × Entry)) → EachUse (MayAhead (is_listed ahead) start steps) source → EachUse IsValid source
valid_uses ahead start steps [] may = tt
valid_uses ahead start steps (used ∷ source) may = (ahead_valid (is_listed ahead) start steps used.1 may.0, valid_uses ahead start steps source may.1)

-- each source takes both alike
settled_alike : (ahead : List Request) (start : State) (steps : List Step) (request : Request) (other : ℕ) → request.iova / 4096 ≡ other / 4096 →
    IsSettledNow ahead start steps (for_iova request other) → IsSettledNow ahead start steps request
settled_alike ahead start steps request other same settled source may =
    let at : State = bare (end_of platform start steps) in
    let goes : List (Look × Entry) → Goes = λ source. address_on (way_of at source (for_iova request other)).led other in
    let told : Some (goes source) ≡ Some (goes []) = settled source may in
    let there : goes source ≡ goes [] = cc in
    ap (λ (goes : Goes). Some goes)
    (one_goal at source request other same (valid_uses ahead start steps source may) ∙ ap (goes_at request.iova) there ∙ sym (one_goal at [] request other same tt))

first_byte : (iova : ℕ) → iova / 4096 ≡ iova / 4096 * 4096 / 4096
first_byte iova = omega arith

pub at_each_byte : (ahead : List Request) (start : State) (steps : List Step) (request : Request) → IsSettledNow ahead start steps (at_page request) → IsSettledNow ahead start steps request
at_each_byte ahead start steps request settled = settled_alike ahead start steps request (request.iova / 4096 * 4096) (first_byte request.iova) settled

pub at_the_first : (ahead : List Request) (start : State) (steps : List Step) (request : Request) → IsSettledNow ahead start steps request → IsSettledNow ahead start steps (at_page request)
at_the_first ahead start steps request settled = settled_alike ahead start steps (at_page request) request.iova (sym (first_byte request.iova)) settled

-- whether a step makes a request of this page
is_of_page : (asked : Option Request) (page : Request) → (option_map at_page asked ≡ Some page) ⊎ (option_map at_page asked ≡ Some page → ⊥)
is_of_page None page = inr (λ same. absurd (cc))
is_of_page (Some one) page =
    let own : Request = at_page one in
    let Goal : Bool → Type 0 = λ b. is_request own page ≡ b → (Some own ≡ Some page) ⊎ (Some own ≡ Some page → ⊥) in
    let by_test : (b : Bool) → Goal b = λ b. elim b as Goal [
      | true ↦ λ is. inl (ap (λ (request : Request). Some request) (requests_same own page is))
      | false ↦ λ is. inr (λ same.
          let is_page : own ≡ page = cc in
          let itself : is_request own page ≡ true = subst (λ (request : Request). is_request own request ≡ true) is_page (request_itself own) in absurd (cc))
    ] in by_test (is_request own page) refl

-- a request that was made, or that is read ahead, is kept for its page, with the number of the newest step
record IsKept (ahead : List Request) (start : State) (taken : List (Step × ℕ)) (request : Request) : Type 0 where
  number : ℕ
  newest : IsMadeLast ahead start taken (at_page request) number

kept_of : (ahead : List Request) (start : State) (taken : List (Step × ℕ)) (request : Request) → IsMadeIn start (steps_of taken) request ⊎ IsAmong ahead request → IsKept ahead start taken request
kept_of ahead start [] request made = elim made [
  | inl now ↦ absurd now
  | inr listed ↦ record { number = 0; newest = (among_of at_page ahead request listed, refl) }
]
kept_of ahead start (last ∷ taken) request made =
    let asked : Option Request = request_of_step (end_of platform start (steps_of taken)) last.0 in
    let before : IsMadeIn start (steps_of taken) request ⊎ IsAmong ahead request → (option_map at_page asked ≡ Some (at_page request) → ⊥) → IsKept ahead start (last ∷ taken) request =
    λ made not. let k : IsKept ahead start taken request = kept_of ahead start taken request made in record { number = k.number; newest = inr (not, k.newest) } in
    elim (is_of_page asked (at_page request)) [
      | inl makes ↦ record { number = last.1; newest = inl (makes, refl) }
      | inr not ↦ elim made [
        | inl steps ↦ elim steps [
          | inl now ↦ absurd (not (ap (option_map at_page) now))
          | inr earlier ↦ before (inl earlier) not
        ]
        | inr listed ↦ before (inr listed) not
      ]
    ]

pub told_or_settled : (ahead : List Request) (held : HoldingsView) (state start : State) (taken : List (Step × ℕ)) (owed : List Owed) (request : Request) → Keeps ahead held state start taken →
    AreOwed ahead held start (steps_of taken) owed → IsMadeIn start (steps_of taken) request ⊎ IsAmong ahead request → IsToldOwed owed request ⊎ IsSettledNow ahead start (steps_of taken) request
told_or_settled ahead held state start taken owed request k are made =
    let newest : IsKept ahead start taken request = kept_of ahead start taken request made in
    let one : Made = made_of newest.number (at_page request) in
    elim (are.settled one ((k.requests one).1 newest.newest)) [
      | inl told ↦ inl (among_of request_of (requests_owed owed) one told)
      | inr settled ↦ inr (at_each_byte ahead start (steps_of taken) request settled)
    ]

pub none_unsettled : (ahead : List Request) (held : HoldingsView) (state start : State) (taken : List (Step × ℕ)) (request : Request) → Keeps ahead held state start taken →
    AreOwed ahead held start (steps_of taken) [] → IsMadeIn start (steps_of taken) request ⊎ IsAmong ahead request → IsSettledNow ahead start (steps_of taken) request
none_unsettled ahead held state start taken request k are made = elim (told_or_settled ahead held state start taken [] request k are made) [
  | inl told ↦ absurd told
  | inr settled ↦ settled
]

-- what is told isn't settled
pub told_unsettled : (ahead : List Request) (held : HoldingsView) (start : State) (steps : List Step) (owed : List Owed) (request : Request) → AreOwed ahead held start steps owed →
    IsToldOwed owed request → IsSettledNow ahead start steps request → ⊥
told_unsettled ahead held start steps owed request are told settled =
    let made : IsFrom request_of (requests_owed owed) (at_page request) = from_among request_of (requests_owed owed) (at_page request) told in
    let own : IsFrom (λ (each : Owed). each.made) owed made.thing = from_among (λ (each : Owed). each.made) owed made.thing made.among in
    let elsewhere : LeadsElsewhere ahead held start steps own.thing.made.request own.thing.unsettled = (are.told own.thing own.among).1 in
    let is : own.thing.made.request ≡ at_page request = ap request_of own.is ∙ made.is in
    not_both ahead held start steps (at_page request) own.thing.unsettled
    (subst (λ (request : Request). LeadsElsewhere ahead held start steps request own.thing.unsettled) is elsewhere) (at_the_first ahead start steps request settled)
