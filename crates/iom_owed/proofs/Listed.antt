-- The requests that are read ahead are put in, each for its page.
use Rattle.std.proofs.Common.{◌≡◌, ◌∙◌, ◌↔◌, ◌++◌, List, [], ◌∷◌, map, refl, sym, subst, inl, inr}
use Rattle.std.proofs.lemmas.List.{map-append}
use Rattle.iom_choices.specs.Systems.{IsAmong}
use Rattle.iom_choices.proofs.Lists.{among-left, among-right, among_either}
use Rattle.iom_core.specs.State.{State}
use Rattle.iom_core.specs.declared.access.Request.{Request}
use Rattle.iom_held.specs.Kept.{HasNoneTwice, Renews}
use Rattle.iom_held.proofs.Lists.{IsFrom, among_of, from_among}
use Rattle.iom_owed.specs.Behind.{KeepsBehind}
use Rattle.iom_owed.specs.Holdings.{at_page, request_of, requests_in}
use Rattle.iom_owed.specs.Notes.{made_of}
use Rattle.iom_owed.specs.declared.noting.Made.{Made}

-- these are there, each once and with number 0
pub record AreListed (requests : List Request) (made : List Made) : Type 0 where
  pub are : (one : Made) → IsAmong made one ↔ (IsAmong (map at_page requests) one.request × (one.number ≡ 0))
  pub once : HasNoneTwice (requests_in made)

pub none_listed : AreListed [] []
none_listed = record { are = λ one. (λ h. absurd h, λ h. absurd h.0); once = tt }

pub one_listed : (requests : List Request) (own : Request) (before after : List Made) → AreListed requests before → Renews request_of (made_of 0 (at_page own) ∷ []) before after → AreListed (requests ++ own ∷ []) after
one_listed requests own before after k renews =
    let keys : map at_page (requests ++ own ∷ []) ≡ map at_page requests ++ at_page own ∷ [] = map-append at_page requests (own ∷ []) in
    let Listed : Made → Type 0 = λ one. IsAmong (map at_page requests ++ at_page own ∷ []) one.request × (one.number ≡ 0) in
    let told : (one : Made) → IsAmong after one → Listed one = λ one h. elim (renews.each k.once one h) [
      | inl new ↦ elim new [
        | inl same ↦ subst Listed same (among-right (map at_page requests) (at_page own ∷ []) (at_page own) (inl refl), refl)
        | inr none ↦ absurd none
      ]
      | inr old ↦ let was : IsAmong (map at_page requests) one.request × (one.number ≡ 0) = (k.are one).0 old.0 in (among-left (map at_page requests) (at_page own ∷ []) one.request was.0, was.1)
    ] in
    let there : (one : Made) → Listed one → IsAmong after one = λ one listed.
    let asked : IsAmong (requests_in after) one.request = renews.kept one.request (elim (among_either (map at_page requests) (at_page own ∷ []) one.request listed.0) [
      | inl old ↦ inl (among_of request_of before (made_of 0 one.request) ((k.are (made_of 0 one.request)).1 (old, refl)))
      | inr new ↦ elim new [
        | inl same ↦ inr (inl same)
        | inr none ↦ absurd none
      ]
    ]) in
    let f : IsFrom request_of after one.request = from_among request_of after one.request asked in
    let same : f.thing ≡ one = λ i. record { request = f.is i; number = ((told f.thing f.among).1 ∙ sym listed.1) i } in subst (IsAmong after) same f.among in
    record {
      are = λ one. (
        λ h. (subst (λ (xs : List Request). IsAmong xs one.request) (sym keys) (told one h).0, (told one h).1),
        λ h. there one (subst (λ (xs : List Request). IsAmong xs one.request) keys h.0, h.1),
      );
      once = renews.once k.once;
    }

-- what is kept then, of a platform that has taken no step
pub listed_first : (ahead : List Request) (made : List Made) (state : State) → AreListed ahead made → KeepsBehind ahead (record { ahead = ahead; entries = []; requests = made }) state state []
listed_first ahead made state k = record {
  reached = refl;
  ahead_is = refl;
  may = λ kept h. absurd h;
  lasts = λ kept h. absurd h;
  left = tt;
  reads = λ kept h. absurd h;
  unfenced = λ kept h. absurd h;
  entries_once = tt;
  requests = k.are;
  requests_once = k.once;
}
