-- The requests of a list are those that it says are read ahead.
use Rattle.std.proofs.Common.{◌≡◌, ◌∙◌, ◌==◌, ◌&&◌, ◌||◌, Bool, true, false, List, [], ◌∷◌, refl, ap, subst, inl, inr}
use Rattle.std.proofs.lemmas.Bool.{eq-eqb, eqb-true}
use Rattle.iom_cache.proofs.Same.{both, same_kind_exact, same_kind_itself}
use Rattle.iom_cache.specs.Keys.{same_kind}
use Rattle.iom_choices.specs.Systems.{IsAmong}
use Rattle.iom_choices.specs.Trees.{AreAhead, AreTrees}
use Rattle.iom_core.specs.declared.access.Request.{Request}
use Rattle.iom_every.specs.Every.{iommu, is_listed, is_request, late_iommu}
use Rattle.iom_every.specs.Trees.{every_tree, tree_of}
use Rattle.iom_every.specs.Ways.{kept_walk}
use Rattle.iom_every.proofs.Trees.{tree_apart, tree_is}
use Rattle.iom_every.proofs.Split.{apart_kept, way_kept}

pub trees : (ahead : Request → Bool) → AreTrees (iommu ahead) every_tree
trees ahead = record {
  way = λ state source request. way_kept state.machine.registers.features request.iova source (tree_of state request) ∙ ap (kept_walk state.machine.registers.features request.iova) (tree_is state source request);
  apart = λ state request. apart_kept state.machine.registers.features request.iova [] (tree_of state request) (tree_apart state request);
}

pub requests_same : (one other : Request) → is_request one other ≡ true → one ≡ other
requests_same one other is =
    let kinds = both (same_kind one.kind other.kind) (one.iova == other.iova && one.did == other.did) is in
    let numbers = both (one.iova == other.iova) (one.did == other.did) kinds.1 in
    let kind : one.kind ≡ other.kind = same_kind_exact one.kind other.kind kinds.0 in
    let iova : one.iova ≡ other.iova = eqb-true one.iova other.iova numbers.0 in
    let did : one.did ≡ other.did = eqb-true one.did other.did numbers.1 in
    λ n. record { iova = iova n; did = did n; kind = kind n }

pub request_itself : (one : Request) → is_request one one ≡ true
request_itself one = rw (same_kind_itself one.kind, eq-eqb one.iova one.iova refl, eq-eqb one.did one.did refl) refl

pub is_among : (requests : List Request) (request : Request) → is_listed requests request ≡ true → IsAmong requests request
is_among [] request is = absurd (cc)
is_among (one ∷ requests) request is =
    let Goal : Bool → Type 0 = λ b. is_request one request ≡ b → (b || is_listed requests request) ≡ true → IsAmong (one ∷ requests) request in
    let by_test : (b : Bool) → Goal b = λ b. elim b as Goal [
      | true ↦ λ here is. inl (requests_same one request here)
      | false ↦ λ here is. inr (is_among requests request is)
    ] in by_test (is_request one request) refl is

or_true : (a : Bool) → (a || true) ≡ true
or_true true = refl
or_true false = refl

pub listed : (requests : List Request) (request : Request) → IsAmong requests request → is_listed requests request ≡ true
listed [] request h = absurd h
listed (one ∷ requests) request (inl same) =
    ap (λ (b : Bool). b || is_listed requests request) (subst (λ (other : Request). is_request one other ≡ true) same (request_itself one))
listed (one ∷ requests) request (inr h) =
    ap (λ (b : Bool). is_request one request || b) (listed requests request h) ∙ or_true (is_request one request)

pub ahead : (requests : List Request) → AreAhead (iommu (is_listed requests)) requests
ahead requests = record {
  each = λ request among. listed requests request among;
  covered = λ request is. record { other = request; among = is_among requests request is; reads = λ state source. refl };
}

pub ahead_late : (requests : List Request) → AreAhead (late_iommu (is_listed requests)) requests
ahead_late requests = record {
  each = λ request among. listed requests request among;
  covered = λ request is. record { other = request; among = is_among requests request is; reads = λ state source. refl };
}
