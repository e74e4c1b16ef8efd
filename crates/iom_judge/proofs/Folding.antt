-- Lists that grow, and are thinned, thing by thing.
use Rattle.std.proofs.Common.{◌≡◌, ◌∙◌, ◌++◌, ◌+◌, ◌<◌, ◌≤◌, ℕ, List, [], ◌∷◌, drop, length, refl, sym, ap, subst, append_assoc, append-nil}
use Rattle.std.proofs.lemmas.List.{drop_all, drop_more}
use Rattle.std.specs.Prelude.{flat_map, get_or}
use Rattle.iom_judge.specs.Candidates.{CandidateView}
use Rattle.iom_judge.specs.Covering.{AddsThinned, IsThinned}
use Rattle.iom_judge.specs.Gathered.{Gathered}
use Rattle.iom_judge.proofs.Gathering.{gathered_at}
use Rattle.iom_judge.proofs.Thinned.{thinned_before, thinned_self, thinned_then}

-- a list of one more thing
pub places_next : {X : Type 0} (f : X → List CandidateView) (all : List X) (whole : List CandidateView) (i : ℕ) (x : X) (before mid : List CandidateView) → i < length all → x ≡ get_or all i x →
    ((final : List CandidateView) → IsThinned (before ++ flat_map f (drop i all)) final → IsThinned whole final) → IsThinned (before ++ f x) mid →
    (final : List CandidateView) → IsThinned (mid ++ flat_map f (drop (i + 1) all)) final → IsThinned whole final
places_next {X} f all whole i x before mid inside is invariant put final rest =
    let later : List CandidateView = flat_map f (drop (i + 1) all) in
    let this : drop i all ≡ x ∷ drop (i + 1) all = drop_more all i x inside ∙ ap (λ (y : X). y ∷ drop (i + 1) all) (sym is) in
    let same : (before ++ f x) ++ later ≡ before ++ flat_map f (drop i all) = append_assoc before (f x) later ∙ ap (λ (xs : List X). before ++ flat_map f xs) (sym this) in
    invariant final (subst (λ (list : List CandidateView). IsThinned list final) same (thinned_then ((before ++ f x) ++ later) (mid ++ later) final (thinned_before (before ++ f x) mid later put) rest))

pub places_end : {X : Type 0} (f : X → List CandidateView) (all : List X) (whole : List CandidateView) (i : ℕ) (before : List CandidateView) → length all ≤ i →
    ((final : List CandidateView) → IsThinned (before ++ flat_map f (drop i all)) final → IsThinned whole final) → IsThinned whole before
places_end {X} f all whole i before end invariant =
    let none : before ++ flat_map f (drop i all) ≡ before = ap (λ (xs : List X). before ++ flat_map f xs) (drop_all i all end) ∙ append-nil before in
    invariant before (subst (λ (list : List CandidateView). IsThinned list before) (sym none) (thinned_self before))

-- what those to come add, behind what is there
abbrev pub Goes : (CandidateView → List CandidateView → Type 0) → List CandidateView → List CandidateView → List CandidateView → Type 0
Goes F whole rest before = (others final : List CandidateView) → Gathered F rest others → IsThinned (before ++ others) final → AddsThinned (Gathered F whole) [] final

pub begun : (F : CandidateView → List CandidateView → Type 0) (whole : List CandidateView) → Goes F whole whole []
begun F whole others final each thinned = record { added = others; holds = each; thinned = thinned }

pub goes_next : (F : CandidateView → List CandidateView → Type 0) (whole all : List CandidateView) (i : ℕ) (one : CandidateView) (before after : List CandidateView) → Goes F whole (drop i all) before → i < length all → one ≡ get_or all i one →
    AddsThinned (F one) before after → Goes F whole (drop (i + 1) all) after
goes_next F whole all i one before after invariant inside is put others final each thinned =
    let same : (before ++ put.added) ++ others ≡ before ++ (put.added ++ others) = append_assoc before put.added others in
    invariant (put.added ++ others) final (gathered_at F all i one put.added others inside is put.holds each)
    (subst (λ (list : List CandidateView). IsThinned list final) same
    (thinned_then ((before ++ put.added) ++ others) (after ++ others) final (thinned_before (before ++ put.added) after others put.thinned) thinned))

pub goes_end : (F : CandidateView → List CandidateView → Type 0) (whole all : List CandidateView) (i : ℕ) (before : List CandidateView) → Goes F whole (drop i all) before → length all ≤ i → AddsThinned (Gathered F whole) [] before
goes_end F whole all i before invariant end =
    invariant [] before (subst (λ (xs : List CandidateView). Gathered F xs []) (sym (drop_all i all end)) refl)
    (subst (λ (list : List CandidateView). IsThinned list before) (sym (append-nil before)) (thinned_self before))
