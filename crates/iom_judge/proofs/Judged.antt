-- A judge's candidates go on with each step, and decide.
use Rattle.std.proofs.Common.{◌≡◌, ◌∙◌, ◌++◌, ◌==◌, ◌<◌, ℕ, Bool, true, false, List, [], ◌∷◌, length, map, Some, if◌then◌else◌, refl, sym, ap, subst, inl, inr, arith}
use Rattle.std.proofs.lemmas.Bool.{eqb-true}
use Rattle.std.proofs.lemmas.List.{map-append}
use Rattle.std.specs.List.{AllByRecursion}
use Rattle.std.specs.Prelude.{flat_map}
use Rattle.iom_choices.specs.Marked.{AreMarkedAlike, IsBehindMarked, Marked, marked_behind, telling}
use Rattle.iom_choices.specs.Traces.{is_any, onward}
use Rattle.iom_choices.proofs.Deciding.{allowed_marked, begun, goes_on, joined, marked_decides}
use Rattle.iom_choices.proofs.Lists.{among-left, among-right, among_either, each_append}
use Rattle.iom_core.specs.Rows.{bare}
use Rattle.iom_core.specs.State.{State}
use Rattle.iom_core.specs.declared.step.Step.{Step}
use Rattle.iom_every.specs.Every.{iommu, is_listed, queue_commands}
use Rattle.iom_every.specs.Judged.{AreJudged, IsOneTraceAllowed}
use Rattle.iom_every.specs.Making.{translations}
use Rattle.iom_every.specs.Trees.{every_tree}
use Rattle.iom_every.specs.declared.entry.Entry.{Entry}
use Rattle.iom_every.proofs.Judged.{judged_ahead, telling_trees}
use Rattle.iom_held.specs.Kept.{HasNoneTwice, entries_in}
use Rattle.iom_judge.specs.Behind.{AreBehind}
use Rattle.iom_judge.specs.Candidates.{AreApart, AreCandidates, AreTooMany, CandidateView, IsVerdict, first_of, marked_of, most_candidates}
use Rattle.iom_judge.specs.Covering.{AddsThinned, IsThinned}
use Rattle.iom_judge.specs.Gathered.{Gathered}
use Rattle.iom_judge.specs.Seen.{fits_seen, unseen}
use Rattle.iom_judge.specs.declared.judge.Verdict.{Verdict}
use Rattle.iom_judge.specs.declared.judge.Verdict.TheVariants.{Allowed, Refused}
use Rattle.iom_judge.specs.declared.seen.Seen.{Seen}
use Rattle.iom_judge.proofs.Alike.{behind_alike, once_behind}
use Rattle.iom_judge.proofs.Solo.{AreTaken}
use Rattle.iom_judge.proofs.Thinned.{thins}

behind_left : (some more : List (Marked State Entry)) (one : Marked State Entry) → IsBehindMarked some one → IsBehindMarked (some ++ more) one
behind_left some more one b = record { more = b.more; among = among-left some more b.more b.among; is = b.is }

behind_right : (some more : List (Marked State Entry)) (one : Marked State Entry) → IsBehindMarked more one → IsBehindMarked (some ++ more) one
behind_right some more one b = record { more = b.more; among = among-right some more b.more b.among; is = b.is }

alike_append : (few others some more : List (Marked State Entry)) → AreMarkedAlike few some → AreMarkedAlike others more → AreMarkedAlike (few ++ others) (some ++ more)
alike_append few others some more first second = record {
  within = λ one among. elim (among_either few others one among) [
    | inl here ↦ behind_left some more one (first.within one here)
    | inr there ↦ behind_right some more one (second.within one there)
  ];
  enough = λ one among. elim (among_either some more one among) [
    | inl here ↦ behind_left few others one (first.enough one here)
    | inr there ↦ behind_right few others one (second.enough one there)
  ];
}

abbrev EachOnce : List CandidateView → Type 0
EachOnce candidates = AllByRecursion (λ (candidate : CandidateView). HasNoneTwice (entries_in candidate.held)) candidates

-- what the system has behind a step
abbrev pub behind_all : Step → Seen → List CandidateView → List (Marked State Entry)
behind_all taken seen all = flat_map (marked_behind (telling (iommu (is_listed []))) queue_commands translations every_tree [] fits_seen (taken, seen)) (map marked_of all)

gathered_alike : (taken : Step) (seen : Seen) (all next : List CandidateView) → EachOnce all → Gathered (AreBehind taken seen) all next → AreMarkedAlike (map marked_of next) (behind_all taken seen all)
gathered_alike taken seen [] next once g =
    subst (λ (l : List CandidateView). AreMarkedAlike (map marked_of l) []) (sym g) (record { within = λ one among. absurd among; enough = λ one among. absurd among })
gathered_alike taken seen (one ∷ all) next once g =
    let own : List (Marked State Entry) = marked_behind (telling (iommu (is_listed []))) queue_commands translations every_tree [] fits_seen (taken, seen) (marked_of one) in
    let others : List (Marked State Entry) = behind_all taken seen all in
    subst (λ (l : List (Marked State Entry)). AreMarkedAlike l (own ++ others)) (sym (ap (map marked_of) g.2 ∙ map-append marked_of g.0 g.1))
    (alike_append (map marked_of g.0) (map marked_of g.1) own others (behind_alike taken seen one once.0 g.0 g.3) (gathered_alike taken seen all g.1 once.1 g.4))

gathered_once : (taken : Step) (seen : Seen) (all next : List CandidateView) → EachOnce all → Gathered (AreBehind taken seen) all next → EachOnce next
gathered_once taken seen [] next once g = subst EachOnce (sym g) tt
gathered_once taken seen (one ∷ all) next once g =
    subst EachOnce (sym g.2) (each_append (λ (candidate : CandidateView). HasNoneTwice (entries_in candidate.held)) g.0 g.1 (once_behind taken seen one once.0 g.0 g.3) (gathered_once taken seen all g.1 once.1 g.4))

pub went_on : (start : State) (traces : List (List (Step × Seen))) (all next : List CandidateView) (taken : Step) (seen : Seen) → AreCandidates start traces all → Gathered (AreBehind taken seen) all next →
    AreCandidates start (onward (taken, seen) traces) next
went_on start traces all next taken seen are g = record {
  are = goes_on (telling (iommu (is_listed []))) queue_commands translations every_tree (telling_trees (is_listed [])) [] (judged_ahead []) fits_seen (bare start) traces (map marked_of all) are.are (taken, seen) (map marked_of next)
      (gathered_alike taken seen all next are.once g);
  once = gathered_once taken seen all next are.once g;
}

pub begins : (start : State) → AreCandidates start ([] ∷ []) (first_of start ∷ [])
begins start = record { are = begun (telling (iommu (is_listed []))) queue_commands translations every_tree fits_seen (bare start); once = (tt, tt) }

any_marked : (candidates : List CandidateView) → is_any (map marked_of candidates) ≡ is_any candidates
any_marked [] = refl
any_marked (one ∷ candidates) = refl

pub any_allowed : (start : State) (traces : List (List (Step × Seen))) (candidates : List CandidateView) → AreCandidates start traces candidates → is_any candidates ≡ true → IsOneTraceAllowed [] fits_seen start traces
any_allowed start traces candidates are any =
    marked_decides (telling (iommu (is_listed []))) queue_commands translations every_tree fits_seen (bare start) traces (map marked_of candidates) are.are (any_marked candidates ∙ any)

pub allowed_any : (start : State) (traces : List (List (Step × Seen))) (candidates : List CandidateView) → AreCandidates start traces candidates → IsOneTraceAllowed [] fits_seen start traces → is_any candidates ≡ true
allowed_any start traces candidates are allowed =
    sym (any_marked candidates) ∙ allowed_marked (telling (iommu (is_listed []))) queue_commands translations every_tree fits_seen (bare start) traces (map marked_of candidates) are.are allowed

both_ways : (b : Bool) → b ≡ false → b ≡ true → ⊥
both_ways true off on = absurd (cc)
both_ways false off on = absurd (cc)

-- of so many candidates there is one, or none
pub any_if : {X : Type 0} (xs : List X) (n : ℕ) → n ≡ length xs → (n == 0) ≡ false → is_any xs ≡ true
any_if [] n is off = absurd (both_ways (n == 0) off (ap (λ (n : ℕ). n == 0) is))
any_if (x ∷ xs) n is off = refl

pub nothing_if : {X : Type 0} (xs : List X) (n : ℕ) → n ≡ length xs → (n == 0) ≡ true → xs ≡ []
nothing_if [] n is on = refl
nothing_if (x ∷ xs) n is on = let none : n ≡ 0 = eqb-true n 0 on in absurd (omega (arith, is, none))

none_if : {X : Type 0} (xs : List X) (n : ℕ) → n ≡ length xs → (n == 0) ≡ true → is_any xs ≡ true → ⊥
none_if [] n is on any = absurd (cc)
none_if (x ∷ xs) n is on any = let none : n ≡ 0 = eqb-true n 0 on in absurd (omega (arith, is, none))

pub none_allowed : (start : State) (traces : List (List (Step × Seen))) (candidates : List CandidateView) → AreCandidates start traces candidates → (n : ℕ) → n ≡ length candidates → (n == 0) ≡ true →
    IsOneTraceAllowed [] fits_seen start traces → ⊥
none_allowed start traces candidates are n count none allowed = none_if candidates n count none (allowed_any start traces candidates are allowed)

nothing_any : is_any {X = CandidateView} [] ≡ true → ⊥
nothing_any any = absurd (cc)

-- the traces of either
pub joins : (start : State) (traces others : List (List (Step × Seen))) (some more : List CandidateView) → AreCandidates start traces some → AreCandidates start others more → AreCandidates start (traces ++ others) (some ++ more)
joins start traces others some more first second = record {
  are = subst (AreJudged [] fits_seen start (traces ++ others)) (sym (map-append marked_of some more))
      (joined (telling (iommu (is_listed []))) queue_commands translations every_tree fits_seen (bare start) traces others (map marked_of some) (map marked_of more) first.are second.are);
  once = each_append (λ (candidate : CandidateView). HasNoneTwice (entries_in candidate.held)) some more first.once second.once;
}

-- what is thinned behind a step
pub went_thin : (start : State) (traces : List (List (Step × Seen))) (all next : List CandidateView) (taken : Step) (seen : Seen) → AreCandidates start traces all →
    AddsThinned (Gathered (AreBehind taken seen) all) [] next → AreCandidates start (onward (taken, seen) traces) next
went_thin start traces all next taken seen are a =
    thins start (onward (taken, seen) traces) a.added next (went_on start traces all a.added taken seen are a.holds) a.thinned

-- and beside those that were there
pub joins_thin : (start : State) (traces : List (List (Step × Seen))) (all next after : List CandidateView) (taken : Step) (seen : Seen) → AreCandidates start traces all →
    AddsThinned (Gathered (AreBehind taken seen) all) [] next → IsThinned (all ++ next) after → AreCandidates start (traces ++ onward (taken, seen) traces) after
joins_thin start traces all next after taken seen are a thinned =
    thins start (traces ++ onward (taken, seen) traces) (all ++ next) after
    (joins start traces (onward (taken, seen) traces) all next are (went_thin start traces all next taken seen are a)) thinned

-- so many
pub too_many : (start : State) (traces : List (List (Step × Seen))) (list : List CandidateView) (n : ℕ) → AreCandidates start traces list → AreApart list → most_candidates < n → n ≡ length list → AreTooMany start traces
too_many start traces list n are apart more is = record { list = list; are = are; apart = apart; many = omega (arith, more, is) }

-- the only one, taken in place
taken_right : (start : State) (traces : List (List (Step × Seen))) (before after : List CandidateView) (taken : Step) (seen : Seen) → AreCandidates start traces before → AreTaken taken seen (Some true) before after →
    IsVerdict start traces (taken, seen) Allowed before after
taken_right start traces before after taken seen are t =
    let on : AreCandidates start (onward (taken, seen) traces) after = went_on start traces before after taken seen are t.1 in
    (any_allowed start (onward (taken, seen) traces) after on t.0, on)

taken_wrong : (start : State) (traces : List (List (Step × Seen))) (before after : List CandidateView) (taken : Step) (seen : Seen) → AreCandidates start traces before → AreTaken taken seen (Some false) before after →
    IsVerdict start traces (taken, seen) Refused before after
taken_wrong start traces before after taken seen are t = (
  λ allowed. nothing_any (allowed_any start (onward (taken, seen) traces) [] (went_on start traces before [] taken seen are t.0) allowed),
  went_on start traces before after taken unseen are t.1,
)

pub taken_judged : (start : State) (traces : List (List (Step × Seen))) (before after : List CandidateView) (taken : Step) (seen : Seen) (fits : Bool) (verdict : Verdict) → verdict ≡ (if fits then Allowed else Refused) →
    AreCandidates start traces before → AreTaken taken seen (Some fits) before after → IsVerdict start traces (taken, seen) verdict before after
taken_judged start traces before after taken seen true verdict is are t =
    subst (λ (verdict : Verdict). IsVerdict start traces (taken, seen) verdict before after) (sym is) (taken_right start traces before after taken seen are t)
taken_judged start traces before after taken seen false verdict is are t =
    subst (λ (verdict : Verdict). IsVerdict start traces (taken, seen) verdict before after) (sym is) (taken_wrong start traces before after taken seen are t)
