use Rattle.std.proofs.Common.{◌≡◌, ◌∙◌, Bool, List, [], ◌∷◌, Ok, Option, Some, get_or, length, subst, sym}
use Rattle.iom_judge.specs.Behind.{IsTaken}
use Rattle.iom_judge.specs.Candidates.{CandidateView}
use Rattle.iom_judge.specs.Showing.{IsTold}
use Rattle.iom_judge.specs.declared.possible.Possible.{Possible}
use Rattle.iom_judge.proofs.Allowed.{taken_listed}
use Rattle.iom_judge.proofs.Judged.{taken_judged}
use Rattle.iom_judge.proofs.Solo.{are_taken, are_told}
use Rattle.std.proofs.Common.{refl}
use Rattle.std.specs.Prelude.{slice_set}
use Rattle.iom_judge.proofs.alone.take_in_place.Goals as goal

pub returns-in-Some-clause-judged : goal.returns-in-Some-clause-judged
returns-in-Some-clause-judged c = λ start traces are.
    let all : List CandidateView = c.args.candidates.now.items in
    let one : CandidateView = c.index_mut.result.now in
    let after : CandidateView = c.take_alone.new.self in
    let single : length all ≡ 1 = sym c.args.candidates.now.ok.0 ∙ sym c.len.ensures ∙ c.if-len-ne1.false in
    let taken : IsTaken c.args.step.now c.args.seen.now (Some c.in-Some.fits) (get_or all 0 one) after =
    subst (λ (before : CandidateView). IsTaken c.args.step.now c.args.seen.now (Some c.in-Some.fits) before after) c.index_mut.ensures.value
    (subst (λ (fits : Option Bool). IsTaken c.args.step.now c.args.seen.now fits one after) c.in-Some.is c.in_ok-fits.ensures.taken) in
    taken_judged start traces all (slice_set all 0 after) c.args.step.now c.args.seen.now c.in-Some.fits c.verdict_of.result c.verdict_of.ensures are
    (are_taken {F = Bool} c.args.step.now c.args.seen.now (Ok (Some c.in-Some.fits)) all one after single taken)

pub returns-in-Some-clause-listed : goal.returns-in-Some-clause-listed
returns-in-Some-clause-listed c = λ start traces are.
    let all : List CandidateView = c.args.candidates.now.items in
    let one : CandidateView = c.index_mut.result.now in
    let list : List Possible = c.take_alone.new.allowed.items in
    let single : length all ≡ 1 = sym c.args.candidates.now.ok.0 ∙ sym c.len.ensures ∙ c.if-len-ne1.false in
    let told : IsTold c.args.step.now (Some c.in-Some.fits) (get_or all 0 one ∷ []) list =
    subst (λ (before : CandidateView). IsTold c.args.step.now (Some c.in-Some.fits) (before ∷ []) list) c.index_mut.ensures.value
    (subst (λ (fits : Option Bool). IsTold c.args.step.now fits (one ∷ []) list) c.in-Some.is c.in_ok-fits.ensures.told) in
    taken_listed start traces all all c.args.step.now c.in-Some.fits c.verdict_of.result list c.verdict_of.ensures are refl
    (are_told {F = Bool} c.args.step.now (Ok (Some c.in-Some.fits)) all one list single told)
