use Rattle.std.proofs.Common.{◌≡◌, ◌∙◌, List, [], ◌∷◌, Option, Some, subst}
use Rattle.iom_every.specs.Ways.{Goes}
use Rattle.iom_judge.specs.Behind.{IsTaken}
use Rattle.iom_judge.specs.Candidates.{CandidateView}
use Rattle.iom_judge.specs.Showing.{IsTold}
use Rattle.iom_judge.proofs.Solo.{is_taken, one_alone, told_alone}
use Rattle.iom_judge.proofs.candidate.Candidate.take_alone.Goals as goal

pub returns-clause-taken : goal.returns-clause-taken
returns-clause-taken c =
    let own : CandidateView = record { platform = c.self.inside.platform; held = c.self.inside.held; answer = c.self.inside.answer; goes = c.self.inside.goes } in
    let goes : Option Goes = c.index-goes.result.now in
    let places : List (Option Goes) = c.find_reach.new.reach.places.items in
    let one : places ≡ goes ∷ [] = one_alone places goes c.len.result (c.len.ensures ∙ c.find_reach.new.reach.places.ok.0) c.if-len-ne1.false c.index-goes.ensures in
    subst (λ (before : CandidateView). IsTaken c.args.step.now c.args.seen.now (Some c.take_to.result) before c.take_to.new.self) c.self.view_is
    (is_taken c.args.step.now c.args.seen.now own c.take_to.new.self places c.hold.new.held goes c.in_ok-find_reach.ensures.goes one c.in_ok-hold.ensures.holds c.take_to.ensures.taken c.take_to.result c.take_to.ensures.fits)

pub returns-clause-told : goal.returns-clause-told
returns-clause-told c =
    let own : CandidateView = record { platform = c.self.inside.platform; held = c.self.inside.held; answer = c.self.inside.answer; goes = c.self.inside.goes } in
    let goes : Option Goes = c.index-goes.result.now in
    let places : List (Option Goes) = c.find_reach.new.reach.places.items in
    let one : places ≡ goes ∷ [] = one_alone places goes c.len.result (c.len.ensures ∙ c.find_reach.new.reach.places.ok.0) c.if-len-ne1.false c.index-goes.ensures in
    subst (λ (before : CandidateView). IsTold c.args.step.now (Some c.take_to.result) (before ∷ []) c.take_to.new.allowed.items) c.self.view_is
    (told_alone c.args.step.now own places goes c.take_to.result c.take_to.new.allowed.items c.in_ok-find_reach.ensures.goes one c.take_to.ensures.told)
