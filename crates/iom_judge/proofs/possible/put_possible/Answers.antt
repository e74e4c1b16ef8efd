use Rattle.iom_judge.specs.Candidates.{CandidateView}
use Rattle.iom_owed.proofs.Results.{on_ok}
use Rattle.iom_judge.proofs.Allowed.{shown_there}
use Rattle.iom_judge.proofs.possible.put_possible.Goals as goal

pub returns-clause-shown : goal.returns-clause-shown
returns-clause-shown c =
    let own : CandidateView = record { platform = c.candidate.inside.platform; held = c.candidate.inside.held; answer = c.candidate.inside.answer; goes = c.candidate.inside.goes } in
    on_ok c.put_answers.result _ _
    (λ told seen. shown_there own c.args.candidate.now c.find_reach.new.reach.places.items c.deref.result.now c.args.step.now seen _ _ c.candidate.view_is c.deref.ensures.value c.in_ok-find_reach.ensures.goes (told seen))
    c.put_answers.ensures.shown
