use Rattle.std.proofs.Common.{List, [], ◌∷◌, None, subst, sym}
use Rattle.iom_core.specs.declared.step.Answer.TheVariants as answer
use Rattle.iom_held.specs.declared.kept.Kept.{Kept}
use Rattle.iom_judge.specs.Candidates.{AreCandidates, CandidateView}
use Rattle.iom_judge.proofs.Judged.{begins}
use Rattle.iom_judge.proofs.candidate.Candidate.first.Goals as goal

pub returns-clause-begins : goal.returns-clause-begins
returns-clause-begins c =
    let with_held : List Kept → CandidateView = λ held. record { platform = c.args.platform; held = held; answer = answer.Done; goes = None } in
    subst (λ (held : List Kept). AreCandidates c.args.platform ([] ∷ []) (with_held held ∷ [])) (sym c.new.ensures) (begins c.args.platform)
