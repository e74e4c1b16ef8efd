use Rattle.std.proofs.Common.{◌++◌, ◌∙◌, ap, append_assoc}
use Rattle.iom_debug.specs.Placed.{placed}
use Rattle.iom_check.specs.Reporting.{tally_told}
use Rattle.iom_check.specs.Scores.{score_of}
use Rattle.iom_check.specs.Scoring.{Score, ended}
use Rattle.iom_check.proofs.scoring.Scoring.end.Goals as goal

pub returns-clause-text : goal.returns-clause-text
returns-clause-text c =
    let out = c.args.self.now.page.items in
    let last = ended (score_of c.args.self.now) (placed c.args.place.now) in
    let told = λ (s : Score). tally_told s.rules.style s.name s.tally.passed s.tally.failed in
    c.push_tally.ensures
    ∙ ap (λ l. l ++ told (score_of c.note_end.new.self)) c.note_end.ensures.text
    ∙ ap (λ s. (out ++ last.said) ++ told s) c.note_end.ensures.score
    ∙ append_assoc out last.said (told last.after)
