use Rattle.std.proofs.Common.{◌++◌, ◌∙◌, ap, sym}
use Rattle.iom_debug.specs.Placed.{placed}
use Rattle.iom_check.specs.Scores.{score_of}
use Rattle.iom_check.specs.Scoring.{Told}
use Rattle.iom_check.proofs.Telling.{ended_noted}
use Rattle.iom_check.proofs.scoring.Scoring.note_end.Goals as goal

pub returns-then-not-self-clause-text : goal.returns-then-not-self-clause-text
returns-then-not-self-clause-text c =
    c.note.ensures.text
    ∙ ap (λ (t : Told). c.args.self.now.page.items ++ t.said)
    (sym (ended_noted (score_of c.args.self.now) (placed c.args.place.now) c.if-not-self.true))
