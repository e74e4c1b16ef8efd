use Rattle.std.proofs.Common.{◌∙◌, sym}
use Rattle.iom_tool.specs.Output.{steps_of}
use Rattle.iom_tool.proofs.Steps.{unanswered, answered, moved}
use Rattle.iom_tool.proofs.console.ConsoleAnswerer.answer.Goals as goal

pub returns-then-not-answer_to-clause-next : goal.returns-then-not-answer_to-clause-next
returns-then-not-answer_to-clause-next g c =
    unanswered c.args.line.now _ _
    (moved c.args.self.now.platform.now _ c.args.self.now.trace.now _ (steps_of c.args.line.now) c.answer_to.ensures.state c.answer_to.ensures.trace)
    (sym c.answer_to.ensures.said ∙ c.if-not-answer_to.true)

pub returns-clause-next : goal.returns-clause-next
returns-clause-next g c =
    answered c.args.line.now _ _ _ c.write_answer.result
    (moved c.args.self.now.platform.now _ c.args.self.now.trace.now _ (steps_of c.args.line.now) c.answer_to.ensures.state c.answer_to.ensures.trace)
    (sym c.answer_to.ensures.said ∙ c.if-not-answer_to.false) c.answer_to.ensures.reply c.write_answer.ensures.ok c.write_answer.ensures.front
