use Rattle.iom_items.proofs.Commanded.{line_is}
use Rattle.iom_items.proofs.commands.command_line.Goals as goal

pub returns-clause-words : goal.returns-clause-words
returns-clause-words c format fits = line_is format c.args.command.now c.line_by_name.result.items c.line_by_name.ensures.text fits
