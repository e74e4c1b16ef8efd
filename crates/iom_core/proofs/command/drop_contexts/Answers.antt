use Rattle.std.proofs.Common.{◌≡◌, false}
use Rattle.iom_core.specs.Commands.{is_for_contexts}
use Rattle.iom_core.proofs.Untouched.{contexts_untouched}
use Rattle.iom_core.proofs.command.drop_contexts.Goals as goal

pub returns-else-is_for_contexts : goal.returns-else-is_for_contexts
returns-else-is_for_contexts c =
    let other : is_for_contexts c.args.command.now ≡ false = cc in
    contexts_untouched c.args.command.now c.args.contexts.now other
