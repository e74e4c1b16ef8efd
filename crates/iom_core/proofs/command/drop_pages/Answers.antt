use Rattle.std.proofs.Common.{◌≡◌, false}
use Rattle.iom_core.specs.Commands.{is_for_pages}
use Rattle.iom_core.proofs.Untouched.{pages_untouched}
use Rattle.iom_core.proofs.command.drop_pages.Goals as goal

pub returns-else-is_for_pages : goal.returns-else-is_for_pages
returns-else-is_for_pages c =
    let other : is_for_pages c.args.command.now ≡ false = cc in
    pages_untouched c.args.command.now c.args.pages.now other
