use Rattle.std.proofs.Common.{◌≡◌, ◌/◌, arith, false, subst}
use Rattle.std.specs.List.{list_any, range_with_len}
use Rattle.iom_ddt.specs.declared.context.Context.{Context}
use Rattle.iom_every.specs.Frames.{is_root}
use Rattle.iom_every.proofs.Named.{no_root}
use Rattle.iom_every.proofs.frames.meets_root.Goals as goal

pub returns-else-fields-ne0-2 : goal.returns-else-fields-ne0-2
returns-else-fields-ne0-2 c =
    subst (λ (context : Context). false ≡ list_any (λ byte. is_root context (byte / 4096)) (range_with_len c.args.addr c.args.len)) c.context.view_is
    (no_root (range_with_len c.args.addr c.args.len) c.context.inside.fields (omega (arith, c.if-fields-ne0.false)) (omega (arith, c.if-fields-ne0-2.false)))
