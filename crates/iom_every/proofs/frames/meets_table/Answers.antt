use Rattle.std.proofs.Common.{◌≡◌, ◌∙◌, ◌/◌, false, subst}
use Rattle.std.specs.List.{list_any, range_with_len}
use Rattle.iom_ddt.specs.declared.context.Context.{Context}
use Rattle.iom_every.specs.Frames.{is_of_table}
use Rattle.iom_every.proofs.Named.{no_table}
use Rattle.iom_every.proofs.frames.meets_table.Goals as goal

pub returns-else-msi : goal.returns-else-msi
returns-else-msi c =
    c.if-msi.false
    ∙ subst (λ (context : Context). false ≡ list_any (λ byte. is_of_table context.msi (byte / 4096)) (range_with_len c.args.addr c.args.len)) c.context.view_is
    (no_table (range_with_len c.args.addr c.args.len) c.context.inside.fields.msi c.if-msi.false)
