use Rattle.std.proofs.Common.{◌≡◌, ◌∙◌, refl, ap, sym, subst}
use Rattle.iom_ddt.specs.Formats.{context_format}
use Rattle.iom_tables.specs.Fetches.{IsRead}
use Rattle.iom_tables.specs.declared.part.Part.{Part}
use Rattle.iom_debug.specs.Walks.{part_text}
use Rattle.iom_debug.proofs.Alike.{told_alike}
use Rattle.iom_explain.specs.Walking.{walk_line}
use Rattle.iom_explain.proofs.walk.PartLine.renew.Goals as goal

pub invariant_of-self : goal.invariant_of-self
invariant_of-self c = λ inner m request same is.
    let features : c.args.platform.now.machine.registers.features ≡ m.registers.features = cc in
    c.line_of-self-inside.ensures ∙ ap walk_line (c.put_part.ensures.text
    ∙ told_alike c.args.platform.now.machine m c.args.request.now request c.args.part.now c.args.part.now inner refl features c.requires.read is)

pub returns-then-stands : goal.returns-then-stands
returns-then-stands c =
    let m = c.args.platform.now.machine in
    let same = c.stands.ensures c.if-stands.true in
    let features : m.registers.features ≡ c.self.inside.features = cc in
    let read = subst (λ (p : Part). IsRead (context_format m.registers.features) m.memory p) (sym same.2) c.requires.read in
    sym c.self.view_is ∙ c.self.invariant same.1 m c.args.request.now features read
    ∙ ap (λ (p : Part). walk_line (part_text m c.args.request.now p)) same.2
