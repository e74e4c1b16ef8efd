use Rattle.std.proofs.Common.{◌∙◌, rules, sym}
use Rattle.iom_regs.specs.declared.views.Mode.TheVariants as mode
use Rattle.iom_ways.proofs.Trees.{over_state}
use Rattle.iom_ways.proofs.ways.explore.Goals as goal

pub returns-in-Off : goal.returns-in-Off
returns-in-Off g c = λ state memory registers.
    over_state c.put_way.result c.args.asking.now.asks c.args.asking.now.held.now state _ _ c.args.asking.now.request.now mode.Off _ _ memory registers (sym c.mode.ensures.mode ∙ c.in-Off.is)
    (search rules)

pub returns-in-Bare : goal.returns-in-Bare
returns-in-Bare g c = λ state memory registers.
    over_state c.put_way-in-Bare.result c.args.asking.now.asks c.args.asking.now.held.now state _ _ c.args.asking.now.request.now mode.Bare _ _ memory registers (sym c.mode.ensures.mode ∙ c.in-Bare.is)
    (c.put_way-in-Bare.ensures c.args.asking.now.asks c.args.asking.now.held.now)

pub returns-in-Levels : goal.returns-in-Levels
returns-in-Levels g c = λ state memory registers.
    over_state c.put_directory.result c.args.asking.now.asks c.args.asking.now.held.now state _ _ c.args.asking.now.request.now _ _ _ memory registers (sym c.mode.ensures.mode ∙ c.in-Levels.is)
    c.put_directory.ensures
