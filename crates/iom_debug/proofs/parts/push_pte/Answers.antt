use Rattle.std.proofs.Common.{◌∙◌, ◌++◌, ap}
use Rattle.iom_ddt.specs.declared.formats.ContextFormat.TheVariants.{Base}
use Rattle.iom_debug.proofs.parts.push_pte.Goals as goal

pub returns-clause-text : goal.returns-clause-text
returns-clause-text c = c.append.ensures ∙ ap (λ t. c.args.out.now ++ t) (c.as_slice.ensures.value ∙ c.pte_line.ensures.text Base)
