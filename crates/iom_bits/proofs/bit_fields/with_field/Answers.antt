use Rattle.iom_bits.proofs.Fields.{replaced_once, with_field_is, with_field_by_mask}
use Rattle.iom_bits.proofs.bit_fields.with_field.Goals as goal

pub returns-clause-replaces : goal.returns-clause-replaces
returns-clause-replaces c =
    with_field_by_mask c.args.word c.args.low c.args.width c.args.value c.ranges.word.fits c.requires.some c.requires.within c.requires.fits

pub returns-clause-value : goal.returns-clause-value
returns-clause-value c =
    replaced_once c.args.word c.args.low c.args.width c.args.value _ _ (returns-clause-replaces c)
    (with_field_is c.args.word c.args.low c.args.width c.args.value c.requires.fits)
