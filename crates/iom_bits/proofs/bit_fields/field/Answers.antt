use Rattle.std.proofs.Common.{subst, sym}
use Rattle.iom_bits.specs.Bits.{IsField}
use Rattle.iom_bits.proofs.Fields.{field_is, field_by_mask}
use Rattle.iom_bits.proofs.bit_fields.field.Goals as goal

pub returns-clause-value : goal.returns-clause-value
returns-clause-value c = field_by_mask c.args.word c.args.low c.args.width c.requires.some c.requires.within

pub returns-clause-bits : goal.returns-clause-bits
returns-clause-bits c =
    subst (IsField c.args.word c.args.low c.args.width) (sym (returns-clause-value c)) (field_is c.args.word c.args.low c.args.width)
