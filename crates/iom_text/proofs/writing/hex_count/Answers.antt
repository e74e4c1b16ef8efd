use Rattle.iom_text.proofs.Digits.{counted, counted_below}
use Rattle.std.proofs.Common.{rules}
use Rattle.iom_text.proofs.writing.hex_count.Goals as goal

pub returns-clause-count : goal.returns-clause-count
returns-clause-count c = search (rules, counted)

pub returns-clause-below : goal.returns-clause-below
returns-clause-below c = counted_below c.args.number c.ilog2.result c.ilog2.ensures.next_power_gt

pub returns-clause-most : goal.returns-clause-most
returns-clause-most c = search rules
