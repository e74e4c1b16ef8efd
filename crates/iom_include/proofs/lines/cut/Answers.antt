use Rattle.std.proofs.lemmas.List.{take_rest}
use Rattle.iom_include.proofs.Cuts.{first_ended, first_of_more, first_front, none_first}
use Rattle.iom_include.proofs.lines.cut.Goals as goal

pub returns-in-Some-clause-ended : goal.returns-in-Some-clause-ended
returns-in-Some-clause-ended c = rw take_rest (first_ended c.args.text.now c.in-Some.at c.in-Some.ensures)

pub returns-in-Some-clause-lines : goal.returns-in-Some-clause-lines
returns-in-Some-clause-lines c more = rw take_rest (first_of_more c.args.text.now more c.in-Some.at c.in-Some.ensures)

pub returns-in-Some-clause-front : goal.returns-in-Some-clause-front
returns-in-Some-clause-front c = first_front c.args.text.now c.in-Some.at c.in-Some.ensures

pub returns-in-None-clause-none : goal.returns-in-None-clause-none
returns-in-None-clause-none c = none_first c.args.text.now c.in-None.ensures
