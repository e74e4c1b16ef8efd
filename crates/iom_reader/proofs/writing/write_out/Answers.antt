use Rattle.std.proofs.Common.{arith}
use Rattle.iom_reader.proofs.Feeding.{front_more}
use Rattle.std.proofs.lemmas.Grind.{common_steps}
use Rattle.iom_reader.proofs.writing.write_out.Goals as goal

pub returns-in-Some-2-clause-front : goal.returns-in-Some-2-clause-front
returns-in-Some-2-clause-front g c =
    front_more _ _ _ c.args.text.now c.in-Some.count c.write_rest.result c.in-Some.ensures.bytes c.write_rest.ensures.front

pub returns-in-Some-clause-ok : goal.returns-in-Some-clause-ok
returns-in-Some-clause-ok g c = grind (arith, common_steps)

pub returns-in-Some-2-clause-ok : goal.returns-in-Some-2-clause-ok
returns-in-Some-2-clause-ok g c = grind (arith, common_steps)
