use Rattle.std.proofs.Common.{is_none, ◌∙◌, ap, arith}
use Rattle.iom_reader.proofs.Feeding.{wrote_more}
use Rattle.std.proofs.lemmas.Grind.{common_steps}
use Rattle.iom_reader.proofs.writing.write_rest.Goals as goal

pub loop-rest-preserved : goal.loop-rest-preserved
loop-rest-preserved g c = record {
  wrote = wrote_more _ _ _ _ _ c.in-Some.count c.loop-rest.invariant.wrote (rw c.in-Some.is at c.write.ensures.bytes);
  can = c.write.ensures.failed ∙ ap is_none c.in-Some.is;
  same_writer = c.write.ensures.same_writer ∙ c.loop-rest.invariant.same_writer;
}

pub returns-clause-ok : goal.returns-clause-ok
returns-clause-ok g c = grind (arith, common_steps)
