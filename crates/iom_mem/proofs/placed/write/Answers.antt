use Rattle.std.proofs.Common.{subst, sym, arith, rules}
use Rattle.std.proofs.lemmas.Grind.{common_steps}
use Rattle.iom_mem.specs.Lent.{memory_of}
use Rattle.iom_mem.specs.Memory.{ReplacesBytes}
use Rattle.iom_mem.proofs.Putting.{put_replaces}
use Rattle.iom_mem.proofs.WordBytes.{words_hold}
use Rattle.iom_mem.proofs.placed.write.Goals as goal

pub returns-in-Some-clause-written : goal.returns-in-Some-clause-written
returns-in-Some-clause-written c = grind (arith, common_steps, words_hold)

pub returns-in-Some-clause-replaces : goal.returns-in-Some-clause-replaces
returns-in-Some-clause-replaces c =
    subst (λ m. ReplacesBytes (memory_of c.args.base c.args.words.now) c.args.addr c.args.bytes.now m) (sym (returns-in-Some-clause-written c))
    (put_replaces (memory_of c.args.base c.args.words.now) c.args.addr c.in-Some.at c.args.bytes.now c.in-Some.ensures.place.0 c.in-Some.ensures.place.1)

pub returns-in-None-clause-unchanged : goal.returns-in-None-clause-unchanged
returns-in-None-clause-unchanged c = search rules
