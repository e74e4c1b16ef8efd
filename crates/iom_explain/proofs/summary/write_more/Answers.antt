use Rattle.std.proofs.Common.{◌++◌, get_or, rules, arith}
use Rattle.std.proofs.KnownBytes.{Appends-trans}
use Rattle.iom_explain.specs.Explaining.{more_text}
use Rattle.iom_explain.proofs.Pieces.{one_done}
use Rattle.iom_explain.proofs.summary.write_more.Goals as goal

pub loop-number-preserved : goal.loop-number-preserved
loop-number-preserved g c =
    let l = c.loop-number in
    let said = more_text c.args.marks.now (get_or c.args.numbers.now l.number-index 0) in
    record {
      can = search rules;
      same_writer = search rules;
      wrote = (
        l.invariant.wrote.0 ++ said,
        Appends-trans _ _ _ _ _ l.invariant.wrote.1 (rw (c.as_slice.ensures.value, c.put_more.ensures.text, c.clear.ensures) at c.in_ok-write_told.ensures.ok),
        one_done (more_text c.args.marks.now) c.args.numbers.now l.number-index 0 l.invariant.wrote.0 (omega arith) l.invariant.wrote.2,
      );
    }
