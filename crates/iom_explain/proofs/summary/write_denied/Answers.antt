use Rattle.std.proofs.Common.{◌++◌, get_or, rules, arith}
use Rattle.std.proofs.KnownBytes.{Appends-trans}
use Rattle.iom_explain.specs.Explaining.{denied_text}
use Rattle.iom_explain.proofs.Pieces.{one_done}
use Rattle.iom_explain.proofs.summary.write_denied.Goals as goal

pub loop-cause-preserved : goal.loop-cause-preserved
loop-cause-preserved g c =
    let l = c.loop-cause in
    let said = denied_text (get_or c.args.denied.now l.cause-index (0, 0)) in
    record {
      can = search rules;
      same_writer = search rules;
      wrote = (
        l.invariant.wrote.0 ++ said,
        Appends-trans _ _ _ _ _ l.invariant.wrote.1 (rw (c.as_slice.ensures.value, c.put_denied.ensures.text, c.clear.ensures) at c.in_ok-write_told.ensures.ok),
        one_done denied_text c.args.denied.now l.cause-index (0, 0) l.invariant.wrote.0 (omega arith) l.invariant.wrote.2,
      );
    }
