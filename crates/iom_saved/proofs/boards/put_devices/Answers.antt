use Rattle.std.proofs.Common.{◌<◌, ◌≤◌, ℕ, length, arith}
use Rattle.iom_blk.specs.Device.{Device}
use Rattle.iom_saved.specs.Kept.{IsDevice, IsDeviceIf}
use Rattle.iom_saved.proofs.Pieces.{next_device, whole_step}
use Rattle.iom_saved.proofs.Taken.{each_all, each_own, each_step}
use Rattle.iom_saved.proofs.boards.put_devices.Goals as goal

pub loop-n-preserved : goal.loop-n-preserved
loop-n-preserved c =
    let within : c.loop-n.n < length c.args.board.now.devices = omega (arith, c.device_count.ensures.count, c.device_count-n-end.ensures.count) in
    record {
      put = next_device c.args.board.now.devices c.loop-n.n _ _ _ within c.loop-n.invariant.put c.in_ok-put_numbered.ensures.words;
      whole = whole_step c.args.board.now.devices c.loop-n.n within c.loop-n.invariant.whole c.in_ok-put_numbered.ensures.whole;
      kept = each_step (λ (own : ℕ × Device). IsDevice own.1) IsDeviceIf (λ own is. is) c.args.board.now.devices c.loop-n.n within c.loop-n.invariant.kept
          c.in_ok-put_numbered.ensures.kept;
    }

pub returns-clause-kept : goal.returns-clause-kept
returns-clause-kept c =
    let past : length c.args.board.now.devices ≤ c.loop-n.n = omega (arith, c.device_count-n-end.ensures.count, c.loop-n-test.false) in
    record {
      few = omega (arith, c.device_count.ensures.count, c.device_count.ensures.few);
      each = each_own c.args.board.now.devices c.device_count.ensures.fit
          (each_all (λ (own : ℕ × Device). IsDevice own.1) c.args.board.now.devices c.loop-n.n past c.loop-n.invariant.kept);
    }
