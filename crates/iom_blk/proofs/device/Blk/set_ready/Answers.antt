use Rattle.std.proofs.Common.{rules}
use Rattle.iom_blk.proofs.Ready.{still}
use Rattle.iom_blk.proofs.device.Blk.set_ready.Goals as goal

pub invariant_of-self-then-is_queue : goal.invariant_of-self-then-is_queue
invariant_of-self-then-is_queue c = record {
  disk = c.self.invariant.disk;
  queue = λ _. search rules;
  phase = still _ _ _ _ _ _ _ c.self.invariant.phase;
  interrupts = c.self.invariant.interrupts;
  broken = c.self.invariant.broken;
}
