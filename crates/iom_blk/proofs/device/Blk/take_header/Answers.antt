use Rattle.std.proofs.Common.{◌≡◌, ◌∙◌, sym, ap, arith}
use Rattle.iom_blk.specs.Device.{Device, sectors}
use Rattle.iom_blk.proofs.Served.{judged_holds}
use Rattle.iom_blk.proofs.device.Blk.take_header.Goals as goal

pub invariant_of-self-2 : goal.invariant_of-self-2
invariant_of-self-2 c =
    let size : c.sectors-sectors.result ≡ sectors c.self.inside.disk.items =
    c.sectors-sectors.ensures.value ∙ sym (ap (λ (d : Device). sectors d.disk) c.self.view_is) in
    rw (c.judge-self-inside.ensures.chain, c.judge-self-inside.ensures.same_header) record {
      disk = c.self.invariant.disk;
      queue = c.self.invariant.queue;
      phase = judged_holds _ _ _ _ _ _ _ _ _ c.self.invariant.phase (ap (λ (d : Device). d.phase) c.self.view_is ∙ c.requires.phase)
          (omega (arith, c.len.ensures.value, c.len.ensures.fits)) (rw (← size) c.judge-self-inside.ensures.phase);
      interrupts = c.self.invariant.interrupts;
      broken = c.self.invariant.broken;
    }
