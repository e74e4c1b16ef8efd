use Rattle.std.proofs.Common.{arith}
use Rattle.std.proofs.lemmas.Grind.{common_steps}
use Rattle.iom_held.proofs.Sound.{sound_left}
use Rattle.iom_held.proofs.entries.HeldEntries.follow.Goals as goal

pub invariant_of-self : goal.invariant_of-self
invariant_of-self c =
    sound_left c.self.inside.named c.may_be_named-self-inside.result c.self.inside.shelves.items _ c.args.self.now c.args.number c.args.command c.self.invariant c.self.view_is (grind (arith, common_steps)) (grind (arith, common_steps))
    (c.may_be_named-self-inside.ensures c.args.number _ c.self.invariant.spared)
