use Rattle.std.proofs.Common.{◌≡◌, ◌∙◌, ◌||◌, Bool, ap, arith, sym}
use Rattle.std.proofs.lemmas.Grind.{common_steps}
use Rattle.std.specs.Prelude.{is_some}
use Rattle.iom_held.proofs.Sound.{sound_put}
use Rattle.iom_held.proofs.entries.HeldEntries.put_all.Goals as goal
use Rattle.iom_held.proofs.entries.HeldEntries.put_all.Goals.{then-self, else-self}

pub invariant_of-self-2 : goal.invariant_of-self-2
invariant_of-self-2 c =
    let named : c.if-self.self ≡ (c.self.inside.named || is_some c.args.unfenced) = elim c.if-self.branch [
      | then-self w ↦ w.self-is ∙ w.if-self.true ∙ ap (λ (b : Bool). b || is_some c.args.unfenced) (sym w.if-self.true)
      | else-self w ↦ w.self-is ∙ w.is_some-self-inside.ensures ∙ ap (λ (b : Bool). b || is_some c.args.unfenced) (sym w.if-self.false)
    ] in
    sound_put c.self.inside.named c.if-self.self c.self.inside.shelves.items c.grow_in_time-self-inside.new.shelves.items c.args.self.now c.args.number c.args.unfenced c.args.entries.now c.self.invariant c.self.view_is
    (grind (arith, common_steps)) c.grow_in_time-self-inside.ensures.in_place named
