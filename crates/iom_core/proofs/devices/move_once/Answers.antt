use Rattle.std.proofs.Common.{◌≡◌, ◌∙◌, ℕ, Option, Some, None, sym, ap, rules}
use Rattle.std.specs.Prelude.{IfNone, IfSome}
use Rattle.std.specs.Bool.{OnTrue}
use Rattle.std.specs.Option.{option_map}
use Rattle.iom_virtq.specs.Bus.{Ask, BusReply, is_granted}
use Rattle.iom_blk.specs.Breaking.{broken_by}
use Rattle.iom_blk.specs.Device.{Device}
use Rattle.iom_blk.specs.Phases.{asks, moved_of, took}
use Rattle.iom_blk.specs.Wants.{Answers}
use Rattle.iom_blk.specs.declared.want.Moved.{Moved}
use Rattle.iom_blk.specs.declared.want.Moved.TheVariants.{Idle}
use Rattle.iom_core.specs.Access.{request_of, served, told_of}
use Rattle.iom_messages.specs.Messages.{Messages}
use Rattle.iom_core.specs.State.{Machine, in_front_of}
use Rattle.iom_core.specs.Table.{answer_of, asking_for, moving, told_by_step}
use Rattle.iom_core.specs.declared.witness.Event.{Event}
use Rattle.iom_core.specs.declared.port.Port.{Port}
use Rattle.iom_core.proofs.devices.move_once.Goals as goal

-- a step through a port, as `moving` has it, and what it reports
went : {P S : Type 0} (A B C D : Type 0) (name : P → ℕ) (next : S → Event → S) (machine : P → Machine) (messages : P → Messages) (did : P → ℕ) (witness : P → S) (p q : P) (d e : Device) (told : Moved)
    (asked : Option Ask) → IfNone asked ((told ≡ Idle) × (e ≡ d) × (q ≡ p)) →
    IfSome asked (λ ask. (reply : BusReply) × (A × (name q ≡ name p) × B × D × (did q ≡ did p) × C
    × (reply ≡ (served (machine p) (messages p) (did p) ask).reply) × (machine q ≡ (served (machine p) (messages p) (did p) ask).machine)
    × (messages q ≡ (served (machine p) (messages p) (did p) ask).messages)
    × (witness q ≡ told_of next (witness p) (machine p) (request_of (did p) ask)))
    × (e ≡ took d reply) × (told ≡ moved_of reply.access) × OnTrue (is_granted reply.access) (Answers reply.bytes ask)
    × (e.broken ≡ broken_by d reply)) →
    (told ≡ (moving (machine p) (messages p) (did p) d asked).told) × (machine q ≡ (moving (machine p) (messages p) (did p) d asked).machine)
    × (e ≡ (moving (machine p) (messages p) (did p) d asked).device) × (witness q ≡ told_by_step next (witness p) (machine p) (option_map (asking_for (did p)) asked))
    × (name q ≡ name p) × (messages q ≡ (moving (machine p) (messages p) (did p) d asked).messages)
unfolding moving
went A B C D name next machine messages did witness p q d e told None idle moved =
    (idle.0, ap machine idle.2, idle.1, ap witness idle.2, ap name idle.2, ap messages idle.2)
went A B C D name next machine messages did witness p q d e told (Some ask) idle moved =
    (moved.3 ∙ ap (λ (x : BusReply). moved_of x.access) moved.1.6, moved.1.7, moved.2 ∙ ap (took d) moved.1.6, moved.1.9, moved.1.1, moved.1.8)

pub returns-in-Idle : goal.returns-in-Idle
returns-in-Idle g c =
    let w = went _ _ _ _ (λ (q : Port _ _ _ _ _). g.M.WritableRegion.name q.ram.now) g.W.Witness.next (λ (q : Port _ _ _ _ _). in_front_of (g.M.Region.memory q.ram.now) q.iommu.now)
    (λ (q : Port _ _ _ _ _). q.messages.now)
    (λ (q : Port _ _ _ _ _). q.did) (λ (q : Port _ _ _ _ _). q.witness.now) _ _ _ _ _ _
    c.in-Idle.ensures.idle c.in-Idle.ensures.moved in
    record { answer = ap answer_of w.0; machine = rw (sym w.1) (search rules); messages = rw (sym w.5) (search rules); device = w.2; told = rw (sym w.3) (search rules); borrow = rw (sym w.4) (search rules) }

pub returns-in-Did : goal.returns-in-Did
returns-in-Did g c =
    let w = went _ _ _ _ (λ (q : Port _ _ _ _ _). g.M.WritableRegion.name q.ram.now) g.W.Witness.next (λ (q : Port _ _ _ _ _). in_front_of (g.M.Region.memory q.ram.now) q.iommu.now)
    (λ (q : Port _ _ _ _ _). q.messages.now)
    (λ (q : Port _ _ _ _ _). q.did) (λ (q : Port _ _ _ _ _). q.witness.now) _ _ _ _ _ _
    c.in-Did.ensures.idle c.in-Did.ensures.moved in
    record { answer = ap answer_of w.0; machine = rw (sym w.1) (search rules); messages = rw (sym w.5) (search rules); device = w.2; told = rw (sym w.3) (search rules); borrow = rw (sym w.4) (search rules) }

pub returns-in-Denied : goal.returns-in-Denied
returns-in-Denied g c =
    let w = went _ _ _ _ (λ (q : Port _ _ _ _ _). g.M.WritableRegion.name q.ram.now) g.W.Witness.next (λ (q : Port _ _ _ _ _). in_front_of (g.M.Region.memory q.ram.now) q.iommu.now)
    (λ (q : Port _ _ _ _ _). q.messages.now)
    (λ (q : Port _ _ _ _ _). q.did) (λ (q : Port _ _ _ _ _). q.witness.now) _ _ c.args.device.now _ _
    (asks c.args.device.now) c.in-Denied.ensures.idle c.in-Denied.ensures.moved in
    record { answer = rw (sym (ap answer_of w.0)) (search rules); machine = rw (sym w.1) (search rules); messages = rw (sym w.5) (search rules); device = w.2; told = rw (sym w.3) (search rules); borrow = rw (sym w.4) (search rules) }

pub returns-in-Outside : goal.returns-in-Outside
returns-in-Outside g c =
    let w = went _ _ _ _ (λ (q : Port _ _ _ _ _). g.M.WritableRegion.name q.ram.now) g.W.Witness.next (λ (q : Port _ _ _ _ _). in_front_of (g.M.Region.memory q.ram.now) q.iommu.now)
    (λ (q : Port _ _ _ _ _). q.messages.now)
    (λ (q : Port _ _ _ _ _). q.did) (λ (q : Port _ _ _ _ _). q.witness.now) _ _ _ _ _ _
    c.in-Outside.ensures.idle c.in-Outside.ensures.moved in
    record { answer = ap answer_of w.0; machine = rw (sym w.1) (search rules); messages = rw (sym w.5) (search rules); device = w.2; told = rw (sym w.3) (search rules); borrow = rw (sym w.4) (search rules) }
