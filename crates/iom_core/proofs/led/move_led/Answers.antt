use Rattle.std.proofs.Common.{◌≡◌, ◌∙◌, ℕ, Option, Some, None, Result, sym, ap, rules}
use Rattle.std.specs.Prelude.{IfNone, IfSome}
use Rattle.std.specs.Bool.{OnTrue}
use Rattle.iom_virtq.specs.Bus.{Ask, BusReply, is_granted}
use Rattle.iom_blk.specs.Breaking.{broken_by}
use Rattle.iom_blk.specs.Device.{Device}
use Rattle.iom_blk.specs.Phases.{asks, moved_of, took}
use Rattle.iom_blk.specs.Wants.{Answers}
use Rattle.iom_blk.specs.declared.want.Moved.{Moved}
use Rattle.iom_blk.specs.declared.want.Moved.TheVariants.{Idle}
use Rattle.iom_core.specs.Access.{effect_at, request_of}
use Rattle.iom_core.specs.Rows.{machine_by, moving_at}
use Rattle.iom_messages.specs.Messages.{Messages}
use Rattle.iom_core.specs.State.{Machine, in_front_of}
use Rattle.iom_core.specs.Table.{answer_of}
use Rattle.iom_core.specs.declared.access.Denial.{Denial}
use Rattle.iom_core.specs.declared.led.LedPort.{LedPort}
use Rattle.iom_core.proofs.led.move_led.Goals as goal

-- a step through a port that leads it, as `moving_at` has it
went : {P : Type 0} (A B C : Type 0) (name : P → ℕ) (machine : P → Machine) (messages : P → Messages) (did : P → ℕ) (goes : P → Result ℕ Denial) (p q : P) (d e : Device) (told : Moved)
    (asked : Option Ask) → IfNone asked ((told ≡ Idle) × (e ≡ d) × (q ≡ p)) →
    IfSome asked (λ ask. (reply : BusReply) × (A × (name q ≡ name p) × B × C
    × (reply ≡ (effect_at (machine p) (messages p) (request_of (did p) ask) ask (goes p)).reply)
    × (machine q ≡ machine_by (machine p) (effect_at (machine p) (messages p) (request_of (did p) ask) ask (goes p)))
    × (messages q ≡ (effect_at (machine p) (messages p) (request_of (did p) ask) ask (goes p)).messages))
    × (e ≡ took d reply) × (told ≡ moved_of reply.access) × OnTrue (is_granted reply.access) (Answers reply.bytes ask)
    × (e.broken ≡ broken_by d reply)) →
    (told ≡ (moving_at (machine p) (messages p) (did p) d asked (goes p)).told) × (machine q ≡ (moving_at (machine p) (messages p) (did p) d asked (goes p)).machine)
    × (e ≡ (moving_at (machine p) (messages p) (did p) d asked (goes p)).device) × (name q ≡ name p)
    × (messages q ≡ (moving_at (machine p) (messages p) (did p) d asked (goes p)).messages)
unfolding moving_at
went A B C name machine messages did goes p q d e told None idle moved = (idle.0, ap machine idle.2, idle.1, ap name idle.2, ap messages idle.2)
went A B C name machine messages did goes p q d e told (Some ask) idle moved =
    (moved.3 ∙ ap (λ (x : BusReply). moved_of x.access) moved.1.4, moved.1.5, moved.2 ∙ ap (took d) moved.1.4, moved.1.1, moved.1.6)

pub returns-in-Idle : goal.returns-in-Idle
returns-in-Idle g c =
    let w = went _ _ _ (λ (q : LedPort _ _ _). g.M.WritableRegion.name q.ram.now) (λ (q : LedPort _ _ _). in_front_of (g.M.Region.memory q.ram.now) q.iommu.now)
    (λ (q : LedPort _ _ _). q.messages.now)
    (λ (q : LedPort _ _ _). q.did) (λ (q : LedPort _ _ _). q.goes) _ _ _ _ _ _
    c.in-Idle.ensures.idle c.in-Idle.ensures.moved in
    record { answer = ap answer_of w.0; machine = rw (sym w.1) (search rules); messages = rw (sym w.4) (search rules); device = w.2; borrow = rw (sym w.3) (search rules) }

pub returns-in-Did : goal.returns-in-Did
returns-in-Did g c =
    let w = went _ _ _ (λ (q : LedPort _ _ _). g.M.WritableRegion.name q.ram.now) (λ (q : LedPort _ _ _). in_front_of (g.M.Region.memory q.ram.now) q.iommu.now)
    (λ (q : LedPort _ _ _). q.messages.now)
    (λ (q : LedPort _ _ _). q.did) (λ (q : LedPort _ _ _). q.goes) _ _ _ _ _ _
    c.in-Did.ensures.idle c.in-Did.ensures.moved in
    record { answer = ap answer_of w.0; machine = rw (sym w.1) (search rules); messages = rw (sym w.4) (search rules); device = w.2; borrow = rw (sym w.3) (search rules) }

pub returns-in-Denied : goal.returns-in-Denied
returns-in-Denied g c =
    let w = went _ _ _ (λ (q : LedPort _ _ _). g.M.WritableRegion.name q.ram.now) (λ (q : LedPort _ _ _). in_front_of (g.M.Region.memory q.ram.now) q.iommu.now)
    (λ (q : LedPort _ _ _). q.messages.now)
    (λ (q : LedPort _ _ _). q.did) (λ (q : LedPort _ _ _). q.goes) _ _ c.args.device.now _ _ (asks c.args.device.now)
    c.in-Denied.ensures.idle c.in-Denied.ensures.moved in
    record { answer = rw (sym (ap answer_of w.0)) (search rules); machine = rw (sym w.1) (search rules); messages = rw (sym w.4) (search rules); device = w.2; borrow = rw (sym w.3) (search rules) }

pub returns-in-Outside : goal.returns-in-Outside
returns-in-Outside g c =
    let w = went _ _ _ (λ (q : LedPort _ _ _). g.M.WritableRegion.name q.ram.now) (λ (q : LedPort _ _ _). in_front_of (g.M.Region.memory q.ram.now) q.iommu.now)
    (λ (q : LedPort _ _ _). q.messages.now)
    (λ (q : LedPort _ _ _). q.did) (λ (q : LedPort _ _ _). q.goes) _ _ _ _ _ _
    c.in-Outside.ensures.idle c.in-Outside.ensures.moved in
    record { answer = ap answer_of w.0; machine = rw (sym w.1) (search rules); messages = rw (sym w.4) (search rules); device = w.2; borrow = rw (sym w.3) (search rules) }
