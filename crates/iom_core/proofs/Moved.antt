-- What a step of a block device, and an access to its registers, change, take and refuse.
use Rattle.std.proofs.Common.{◌≡◌, ◌&&◌, ℕ, List, [], Bool, true, false, not, Option, Some, None, Result, Ok, Err, if◌then◌else◌, refl, sym, ap, subst}
use Rattle.std.specs.Prelude.{slice_get, slice_set}
use Rattle.std.specs.Option.{option_map}
use Rattle.iom_mem.specs.Memory.{bytes_at}
use Rattle.iom_virtq.specs.Bus.{Ask, Read, Write, BusReply, reply_of}
use Rattle.iom_virtq.specs.declared.access.Access.{Access}
use Rattle.iom_virtq.specs.declared.access.Access.TheVariants as access
use Rattle.iom_blk.specs.Device.{Device}
use Rattle.iom_blk.specs.Phases.{asks, moved_of, took}
use Rattle.iom_blk.specs.Registers.{is_legal, read, with_write}
use Rattle.iom_blk.proofs.Breaks.{broken_is_broken}
use Rattle.iom_core.specs.State.{State, Machine, with_device}
use Rattle.iom_messages.specs.Messages.{Messages, can_put}
use Rattle.iom_core.specs.Access.{effect, effect_at, reply_with, served}
use Rattle.iom_core.specs.declared.access.Denial.{Denial}
use Rattle.iom_core.specs.declared.access.Request.{Request}
use Rattle.iom_core.specs.Table.{Asking, Handled, address_in, answer_of, asked_by, asking_for, dev_read, dev_write, dev_written, device_step, fits, is_size, moving, request_in, value_or_bad}
use Rattle.iom_core.specs.Reach.{BreaksBy, Carries, ChangesDevice, ChangesOnly, GoesOnIn, IsBroken, RefusesAlone, SendsBy, Takes, TakesBy, span_of_access}
use Rattle.iom_core.specs.declared.step.Answer.TheVariants.{Done, BadAccess, Misuse}
use Rattle.iom_core.proofs.Effects.{Leaves, denied_leaves, effect_changes, effect_sends, read_leaves, write_leaves}
use Rattle.iom_signals.proofs.Puts.{same_memory}
use Rattle.iom_core.proofs.Slots.{changes_device, get_set, same_devices, set_same}

pub moved_changes : (state : State) (dev : ℕ) (slot : Option (ℕ × Device)) →
    ChangesOnly (span_of_access state (asked_by slot)) state.machine.memory (device_step state dev slot).state.machine.memory
unfolding moving effect
moved_changes state dev None = same_memory state.machine.memory []
moved_changes state dev (Some own) = elim (asks own.1) as (λ (o : Option Ask).
    ChangesOnly (span_of_access state (option_map (asking_for own.0) o)) state.machine.memory (moving state.machine state.messages own.0 own.1 o).machine.memory) [
      | None ↦ same_memory state.machine.memory []
      | Some ask ↦ effect_changes state.machine state.messages (request_in (asking_for own.0 ask)) ask (address_in state (asking_for own.0 ask))
    ]

pub moved_sends : (state : State) (dev : ℕ) (slot : Option (ℕ × Device)) →
    SendsBy state (asked_by slot) state.messages (device_step state dev slot).state.messages
unfolding moving effect
moved_sends state dev None = refl
moved_sends state dev (Some own) = elim (asks own.1) as (λ (o : Option Ask).
    SendsBy state (option_map (asking_for own.0) o) state.messages (moving state.machine state.messages own.0 own.1 o).messages) [
      | None ↦ refl
      | Some ask ↦ effect_sends state.machine state.messages (request_in (asking_for own.0 ask)) ask (address_in state (asking_for own.0 ask))
    ]

-- its answer has no bytes
told_takes : (state : State) (asking : Asking) (access : Access) →
    TakesBy state.machine.memory asking.ask (address_in state asking) (answer_of (moved_of access))
told_takes state asking access.Ok = tt
told_takes state asking (access.Denied cause) = tt
told_takes state asking access.Outside = tt

pub moved_takes : (state : State) (dev : ℕ) (slot : Option (ℕ × Device)) → Takes state (asked_by slot) (device_step state dev slot).answer
unfolding moving
moved_takes state dev None = tt
moved_takes state dev (Some own) = elim (asks own.1) as (λ (o : Option Ask).
    Takes state (option_map (asking_for own.0) o) (answer_of (moving state.machine state.messages own.0 own.1 o).told)) [
      | None ↦ tt
      | Some ask ↦ told_takes state (asking_for own.0 ask) (served state.machine state.messages own.0 ask).reply.access
    ]

-- the device alone is another
pub moved_devices : (state : State) (dev : ℕ) → ChangesDevice dev state.devices (device_step state dev (slice_get state.devices dev)).state.devices
moved_devices state dev =
    let Goal : Option (ℕ × Device) → Type 0 = λ o. slice_get state.devices dev ≡ o → ChangesDevice dev state.devices (device_step state dev o).state.devices in
    let by_slot : (o : Option (ℕ × Device)) → Goal o = λ o. elim o as Goal [
      | None ↦ λ is. same_devices state.devices dev
      | Some own ↦ λ is. changes_device state.devices dev own (moving state.machine state.messages own.0 own.1 (asks own.1)).device is
    ] in by_slot (slice_get state.devices dev) refl

pub written_devices : (state : State) (dev off size value : ℕ) →
    ChangesDevice dev state.devices (dev_written state dev (slice_get state.devices dev) off size value).state.devices
written_devices state dev off size value =
    let Goal : Option (ℕ × Device) → Type 0 = λ o. slice_get state.devices dev ≡ o → ChangesDevice dev state.devices (dev_written state dev o off size value).state.devices in
    let by_slot : (o : Option (ℕ × Device)) → Goal o = λ o. elim o as Goal [
      | None ↦ λ is. same_devices state.devices dev
      | Some own ↦ λ is. changes_device state.devices dev own (dev_write own.1 off size value).device is
    ] in by_slot (slice_get state.devices dev) refl

-- it goes on by the reply to what it asks
effect_carries : (m : Machine) (messages : Messages) (request : Request) (ask : Ask) (led_to : Result ℕ Denial) →
    Carries m.memory ask led_to (effect_at m messages request ask led_to).reply
effect_carries m messages request (Read iova count) (Ok addr) =
    let Goal : Option (List ℕ) → Type 0 = λ o. bytes_at m.memory addr count ≡ o → Carries m.memory (Read iova count) (Ok addr) (reply_with o) in
    let by_place : (o : Option (List ℕ)) → Goal o = λ o. elim o as Goal [
      | Some bytes ↦ λ is granted. is
      | None ↦ λ is granted. absurd (cc)
    ] in by_place (bytes_at m.memory addr count) refl
effect_carries m messages request (Write iova bytes) (Ok addr) = tt
effect_carries m messages request (Read iova count) (Err denial) = refl
effect_carries m messages request (Write iova bytes) (Err denial) = refl

goes_on_at : (state : State) (dev : ℕ) (own : ℕ × Device) → slice_get state.devices dev ≡ Some own → (asking : Option Ask) →
    GoesOnIn state (option_map (asking_for own.0) asking) (answer_of (moving state.machine state.messages own.0 own.1 asking).told) (Some own)
    (slice_get (slice_set state.devices dev (own.0, (moving state.machine state.messages own.0 own.1 asking).device)) dev)
unfolding moving effect
goes_on_at state dev own is None = get_set state.devices dev own own is
goes_on_at state dev own is (Some ask) =
    let reply = (served state.machine state.messages own.0 ask).reply in
    let asking = asking_for own.0 ask in
    subst (λ (o : Option (ℕ × Device)). GoesOnIn state (Some asking) (answer_of (moved_of reply.access)) (Some own) o)
    (sym (get_set state.devices dev own (own.0, took own.1 reply) is)) (record {
      reply = reply;
      carries = effect_carries state.machine state.messages (request_in asking) ask (address_in state asking);
      told = refl;
      took = refl;
    })

pub moved_goes_on : (state : State) (dev : ℕ) → GoesOnIn state (asked_by (slice_get state.devices dev)) (device_step state dev (slice_get state.devices dev)).answer
    (slice_get state.devices dev) (slice_get (device_step state dev (slice_get state.devices dev)).state.devices dev)
moved_goes_on state dev =
    let Goal : Option (ℕ × Device) → Type 0 = λ o. slice_get state.devices dev ≡ o →
    GoesOnIn state (asked_by o) (device_step state dev o).answer o (slice_get (device_step state dev o).state.devices dev) in
    let by_slot : (o : Option (ℕ × Device)) → Goal o = λ o. elim o as Goal [
      | None ↦ λ is. is
      | Some own ↦ λ is. goes_on_at state dev own is (asks own.1)
    ] in by_slot (slice_get state.devices dev) refl

-- a refusal breaks it
told_breaks : (device : Device) (reply : BusReply) (slot : Option (ℕ × Device)) (did : ℕ) → slot ≡ Some (did, took device reply) →
    BreaksBy (answer_of (moved_of reply.access)) slot
unfolding took
told_breaks device reply slot did is =
    elim reply.access as (λ (a : Access). reply.access ≡ a → BreaksBy (answer_of (moved_of a)) slot) [
      | access.Ok ↦ λ e. tt
      | access.Denied cause ↦ λ e. subst IsBroken (sym is) (rw e (broken_is_broken device _))
      | access.Outside ↦ λ e. subst IsBroken (sym is) (rw e (broken_is_broken device _))
    ] refl

pub moved_breaks : (state : State) (dev : ℕ) →
    BreaksBy (device_step state dev (slice_get state.devices dev)).answer (slice_get (device_step state dev (slice_get state.devices dev)).state.devices dev)
unfolding moving
moved_breaks state dev =
    let Goal : Option (ℕ × Device) → Type 0 = λ o. slice_get state.devices dev ≡ o → BreaksBy (device_step state dev o).answer (slice_get (device_step state dev o).state.devices dev) in
    let by_slot : (o : Option (ℕ × Device)) → Goal o = λ o. elim o as Goal [
      | None ↦ λ is. tt
      | Some own ↦ λ is. elim (asks own.1) as (λ (o : Option Ask). BreaksBy (answer_of (moving state.machine state.messages own.0 own.1 o).told)
          (slice_get (slice_set state.devices dev (own.0, (moving state.machine state.messages own.0 own.1 o).device)) dev)) [
            | None ↦ tt
            | Some ask ↦ told_breaks own.1 (served state.machine state.messages own.0 ask).reply _ own.0 (get_set state.devices dev own _ is)
          ]
    ] in by_slot (slice_get state.devices dev) refl

-- what is refused, by what the bus does
told_refuses : (state new : State) (request : Request) (ask : Ask) (led_to : Result ℕ Denial) → Leaves state new request ask led_to →
    RefusesAlone (answer_of (moved_of (effect_at state.machine state.messages request ask led_to).reply.access)) state new
told_refuses state new request (Read iova count) (Ok addr) left =
    elim (bytes_at state.machine.memory addr count) as (λ o. RefusesAlone (answer_of (moved_of (reply_with o).access)) state new) [
      | Some bytes ↦ tt
      | None ↦ read_leaves state new request iova count addr left
    ]
told_refuses state new request (Write iova bytes) (Ok addr) left =
    let Goal : Bool → Type 0 = λ b. can_put state.machine.memory state.messages addr bytes ≡ b →
    RefusesAlone (answer_of (moved_of (reply_of (if b then access.Ok else access.Outside) []).access)) state new in
    let by_place : (b : Bool) → Goal b = λ b. elim b as Goal [
      | true ↦ λ is. tt
      | false ↦ λ is. write_leaves state new request iova bytes addr is left
    ] in by_place (can_put state.machine.memory state.messages addr bytes) refl
told_refuses state new request (Read iova count) (Err denial) left = denied_leaves state new request (Read iova count) denial left
told_refuses state new request (Write iova bytes) (Err denial) left = denied_leaves state new request (Write iova bytes) denial left

pub moved_refuses : (state : State) (dev : ℕ) (slot : Option (ℕ × Device)) →
    RefusesAlone (device_step state dev slot).answer state (device_step state dev slot).state
unfolding moving effect
moved_refuses state dev None = refl
moved_refuses state dev (Some own) = elim (asks own.1) as (λ (o : Option Ask). RefusesAlone (answer_of (moving state.machine state.messages own.0 own.1 o).told) state
    (record { machine = (moving state.machine state.messages own.0 own.1 o).machine; messages = (moving state.machine state.messages own.0 own.1 o).messages; devices = slice_set state.devices dev (own.0, (moving state.machine state.messages own.0 own.1 o).device) })) [
      | None ↦ tt
      | Some ask ↦ told_refuses state _ (request_in (asking_for own.0 ask)) ask (address_in state (asking_for own.0 ask)) (record { memory = refl; registers = refl; messages = refl })
    ]

pub dev_read_refuses : (state : State) (slot : Option (ℕ × Device)) (off size : ℕ) → RefusesAlone (dev_read slot off size) state state
dev_read_refuses state None off size = refl
dev_read_refuses state (Some own) off size = elim (read own.1 off size) as (λ o. RefusesAlone (value_or_bad o) state state) [
  | Some value ↦ tt
  | None ↦ refl
]

-- the device put back as it was
put_back : (state : State) (dev : ℕ) (own : ℕ × Device) → slice_get state.devices dev ≡ Some own → with_device state dev own.0 own.1 ≡ state
put_back state dev own is = ap (λ (ds : List (ℕ × Device)). record state { devices = ds }) (set_same state.devices dev own is)

own_write_refuses : (state : State) (dev : ℕ) (own : ℕ × Device) (off size value : ℕ) → slice_get state.devices dev ≡ Some own →
    RefusesAlone (dev_write own.1 off size value).answer state (with_device state dev own.0 (dev_write own.1 off size value).device)
unfolding dev_write
own_write_refuses state dev own off size value is =
    let back = put_back state dev own is in
    let legal : Bool → Handled = λ b. if b then record { answer = Done; device = with_write own.1 off value } else record { answer = BadAccess; device = own.1 } in
    let given : Bool → Handled = λ b. if b then record { answer = Misuse; device = own.1 } else legal (is_legal off size) in
    elim (is_size size && not (fits value size)) as (λ b. RefusesAlone (given b).answer state (with_device state dev own.0 (given b).device)) [
      | true ↦ back
      | false ↦ elim (is_legal off size) as (λ b. RefusesAlone (legal b).answer state (with_device state dev own.0 (legal b).device)) [
        | true ↦ tt
        | false ↦ back
      ]
    ]

pub dev_write_refuses : (state : State) (dev off size value : ℕ) →
    RefusesAlone (dev_written state dev (slice_get state.devices dev) off size value).answer state (dev_written state dev (slice_get state.devices dev) off size value).state
dev_write_refuses state dev off size value =
    let Goal : Option (ℕ × Device) → Type 0 = λ o. slice_get state.devices dev ≡ o →
    RefusesAlone (dev_written state dev o off size value).answer state (dev_written state dev o off size value).state in
    let by_slot : (o : Option (ℕ × Device)) → Goal o = λ o. elim o as Goal [
      | None ↦ λ is. refl
      | Some own ↦ λ is. own_write_refuses state dev own off size value is
    ] in by_slot (slice_get state.devices dev) refl
