use Rattle.std.proofs.Common.{◌≡◌, ◌∙◌, ◌<◌, ℕ, length, Some, refl, sym, ap, subst, arith}
use Rattle.std.specs.Prelude.{slice_get}
use Rattle.std.proofs.lemmas.Grind.{common_steps}
use Rattle.std.proofs.lemmas.Option.{slice_get-get_or}
use Rattle.iom_blk.specs.Device.{Device}
use Rattle.iom_core.specs.Rows.{device_row_led}
use Rattle.iom_core.specs.State.{Board, state_on}
use Rattle.iom_core.proofs.Slots.{few_set, fits_at, fits_set}
use Rattle.iom_core.proofs.board.Board.device_led.Goals as goal

pub move_led-requires : goal.move_led-requires
move_led-requires g c =
    let devices = c.self.inside.devices.items in
    let own = c.index_mut.result.now in
    let inside : c.args.dev < length devices = grind (arith, common_steps) in
    let there : slice_get devices c.args.dev ≡ Some own = slice_get-get_or devices c.args.dev own inside ∙ ap (λ (o : ℕ × Device). Some o) (sym c.index_mut.ensures.value) in
    fits_at devices c.args.dev own c.self.invariant.0 there

pub invariant_of-self : goal.invariant_of-self
invariant_of-self g c =
    let devices = c.self.inside.devices.items in
    let own = c.index_mut.result.now in
    let inside : c.args.dev < length devices = grind (arith, common_steps) in
    let there : slice_get devices c.args.dev ≡ Some own = slice_get-get_or devices c.args.dev own inside ∙ ap (λ (o : ℕ × Device). Some o) (sym c.index_mut.ensures.value) in
    (fits_set devices c.args.dev (own.0, c.move_led.new.device) c.self.invariant.0 (fits_at devices c.args.dev own c.self.invariant.0 there), few_set devices c.args.dev (own.0, c.move_led.new.device) c.self.invariant.1)

pub returns-clause-answer : goal.returns-clause-answer
returns-clause-answer g c =
    let devices = c.self.inside.devices.items in
    let own = c.index_mut.result.now in
    let inside : c.args.dev < length devices = grind (arith, common_steps) in
    let there : slice_get devices c.args.dev ≡ Some own = slice_get-get_or devices c.args.dev own inside ∙ ap (λ (o : ℕ × Device). Some o) (sym c.index_mut.ensures.value) in
    subst (λ (b : Board). c.move_led.result ≡ (device_row_led (state_on (g.M.Region.memory c.args.ram.now) b) c.args.dev (slice_get b.devices c.args.dev) c.args.goes).answer)
    c.self.view_is (rw there c.move_led.ensures.answer)

pub returns-clause-state : goal.returns-clause-state
returns-clause-state g c =
    let devices = c.self.inside.devices.items in
    let own = c.index_mut.result.now in
    let inside : c.args.dev < length devices = grind (arith, common_steps) in
    let there : slice_get devices c.args.dev ≡ Some own = slice_get-get_or devices c.args.dev own inside ∙ ap (λ (o : ℕ × Device). Some o) (sym c.index_mut.ensures.value) in
    rw (sym c.self.view_is, there, c.move_led.ensures.machine, c.move_led.ensures.messages, c.move_led.ensures.device) refl
