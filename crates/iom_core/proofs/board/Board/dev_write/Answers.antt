use Rattle.std.proofs.Common.{◌≡◌, ◌∙◌, ◌<◌, ℕ, length, None, Some, refl, sym, ap, subst, arith}
use Rattle.std.specs.Prelude.{slice_get}
use Rattle.std.proofs.lemmas.Grind.{common_steps}
use Rattle.std.proofs.lemmas.Option.{slice_get-get_or, slice_get_past}
use Rattle.iom_blk.specs.Device.{Device}
use Rattle.iom_core.specs.State.{Board, state_on}
use Rattle.iom_core.specs.Table.{dev_written}
use Rattle.iom_core.proofs.Slots.{few_set, fits_at, fits_set}
use Rattle.iom_core.proofs.board.Board.dev_write.Goals as goal

pub invariant_of-self : goal.invariant_of-self
invariant_of-self c =
    let devices = c.self.inside.devices.items in
    let own = c.index_mut.result.now in
    let inside : c.args.dev < length devices = grind (arith, common_steps) in
    let there : slice_get devices c.args.dev ≡ Some own = slice_get-get_or devices c.args.dev own inside ∙ ap (λ (o : ℕ × Device). Some o) (sym c.index_mut.ensures.value) in
    (fits_set devices c.args.dev (own.0, c.write_register.new.device) c.self.invariant.0 (fits_at devices c.args.dev own c.self.invariant.0 there), few_set devices c.args.dev (own.0, c.write_register.new.device) c.self.invariant.1)

pub returns-then-n-len-clause-answer : goal.returns-then-n-len-clause-answer
returns-then-n-len-clause-answer c =
    let devices = c.self.inside.devices.items in
    let own = c.index_mut.result.now in
    let inside : c.args.dev < length devices = grind (arith, common_steps) in
    let there : slice_get devices c.args.dev ≡ Some own = slice_get-get_or devices c.args.dev own inside ∙ ap (λ (o : ℕ × Device). Some o) (sym c.index_mut.ensures.value) in
    λ memory. subst (λ (b : Board). c.write_register.result ≡ (dev_written (state_on memory b) c.args.dev (slice_get b.devices c.args.dev) c.args.off c.args.size c.args.value).answer)
    c.self.view_is (rw there c.write_register.ensures.answer)

pub returns-then-n-len-clause-state : goal.returns-then-n-len-clause-state
returns-then-n-len-clause-state c =
    let devices = c.self.inside.devices.items in
    let own = c.index_mut.result.now in
    let inside : c.args.dev < length devices = grind (arith, common_steps) in
    let there : slice_get devices c.args.dev ≡ Some own = slice_get-get_or devices c.args.dev own inside ∙ ap (λ (o : ℕ × Device). Some o) (sym c.index_mut.ensures.value) in
    λ memory. rw (sym c.self.view_is, there, c.write_register.ensures.left) refl

pub returns-else-n-len-clause-answer : goal.returns-else-n-len-clause-answer
returns-else-n-len-clause-answer c =
    let past : slice_get c.self.inside.devices.items c.args.dev ≡ None = slice_get_past c.self.inside.devices.items c.args.dev (grind (arith, common_steps)) in
    λ memory. rw (sym c.self.view_is, past) refl
