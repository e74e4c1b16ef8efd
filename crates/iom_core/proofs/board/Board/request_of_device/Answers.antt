use Rattle.std.proofs.Common.{◌≡◌, ◌∙◌, ◌<◌, ℕ, length, Some, sym, ap, subst, arith}
use Rattle.std.specs.Prelude.{slice_get}
use Rattle.std.proofs.lemmas.Grind.{common_steps}
use Rattle.std.proofs.lemmas.Option.{slice_get-get_or}
use Rattle.iom_blk.specs.Device.{Device}
use Rattle.iom_core.specs.State.{device_id_end}
use Rattle.iom_core.specs.declared.access.Request.{Request}
use Rattle.iom_core.proofs.Slots.{fits_at}
use Rattle.iom_core.proofs.board.Board.request_of_device.Goals as goal

pub returns-clause-fits : goal.returns-clause-fits
returns-clause-fits g c =
    let devices = c.self.inside.devices.items in
    let own = c.index.result.now in
    let inside : c.args.dev < length devices = grind (arith, common_steps) in
    let there : slice_get devices c.args.dev ≡ Some own = slice_get-get_or devices c.args.dev own inside ∙ ap (λ (o : ℕ × Device). Some o) (sym c.index.ensures) in
    subst (λ (request : Request). request.did < device_id_end) (sym c.of.ensures) (fits_at devices c.args.dev own c.self.invariant.0 there)
