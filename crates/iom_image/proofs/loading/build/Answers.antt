use Rattle.std.proofs.Common.{arith}
use Rattle.std.proofs.lemmas.Result.{err_from_is_err_and}
use Rattle.iom_core.specs.State.{opening_with}
use Rattle.iom_image.proofs.Filling.{image_built, image_refused}
use Rattle.iom_image.proofs.Started.{devices_started}
use Rattle.iom_image.proofs.loading.build.Goals as goal

pub with_features-requires : goal.with_features-requires
with_features-requires c =
    devices_started c.args.bytes.now (opening_with _ _ _ _) (λ i. omega (arith, c.type_inv.bytes i))
    (image_built c.args.bytes.now _ _ _ _ _ c.in-Ok.ensures.read (rw c.in_ok-ram.ensures.made at c.in_ok-rest.ensures) (rw c.is_flagged.ensures at c.in_ok-devices.ensures) c.requires)

pub returns : goal.returns
returns c =
    rw (c.in_ok-with_features.ensures, c.features.ensures, c.window.ensures) (image_built c.args.bytes.now _ _ _ _ _ c.in-Ok.ensures.read (rw c.in_ok-ram.ensures.made at c.in_ok-rest.ensures) (rw c.is_flagged.ensures at c.in_ok-devices.ensures) c.requires)

pub returns-in_err-devices : goal.returns-in_err-devices
returns-in_err-devices c =
    let p = err_from_is_err_and c.from_residual-in_err-devices.result c.from_residual-in_err-devices.ensures.1 in
    rw (p.1, p.2) (λ other. image_refused c.args.bytes.now _ _ _ _ _ c.in-Ok.ensures.read (rw c.in_ok-ram.ensures.made at c.in_ok-rest.ensures) (rw c.is_flagged.ensures at (c.in_err-devices.ensures other)) c.requires)
