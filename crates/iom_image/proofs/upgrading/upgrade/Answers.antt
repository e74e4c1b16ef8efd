use Rattle.std.proofs.Common.{arith}
use Rattle.iom_image.proofs.Started.{are_bytes}
use Rattle.iom_image.proofs.Upgraded.{reads_upgraded, starts_the_same, comes_back}
use Rattle.iom_image.proofs.upgrading.upgrade.Goals as goal

pub returns-clause-read : goal.returns-clause-read
returns-clause-read c = reads_upgraded _ _ (are_bytes c.args.bytes.now (λ i. omega (arith, c.type_inv.bytes i))) c.in_ok-new.ensures

pub returns-clause-state : goal.returns-clause-state
returns-clause-state c = starts_the_same _ _ (are_bytes c.args.bytes.now (λ i. omega (arith, c.type_inv.bytes i))) c.in_ok-new.ensures

pub returns-clause-same : goal.returns-clause-same
returns-clause-same c already = comes_back _ _ (are_bytes c.args.bytes.now (λ i. omega (arith, c.type_inv.bytes i))) c.in_ok-new.ensures already
