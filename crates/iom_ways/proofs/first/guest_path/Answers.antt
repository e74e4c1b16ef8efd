use Rattle.std.proofs.Common.{◌≡◌, ℕ, subst}
use Rattle.std.specs.Prelude.{None}
use Rattle.iom_ddt.specs.declared.context.Context.{Context}
use Rattle.iom_nested.specs.Stages.{table_got}
use Rattle.iom_every.specs.Walks.{met}
use Rattle.iom_ways.proofs.first.guest_path.Goals as goal

pub returns-clause-path : goal.returns-clause-path
returns-clause-path g c =
    let h = c.met.ensures.path in
    let k = c.new-guest.ensures in
    subst (λ (own : Context). c.met.result.items ≡ met (λ (level : ℕ). table_got (g.M.Region.memory c.args.ram.now) c.args.features c.args.context.now) c.args.format own.ppn c.args.iova None)
    c.context.view_is (rw k at h)
