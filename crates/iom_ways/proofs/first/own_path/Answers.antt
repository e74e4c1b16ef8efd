use Rattle.std.proofs.Common.{◌∙◌, ℕ, ap}
use Rattle.std.specs.Prelude.{None}
use Rattle.iom_walk.specs.declared.source.Got.{Got}
use Rattle.iom_nested.specs.Stages.{second_shape_of}
use Rattle.iom_every.specs.Walks.{met}
use Rattle.iom_ways.proofs.Fresh.{own_tables}
use Rattle.iom_ways.proofs.first.own_path.Goals as goal

pub returns-then-is_some-clause-path : goal.returns-then-is_some-clause-path
returns-then-is_some-clause-path g c =
    c.guest_path.ensures.path
    ∙ ap (λ (at : ℕ → Got). met (λ (level : ℕ). at) c.args.format c.args.under.now.context.ppn c.args.iova None)
    (own_tables (g.M.Region.memory c.args.under.now.ram.now) c.args.under.now.features c.args.under.now.context (second_shape_of c.args.under.now.context))
