-- Contexts that are one.
use Rattle.std.proofs.Common.{◌≡◌, ◌↔◌, Bool, ap}
use Rattle.std.specs.Prelude.{IsTrue}
use Rattle.iom_ddt.specs.declared.context.Context.{Context}
use Rattle.iom_core.specs.declared.way.Way.TheVariants as way
use Rattle.iom_tables.specs.Stale.{is_same_context, is_same_way}
use Rattle.iom_tables.proofs.Sameness.{way_test}

pub context_test : (b : Bool) (context other : Context) → (IsTrue b ↔ (context ≡ other)) → b ≡ is_same_context context other
unfolding is_same_way
context_test b context other decides =
    way_test b (way.Context context) (way.Context other)
    ((λ is. ap (λ (c : Context). way.Context c) (decides.0 is)), (λ same. decides.1 (cc same)))
