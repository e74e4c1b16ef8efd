-- A hit is one of a page: RISC-V IOMMU Architecture 1.0, "Caching in-memory data structures", where translations are cached by
-- page. A fault may report the address itself.
use Rattle.std.specs.Prelude.{ℕ, ◌≡◌, ◌/◌, Ok}
use Rattle.iom_bits.specs.declared.causes.Kind.{Kind}
use Rattle.iom_bits.specs.Features.{Features}
use Rattle.iom_mem.specs.Memory.{Memory}
use Rattle.iom_ddt.specs.declared.context.Context.{Context}
use Rattle.iom_nested.specs.Nested.{translation}
use Rattle.iom_nested.specs.declared.translation.Hit.{Hit}

-- what one address of a page hits, each of them hits
abbrev pub OneHitAPage : Type 0
OneHitAPage = (memory : Memory) (features : Features) (context : Context) (iova other : ℕ) (kind : Kind) (hit : Hit) → iova / 4096 ≡ other / 4096 →
    translation memory features context iova kind ≡ Ok hit → translation memory features context other kind ≡ Ok hit
