-- Words of a context whose modes the IOMMU lacks.
use Rattle.std.proofs.Common.{◌≡◌, ℕ, List, Some, Result, Ok, Err, true, false, refl, arith}
use Rattle.std.specs.Prelude.{get_or}
use Rattle.iom_bits.specs.Bits.{has_bit}
use Rattle.iom_bits.specs.declared.causes.Cause.{Cause}
use Rattle.iom_bits.specs.declared.causes.Cause.TheVariants.{DirBad}
use Rattle.iom_bits.specs.Features.{Features}
use Rattle.iom_ddt.specs.Contexts.{has_modes}
use Rattle.iom_ddt.specs.Directory.{IsContextOf}
use Rattle.iom_ddt.specs.Words.{IsEncoding, tc}
use Rattle.iom_ddt.specs.declared.context.ContextFields.{ContextFields}

valid : (c : ContextFields) → has_bit (tc c) 0 ≡ true
unfolding has_bit
valid c = grind arith

-- they are misconfigured
pub without_modes : (features : Features) (words : List ℕ) (c : ContextFields) (found : Result ContextFields Cause) → found ≡ Ok c →
    IsEncoding c words → ((d : ContextFields) → IsEncoding d words → found ≡ Ok d) → has_modes features c ≡ false →
    IsContextOf features (Some words) (Err DirBad)
without_modes features words c found is own only lacks = (
  λ d other. let same : found ≡ Ok d = only d other.0 in let one : c ≡ d = cc in absurd (cc (other.1, one, lacks)),
  let set : has_bit (get_or words 0 0) 0 ≡ true = rw own.words_are (valid c) in rw set refl,
)
