-- What a device used is warranted, and its warrant is up to date.
use Rattle.std.proofs.Common.{◌≡◌, ◌∙◌, ℕ, List, Option, Some, None, subst, sym}
use Rattle.iom_core.specs.declared.access.Request.{Request}
use Rattle.iom_core.specs.State.{State}
use Rattle.iom_core.specs.Warrants.{AreWarranted, Explains, HasNone, HasWarrant, IsDenied, IsUncached, IsWarrant, request_at, way_at}
use Rattle.iom_core.specs.declared.step.Step.{Step}
use Rattle.iom_core.specs.declared.warrant.Warrant.{Warrant}
use Rattle.iom_core.proofs.Explained.{explained, up_to_date_with}

same : {a b : Request} → Some a ≡ Some b → a ≡ b
same is = search is

by_found : (start : State) (steps : List Step) (n : ℕ) (request : Request) → request_at start steps n ≡ Some request →
    (IsDenied (way_at start steps n request) → ⊥) → (found : Option Warrant) → Explains start steps n found → HasWarrant start steps n request
by_found start steps n request asked led None has = absurd (led (subst (λ at. HasNone start steps n at) asked has))
by_found start steps n request asked led (Some warrant) (other, is, grants) =
    let it : IsWarrant start steps n request warrant = subst (λ at. IsWarrant start steps n at warrant) (same (sym is ∙ asked)) grants in
    record { warrant = warrant; grants = it; up_to_date = up_to_date_with start steps n request warrant it }

pub warranted : (start : State) (steps : List Step) → IsUncached start → AreWarranted start steps
warranted start steps none n request asked led =
    by_found start steps n request asked led (explained start steps none n).0 (explained start steps none n).1
