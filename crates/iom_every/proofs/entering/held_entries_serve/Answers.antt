use Rattle.std.proofs.Common.{◌≡◌, ◌⊎◌, ◌||◌, ◌==◌, ◌/◌, ℕ, Bool, true, false, Option, Some, None, refl, inl, inr}
use Rattle.std.proofs.lemmas.Bool.{eq-eqb}
use Rattle.iom_cache.specs.Keys.{gscid_of, same_id}
use Rattle.iom_every.proofs.entering.held_entries_serve.Goals as goal

itself : (id : Option ℕ) → same_id id id ≡ true
itself None = refl
itself (Some id) = eq-eqb id id refl

either : (global : Bool) (pscid own : ℕ) → (global ≡ true) ⊎ (pscid ≡ own) → (global || pscid == own) ≡ true
either true pscid own h = refl
either false pscid own (inl is) = absurd (cc is)
either false pscid own (inr same) = eq-eqb pscid own same

pub returns-clause-first : goal.returns-clause-first
returns-clause-first c = λ context shape iova pscid held fits ids.
    rw (itself (gscid_of context), either held.global pscid context.pscid ids, fits) refl

pub returns-clause-second : goal.returns-clause-second
returns-clause-second c = λ context shape address held fits. rw (eq-eqb context.gscid context.gscid refl, fits) refl

pub returns-clause-file : goal.returns-clause-file
returns-clause-file c = λ context address word. rw (eq-eqb context.gscid context.gscid refl, eq-eqb (address / 4096) (address / 4096) refl) refl
