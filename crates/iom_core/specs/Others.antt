-- What happens to a platform whose memory others write too: its steps, and moments at which its memory becomes another one.
use Rattle.std.specs.Prelude.{ℕ, ◌≡◌, ◌+◌, ◌<◌, List, [], ◌∷◌, ◌++◌, Some, length, take, slice_get}
use Rattle.iom_mem.specs.Memory.{Memory, size_of}
use Rattle.iom_core.specs.State.{State}
use Rattle.iom_core.specs.Access.{led}
use Rattle.iom_core.specs.declared.access.Request.{Request}
use Rattle.iom_core.specs.Run.{answers}
use Rattle.iom_core.specs.Table.{next, request_of_step, with_memory}
use Rattle.iom_core.specs.Warrants.{HasWarrant, IsDenied, moment}
use Rattle.iom_core.specs.declared.step.Step.{Step}
use Rattle.iom_core.specs.declared.step.Step.TheVariants as step

-- a step of the platform; or whoever else has its memory writes it, any bytes at once, so that it is this one from then on
pub data Happening : Type 0 where
  Took : Step → Happening
  Wrote : Memory → Happening

abbrev pub after : State → Happening → State
after state (Took taken) = (next state taken).state
after state (Wrote memory) = with_memory state memory

-- the state after all of them
abbrev pub end_after : State → List Happening → State
end_after state [] = state
end_after state (happening ∷ more) = end_after (after state happening) more

abbrev pub AreBytes : List ℕ → Type 0
AreBytes [] = Unit {0}
AreBytes (byte ∷ bytes) = (byte < 256) × AreBytes bytes

-- others write bytes, and leave memory where it is
pub record IsWritten (old new : Memory) : Type 0 where
  pub base : new.base ≡ old.base
  pub size : size_of new ≡ size_of old
  pub bytes : AreBytes new.bytes

abbrev pub AreWritten : State → List Happening → Type 0
AreWritten state [] = Unit {0}
AreWritten state (Took taken ∷ more) = AreWritten (next state taken).state more
AreWritten state (Wrote memory ∷ more) = IsWritten state.machine.memory memory × AreWritten (with_memory state memory) more

-- the stores of a hart that write these bytes from an address on, one byte after the other
abbrev pub stores_of : ℕ → List ℕ → List Step
stores_of addr [] = []
stores_of addr (byte ∷ bytes) = step.Store addr 1 byte ∷ stores_of (addr + 1) bytes

-- the steps of a platform that stand for what happens: its own, and a hart's stores for what others write
abbrev pub steps_of : List Happening → List Step
steps_of [] = []
steps_of (Took taken ∷ more) = taken ∷ steps_of more
steps_of (Wrote memory ∷ more) = stores_of memory.base memory.bytes ++ steps_of more

-- the step at which happening n stands
abbrev pub place_of : List Happening → ℕ → ℕ
place_of happenings n = length (steps_of (take n happenings))

-- A step at happening n is answered what it is answered among the steps that stand for all that happens.
abbrev pub IsAnswered : State → List Happening → ℕ → Type 0
IsAnswered start happenings n =
    (taken : Step) → slice_get happenings n ≡ Some (Took taken) →
    slice_get (answers start (steps_of happenings)) (place_of happenings n) ≡ Some (next (end_after start (take n happenings)) taken).answer

-- Whatever a device asks at happening n, it is denied or has a warrant.
pub record IsWarranted (start : State) (happenings : List Happening) (n : ℕ) : Type 0 where
  pub moment : end_after start (take n happenings) ≡ moment start (steps_of happenings) (place_of happenings n)
  pub accesses : (taken : Step) (request : Request) → slice_get happenings n ≡ Some (Took taken) →
      request_of_step (end_after start (take n happenings)) taken ≡ Some request →
      (IsDenied (led (end_after start (take n happenings)).machine request).way → ⊥) →
      HasWarrant start (steps_of happenings) (place_of happenings n) request
