-- What was seen of an answer: a part of it, or nothing.
use Rattle.std.specs.Prelude.{ℕ, ◌==◌, ◌&&◌, Bool, true, false, bytes_eq, Option, Some, None, Result, Ok}
use Rattle.iom_core.specs.declared.access.Denial.{Denial}
use Rattle.iom_core.specs.declared.step.Answer.{Answer}
use Rattle.iom_core.specs.declared.step.Answer.TheVariants as answer
use Rattle.iom_judge.specs.declared.seen.Seen.{Seen}

abbrev pub is_answer : Answer → Answer → Bool
is_answer (answer.Value value) (answer.Value same) = value == same
is_answer (answer.Bytes bytes) (answer.Bytes same) = bytes_eq bytes.items same.items
is_answer (answer.Denied cause) (answer.Denied same) = cause == same
is_answer answer.Done answer.Done = true
is_answer answer.Idle answer.Idle = true
is_answer answer.BusError answer.BusError = true
is_answer answer.BadAccess answer.BadAccess = true
is_answer answer.NoDevice answer.NoDevice = true
is_answer answer.Misuse answer.Misuse = true
is_answer _ _ = false

abbrev pub fits_answer : Option Answer → Answer → Bool
fits_answer None told = true
fits_answer (Some seen) told = is_answer seen told

abbrev pub fits_addr : Option ℕ → Option (Result ℕ Denial) → Bool
fits_addr None goes = true
fits_addr (Some addr) (Some (Ok other)) = addr == other
fits_addr (Some addr) _ = false

-- what was seen agrees with an answer, and with where the access went
abbrev pub fits_seen : Answer × Option (Result ℕ Denial) → Seen → Bool
fits_seen told seen = fits_answer seen.answer told.0 && fits_addr seen.addr told.1

abbrev pub unseen : Seen
unseen = record { answer = None; addr = None }
