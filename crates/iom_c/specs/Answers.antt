-- The numbers of a step's answer in C.
use Rattle.std.specs.Prelude.{ℕ, ◌≡◌, ◌<◌, ◌≤◌, ◌==◌, List, length, Option, Some, None, if◌then◌else◌}
use Rattle.iom_regs.specs.declared.busy.Busy.{Busy}
use Rattle.iom_regs.specs.declared.busy.Busy.TheVariants as busy
use Rattle.iom_core.specs.declared.step.Step.{Step}
use Rattle.iom_core.specs.declared.step.Step.TheVariants as step
use Rattle.iom_core.specs.declared.step.Answer.{Answer}
use Rattle.iom_core.specs.declared.step.Answer.TheVariants as answer

-- the number of an answer's kind
abbrev pub code_of : Answer → ℕ
code_of (answer.Value value) = 0
code_of answer.Done = 1
code_of (answer.Bytes bytes) = 2
code_of answer.Idle = 3
code_of (answer.Denied cause) = 4
code_of answer.BusError = 5
code_of answer.BadAccess = 6
code_of answer.NoDevice = 7
code_of answer.Misuse = 8

abbrev pub misuse : ℕ
misuse = 8

-- the words aren't those that the platform has no memory without: nothing happens
abbrev pub other_memory : ℕ
other_memory = 9

-- what stands in the caller's place after an answer, where this stood: the number that was read, or the cause of a denial
abbrev pub number_in : Answer → ℕ → ℕ
number_in (answer.Value value) old = value
number_in (answer.Denied cause) old = cause
number_in _ old = old

-- what stands in the caller's buffer after an answer, where these stood: the bytes that were read
abbrev pub bytes_in : Answer → List ℕ → List ℕ
bytes_in (answer.Bytes bytes) old = bytes.items
bytes_in _ old = old

-- where bytes are answered, there are so many
abbrev pub HasLength : Answer → ℕ → Type 0
HasLength (answer.Bytes bytes) count = length bytes.items ≡ count
HasLength _ count = Unit {0}

-- an access of so many bytes is one step; one of none or of more is none
abbrev pub IsOneStep : ℕ → Type 0
IsOneStep count = (0 < count) × (count ≤ 64)

-- the register that may be busy with this number
abbrev pub busy_of : ℕ → Option Busy
busy_of register =
    if register == 0 then Some busy.Directory
    else if register == 1 then Some busy.Commands
    else if register == 2 then Some busy.Faults
    else None

-- a device's write of these bytes
abbrev pub writing : ℕ → ℕ → List ℕ → Step
writing did iova bytes = step.DmaWrite did iova (record { items = bytes })
