-- What a script with its included texts has left.
use Rattle.std.specs.Prelude.{ℕ, ◌<◌, ◌^◌, ⊤, List, drop, length, Option, IfSome}
use Rattle.iom_include.specs.Including.{left_by}
use Rattle.iom_include.specs.Faults.{IsFault}
use Rattle.iom_include.specs.declared.fault.IncludeFault.{IncludeFault}
use Rattle.iom_include.specs.declared.fault.IncludeFault.TheVariants as fault
use Rattle.iom_include.specs.declared.fault.TextFault.{TextFault}
use Rattle.iom_include.specs.declared.including.Including.{Including}

-- where its texts are known, and its reader tells what it has left
abbrev pub remaining_of : {T R : Type 0} → (T → Option (List ℕ → List ℕ)) → (R → Option (List ℕ)) → Including T R → Option (List ℕ)
remaining_of known unread i =
    left_by (known i.source.texts.now) (unread i.reader) (drop i.given i.expansion.text.items) i.name.now i.script.items

-- why it reads no further, where that isn't a fault of its reader
abbrev pub fault_of : {T R : Type 0} → Including T R → Option IncludeFault
fault_of i = i.fault

-- a line of the script that can't be read, a line without an end that is longer than a script may be, or want of memory
abbrev pub IsFaultIn : {T R : Type 0} → (T → Option (List ℕ → List ℕ)) → (T → List ℕ → List ℕ → Type 0) → (T → List ℕ → TextFault → Type 0) →
    Including T R → IncludeFault → Type 0
IsFaultIn known gives lacks i (fault.Refused why name from number) =
    (line : List ℕ) × IsFault (known i.source.texts.now) (gives i.source.texts.now) (lacks i.source.texts.now) i.name.now line
    (fault.Refused why name from number)
IsFaultIn known gives lacks i fault.LongLine = 2 ^ 26 < length i.script.items
IsFaultIn known gives lacks i fault.OutOfMemory = ⊤

abbrev pub HasFault : {T R : Type 0} → (T → Option (List ℕ → List ℕ)) → (T → List ℕ → List ℕ → Type 0) → (T → List ℕ → TextFault → Type 0) →
    Including T R → Type 0
HasFault known gives lacks i = IfSome (fault_of i) (IsFaultIn known gives lacks i)
