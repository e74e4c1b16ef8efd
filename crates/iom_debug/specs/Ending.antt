-- How a script ends at whose end something is told.
use Rattle.std.specs.Prelude.{ℕ, ◌≡◌, ◌⊎◌, List, Option, Err}
use Rattle.iom_reader.specs.Answering.{Answering, Progress}
use Rattle.iom_reader.specs.Running.{Ends, IsDone}
use Rattle.iom_reader.specs.declared.fault.RunFault.{RunFault}
use Rattle.iom_reader.specs.declared.fault.RunFault.TheVariants as fault

-- It stops at its lines; or all were read and answered, and a write failed of what is told behind them.
abbrev pub Stops : (how : Answering) → Option (List ℕ) → Option (List ℕ) → Progress how.State → Progress how.State → RunFault → Type 0
Stops how unread left old new why =
    Ends how unread left old new (Err why) ⊎ ((why ≡ fault.Write) × (end : Progress how.State) × IsDone how unread left old end)
