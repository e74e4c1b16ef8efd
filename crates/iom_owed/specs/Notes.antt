-- What a step leaves of what is kept.
use Rattle.std.specs.Prelude.{ℕ, ◌≡◌, List, [], ◌∷◌, flat_map, map, Option, Some, None}
use Rattle.iom_choices.specs.Systems.{IsAmong}
use Rattle.iom_choices.specs.Trees.{reads_in, ways_of}
use Rattle.iom_core.specs.State.{State}
use Rattle.iom_core.specs.declared.access.Request.{Request}
use Rattle.iom_every.specs.declared.entry.Entry.{Entry}
use Rattle.iom_every.specs.Entries.{kept_as}
use Rattle.iom_every.specs.Trees.{tree_of}
use Rattle.iom_queue.specs.declared.command.Command.{Command}
use Rattle.iom_held.specs.Kept.{Renews, entries_in, entry_of, kept_of, left_by}
use Rattle.iom_owed.specs.Holdings.{HoldingsView, at_page, request_of}
use Rattle.iom_owed.specs.declared.noting.Made.{Made}

abbrev pub made_of : ℕ → Request → Made
made_of number request = record { request = request; number = number }

-- the request of a step, if it makes one
abbrev pub made_by : ℕ → Option Request → List Made
made_by number None = []
made_by number (Some request) = made_of number (at_page request) ∷ []

-- the entries that a request can read, over some that may be held, in each form in which they may be kept
abbrev pub read_by : State → List Entry → Option Request → List Entry
read_by state held request = flat_map (kept_as state.machine.registers.features) (reads_in (ways_of tree_of state held request))

-- what a step's request adds
pub record Adds (state : State) (request : Option Request) (number : ℕ) (before after : HoldingsView) : Type 0 where
  pub ahead : after.ahead ≡ before.ahead
  pub entries : Renews entry_of (map (kept_of number) (read_by state (entries_in before.entries) request)) before.entries after.entries
  pub requests : Renews request_of (made_by number request) before.requests after.requests

-- what a request adds that is read ahead: what memory alone gives it
pub record AddsAhead (state : State) (request : Request) (number : ℕ) (before after : HoldingsView) : Type 0 where
  pub ahead : after.ahead ≡ before.ahead
  pub entries : Renews entry_of (map (kept_of number) (read_by state [] (Some request))) before.entries after.entries
  pub requests : after.requests ≡ before.requests

-- all that memory alone gives a request is there as read under this number
abbrev pub HasRead : State → ℕ → HoldingsView → Request → Type 0
HasRead state number held request = (entry : Entry) → IsAmong (read_by state [] (Some request)) entry → IsAmong held.entries (kept_of number entry)

-- so is that of each request that is read ahead
abbrev pub HasReadAll : State → ℕ → HoldingsView → Type 0
HasReadAll state number held = (request : Request) → IsAmong held.ahead request → HasRead state number held request

-- what a step's command leaves
abbrev pub behind_command : ℕ → Option Command → HoldingsView → HoldingsView
behind_command number command held = record held { entries = left_by number command held.entries }
