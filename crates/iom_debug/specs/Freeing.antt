-- What the line `free` is answered: the entries that an IOMMU may hold and that name a byte of physical memory. RISC-V IOMMU Architecture 1.0,
-- "Caching in-memory data structures".
use Rattle.std.specs.Prelude.{ℕ, ◌≡◌, ◌++◌, List, codes, take, Option, Some, None, if◌then◌else◌}
use Rattle.std.specs.Option.{option_map}
use Rattle.iom_text.specs.Texts.{numeral}
use Rattle.iom_core.specs.State.{State}
use Rattle.iom_core.specs.declared.access.Request.{Request}
use Rattle.iom_core.specs.declared.step.Step.{Step}
use Rattle.iom_held.specs.declared.naming.Naming.{Naming}
use Rattle.iom_owed.specs.Holdings.{HoldingsView, Keeps}
use Rattle.iom_owed.specs.Naming.{AreNaming}
use Rattle.iom_owed.specs.Newest.{steps_of}
use Rattle.iom_tool.specs.Room.{answer_room}
use Rattle.iom_debug.specs.Entries.{entry_text}
use Rattle.iom_debug.specs.Invalidations.{fence_text}
use Rattle.iom_debug.specs.Owing.{unknown_text}
use Rattle.iom_debug.specs.Marks.{MarksView, named_at}
use Rattle.iom_debug.specs.Settling.{SettlingView}

-- How many there are and the first, as `3, the first read in line 8: a leaf of the first stage, level=0 page=0x40201 pscid=0x3 global=0x0`; `none`
-- where there is none. Lines are named as they stand; at most `answer_room` bytes are told.
unfoldable pub free_text : MarksView → Option Naming → List ℕ
free_text marks None = codes "none"
free_text marks (Some found) =
    take answer_room (numeral 10 found.count ++ codes ", the first read in " ++ named_at marks found.first.number ++ codes ": "
    ++ entry_text found.first.entry ++ fence_text (option_map (named_at marks) found.first.unfenced))

-- what is held, where it is kept and memory wasn't refused
abbrev pub known_holdings : Option SettlingView → Option HoldingsView
known_holdings None = None
known_holdings (Some settling) = if settling.is_lost then None else Some settling.holdings

-- These name a byte: by each start, and steps from it that what is held goes along with.
abbrev pub AreNamingBy : HoldingsView → State → ℕ → ℕ → Option Naming → Type 0
AreNamingBy held state addr len found =
    (ahead : List Request) (start : State) (taken : List (Step × ℕ)) → Keeps ahead held state start taken → AreNaming ahead held start (steps_of taken) addr len found

abbrev pub IsFreeAt : MarksView → Option SettlingView → Option HoldingsView → State → ℕ → ℕ → List ℕ → Type 0
IsFreeAt marks settling None state addr len answer = answer ≡ unknown_text settling
IsFreeAt marks settling (Some held) state addr len answer =
    (found : Option Naming) × (answer ≡ free_text marks found) × AreNamingBy held state addr len found

-- The answer is what of the held entries names a byte of the `len` ones from `addr` on; or that it isn't known what is held.
abbrev pub IsFreeAnswer : MarksView → Option SettlingView → State → ℕ → ℕ → List ℕ → Type 0
IsFreeAnswer marks settling state addr len answer = IsFreeAt marks settling (known_holdings settling) state addr len answer
