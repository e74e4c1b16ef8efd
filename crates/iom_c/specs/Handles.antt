-- What a handle owns, and what becomes of it.
use Rattle.std.specs.Prelude.{ℕ, ◌≡◌, ◌+◌, ◌-◌, ◌*◌, ◌/◌, ◌^◌, false, Option, Some, None, List, [], length, min}
use base.Fml.{Fml, ftrue}
use denote.RawPtr.{Ptr}
use Rattle.std.specs.Box.Ownership.{box_owns}
use Rattle.std.specs.Global.{Global}
use Rattle.std_heap.specs.contracts.GlobalAllocator.TheImpl.{ghosts}
use Rattle.iom_mem.specs.Lent.{memory_of}
use Rattle.iom_mem.specs.Memory.{Memory, size_of}
use Rattle.iom_core.specs.State.{Board, State, board_with, state_on}
use Rattle.iom_core.specs.Table.{next}
use Rattle.iom_core.specs.declared.step.Answer.{Answer}
use Rattle.iom_core.specs.declared.step.Step.{Step}
use Rattle.iom_account.specs.Following.{Follows, HistoryView}
use Rattle.iom_tool.specs.Console.{traced}
use Rattle.iom_tool.specs.Script.{Asks, Bad, Blank, Does, Line}
use Rattle.iom_core.specs.Warrants.{IsUncached}
use Rattle.iom_c.specs.Keeping.{copied as told_copied, GoesOn, none_kept}
use Rattle.iom_c.specs.Settling.{BeginsAnew}
use Rattle.iom_c.specs.contracts.owned.Owned.{the_row}
use Rattle.iom_c.specs.declared.held.Held.{Held}
use Rattle.iom_c.specs.declared.held.Held.TheVariants as held
use Rattle.iom_c.specs.declared.owned.Owned.{Owned}
use Rattle.iom_c.specs.declared.settling.Settling.TheVariants as settling

-- an open handle owns a box's block of the heap with the value in it, a closed one nothing
abbrev pub handle_owns : Global → Ptr → Option the_row.Denot → Fml
handle_owns alloc p (Some own) = box_owns (ghosts.dealloc_token alloc) the_row p own
handle_owns alloc p None = ftrue

-- the platform of a handle in front of these words; one with memory of its own has that
abbrev pub state_in : Held → List ℕ → State
state_in (held.Own platform) words = platform
state_in (held.Lent lent) words = state_on (memory_of lent.base words) lent.board

-- the IOMMU, the messages and the block devices of it
abbrev pub board_of : Held → Board
board_of (held.Own platform) = record {
  iommu = record { registers = platform.machine.registers; contexts = platform.machine.contexts; pages = platform.machine.pages };
  messages = platform.messages;
  devices = platform.devices;
}
board_of (held.Lent lent) = lent.board

-- how many words are lent for each call, none if the memory is the handle's own
abbrev pub count_of : Held → ℕ
count_of (held.Own platform) = 0
count_of (held.Lent lent) = lent.count

-- these words are what the platform is lent, or none and it has memory of its own
abbrev pub IsItsMemory : Owned → List ℕ → Type 0
IsItsMemory own words = length words ≡ count_of own.held

-- where memory begins
abbrev pub base_of : Held → ℕ
base_of (held.Own platform) = platform.machine.memory.base
base_of (held.Lent lent) = lent.base

-- how many bytes it has
abbrev pub size_in : Held → ℕ
size_in (held.Own platform) = size_of platform.machine.memory
size_in (held.Lent lent) = 8 * lent.count

-- whose memory it is: None of the handle itself, else that which is lent from a base on, of so many words
abbrev pub loan_of : Held → Option (ℕ × ℕ)
loan_of (held.Own platform) = None
loan_of (held.Lent lent) = Some (lent.base, lent.count)

-- a board in front of so many bytes of memory that is lent
abbrev pub lending : Board → ℕ → ℕ → Held
lending board base size = held.Lent (record { board = board; base = base; count = size / 8 })

-- what holds of a platform with memory of its own, or else of a call that needs that
abbrev pub OfOwn : Held → (State → Type 0) → Type 0 → Type 0
OfOwn (held.Own platform) Is Else = Is platform
OfOwn (held.Lent lent) Is Else = Else

-- what a step of the platform is answered in front of these words
abbrev pub answer_in : Owned → List ℕ → Step → Answer
answer_in own words step = (next (state_in own.held words) step).answer

-- the number of a step: how many steps there were with it, from 1 on; the numbers end at 2^64 - 1
abbrev pub number_after : ℕ → ℕ
number_after count = min (count + 1) (2 ^ 64 - 1)

-- a history that begins at this board, whatever memory it stands in front of; what it means is known if nothing is cached now
abbrev pub BeginsAt : HistoryView → Board → Type 0
BeginsAt history board = (memory : Memory) → IsUncached (state_on memory board) →
    Follows history (state_on memory board) (state_on memory board) [] []

-- a board with registers as at reset and nothing cached
abbrev pub board_at_reset : Board → Board
board_at_reset board = record board { iommu = (board_with board.iommu.registers.features None board.devices).iommu }

-- What a handle owns that begins at a platform: no step was kept, the history begins there, and what any IOMMU may hold isn't kept.
pub record Begins (start : Held) (own : Owned) : Type 0 where
  pub held : own.held ≡ start
  pub trace : own.trace ≡ []
  pub count : own.count ≡ 0
  pub kept : own.told.kept ≡ none_kept 32 false
  pub settling : own.told.settling ≡ settling.NotKept
  pub history : BeginsAt own.told.history (board_of start)

-- What a reset leaves: registers and caches as at reset, all else of the platform as it was, and a history that begins there. Nothing is held
-- any more. Steps go on being counted, and those that were kept stay.
pub record IsReset (own after : Owned) : Type 0 where
  pub board : board_of after.held ≡ board_at_reset (board_of own.held)
  pub memory : (words : List ℕ) → (state_in after.held words).machine.memory ≡ (state_in own.held words).machine.memory
  pub loan : loan_of after.held ≡ loan_of own.held
  pub trace : after.trace ≡ own.trace
  pub count : after.count ≡ own.count
  pub kept : after.told.kept ≡ own.told.kept
  pub history : BeginsAt after.told.history (board_of after.held)
  pub settling : BeginsAnew own.told.settling after.told.settling

-- an equal platform with an equal history and as many steps, of which none was kept; as many reasons of such steps will be
abbrev pub copied : Owned → Owned
copied own = record {
  held = own.held;
  trace = [];
  told = told_copied own.told;
  count = own.count;
}

-- What a step leaves: the platform after it by the step table in front of the words after it, the memory where it was, a trace that keeps
-- it with its answer, and the account of the steps, which went along with it under the next number.
pub record Stepped (own : Owned) (words : List ℕ) (step : Step) (left : List ℕ) (after : Owned) : Type 0 where
  pub state : state_in after.held left ≡ (next (state_in own.held words) step).state
  pub loan : loan_of after.held ≡ loan_of own.held
  pub trace : after.trace ≡ traced own.trace step (answer_in own words step)
  pub count : after.count ≡ number_after own.count
  pub told : GoesOn own.told (state_in own.held words) step (number_after own.count) after.told (state_in after.held left)

-- what a line leaves: its step does where it is one, else all stays as it was
abbrev pub After : Owned → Line → Owned → Type 0
After own Blank after = after ≡ own
After own Bad after = after ≡ own
After own (Does step) after = Stepped own [] step [] after
After own (Asks question) after = after ≡ own
