-- Different things have different words.
use Rattle.std.specs.Prelude.{ℕ, ◌≡◌, ◌<◌, ◌^◌, ◌++◌, ◌∷◌, List}
use Rattle.iom_mem.specs.Memory.{Memory}
use Rattle.iom_core.specs.State.{Board}
use Rattle.iom_account.specs.Following.{HistoryView}
use Rattle.iom_saved.specs.Boards.{board_words}
use Rattle.iom_saved.specs.Bytes.{memory_words}
use Rattle.iom_saved.specs.Check.{check_of}
use Rattle.iom_saved.specs.Histories.{history_words}
use Rattle.iom_saved.specs.Whole.{EachWhole, IsWhole}

-- words that begin with those of one thing don't begin with those of another
abbrev pub OneMemory : Type 0
OneMemory = (a b : Memory) (r s : List ℕ) → IsWhole a.bytes → IsWhole b.bytes → memory_words a ++ r ≡ memory_words b ++ s → (a ≡ b) × (r ≡ s)

abbrev pub OneHistory : Type 0
OneHistory = (a b : HistoryView) (r s : List ℕ) → history_words a ++ r ≡ history_words b ++ s → (a ≡ b) × (r ≡ s)

abbrev pub OneBoard : Type 0
OneBoard = (a b : Board) (r s : List ℕ) → EachWhole a.devices → EachWhole b.devices → board_words a ++ r ≡ board_words b ++ s → (a ≡ b) × (r ≡ s)

-- another word in one place gives another check word
abbrev pub OneCheck : Type 0
OneCheck = (front back : List ℕ) (a b : ℕ) → a < 2 ^ 64 → b < 2 ^ 64 → check_of (front ++ a ∷ back) ≡ check_of (front ++ b ∷ back) → a ≡ b
