-- The words of a history.
use Rattle.std.specs.Prelude.{ℕ, List, ◌∷◌, ◌++◌, length}
use Rattle.iom_account.specs.Following.{HistoryView}

-- how many numbers there are, and these
abbrev pub number_words : List ℕ → List ℕ
number_words numbers = length numbers ∷ numbers

abbrev pub history_words : HistoryView → List ℕ
history_words history = number_words history.contexts ++ (number_words history.walks ++ number_words history.walk_contexts)
