-- Whoever answers a script line by line: by what there was before a line, its first 513 bytes, what is written for it and what there is
-- after it.
use Rattle.std.specs.Prelude.{ℕ, ◌≡◌, ◌++◌, List, [], ◌∷◌, take, Option}
use Rattle.std.specs.Io.KnownBytes.{Appends}
use Rattle.iom_reader.specs.Answering.{Progress, Answering}

-- how a line is answered, and what is left where a write failed within it: then some front is written
pub record Speaking : Type 1 where
  pub State : Type 0
  pub says : State → List ℕ → List ℕ → State → Type 0
  pub breaks : State → List ℕ → List ℕ → State → Type 0

-- lines are answered one after the other
abbrev pub Speaks : (how : Speaking) → how.State → List (List ℕ) → List ℕ → how.State → Type 0
Speaks how now [] text later = (text ≡ []) × (later ≡ now)
Speaks how now (line ∷ lines) text later =
    (said : List ℕ) × (rest : List ℕ) × (mid : how.State) × (text ≡ said ++ rest) × how.says now (take 513 line) said mid
    × Speaks how mid lines rest later

pub record Spoken (how : Speaking) (old new : Progress how.State) (lines : List (List ℕ)) : Type 0 where
  pub text : List ℕ
  pub said : Speaks how old.console lines text new.console
  pub written : Appends old.written new.written text

pub record HalfSpoken (how : Speaking) (old new : Progress how.State) (lines : List (List ℕ)) : Type 0 where
  pub whole : List (List ℕ)
  pub last : List ℕ
  pub split : lines ≡ whole ++ last ∷ []
  pub text : List ℕ
  pub mid : how.State
  pub said : Speaks how old.console whole text mid
  pub front : List ℕ
  pub broke : how.breaks mid (take 513 last) front new.console
  pub written : Appends old.written new.written (text ++ front)

abbrev pub by_lines : Speaking → Answering
by_lines how = record { State = how.State; whole = Spoken how; half = HalfSpoken how }
