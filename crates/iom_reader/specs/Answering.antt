-- How whoever answers a script answers its lines. A writer tells what it holds, or it doesn't: None.
use Rattle.std.specs.Prelude.{ℕ, ◌++◌, List, [], ◌∷◌, take, Option, Result, Ok, Err}
use Rattle.std.specs.Io.KnownBytes.{Keeps}
use Rattle.iom_reader.specs.declared.fault.RunFault.{RunFault}

-- what the writer holds, and what the lines drive
pub record Progress (S : Type 0) : Type 0 where
  pub written : Option (List ℕ)
  pub console : S

abbrev pub progress : {S : Type 0} → Option (List ℕ) → S → Progress S
progress written console = record { written = written; console = console }

-- what lines drive, and how those that were answered since some progress go together with the progress that they left: where all are
-- answered, and where a write failed within the last of them
pub record Answering : Type 1 where
  pub State : Type 0
  pub whole : Progress State → Progress State → List (List ℕ) → Type 0
  pub half : Progress State → Progress State → List (List ℕ) → Type 0

-- to answer no line changes nothing, a flush doesn't matter, and the first 513 bytes of a line tell all that it says
pub record IsAnswering (how : Answering) : Type 0 where
  pub none : (now : Progress how.State) → how.whole now now []
  pub flushed : (start now : Progress how.State) (written : Option (List ℕ)) (lines : List (List ℕ)) → how.whole start now lines →
      Keeps now.written written → how.whole start (progress written now.console) lines
  pub cut : (start now : Progress how.State) (lines : List (List ℕ)) (line : List ℕ) → how.whole start now (lines ++ take 513 line ∷ []) →
      how.whole start now (lines ++ line ∷ [])
  pub half_cut : (start now : Progress how.State) (lines : List (List ℕ)) (line : List ℕ) → how.half start now (lines ++ take 513 line ∷ []) →
      how.half start now (lines ++ line ∷ [])

-- one line more: it is answered, or a write failed
abbrev pub AnswersNext : (how : Answering) → List ℕ → Progress how.State → Progress how.State → Result (Unit {0}) RunFault → Type 0
AnswersNext how line old new (Ok done) =
    (start : Progress how.State) (lines : List (List ℕ)) → how.whole start old lines → how.whole start new (lines ++ line ∷ [])
AnswersNext how line old new (Err fault) =
    (start : Progress how.State) (lines : List (List ℕ)) → how.whole start old lines → how.half start new (lines ++ line ∷ [])
