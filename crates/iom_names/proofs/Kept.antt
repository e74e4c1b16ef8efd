-- What a line says to `run` it says with names too, and only `let` changes the names.
use Rattle.std.proofs.Common.{◌≡◌, ◌≢◌, ◌∙◌, ◌⊎◌, inl, inr, ◌&&◌, ℕ, List, [], drop, Option, Some, None, Bool, true, false, refl, ap, if◌then◌else◌}
use Rattle.iom_core.specs.declared.step.Step.{Step}
use Rattle.iom_text.specs.Words.{words_of}
use Rattle.iom_tool.specs.Script.{Again, Asks, Bad, Blank, Does, Line, Plain, Stores, debug_line_of, line_of}
use Rattle.iom_tool.proofs.Languages.{as_run as same_line}
use Rattle.iom_names.specs.Names.{names_by, with_numbers}
use Rattle.iom_names.specs.Reading.{after_let, is_bad, is_let, is_line, line_with, names_after, read, read_words, reading}
use Rattle.iom_names.specs.declared.names.Binding.{Binding}

not_bad : (line : Line) → line ≢ Bad → is_bad (Plain line) ≡ false
not_bad Blank other = refl
not_bad Bad other = absurd (other refl)
not_bad (Does step) other = refl
not_bad (Asks question) other = refl

pub as_run : (names : List Binding) (text : List ℕ) → line_of text ≢ Bad → line_with names text ≡ Plain (line_of text)
unfolding read
as_run names text other = by (is_bad (debug_line_of text)) refl where
  by : (b : Bool) → is_bad (debug_line_of text) ≡ b →
      (if b && is_line text then read_words names (words_of text) else reading (debug_line_of text) names).line ≡ Plain (line_of text)
  by true bad = absurd (cc (bad, ap is_bad (same_line text other) ∙ not_bad (line_of text) other))
  by false good = same_line text other

bound : (names : List Binding) (found : Option (List Binding)) →
    ((after_let names found).names ≡ names) ⊎ ((after_let names found).line ≡ Stores [])
bound names None = inl refl
bound names (Some more) = inr refl

in_words : (names : List Binding) (words : List (List ℕ)) →
    ((read_words names words).names ≡ names) ⊎ ((read_words names words).line ≡ Stores [])
in_words names words = by (is_let words) where
  by : (b : Bool) →
      ((if b then after_let names (names_by names (drop 1 words)) else reading (debug_line_of (with_numbers names words)) names).names ≡ names)
      ⊎ ((if b then after_let names (names_by names (drop 1 words)) else reading (debug_line_of (with_numbers names words)) names).line ≡ Stores [])
  by true = bound names (names_by names (drop 1 words))
  by false = inl refl

only_let : (names : List Binding) (text : List ℕ) → (names_after names text ≡ names) ⊎ (line_with names text ≡ Stores [])
unfolding read
only_let names text = by (is_bad (debug_line_of text) && is_line text) where
  by : (b : Bool) →
      ((if b then read_words names (words_of text) else reading (debug_line_of text) names).names ≡ names)
      ⊎ ((if b then read_words names (words_of text) else reading (debug_line_of text) names).line ≡ Stores [])
  by true = in_words names (words_of text)
  by false = inl refl

-- a step leaves the names as they are, also one that is taken again and again
pub kept_by_step : (names : List Binding) (text : List ℕ) (step : Step) → line_with names text ≡ Plain (Does step) →
    names_after names text ≡ names
kept_by_step names text step is =
    elim (only_let names text) as (λ _. names_after names text ≡ names) [
      | inl same ↦ same
      | inr stored ↦ absurd (cc (stored, is))
    ]

pub kept_by_steps : (names : List Binding) (text : List ℕ) (step : Step) (most : ℕ) → line_with names text ≡ Again step most →
    names_after names text ≡ names
kept_by_steps names text step most is =
    elim (only_let names text) as (λ _. names_after names text ≡ names) [
      | inl same ↦ same
      | inr stored ↦ absurd (cc (stored, is))
    ]
