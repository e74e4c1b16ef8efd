-- The traces that a script tells: its steps, newest first, each with what its line's comment says was seen of it. RISC-V IOMMU Architecture 1.0,
-- "Caching in-memory data structures".
use Rattle.std.specs.Prelude.{ℕ, ◌≡◌, ◌++◌, Bool, true, false, List, [], ◌∷◌, replicate, take}
use Rattle.iom_choices.specs.Traces.{onward}
use Rattle.iom_core.specs.declared.step.Step.{Step}
use Rattle.iom_core.specs.declared.step.Step.TheVariants as step
use Rattle.iom_reader.specs.Speaking.{Speaks}
use Rattle.iom_check.specs.Wanted.{wanted}
use Rattle.iom_judge.specs.Seen.{unseen}
use Rattle.iom_judge.specs.Unseen.{up_to}
use Rattle.iom_judge.specs.declared.seen.Seen.{Seen}
use Rattle.iom_names.specs.Reading.{line_with, names_after}
use Rattle.iom_names.specs.declared.names.Binding.{Binding}
use Rattle.iom_tool.specs.Script.{Again, Asks, Bad, Blank, DebugLine, Does, Inquires, Named, Plain, Stores}
use Rattle.iom_traces.specs.Sights.{IsSight, seen_by}
use Rattle.iom_traces.specs.Trials.{Tried}
use Rattle.iom_traces.specs.Whole.{trying}
use Rattle.iom_traces.specs.declared.sights.Sight.{Sight}

-- the traces behind a step of which this was seen; before it the IOMMU may carry out so many commands that nobody saw, if that is allowed for
abbrev pub hidden : Bool → ℕ → List (List (Step × Seen)) → List (List (Step × Seen))
hidden false most traces = traces
hidden true most traces = up_to most step.Command traces

abbrev pub behind : Bool → ℕ → Step → Seen → List (List (Step × Seen)) → List (List (Step × Seen))
behind hides most taken seen traces = onward (taken, seen) (hidden hides most traces)

-- those behind several, of which nothing was seen
abbrev pub behind_all : Bool → ℕ → List Step → List (List (Step × Seen)) → List (List (Step × Seen))
behind_all hides most [] traces = traces
behind_all hides most (taken ∷ steps) traces = behind_all hides most steps (behind hides most taken unseen traces)

-- a line that is one step
pub record OneShown (hides : Bool) (most : ℕ) (taken : Step) (line : List ℕ) (before after : List (List (Step × Seen))) : Type 0 where
  pub sight : Sight
  pub is : IsSight (wanted line) sight
  pub leaves : after ≡ behind hides most taken (seen_by sight) before

-- one that is several, of which the first ones are taken
pub record SomeShown (hides : Bool) (most : ℕ) (steps : List Step) (before after : List (List (Step × Seen))) : Type 0 where
  pub some : List Step
  pub rest : List Step
  pub are : steps ≡ some ++ rest
  pub leaves : after ≡ behind_all hides most some before

abbrev pub LineShown : Bool → ℕ → DebugLine → List ℕ → List (List (Step × Seen)) → List (List (Step × Seen)) → Type 0
LineShown hides most (Plain Bad) line before after = after ≡ before
LineShown hides most (Plain Blank) line before after = after ≡ before
LineShown hides most (Plain (Asks question)) line before after = after ≡ before
LineShown hides most (Inquires inquiry) line before after = after ≡ before
LineShown hides most (Plain (Does taken)) line before after = OneShown hides most taken line before after
LineShown hides most (Named taken) line before after = OneShown hides most taken line before after
LineShown hides most (Again taken count) line before after = SomeShown hides most (replicate count taken) before after
LineShown hides most (Stores steps) line before after = SomeShown hides most steps before after

-- lines, one after the other, with these names of numbers; the first 513 bytes of a line tell it
abbrev pub AreShown : Bool → ℕ → List Binding → List (List ℕ) → List (List (Step × Seen)) → List (List (Step × Seen)) → Type 0
AreShown hides most names [] before after = after ≡ before
AreShown hides most names (text ∷ lines) before after =
    (mid : List (List (Step × Seen))) × LineShown hides most (line_with names (take 513 text)) (take 513 text) before mid
    × AreShown hides most (names_after names (take 513 text)) lines mid after

-- From there these lines were judged, and none failed; memory wasn't refused.
pub record PassesAll (start : Tried) (lines : List (List ℕ)) (text : List ℕ) (end : Tried) : Type 0 where
  pub goes_on : start.judged.is_over ≡ false
  pub said : Speaks trying start lines text end
  pub passed : end.judged.score.tally.failed ≡ 0
  pub known : end.judged.is_lost ≡ false
