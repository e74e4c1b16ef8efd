-- Judges of traces, in C: RISC-V IOMMU Architecture 1.0, "Caching in-memory data structures".
use Rattle.std.specs.Prelude.{ℕ, ◌≡◌, ◌⊎◌, Bool, true, false, List, [], ◌∷◌, length, take, Option, Some, None, IsSomeAnd}
use base.Fml.{Fml, ftrue}
use denote.RawPtr.{Ptr}
use Rattle.std.specs.Box.Ownership.{box_owns}
use Rattle.std.specs.Global.{Global}
use Rattle.std_heap.specs.contracts.GlobalAllocator.TheImpl.{ghosts}
use Rattle.iom_check.specs.Scores.{begun as score_begun}
use Rattle.iom_check.specs.Wanted.{wanted}
use Rattle.iom_check.specs.declared.rules.Rules.{Rules}
use Rattle.iom_check.specs.declared.rules.Style.TheVariants as style
use Rattle.iom_core.specs.State.{State}
use Rattle.iom_core.specs.declared.step.Step.{Step}
use Rattle.iom_judge.specs.Candidates.{AreCandidates}
use Rattle.iom_judge.specs.declared.judge.Verdict.TheVariants.{Allowed}
use Rattle.iom_judge.specs.declared.possible.Possible.{Possible}
use Rattle.iom_judge.specs.declared.seen.Seen.{Seen}
use Rattle.iom_tool.specs.Script.{DebugLine, Does, Named, Plain}
use Rattle.iom_traces.specs.Drives.{begun, tried_by}
use Rattle.iom_traces.specs.Rulings.{IsAnswered}
use Rattle.iom_traces.specs.Sights.{IsSight}
use Rattle.iom_traces.specs.Trials.{TrialSays, Tried}
use Rattle.iom_traces.specs.declared.sights.Sight.TheVariants as sight
use Rattle.iom_c.specs.Buffers.{cut_in}
use Rattle.iom_c.specs.Faults.{bad_line, judged_over, ok, out_of_memory, refused, undecided}
use Rattle.iom_c.specs.contracts.trying.OwnedTrial.{the_row}
use Rattle.iom_c.specs.declared.trying.OwnedTrial.{OwnedTrial}

-- an open judge owns a box's block of the heap with the trial in it, a closed one nothing
abbrev pub judge_owns : Global → Ptr → Option the_row.Denot → Fml
judge_owns alloc p (Some own) = box_owns (ghosts.dealloc_token alloc) the_row p own
judge_owns alloc p None = ftrue

-- lines are told as text, and what was seen of a line that isn't one step fails
abbrev pub trial_rules : Rules
trial_rules = record { fails_if_stale = false; looks_at_fences = false; fails_if_unsettled = false; is_strict = true; style = style.Text }

-- Of no line yet: all that an IOMMU may be in this platform that holds nothing. `hides`: commands may be carried out that nobody saw.
pub record JudgesFrom (platform : State) (hides : Bool) (own : OwnedTrial) : Type 0 where
  pub candidates : AreCandidates platform ([] ∷ []) (tried_by own.trial).judged.candidates
  pub is : tried_by own.trial ≡ begun (tried_by own.trial).judged.candidates hides (score_begun trial_rules None 0)

-- a judge is opened, or there is no memory for it
abbrev pub StartsJudge : State → Bool → ℕ → Option OwnedTrial → Type 0
StartsJudge platform hides told held = ((told ≡ ok) × IsSomeAnd held (JudgesFrom platform hides)) ⊎ ((told ≡ out_of_memory) × (held ≡ None))

-- what a line's comment says was seen
abbrev pub IsReadable : List ℕ → Type 0
IsReadable line = (seen : Seen) × IsSight (wanted line) (sight.Saw seen)

-- The number of a line, by whether memory was refused, whether it was over before, whether it is now, and what is said of the line. Where something is
-- said of a line that is decided, it failed.
abbrev pub IsNumbered : Bool → Bool → Bool → List ℕ → ℕ → Type 0
IsNumbered true was_over is_over said told = told ≡ out_of_memory
IsNumbered false true is_over said told = told ≡ judged_over
IsNumbered false false true said told = told ≡ undecided
IsNumbered false false false [] told = told ≡ ok
IsNumbered false false false (c ∷ said) told = (told ≡ refused) ⊎ (told ≡ bad_line)

-- a line was judged: what is said of it, and its number
pub record IsLineJudged (before : Tried) (line said : List ℕ) (after : Tried) (told : ℕ) : Type 0 where
  pub says : TrialSays before line said after
  pub number : IsNumbered after.judged.is_lost before.judged.is_over after.judged.is_over said told
  pub seen : told ≡ refused → IsReadable line

-- a line is this one step
abbrev pub IsStep : DebugLine → Step → Type 0
IsStep line taken = (line ≡ Plain (Does taken)) ⊎ (line ≡ Named taken)

-- some IOMMU could answer to this step what the line says was seen
pub record IsAllowedLine (before : Tried) (line : List ℕ) (taken : Step) (after : Tried) : Type 0 where
  pub seen : Seen
  pub is : IsSight (wanted line) (sight.Saw seen)
  pub possible : List Possible
  pub answered : IsAnswered before.hides before.judged.candidates taken (sight.Saw seen) Allowed possible after.judged.candidates

-- The first 513 bytes of a line, which decide its meaning, were judged, and what is said stands in the caller's buffer.
pub record JudgesLine (own : OwnedTrial) (line : List ℕ) (after : OwnedTrial) (told : ℕ) (old new : List ℕ) (count : ℕ) : Type 0 where
  pub said : List ℕ
  pub judged : IsLineJudged (tried_by own.trial) (take 513 line) said (tried_by after.trial) told
  pub text : new ≡ cut_in said old
  pub counts : count ≡ length said
