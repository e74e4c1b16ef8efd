-- A step that is printed is read again as that step.
use Rattle.std.specs.Prelude.{ℕ, ◌≡◌, ◌^◌, ◌<◌, ◌≤◌, Bool, true, false, List, length}
use Rattle.hex.specs.Hex.{IsBytes}
use Rattle.iom_core.specs.declared.step.Step.{Step}
use Rattle.iom_core.specs.declared.step.Step.TheVariants as step
use Rattle.iom_tool.specs.Script.{Does, Plain, debug_line_of, line_of}
use Rattle.iom_tool.specs.Texts.{step_text}

-- what DATA can say: 1 to 64 bytes
pub record AreData (bytes : List ℕ) : Type 0 where
  pub some : 1 ≤ length bytes
  pub few : length bytes ≤ 64
  pub each : IsBytes bytes

-- the numbers and the bytes of a step are those that a line can say
abbrev pub CanBeSaid : Step → Type 0
CanBeSaid (step.Load addr size) = (addr < 2 ^ 64) × (size < 2 ^ 64)
CanBeSaid (step.Store addr size value) = (addr < 2 ^ 64) × (size < 2 ^ 64) × (value < 2 ^ 64)
CanBeSaid (step.RegRead off size) = (off < 2 ^ 64) × (size < 2 ^ 64)
CanBeSaid (step.RegWrite off size value) = (off < 2 ^ 64) × (size < 2 ^ 64) × (value < 2 ^ 64)
CanBeSaid step.Command = Unit {0}
CanBeSaid (step.Settle register) = Unit {0}
CanBeSaid (step.DmaRead did iova len) = (did < 2 ^ 64) × (iova < 2 ^ 64) × (len < 2 ^ 64)
CanBeSaid (step.DmaWrite did iova bytes) = (did < 2 ^ 64) × (iova < 2 ^ 64) × AreData bytes.items
CanBeSaid (step.Translate did iova kind) = (did < 2 ^ 64) × (iova < 2 ^ 64)
CanBeSaid (step.DevRead dev off size) = (dev < 2 ^ 64) × (off < 2 ^ 64) × (size < 2 ^ 64)
CanBeSaid (step.DevWrite dev off size value) = (dev < 2 ^ 64) × (off < 2 ^ 64) × (size < 2 ^ 64) × (value < 2 ^ 64)
CanBeSaid (step.Device dev) = dev < 2 ^ 64

-- `run` has each step but `translate`
abbrev pub is_of_run : Step → Bool
is_of_run (step.Translate did iova kind) = false
is_of_run other = true

-- The text of a step, read by the table of forms, is that step.
abbrev pub ReadsSteps : Type 0
ReadsSteps = (s : Step) → CanBeSaid s → debug_line_of (step_text s) ≡ Plain (Does s)

-- So it is in a script of `run`.
abbrev pub ReadsStepsOfRun : Type 0
ReadsStepsOfRun = (s : Step) → CanBeSaid s → is_of_run s ≡ true → line_of (step_text s) ≡ Does s
