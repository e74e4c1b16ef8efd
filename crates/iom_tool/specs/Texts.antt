-- The texts of answers and of steps.
use Rattle.std.specs.Prelude.{ℕ, ◌++◌, List, [], ◌∷◌, codes, Option, Some, None}
use Rattle.std.specs.List.{flat_map}
use Rattle.hex.specs.Hex.{encode_lower}
use Rattle.iom_text.specs.Texts.{numeral, hexadecimal}
use Rattle.iom_bits.specs.declared.causes.Kind.TheVariants as kind
use Rattle.iom_regs.specs.declared.busy.Busy.TheVariants as busy
use Rattle.iom_core.specs.declared.step.Step.{Step}
use Rattle.iom_core.specs.declared.step.Step.TheVariants as step
use Rattle.iom_core.specs.declared.step.Answer.{Answer}
use Rattle.iom_core.specs.declared.step.Answer.TheVariants as answer
use Rattle.iom_tool.specs.declared.trace.TracedStep.{TracedStep}

unfoldable pub text_of : Answer → List ℕ
text_of (answer.Value value) = hexadecimal value
text_of answer.Done = codes "done"
text_of (answer.Bytes bytes) = encode_lower bytes.items
text_of answer.Idle = codes "idle"
text_of (answer.Denied cause) = codes "denied " ++ numeral 10 cause
text_of answer.BusError = codes "bus error"
text_of answer.BadAccess = codes "bad access"
text_of answer.NoDevice = codes "no device"
text_of answer.Misuse = codes "misuse"

-- numbers, each after a blank
abbrev pub operands : List ℕ → List ℕ
operands numbers = flat_map (λ number. codes " " ++ hexadecimal number) numbers

-- a step as a line of a script
unfoldable pub step_text : Step → List ℕ
step_text (step.Load addr size) = codes "load" ++ operands (addr ∷ size ∷ [])
step_text (step.Store addr size value) = codes "store" ++ operands (addr ∷ size ∷ value ∷ [])
step_text (step.RegRead off size) = codes "reg read" ++ operands (off ∷ size ∷ [])
step_text (step.RegWrite off size value) = codes "reg write" ++ operands (off ∷ size ∷ value ∷ [])
step_text step.Command = codes "cmd"
step_text (step.Settle busy.Directory) = codes "settle ddtp"
step_text (step.Settle busy.Commands) = codes "settle cq"
step_text (step.Settle busy.Faults) = codes "settle fq"
step_text (step.DmaRead did iova len) = codes "dma read" ++ operands (did ∷ iova ∷ len ∷ [])
step_text (step.DmaWrite did iova bytes) = codes "dma write" ++ operands (did ∷ iova ∷ []) ++ codes " " ++ encode_lower bytes.items
step_text (step.Translate did iova kind.Read) = codes "translate read" ++ operands (did ∷ iova ∷ [])
step_text (step.Translate did iova kind.Write) = codes "translate write" ++ operands (did ∷ iova ∷ [])
step_text (step.DevRead dev off size) = codes "dev read" ++ operands (dev ∷ off ∷ size ∷ [])
step_text (step.DevWrite dev off size value) = codes "dev write" ++ operands (dev ∷ off ∷ size ∷ value ∷ [])
step_text (step.Device dev) = codes "dev step" ++ operands (dev ∷ [])

-- a step of a trace with its answer
unfoldable pub entry_text : Option TracedStep → List ℕ
entry_text None = codes "none"
entry_text (Some entry) = step_text entry.step ++ codes " -> " ++ text_of entry.answer
