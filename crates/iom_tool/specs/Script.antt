-- What a line of a script says, by the table of forms: each row has words and operands, and the first row that a line fits decides.
use Rattle.std.specs.Prelude.{ℕ, ◌+◌, ◌*◌, ◌^◌, ◌==◌, ◌&&◌, ◌||◌, Bool, true, false, nat_lt, nat_le, List, [], ◌∷◌, length, drop, get_or, codes, bytes_eq, Option, Some, None, if◌then◌else◌}
use Rattle.std.specs.List.{list_any}
use Rattle.std.specs.Option.{option_map, unwrap_or}
use Rattle.iom_bits.specs.declared.causes.Kind.{Kind}
use Rattle.iom_bits.specs.declared.causes.Kind.TheVariants as kind
use Rattle.iom_regs.specs.declared.busy.Busy.TheVariants as busy
use Rattle.iom_regs.specs.declared.views.Which.TheVariants as which
use Rattle.iom_core.specs.declared.access.Request.{Request}
use Rattle.iom_core.specs.declared.step.Step.{Step}
use Rattle.iom_core.specs.declared.step.Step.TheVariants as step
use Rattle.iom_text.specs.Words.{words_of, first_number}
use Rattle.iom_items.specs.declared.item.Item.TheVariants as item
use Rattle.iom_ddt.specs.declared.formats.ContextFormat.{ContextFormat}
use Rattle.iom_items.specs.Forms.{where_so, words_for}
use Rattle.iom_items.specs.Operands.{◌>>=◌}
use Rattle.iom_tool.specs.Words.{bytes_of}
use Rattle.iom_tool.specs.Names.{block_registers, named_in, registers}
use Rattle.iom_tool.specs.Values.{Values, nothing, with_number}
use Rattle.iom_tool.specs.declared.language.Language.{Language}
use Rattle.iom_tool.specs.declared.language.Language.TheVariants.{Run, Debug}
use Rattle.iom_tool.specs.declared.language.Question.{Question}
use Rattle.iom_tool.specs.declared.language.Question.TheVariants as question
use Rattle.iom_tool.specs.declared.language.Inquiry.{Inquiry}
use Rattle.iom_tool.specs.declared.language.Inquiry.TheVariants as inquiry
use Rattle.iom_tool.specs.declared.rows.Action.{Action}
use Rattle.iom_tool.specs.declared.rows.Action.TheVariants as action
use Rattle.iom_tool.specs.declared.rows.Form.{Form}
use Rattle.iom_tool.specs.declared.rows.Form.TheVariants as form

-- what a line says to `run`
pub data Line : Type 0 where
  -- it has no words
  Blank : Line
  -- it is none of these
  Bad : Line
  Does : Step → Line
  Asks : Question → Line

-- what a line says to `debug`
pub data DebugLine : Type 0 where
  -- what `run` has too
  Plain : Line → DebugLine
  -- a step on a register that is named
  Named : Step → DebugLine
  -- a question that `debug` alone has
  Inquires : Inquiry → DebugLine
  -- a step, again and again while it is done: at most this number of times
  Again : Step → ℕ → DebugLine
  -- stores one after the other while each is done
  Stores : List Step → DebugLine

-- a part of a row: a word as it stands, or an operand
pub data Part : Type 0 where
  Word : List ℕ → Part
  -- a number below 2^64
  Number : Part
  -- the name of a register of the IOMMU, or of a block device
  Register : Part
  BlockRegister : Part
  -- 1 to 64 bytes in hex
  Data : Part
  -- all words that are left
  Item : Part

-- the words of an item, which has thirteen operands at most
unfoldable pub item_words : List (List ℕ) → Option (List ℕ)
item_words [] = None
item_words (name ∷ operands) = where_so (nat_le (length operands) 13) (words_for ContextFormat.Base name operands)

abbrev pub first_word : List (List ℕ) → Option (List ℕ)
first_word [] = None
first_word (word ∷ words) = Some word

abbrev pub with_register : Values → ℕ × ℕ → Values
with_register said at = with_number (with_number said at.0) at.1

-- what the first of some words says as this part, after what was said before it; of an item all of them
abbrev pub says : Part → List (List ℕ) → Values → Option Values
says (Word name) words said = first_word words >>= λ word. where_so (bytes_eq word name) (Some said)
says Number words said = option_map (with_number said) (first_number words)
says Register words said = first_word words >>= λ word. option_map (with_register said) (named_in registers word)
says BlockRegister words said = first_word words >>= λ word. option_map (with_register said) (named_in block_registers word)
says Data words said = first_word words >>= λ word. option_map (λ bytes. record said { bytes = bytes }) (bytes_of word)
says Item words said = option_map (λ items. record said { items = items }) (item_words words)

-- the words that are left after it
abbrev pub left : Part → List (List ℕ) → List (List ℕ)
left Item words = []
left part words = drop 1 words

-- what the words of a line say as these parts
unfoldable pub all_say : List Part → List (List ℕ) → Values → Option Values
all_say [] words said = where_so (length words == 0) (Some said)
all_say (part ∷ parts) words said = says part words said >>= all_say parts (left part words)

-- operand `i`
abbrev pub at : Values → ℕ → ℕ
at said i = get_or said.numbers i 0

unfoldable pub step_by : Action → Values → Step
step_by action.Load said = step.Load (at said 0) (at said 1)
step_by action.Store said = step.Store (at said 0) (at said 1) (at said 2)
step_by action.RegRead said = step.RegRead (at said 0) (at said 1)
step_by action.RegWrite said = step.RegWrite (at said 0) (at said 1) (at said 2)
step_by action.Command said = step.Command
step_by action.DmaRead said = step.DmaRead (at said 0) (at said 1) (at said 2)
step_by action.DmaWrite said = step.DmaWrite (at said 0) (at said 1) (record { items = said.bytes })
step_by (action.Settle register) said = step.Settle register
step_by (action.Translate kind) said = step.Translate (at said 0) (at said 1) kind
step_by action.DevRead said = step.DevRead (at said 0) (at said 1) (at said 2)
step_by action.DevWrite said = step.DevWrite (at said 0) (at said 1) (at said 2) (at said 3)
step_by action.DevStep said = step.Device (at said 0)

-- how many bytes a question shows: 1 to 64
abbrev pub is_count : ℕ → Bool
is_count count = nat_le 1 count && nat_le count 64

-- how often a step is repeated at most: 1 to 2^20
abbrev pub is_limit : ℕ → Bool
is_limit most = nat_le 1 most && nat_le most (2 ^ 20)

-- of how many bytes an IOMMU may be allowed to read the pages ahead: 1 to 2^24
abbrev pub is_extent : ℕ → Bool
is_extent len = nat_le 1 len && nat_le len (2 ^ 24)

-- what a device may ask of the IOMMU: its id is below 2^24
abbrev pub request_by : Kind → Values → Option Request
request_by kind said =
    where_so (nat_lt (at said 0) (2 ^ 24)) (Some (record { did = at said 0; iova = at said 1; kind = kind }))

-- words of 8 bytes are stored one after the other
abbrev pub stores_at : ℕ → List ℕ → List Step
stores_at addr [] = []
stores_at addr (word ∷ words) = step.Store addr 8 word ∷ stores_at (addr + 8) words

-- none of whose bytes is above 2^64
abbrev pub stores_in : ℕ → List ℕ → Option DebugLine
stores_in addr words = where_so (nat_le (addr + 8 * length words) (2 ^ 64)) (Some (Stores (stores_at addr words)))

abbrev pub asks : Question → Option DebugLine
asks question = Some (Plain (Asks question))

abbrev pub inquires : Inquiry → Option DebugLine
inquires inquiry = Some (Inquires inquiry)

-- what a line of a form says, by its operands
unfoldable pub line_by : Form → Values → Option DebugLine
line_by (form.Does action) said = Some (Plain (Does (step_by action said)))
line_by (form.Named action) said = Some (Named (step_by action said))
line_by (form.Show kind) said = asks (question.Show kind (at said 0))
line_by form.PlaceContext said = asks (question.Context (at said 0))
line_by form.PlacePage said = asks (question.Page (at said 0))
line_by form.Trace said = asks (question.Trace (at said 0))
line_by form.Message said = asks (question.Message (at said 0))
line_by (form.Stale kind) said = option_map (λ request. Inquires (inquiry.Stale request)) (request_by kind said)
line_by form.StaleContext said = inquires (inquiry.StaleContext (at said 0))
line_by form.StalePage said = inquires (inquiry.StalePage (at said 0))
line_by (form.Walk kind) said = option_map (λ request. Inquires (inquiry.Walk request (at said 2))) (request_by kind said)
line_by form.OriginContext said = inquires (inquiry.ContextOrigin (at said 0))
line_by form.OriginPage said = inquires (inquiry.PageOrigin (at said 0))
line_by form.Why said = inquires (inquiry.Why (at said 0))
line_by (form.Queue which) said = inquires (inquiry.Queue which)
line_by form.Vectors said = inquires inquiry.Vectors
line_by form.Dump said = where_so (is_count (at said 1)) (inquires (inquiry.Dump (at said 0) (at said 1)))
line_by form.Disk said = where_so (is_count (at said 2)) (inquires (inquiry.Disk (at said 0) (at said 1) (at said 2)))
line_by form.DevShow said = inquires (inquiry.Device (at said 0))
line_by form.DevRun said = where_so (is_limit (at said 1)) (Some (Again (step.Device (at said 0)) (at said 1)))
line_by form.CmdRun said = where_so (is_limit (at said 0)) (Some (Again step.Command (at said 0)))
line_by form.Owed said = inquires inquiry.Owed
line_by form.Free said = inquires (inquiry.Free (at said 0) (at said 1))
line_by form.Ahead said =
    where_so (nat_lt (at said 0) (2 ^ 24) && is_extent (at said 2)) (inquires (inquiry.Ahead (at said 0) (at said 1) (at said 2)))
line_by form.Put said = stores_in (at said 0) said.items

-- a row: the scripts that may use it, what it says, and its words and operands
pub record Row : Type 0 where
  pub language : Language
  pub form : Form
  pub parts : List Part

abbrev pub row : Language → Form → List Part → Row
row language form parts = record { language = language; form = form; parts = parts }

-- the table
unfoldable pub rows : List Row
rows =
    row Run (form.Does action.Load) (Word (codes "load") ∷ Number ∷ Number ∷ [])
    ∷ row Run (form.Does action.Store) (Word (codes "store") ∷ Number ∷ Number ∷ Number ∷ [])
    ∷ row Run (form.Does action.RegRead) (Word (codes "reg") ∷ Word (codes "read") ∷ Number ∷ Number ∷ [])
    ∷ row Run (form.Does action.RegWrite) (Word (codes "reg") ∷ Word (codes "write") ∷ Number ∷ Number ∷ Number ∷ [])
    ∷ row Run (form.Does action.DmaRead) (Word (codes "dma") ∷ Word (codes "read") ∷ Number ∷ Number ∷ Number ∷ [])
    ∷ row Run (form.Does action.DmaWrite) (Word (codes "dma") ∷ Word (codes "write") ∷ Number ∷ Number ∷ Data ∷ [])
    ∷ row Run (form.Does action.Command) (Word (codes "cmd") ∷ [])
    ∷ row Run (form.Does (action.Settle busy.Directory)) (Word (codes "settle") ∷ Word (codes "ddtp") ∷ [])
    ∷ row Run (form.Does (action.Settle busy.Commands)) (Word (codes "settle") ∷ Word (codes "cq") ∷ [])
    ∷ row Run (form.Does (action.Settle busy.Faults)) (Word (codes "settle") ∷ Word (codes "fq") ∷ [])
    ∷ row Run (form.Does action.DevRead) (Word (codes "dev") ∷ Word (codes "read") ∷ Number ∷ Number ∷ Number ∷ [])
    ∷ row Run (form.Does action.DevWrite) (Word (codes "dev") ∷ Word (codes "write") ∷ Number ∷ Number ∷ Number ∷ Number ∷ [])
    ∷ row Run (form.Does action.DevStep) (Word (codes "dev") ∷ Word (codes "step") ∷ Number ∷ [])
    ∷ row Run (form.Show item.Cmd) (Word (codes "show") ∷ Word (codes "cmd") ∷ Number ∷ [])
    ∷ row Run (form.Show item.Fault) (Word (codes "show") ∷ Word (codes "fault") ∷ Number ∷ [])
    ∷ row Run (form.Show item.Context) (Word (codes "show") ∷ Word (codes "context") ∷ Number ∷ [])
    ∷ row Run (form.Show item.Dir) (Word (codes "show") ∷ Word (codes "dir") ∷ Number ∷ [])
    ∷ row Run (form.Show item.Pte) (Word (codes "show") ∷ Word (codes "pte") ∷ Number ∷ [])
    ∷ row Run (form.Show item.Msi) (Word (codes "show") ∷ Word (codes "msi") ∷ Number ∷ [])
    ∷ row Run (form.Show item.Word) (Word (codes "show") ∷ Word (codes "u64") ∷ Number ∷ [])
    ∷ row Run form.PlaceContext (Word (codes "place") ∷ Word (codes "context") ∷ Number ∷ [])
    ∷ row Run form.PlacePage (Word (codes "place") ∷ Word (codes "page") ∷ Number ∷ [])
    ∷ row Run form.Trace (Word (codes "trace") ∷ Number ∷ [])
    ∷ row Run form.Message (Word (codes "message") ∷ Number ∷ [])
    ∷ row Debug (form.Named action.RegRead) (Word (codes "reg") ∷ Word (codes "read") ∷ Register ∷ [])
    ∷ row Debug (form.Named action.RegWrite) (Word (codes "reg") ∷ Word (codes "write") ∷ Register ∷ Number ∷ [])
    ∷ row Debug (form.Named action.DevRead) (Word (codes "dev") ∷ Word (codes "read") ∷ Number ∷ BlockRegister ∷ [])
    ∷ row Debug (form.Named action.DevWrite) (Word (codes "dev") ∷ Word (codes "write") ∷ Number ∷ BlockRegister ∷ Number ∷ [])
    ∷ row Debug (form.Does (action.Translate kind.Read)) (Word (codes "translate") ∷ Word (codes "read") ∷ Number ∷ Number ∷ [])
    ∷ row Debug (form.Does (action.Translate kind.Write)) (Word (codes "translate") ∷ Word (codes "write") ∷ Number ∷ Number ∷ [])
    ∷ row Debug (form.Queue which.Commands) (Word (codes "queue") ∷ Word (codes "cmd") ∷ [])
    ∷ row Debug (form.Queue which.Faults) (Word (codes "queue") ∷ Word (codes "fault") ∷ [])
    ∷ row Debug form.Vectors (Word (codes "vectors") ∷ [])
    ∷ row Debug form.Dump (Word (codes "dump") ∷ Number ∷ Number ∷ [])
    ∷ row Debug form.Disk (Word (codes "disk") ∷ Number ∷ Number ∷ Number ∷ [])
    ∷ row Debug form.DevShow (Word (codes "dev") ∷ Word (codes "show") ∷ Number ∷ [])
    ∷ row Debug form.DevRun (Word (codes "dev") ∷ Word (codes "run") ∷ Number ∷ Number ∷ [])
    ∷ row Debug form.CmdRun (Word (codes "cmd") ∷ Word (codes "run") ∷ Number ∷ [])
    ∷ row Debug form.Put (Word (codes "put") ∷ Number ∷ Item ∷ [])
    ∷ row Debug (form.Stale kind.Read) (Word (codes "stale") ∷ Word (codes "read") ∷ Number ∷ Number ∷ [])
    ∷ row Debug (form.Stale kind.Write) (Word (codes "stale") ∷ Word (codes "write") ∷ Number ∷ Number ∷ [])
    ∷ row Debug form.StaleContext (Word (codes "stale") ∷ Word (codes "context") ∷ Number ∷ [])
    ∷ row Debug form.StalePage (Word (codes "stale") ∷ Word (codes "page") ∷ Number ∷ [])
    ∷ row Debug (form.Walk kind.Read) (Word (codes "walk") ∷ Word (codes "read") ∷ Number ∷ Number ∷ Number ∷ [])
    ∷ row Debug (form.Walk kind.Write) (Word (codes "walk") ∷ Word (codes "write") ∷ Number ∷ Number ∷ Number ∷ [])
    ∷ row Debug form.OriginContext (Word (codes "origin") ∷ Word (codes "context") ∷ Number ∷ [])
    ∷ row Debug form.OriginPage (Word (codes "origin") ∷ Word (codes "page") ∷ Number ∷ [])
    ∷ row Debug form.Why (Word (codes "why") ∷ Number ∷ [])
    ∷ row Debug form.Owed (Word (codes "owed") ∷ [])
    ∷ row Debug form.Free (Word (codes "free") ∷ Number ∷ Number ∷ [])
    ∷ row Debug form.Ahead (Word (codes "ahead") ∷ Number ∷ Number ∷ Number ∷ [])
    ∷ []

abbrev pub is_debug : Language → Bool
is_debug Run = false
is_debug Debug = true

-- whether a script of this language may use what is marked by the second: `run` only what is marked so
abbrev pub may_use : Language → Language → Bool
may_use language Run = true
may_use language Debug = is_debug language

-- the first row that the words fit, of those that the script may use
abbrev pub or_else : {A : Type 0} → Option A → Option A → Option A
or_else (Some first) other = Some first
or_else None other = other

-- what words say that fit a row
abbrev pub fitted : Row → List (List ℕ) → Option DebugLine
fitted row words = all_say row.parts words nothing >>= line_by row.form

unfoldable pub first_of : Language → List Row → List (List ℕ) → Option DebugLine
first_of language [] words = None
first_of language (row ∷ rows) words =
    or_else (where_so (may_use language row.language) (fitted row words)) (first_of language rows words)

unfoldable pub meaning : Language → List (List ℕ) → DebugLine
meaning language [] = Plain Blank
meaning language (verb ∷ words) = unwrap_or (first_of language rows (verb ∷ words)) (Plain Bad)

-- of a line of at most 512 bytes, without its end
unfoldable pub line_in : Language → List ℕ → DebugLine
line_in language text =
    if nat_lt 512 (length text) || list_any (λ c. c == 10) text then Plain Bad else meaning language (words_of text)

abbrev pub debug_line_of : List ℕ → DebugLine
debug_line_of text = line_in Debug text

-- `run` answers `bad` to what it does not have
abbrev pub plain : DebugLine → Line
plain (Plain line) = line
plain other = Bad

abbrev pub line_of : List ℕ → Line
line_of text = plain (line_in Run text)

-- the step that a line is
abbrev pub step_in : Line → Option Step
step_in Blank = None
step_in Bad = None
step_in (Does step) = Some step
step_in (Asks question) = None
