-- Why a line that includes a text can't stand for its lines. `gives` and `lacks` say what may be answered of a name: this text, or why
-- there is none.
use Rattle.std.specs.Prelude.{ℕ, zero, suc, ◌≡◌, ◌==◌, ◌<◌, ◌^◌, ◌⊎◌, ◌++◌, ⊤, List, ◌∷◌, Option, Some, codes, length, string_bytes, IfSome}
use Rattle.std.specs.List.{filter}
use Rattle.std.specs.Str.{IsUtf8}
use Rattle.iom_reader.specs.Lines.{lines_of}
use Rattle.iom_include.specs.Including.{file_of, name_at, said}
use Rattle.iom_include.specs.declared.fault.TextFault.{TextFault}
use Rattle.iom_include.specs.declared.fault.TextFault.TheVariants as answered
use Rattle.iom_include.specs.declared.fault.Reason.{Reason}
use Rattle.iom_include.specs.declared.fault.Reason.TheVariants as reason
use Rattle.iom_include.specs.declared.fault.IncludeFault.{IncludeFault}
use Rattle.iom_include.specs.declared.fault.IncludeFault.TheVariants as fault

-- one of these lines
pub record IsAmong (line : List ℕ) (lines : List (List ℕ)) : Type 0 where
  pub before : List (List ℕ)
  pub behind : List (List ℕ)
  pub split : lines ≡ before ++ line ∷ behind

-- a line of the text that a line includes, which was given
pub record IsIncluded (gives : List ℕ → List ℕ → Type 0) (from line : List ℕ) (inside : List ℕ → List ℕ → Type 0) : Type 0 where
  pub file : List ℕ
  pub includes : file_of line ≡ Some file
  pub text : List ℕ
  pub given : gives (name_at from file) text
  pub next : List ℕ
  pub among : IsAmong next (lines_of text)
  pub below : inside (name_at from file) next

-- from a line of the text `from`, where `depth` texts may include each other, to a line of the text `to`, where so many still may: it is
-- that line, or one of the text that it includes, and so on
unfoldable pub Leads : (List ℕ → List ℕ → Type 0) → ℕ → List ℕ → List ℕ → ℕ → List ℕ → List ℕ → Type 0
Leads gives zero from line left to last = (left ≡ 0) × (to ≡ from) × (last ≡ line)
Leads gives (suc depth) from line left to last =
    ((left ≡ suc depth) × (to ≡ from) × (last ≡ line))
    ⊎ IsIncluded gives from line (λ name next. Leads gives depth name next left to last)

-- the last line includes a file, which is called `name`
pub record Includes (to last name : List ℕ) (more : Type 0) : Type 0 where
  pub file : List ℕ
  pub includes : file_of last ≡ Some file
  pub named : name ≡ name_at to file
  pub why : more

-- its name isn't UTF-8, so it has none to show
pub record HasNoName (last name : List ℕ) : Type 0 where
  pub file : List ℕ
  pub includes : file_of last ≡ Some file
  pub other : ¬ (IsUtf8 file)
  pub shown : name ≡ codes "?"

-- more bytes or lines than may stand for a line
abbrev pub IsOver : ℕ → ℕ → Type 0
IsOver bytes lines = (2 ^ 26 < bytes) ⊎ (2 ^ 20 < lines)

abbrev pub line_ends : List ℕ → ℕ
line_ends text = length (filter (λ c. c == 10) text)

abbrev pub IsTooMuch : List ℕ → Type 0
IsTooMuch text = IsOver (length text) (line_ends text)

-- the reason of a refusal, where `over` says that too much stands for a line
abbrev pub IsReason : (List ℕ → TextFault → Type 0) → ℕ → List ℕ → List ℕ → List ℕ → Type 0 → Reason → Type 0
IsReason lacks left to last name over reason.Unreadable = HasNoName last name ⊎ Includes to last name (lacks name answered.Unreadable)
IsReason lacks left to last name over reason.TooLong = Includes to last name (lacks name answered.TooLong ⊎ over)
IsReason lacks left to last name over reason.TooDeep = Includes to last name (left ≡ 0)

pub record IsRefused (gives : List ℕ → List ℕ → Type 0) (lacks : List ℕ → TextFault → Type 0) (depth : ℕ) (from line : List ℕ) (over : Type 0)
    (why : Reason) (name to : List ℕ) : Type 0 where
  pub left : ℕ
  pub last : List ℕ
  pub leads : Leads gives depth from line left to last
  pub reason : IsReason lacks left to last name over why

-- the fault of a line of the text `from`
abbrev pub IsFaultOf : (List ℕ → List ℕ → Type 0) → (List ℕ → TextFault → Type 0) → ℕ → List ℕ → List ℕ → Type 0 → IncludeFault → Type 0
IsFaultOf gives lacks depth from line over (fault.Refused why name to number) =
    IsRefused gives lacks depth from line over why (string_bytes name) (string_bytes to)
IsFaultOf gives lacks depth from line over fault.LongLine = ⊥
IsFaultOf gives lacks depth from line over fault.OutOfMemory = ⊤

-- a fault that names these, or want of memory
abbrev pub Names : Reason → List ℕ → List ℕ → IncludeFault → Type 0
Names why name from (fault.Refused told shown to number) = (told ≡ why) × (string_bytes shown ≡ name) × (string_bytes to ≡ from)
Names why name from fault.LongLine = ⊥
Names why name from fault.OutOfMemory = ⊤

-- the fault of a text that there isn't
abbrev pub Lacking : (List ℕ → TextFault → Type 0) → List ℕ → List ℕ → IncludeFault → Type 0
Lacking lacks name from (fault.Refused reason.Unreadable shown to number) =
    lacks name answered.Unreadable × (string_bytes shown ≡ name) × (string_bytes to ≡ from)
Lacking lacks name from (fault.Refused reason.TooLong shown to number) =
    lacks name answered.TooLong × (string_bytes shown ≡ name) × (string_bytes to ≡ from)
Lacking lacks name from (fault.Refused reason.TooDeep shown to number) = ⊥
Lacking lacks name from fault.LongLine = ⊥
Lacking lacks name from fault.OutOfMemory = ⊤

-- what holds of a refusal
abbrev pub IfRefused : IncludeFault → Type 0 → Type 0
IfRefused (fault.Refused why shown to number) holds = holds
IfRefused fault.LongLine holds = ⊤
IfRefused fault.OutOfMemory holds = ⊤

-- a front of a text was appended
abbrev pub AppendsFront : List ℕ → List ℕ → List ℕ → Type 0
AppendsFront old new text = (rest : List ℕ) × (new ++ rest ≡ old ++ text)

-- the fault of a line of a script of this name: that too much stands for the line is said of texts that are known
abbrev pub IsFault : Option (List ℕ → List ℕ) → (List ℕ → List ℕ → Type 0) → (List ℕ → TextFault → Type 0) → List ℕ → List ℕ → IncludeFault → Type 0
IsFault known gives lacks name line fault = IsFaultOf gives lacks 8 name line (IfSome known (λ texts. IsTooMuch (said texts 8 name line))) fault
