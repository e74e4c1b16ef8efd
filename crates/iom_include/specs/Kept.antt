-- Texts that were read for a line, and are kept for it.
use Rattle.std.specs.Prelude.{ℕ, ◌≡◌, ⊤, List, Option, IfSome}
use Rattle.std.specs.Option.{option_map}
use Rattle.std.specs.BTreeMap.{get_by_text}
use Rattle.iom_include.specs.declared.fault.TextFault.{TextFault}
use Rattle.iom_include.specs.declared.fault.TextFault.TheVariants as answered
use Rattle.iom_include.specs.declared.kept.KeptTexts.{KeptTexts}

abbrev pub kept_of : KeptTexts → List ℕ → Option (List ℕ)
kept_of kept name = option_map (λ text. text.items) (get_by_text kept.texts name)

-- a text that may be given for a name, and is the known one
abbrev pub IsGiven : Option (List ℕ → List ℕ) → (List ℕ → List ℕ → Type 0) → List ℕ → List ℕ → Type 0
IsGiven known gives name text = gives name text × IfSome known (λ texts. text ≡ texts name)

-- each text is one of its name
abbrev pub AreKept : Option (List ℕ → List ℕ) → (List ℕ → List ℕ → Type 0) → KeptTexts → Type 0
AreKept known gives kept = (name : List ℕ) → IfSome (kept_of kept name) (IsGiven known gives name)

-- why there is no text of a name, or want of memory
abbrev pub IsLack : (List ℕ → TextFault → Type 0) → List ℕ → TextFault → Type 0
IsLack lacks name answered.Unreadable = lacks name answered.Unreadable
IsLack lacks name answered.TooLong = lacks name answered.TooLong
IsLack lacks name answered.OutOfMemory = ⊤
