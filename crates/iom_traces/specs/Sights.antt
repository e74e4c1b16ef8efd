-- What a line's comment says was seen: `# => ANSWER`, `# => ANSWER at ADDR`, or `# => at ADDR`.
use Rattle.std.specs.Prelude.{ℕ, ◌≡◌, ◌≢◌, ◌++◌, List, [], ◌∷◌, codes, Option, Some, None}
use Rattle.iom_core.specs.declared.step.Answer.{Answer}
use Rattle.iom_judge.specs.Seen.{unseen}
use Rattle.iom_judge.specs.declared.seen.Seen.{Seen}
use Rattle.iom_text.specs.Words.{number, words_of}
use Rattle.iom_tool.specs.Texts.{text_of}
use Rattle.iom_traces.specs.declared.sights.Sight.{Sight}
use Rattle.iom_traces.specs.declared.sights.Sight.TheVariants.{Nothing, Saw, Unclear}

-- these are the words of this answer; where there are none, it wasn't seen
abbrev pub IsAnswerTold : List (List ℕ) → Option Answer → Type 0
IsAnswerTold words None = words ≡ []
IsAnswerTold words (Some answer) = (words ≡ words_of (text_of answer)) × (words ≢ [])

-- these are `at` and the number of this address; where there are none, it wasn't seen
abbrev pub IsAddrTold : List (List ℕ) → Option ℕ → Type 0
IsAddrTold words None = words ≡ []
IsAddrTold words (Some addr) = (word : List ℕ) × (words ≡ codes "at" ∷ word ∷ []) × (number word ≡ Some addr)

-- this was seen: the words are those of the answer, and then those of the address
pub record IsSeen (words : List (List ℕ)) (seen : Seen) : Type 0 where
  pub told : List (List ℕ)
  pub place : List (List ℕ)
  pub are : words ≡ told ++ place
  pub answer : IsAnswerTold told seen.answer
  pub addr : IsAddrTold place seen.addr

-- where something was seen, it was this
abbrev pub IfSaw : Sight → (Seen → Type 0) → Type 0
IfSaw Nothing holds = ⊥
IfSaw (Saw seen) holds = holds seen
IfSaw Unclear holds = Unit {0}

-- Where there is no comment of this form, nothing was seen. Of one that can't be read nothing is known.
abbrev pub IsSight : Option (List ℕ) → Sight → Type 0
IsSight None sight = sight ≡ Nothing
IsSight (Some wish) sight = IfSaw sight (IsSeen (words_of wish))

-- what the judge is told
abbrev pub seen_by : Sight → Seen
seen_by Nothing = unseen
seen_by (Saw seen) = seen
seen_by Unclear = unseen
