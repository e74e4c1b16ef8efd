-- What is told of a line that no IOMMU could answer so, or that couldn't be judged.
use Rattle.std.specs.Prelude.{ℕ, ◌++◌, nat_lt, List, [], ◌∷◌, codes, length, take, Option, Some, None, Result, Ok, Err, if◌then◌else◌}
use Rattle.std.specs.List.{flat_map}
use Rattle.iom_check.specs.Judging.{title}
use Rattle.iom_core.specs.declared.access.Denial.{Denial}
use Rattle.iom_debug.specs.Escaping.{escaped}
use Rattle.iom_debug.specs.Telling.{slip_text}
use Rattle.iom_judge.specs.declared.possible.Possible.{Possible}
use Rattle.iom_text.specs.Texts.{hexadecimal}
use Rattle.iom_tool.specs.Texts.{text_of}

-- the address to which an access went
abbrev pub where_text : Option (Result ℕ Denial) → List ℕ
where_text (Some (Ok addr)) = codes " at " ++ hexadecimal addr
where_text _ = []

-- a possible answer, as `11223344 at 0x80010abc`
abbrev pub possible_text : Possible → List ℕ
possible_text one = text_of one.answer ++ where_text one.goes

abbrev pub next_text : Possible → List ℕ
next_text one = codes ", " ++ possible_text one

-- eight of them, and that there are more
abbrev pub others_text : List Possible → List ℕ
others_text others = flat_map next_text (take 7 others) ++ (if nat_lt 7 (length others) then codes ", .." else [])

abbrev pub allowed_text : List Possible → List ℕ
allowed_text [] = codes "nothing"
allowed_text (first ∷ others) = possible_text first ++ others_text others

-- as `dma read 5 0x40202abc 4: seen 55667788, allowed: 11223344 at 0x80010abc, denied 13`
unfoldable pub refused_message : List ℕ → List ℕ → List Possible → List ℕ
refused_message line wish allowed = title line ++ codes ": seen " ++ escaped wish ++ codes ", allowed: " ++ allowed_text allowed

unfoldable pub unclear_message : List ℕ → List ℕ → List ℕ
unclear_message line wish = title line ++ codes ": seen " ++ escaped wish ++ codes ", which is no answer"

unfoldable pub undecided_message : List ℕ → List ℕ
undecided_message line = title line ++ codes ": undecided, too many states are possible"

unfoldable pub bad_message : List ℕ → List ℕ → List ℕ
bad_message line slip = title line ++ codes " -> bad" ++ slip_text slip
