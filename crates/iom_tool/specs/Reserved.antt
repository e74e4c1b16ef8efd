-- The words that lines may have as they stand, and those of data: none of them names anything else.
use Rattle.std.specs.Prelude.{ℕ, ◌||◌, Bool, false, List, [], ◌∷◌, is_some, bytes_eq}
use Rattle.iom_tool.specs.Script.{BlockRegister, Data, Item, Number, Part, Register, Row, Word, rows}
use Rattle.iom_tool.specs.Names.{block_registers, named_in, registers}
use Rattle.iom_tool.specs.Words.{bytes_of}

abbrev pub is_this : List ℕ → Part → Bool
is_this word (Word name) = bytes_eq word name
is_this word Number = false
is_this word Register = false
is_this word BlockRegister = false
is_this word Data = false
is_this word Item = false

-- whether parts of a row, or rows, have a word
abbrev pub is_in_parts : List ℕ → List Part → Bool
is_in_parts word [] = false
is_in_parts word (part ∷ parts) = is_this word part || is_in_parts word parts

abbrev pub is_in_rows : List ℕ → List Row → Bool
is_in_rows word [] = false
is_in_rows word (row ∷ rows) = is_in_parts word row.parts || is_in_rows word rows

-- a word of the table of forms, a name of a register, or bytes in hex
unfoldable pub is_reserved : List ℕ → Bool
is_reserved word =
    is_in_rows word rows || (is_some (named_in registers word) || (is_some (named_in block_registers word) || is_some (bytes_of word)))
