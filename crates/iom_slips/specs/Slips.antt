-- Why `debug` answers `bad`: of the rows of the table of forms the first whose longest front the words of the line fit, and the first
-- word at which the line leaves it.
use Rattle.std.specs.Prelude.{ℕ, ◌+◌, ◌%◌, ◌==◌, ◌++◌, ◌&&◌, Bool, true, false, nat_lt, List, [], ◌∷◌, length, take, codes, bytes_eq, is_some, if◌then◌else◌}
use Rattle.std.specs.Char.{digit_value}
use Rattle.std.specs.List.{list_all, list_any}
use Rattle.iom_text.specs.Words.{number, words_of}
use Rattle.iom_tool.specs.Names.{block_registers, named_in, registers}
use Rattle.iom_tool.specs.Script.{Bad, DebugLine, Plain, debug_line_of}
use Rattle.iom_tool.specs.Words.{bytes_of}
use Rattle.iom_slips.specs.Ranges.{is_one_in, unlike_number}
use Rattle.iom_slips.specs.Quoting.{quoted}
use Rattle.iom_slips.specs.Items.{item_slip}
use Rattle.iom_slips.specs.Patterns.{Among, BlockRegister, Data, Item, Number, Piece, Register, Word, Hex, name_of, patterns, words_among}

abbrev pub is_hex : List ℕ → Bool
is_hex word = list_all (λ c. nat_lt (digit_value c) 16) word

-- whether a word is this piece; an item judges its words itself
unfoldable pub is_piece : Piece → List ℕ → Bool
is_piece (Word name) word = bytes_eq word name
is_piece (Among name choice) word = bytes_eq word name
is_piece (Number operand range) word = is_one_in range (number word)
is_piece Register word = is_some (named_in registers word)
is_piece BlockRegister word = is_some (named_in block_registers word)
is_piece Data word = is_some (bytes_of word)
is_piece Hex word = is_hex word && length word % 2 == 0
is_piece Item word = false

abbrev pub begins_with_digit : List ℕ → Bool
begins_with_digit [] = false
begins_with_digit (c ∷ cs) = nat_lt (digit_value c) 10

-- A word that is not this piece may be meant so: one that begins with a digit as a number, any other as a name.
unfoldable pub is_meant : Piece → List ℕ → Bool
is_meant (Number operand range) word = begins_with_digit word
is_meant Register word = if begins_with_digit word then false else true
is_meant BlockRegister word = if begins_with_digit word then false else true
is_meant other word = false

-- how far words fit some pieces: 2 for each, and 1 for a word that is meant so
unfoldable pub fit : List Piece → List (List ℕ) → ℕ
fit [] words = 0
fit (piece ∷ pieces) [] = 0
fit (piece ∷ pieces) (word ∷ words) =
    if is_piece piece word then 2 + fit pieces words else if is_meant piece word then 1 else 0

-- the first that the words fit farthest
unfoldable pub closest : List Piece → List (List Piece) → List (List ℕ) → List Piece
closest pieces [] words = pieces
closest pieces (other ∷ others) words =
    if nat_lt (fit pieces words) (fit other words) then closest other others words else closest pieces others words

-- a piece that is missing
unfoldable pub missing : Piece → List ℕ
missing (Word name) = codes "a word is missing"
missing (Among name choice) = words_among choice ++ codes " is missing"
missing (Number operand range) = name_of operand ++ codes " is missing"
missing Register = codes "NAME is missing"
missing BlockRegister = codes "NAME is missing"
missing Data = codes "DATA is missing"
missing Hex = codes "HEX is missing"
missing Item = codes "ITEM is missing"

-- what is wrong with a word of bytes, which has this name
unfoldable pub data_slip : List ℕ → List ℕ → List ℕ
data_slip name word =
    if is_hex word
    then if length word % 2 == 1 then name ++ codes " has an odd number of digits" else name ++ codes " has more than 64 bytes"
    else name ++ codes " " ++ quoted word ++ codes " isn't hex digits"

-- what is wrong with a word that is not this piece
unfoldable pub unlike : Piece → List ℕ → List ℕ
unlike (Word name) word = codes "no line begins with " ++ quoted word
unlike (Among name choice) word = quoted word ++ codes " isn't " ++ words_among choice
unlike (Number operand range) word = name_of operand ++ codes " " ++ quoted word ++ unlike_number range word
unlike Register word = quoted word ++ codes " is no register"
unlike BlockRegister word = quoted word ++ codes " is no register of a block device"
unlike Data word = data_slip (codes "DATA") word
unlike Hex word = data_slip (codes "HEX") word
unlike Item word = codes "ITEM is missing"

-- what is wrong behind all pieces; where no word is left, the last text
abbrev pub left_over : List (List ℕ) → List ℕ → List ℕ
left_over [] last = last
left_over (word ∷ words) last = quoted word ++ codes " is one word too many"

-- what is wrong where words leave some pieces
unfoldable pub left_at : List Piece → List (List ℕ) → List ℕ → List ℕ
left_at [] words last = left_over words last
left_at (Item ∷ pieces) words last = item_slip (take 15 words) (codes "ITEM would end above 2^64")
left_at (piece ∷ pieces) [] last = missing piece
left_at (piece ∷ pieces) (word ∷ words) last = if is_piece piece word then left_at pieces words last else unlike piece word

-- a first word that no row has
abbrev pub verb_slip : List ℕ → List ℕ
verb_slip word = codes "no line begins with " ++ quoted word

-- what is wrong behind the word `include`: `include FILE` gives its place to the lines of a file, and is no line itself
abbrev pub include_slip : List (List ℕ) → List ℕ
include_slip [] = codes "include: FILE is missing"
include_slip (file ∷ []) = verb_slip (codes "include")
include_slip (file ∷ word ∷ words) = codes "include: a file's name has no blank"

-- the reason by the words of a line; it begins with the first word of a row, or of none
unfoldable pub words_slip : List Piece → List (List ℕ) → List ℕ
words_slip [] [] = codes "no line has these words"
words_slip [] (word ∷ words) = if bytes_eq word (codes "include") then include_slip words else verb_slip word
words_slip (piece ∷ pieces) words = left_at (piece ∷ pieces) words (codes "no line has these words")

-- why a line, given without its end, is none of `debug`
unfoldable pub reason : List ℕ → List ℕ
reason line =
    if nat_lt 512 (length line) then codes "a line has at most 512 bytes"
    else if list_any (λ c. c == 10) line then codes "a line end stands within the line"
    else words_slip (closest [] patterns (words_of line)) (words_of line)

abbrev pub is_bad : DebugLine → Bool
is_bad (Plain Bad) = true
is_bad other = false

-- the reason of a line that is `bad`; of any other nothing
unfoldable pub slip_of : List ℕ → List ℕ
slip_of line = if is_bad (debug_line_of line) then reason line else []
