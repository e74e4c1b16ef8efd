-- What is wrong with a statement of an image's text that can't stand, as far as its own words tell it.
use Rattle.std.specs.Prelude.{ℕ, ◌==◌, ◌||◌, ◌++◌, Bool, List, [], ◌∷◌, length, take, codes, bytes_eq, is_some, if◌then◌else◌}
use Rattle.iom_text.specs.Words.{words_of}
use Rattle.iom_items.specs.Items.{item_named}
use Rattle.iom_slips.specs.declared.ranges.Range.TheVariants.{Any}
use Rattle.iom_slips.specs.declared.pieces.Operand.TheVariants as op
use Rattle.iom_slips.specs.Quoting.{quoted}
use Rattle.iom_slips.specs.declared.items.Keys.TheVariants as keys
use Rattle.iom_slips.specs.Items.{item_slip, operands_slip}
use Rattle.iom_slips.specs.Patterns.{Hex, Number, Piece, addr, did, size}
use Rattle.iom_slips.specs.Slips.{left_at}

-- `ram BASE SIZE`
abbrev pub ram_slip : List (List ℕ) → List ℕ
ram_slip operands =
    left_at (Number op.Base Any ∷ size ∷ []) operands (codes "BASE and SIZE are multiples of 4096, SIZE at most 2^26")

-- the statement that a text begins with
unfoldable pub first_slip : List ℕ → List (List ℕ) → List ℕ
first_slip name operands =
    if bytes_eq name (codes "ram") then ram_slip operands else codes "the first statement is ram, not " ++ quoted name

-- `disk DID SECTORS [HEX]`
abbrev pub sectors : Piece
sectors = Number op.Sectors Any

abbrev pub disk_pieces : List (List ℕ) → List Piece
disk_pieces operands = if length operands == 2 then did ∷ sectors ∷ [] else did ∷ sectors ∷ Hex ∷ []

unfoldable pub disk_slip : List (List ℕ) → List ℕ
disk_slip operands = left_at (disk_pieces operands) operands (codes "no disk of this DID and this size can stand here")

-- `window BASE SIZE`
abbrev pub window_slip : List (List ℕ) → List ℕ
window_slip operands =
    left_at (Number op.Base Any ∷ size ∷ []) operands (codes "a window stands once, of whole pages below 2^56, beside memory")

-- an item, whose words are these
unfoldable pub stated_slip : List ℕ → List (List ℕ) → List ℕ
stated_slip name operands =
    if is_some (item_named name)
    then item_slip (take 15 (name ∷ operands)) (codes "the machine lacks a capability that this names")
    else quoted name ++ codes " is no statement"

-- any other statement
unfoldable pub later_slip : List ℕ → List (List ℕ) → List ℕ
later_slip name operands =
    if bytes_eq name (codes "at") then left_at (addr ∷ []) operands (codes "ADDR can't stand here")
    else if bytes_eq name (codes "bytes") then left_at (Hex ∷ []) operands (codes "HEX can't stand here")
    else if bytes_eq name (codes "disk") || bytes_eq name (codes "rodisk") then disk_slip operands
    else if bytes_eq name (codes "capabilities")
    then operands_slip keys.Capabilities (take 15 operands) (codes "capabilities stand once, with vectors 1, 2 or 4, igs 0, 1 or 2")
    else if bytes_eq name (codes "window") then window_slip operands
    else if bytes_eq name (codes "ram") then codes "ram stands once"
    else stated_slip name operands

-- of a line without words nothing
abbrev pub words_stated : Bool → List (List ℕ) → List ℕ
words_stated is_first [] = []
words_stated is_first (name ∷ operands) = if is_first then first_slip name operands else later_slip name operands

-- what is wrong with a line, which is the first statement or a later one
unfoldable pub statement_slip_of : Bool → List ℕ → List ℕ
statement_slip_of is_first line = words_stated is_first (words_of line)
