-- The lines of `debug`, row by row of the table of forms, with what the help calls their operands.
use Rattle.std.specs.Prelude.{ℕ, ◌≤◌, List, [], ◌∷◌, codes, length, map}
use Rattle.iom_tool.specs.Script.{Part}
use Rattle.iom_tool.specs.Script as part
use Rattle.iom_slips.specs.declared.ranges.Range.{Range}
use Rattle.iom_slips.specs.declared.ranges.Range.TheVariants.{Any, Bits, Count, Extent, Limit}
use Rattle.iom_slips.specs.declared.pieces.Operand.{Operand}
use Rattle.iom_slips.specs.declared.pieces.Operand.TheVariants as op
use Rattle.iom_slips.specs.declared.pieces.Choice.{Choice}
use Rattle.iom_slips.specs.declared.pieces.Choice.TheVariants as choice
use Rattle.iom_slips.specs.declared.pieces.Piece.{Piece as OwnPiece}
use Rattle.iom_slips.specs.declared.pieces.Piece.TheVariants as own
use Rattle.iom_slips.specs.declared.patterns.Pattern.{Pattern as OwnPattern}

-- a piece of a line
pub data Piece : Type 0 where
  -- the word that it begins with
  Word : List ℕ → Piece
  -- a word that follows it, one of some
  Among : List ℕ → Choice → Piece
  Number : Operand → Range → Piece
  Register : Piece
  BlockRegister : Piece
  Data : Piece
  -- bytes of a text, as many as there are
  Hex : Piece
  -- all words that are left
  Item : Piece

-- the same part of a row
abbrev pub part_of : Piece → Part
part_of (Word name) = part.Word name
part_of (Among name choice) = part.Word name
part_of (Number operand range) = part.Number
part_of Register = part.Register
part_of BlockRegister = part.BlockRegister
part_of Data = part.Data
part_of Hex = part.Data
part_of Item = part.Item

-- what the help calls a number
unfoldable pub name_of : Operand → List ℕ
name_of op.Address = codes "ADDR"
name_of op.Size = codes "SIZE"
name_of op.Value = codes "VALUE"
name_of op.Offset = codes "OFF"
name_of op.DeviceId = codes "DID"
name_of op.Iova = codes "IOVA"
name_of op.Length = codes "LEN"
name_of op.Device = codes "N"
name_of op.Byte = codes "BYTE"
name_of op.Place = codes "I"
name_of op.Most = codes "MAX"
name_of op.Base = codes "BASE"
name_of op.Sectors = codes "SECTORS"

-- the words that may follow
unfoldable pub words_among : Choice → List ℕ
words_among choice.Access = codes "read or write"
words_among choice.Device = codes "read, write, step, show or run"
words_among choice.Kind = codes "cmd, fault, context, dir, pte, msi or u64"
words_among choice.Cache = codes "context or page"
words_among choice.Queue = codes "cmd or fault"
words_among choice.Stale = codes "read, write, context or page"
words_among choice.Run = codes "run"
words_among choice.Busy = codes "ddtp, cq or fq"

abbrev pub did : Piece
did = Number op.DeviceId Any

abbrev pub iova : Piece
iova = Number op.Iova Any

abbrev pub addr : Piece
addr = Number op.Address Any

abbrev pub size : Piece
size = Number op.Size Any

abbrev pub value : Piece
value = Number op.Value Any

abbrev pub off : Piece
off = Number op.Offset Any

abbrev pub device : Piece
device = Number op.Device Any

abbrev pub place : Piece
place = Number op.Place Any

-- a device id that is below 2^24
abbrev pub short_did : Piece
short_did = Number op.DeviceId (Bits 24)

abbrev pub count : Piece
count = Number op.Length Count

abbrev pub read : Choice → Piece
read choice = Among (codes "read") choice

abbrev pub write : Choice → Piece
write choice = Among (codes "write") choice

-- the lines, in the order of `rows`
unfoldable pub patterns : List (List Piece)
patterns =
    (Word (codes "load") ∷ addr ∷ size ∷ [])
    ∷ (Word (codes "store") ∷ addr ∷ size ∷ value ∷ [])
    ∷ (Word (codes "reg") ∷ read choice.Access ∷ off ∷ size ∷ [])
    ∷ (Word (codes "reg") ∷ write choice.Access ∷ off ∷ size ∷ value ∷ [])
    ∷ (Word (codes "dma") ∷ read choice.Access ∷ did ∷ iova ∷ Number op.Length Any ∷ [])
    ∷ (Word (codes "dma") ∷ write choice.Access ∷ did ∷ iova ∷ Data ∷ [])
    ∷ (Word (codes "cmd") ∷ [])
    ∷ (Word (codes "settle") ∷ Among (codes "ddtp") choice.Busy ∷ [])
    ∷ (Word (codes "settle") ∷ Among (codes "cq") choice.Busy ∷ [])
    ∷ (Word (codes "settle") ∷ Among (codes "fq") choice.Busy ∷ [])
    ∷ (Word (codes "dev") ∷ read choice.Device ∷ device ∷ off ∷ size ∷ [])
    ∷ (Word (codes "dev") ∷ write choice.Device ∷ device ∷ off ∷ size ∷ value ∷ [])
    ∷ (Word (codes "dev") ∷ Among (codes "step") choice.Device ∷ device ∷ [])
    ∷ (Word (codes "show") ∷ Among (codes "cmd") choice.Kind ∷ addr ∷ [])
    ∷ (Word (codes "show") ∷ Among (codes "fault") choice.Kind ∷ addr ∷ [])
    ∷ (Word (codes "show") ∷ Among (codes "context") choice.Kind ∷ addr ∷ [])
    ∷ (Word (codes "show") ∷ Among (codes "dir") choice.Kind ∷ addr ∷ [])
    ∷ (Word (codes "show") ∷ Among (codes "pte") choice.Kind ∷ addr ∷ [])
    ∷ (Word (codes "show") ∷ Among (codes "msi") choice.Kind ∷ addr ∷ [])
    ∷ (Word (codes "show") ∷ Among (codes "u64") choice.Kind ∷ addr ∷ [])
    ∷ (Word (codes "place") ∷ Among (codes "context") choice.Cache ∷ place ∷ [])
    ∷ (Word (codes "place") ∷ Among (codes "page") choice.Cache ∷ place ∷ [])
    ∷ (Word (codes "trace") ∷ place ∷ [])
    ∷ (Word (codes "message") ∷ place ∷ [])
    ∷ (Word (codes "reg") ∷ read choice.Access ∷ Register ∷ [])
    ∷ (Word (codes "reg") ∷ write choice.Access ∷ Register ∷ value ∷ [])
    ∷ (Word (codes "dev") ∷ read choice.Device ∷ device ∷ BlockRegister ∷ [])
    ∷ (Word (codes "dev") ∷ write choice.Device ∷ device ∷ BlockRegister ∷ value ∷ [])
    ∷ (Word (codes "translate") ∷ read choice.Access ∷ did ∷ iova ∷ [])
    ∷ (Word (codes "translate") ∷ write choice.Access ∷ did ∷ iova ∷ [])
    ∷ (Word (codes "queue") ∷ Among (codes "cmd") choice.Queue ∷ [])
    ∷ (Word (codes "queue") ∷ Among (codes "fault") choice.Queue ∷ [])
    ∷ (Word (codes "vectors") ∷ [])
    ∷ (Word (codes "dump") ∷ addr ∷ count ∷ [])
    ∷ (Word (codes "disk") ∷ device ∷ Number op.Byte Any ∷ count ∷ [])
    ∷ (Word (codes "dev") ∷ Among (codes "show") choice.Device ∷ device ∷ [])
    ∷ (Word (codes "dev") ∷ Among (codes "run") choice.Device ∷ device ∷ Number op.Most Limit ∷ [])
    ∷ (Word (codes "cmd") ∷ Among (codes "run") choice.Run ∷ Number op.Most Limit ∷ [])
    ∷ (Word (codes "put") ∷ addr ∷ Item ∷ [])
    ∷ (Word (codes "stale") ∷ read choice.Stale ∷ short_did ∷ iova ∷ [])
    ∷ (Word (codes "stale") ∷ write choice.Stale ∷ short_did ∷ iova ∷ [])
    ∷ (Word (codes "stale") ∷ Among (codes "context") choice.Stale ∷ place ∷ [])
    ∷ (Word (codes "stale") ∷ Among (codes "page") choice.Stale ∷ place ∷ [])
    ∷ (Word (codes "walk") ∷ read choice.Access ∷ short_did ∷ iova ∷ place ∷ [])
    ∷ (Word (codes "walk") ∷ write choice.Access ∷ short_did ∷ iova ∷ place ∷ [])
    ∷ (Word (codes "origin") ∷ Among (codes "context") choice.Cache ∷ place ∷ [])
    ∷ (Word (codes "origin") ∷ Among (codes "page") choice.Cache ∷ place ∷ [])
    ∷ (Word (codes "why") ∷ place ∷ [])
    ∷ (Word (codes "owed") ∷ [])
    ∷ (Word (codes "free") ∷ addr ∷ Number op.Length Any ∷ [])
    ∷ (Word (codes "ahead") ∷ short_did ∷ iova ∷ Number op.Length Extent ∷ [])
    ∷ []

-- what the code's pieces stand for
abbrev pub piece_as : OwnPiece → Piece
piece_as (own.Word name) = Word name.now
piece_as (own.Among name choice) = Among name.now choice
piece_as (own.Number operand range) = Number operand range
piece_as own.Register = Register
piece_as own.BlockRegister = BlockRegister
piece_as own.Data = Data
piece_as own.Hex = Hex
piece_as own.Item = Item

abbrev pub pattern_as : OwnPattern → List Piece
pattern_as pattern = map piece_as pattern.0.now

-- a line has six pieces at most
abbrev pub IsShort : OwnPattern → Type 0
IsShort pattern = length pattern.0.now ≤ 6
