-- What a run over a reader and a writer leaves, however it ends and whoever answers its lines. A reader tells what it has left and a
-- writer what it holds, or neither: None.
use Rattle.std.specs.Prelude.{ℕ, ◌≡◌, ◌^◌, ◌<◌, ◌≤◌, ◌⊎◌, ◌==◌, ◌++◌, Bool, true, false, List, [], ◌∷◌, length, take, drop, Option, Result, Ok, Err}
use Rattle.std.specs.List.{list_any}
use Rattle.std.specs.Io.KnownBytes.{Appends, Consumes, Keeps, IsAtEnd}
use Rattle.iom_reader.specs.declared.fault.RunFault.{RunFault}
use Rattle.iom_reader.specs.declared.fault.RunFault.TheVariants as fault
use Rattle.iom_reader.specs.Answering.{Progress, Answering}
use Rattle.iom_reader.specs.Lines.{ended_lines, open_line, lines_of}

-- at most 2^26 bytes and 2^20 lines, a line beginning with its first byte
pub record IsWithinLimits (text : List ℕ) : Type 0 where
  pub bytes : length text ≤ 2 ^ 26
  pub lines : length (lines_of text) ≤ 2 ^ 20

-- one more byte is too much
abbrev pub IsAtLimit : List ℕ → Type 0
IsAtLimit text = (length text ≡ 2 ^ 26) ⊎ (length (ended_lines text) ≡ 2 ^ 20)

-- Ok: all that there was to read was read, and answered
pub record IsDone (how : Answering) (unread left : Option (List ℕ)) (old new : Progress how.State) : Type 0 where
  pub text : List ℕ
  pub took : Consumes unread left text
  pub all : IsAtEnd left
  pub within : IsWithinLimits text
  pub answered : how.whole old new (lines_of text)

-- a read failed: what was read before is a text whose lines that have their end are answered
pub record StopsReading (how : Answering) (unread left : Option (List ℕ)) (old new : Progress how.State) : Type 0 where
  pub text : List ℕ
  pub took : Consumes unread left text
  pub within : IsWithinLimits text
  pub answered : how.whole old new (ended_lines text)

-- a write failed, or a flush: the steps of the first lines are done. Where a write failed they are those up to the one whose answer
-- failed, and what was read after it is lost. Where a flush failed all are answered, and nothing is lost. They have their end; or all
-- was read, and the last may lack it
pub record StopsWriting (how : Answering) (unread left : Option (List ℕ)) (old new : Progress how.State) : Type 0 where
  pub text : List ℕ
  pub lost : List ℕ
  pub took : Consumes unread left (text ++ lost)
  pub within : IsWithinLimits text
  pub lines : List (List ℕ)
  pub read : (lines ≡ ended_lines text) ⊎ (IsAtEnd left × (lost ≡ []) × (lines ≡ lines_of text))
  pub answered : how.half old new lines ⊎ ((lost ≡ []) × how.whole old new lines)

-- a byte too much was read: the lines before that have their end are answered. What was read after it is lost
pub record StopsAtLimit (how : Answering) (unread left : Option (List ℕ)) (old new : Progress how.State) : Type 0 where
  pub text : List ℕ
  pub byte : ℕ
  pub lost : List ℕ
  pub took : Consumes unread left (text ++ byte ∷ lost)
  pub within : IsWithinLimits text
  pub limit : IsAtLimit text
  pub answered : how.whole old new (ended_lines text)

abbrev pub Ends : (how : Answering) → Option (List ℕ) → Option (List ℕ) → Progress how.State → Progress how.State → Result (Unit {0}) RunFault → Type 0
Ends how unread left old new (Ok done) = IsDone how unread left old new
Ends how unread left old new (Err fault.Read) = StopsReading how unread left old new
Ends how unread left old new (Err fault.Write) = StopsWriting how unread left old new
Ends how unread left old new (Err fault.TooLong) = StopsAtLimit how unread left old new

-- which fault it was
abbrev pub is_read : {A : Type 0} → Result A RunFault → Bool
is_read (Ok done) = false
is_read (Err fault.Read) = true
is_read (Err fault.Write) = false
is_read (Err fault.TooLong) = false

abbrev pub is_write : {A : Type 0} → Result A RunFault → Bool
is_write (Ok done) = false
is_write (Err fault.Read) = false
is_write (Err fault.Write) = true
is_write (Err fault.TooLong) = false

-- it ended at a read, which met the end or failed
abbrev pub stops_at_a_read : {A : Type 0} → Result A RunFault → Bool
stops_at_a_read (Ok done) = true
stops_at_a_read (Err fault.Read) = true
stops_at_a_read (Err fault.Write) = false
stops_at_a_read (Err fault.TooLong) = false

-- some front of a text stands written, with bytes missing
pub record WritesFront (old new : Option (List ℕ)) (text : List ℕ) : Type 0 where
  pub front : List ℕ
  pub rest : List ℕ
  pub whole : front ++ rest ≡ text
  pub missing : 0 < length rest
  pub written : Appends old new front

-- A text was fed since `start`, in whatever pieces: its lines that have their end are answered, the line that is open is kept
-- as far as it matters, and lines and bytes are counted
pub record Fed (how : Answering) (start now : Progress how.State) (kept : List ℕ) (lines bytes : ℕ) (text : List ℕ) : Type 0 where
  pub answered : how.whole start now (ended_lines text)
  pub keeps : kept ≡ take 513 (open_line text)
  pub counts_lines : lines ≡ length (ended_lines text)
  pub counts_bytes : bytes ≡ length text
  pub within : IsWithinLimits text

-- the same where a write failed within a piece: at the end of `taken`, which is the end of a line
pub record FailsInPiece (how : Answering) (start now : Progress how.State) (text piece : List ℕ) : Type 0 where
  pub taken : List ℕ
  pub left : List ℕ
  pub split : piece ≡ taken ++ left
  pub within : IsWithinLimits (text ++ taken)
  pub answered : how.half start now (ended_lines (text ++ taken))

-- the same where a byte of a piece was too much
pub record EndsInPiece (how : Answering) (start now : Progress how.State) (text piece : List ℕ) : Type 0 where
  pub taken : List ℕ
  pub byte : ℕ
  pub left : List ℕ
  pub split : piece ≡ taken ++ byte ∷ left
  pub within : IsWithinLimits (text ++ taken)
  pub limit : IsAtLimit (text ++ taken)
  pub answered : how.whole start now (ended_lines (text ++ taken))

abbrev pub AfterPiece : (how : Answering) → Progress how.State → Progress how.State → List ℕ → ℕ → ℕ → List ℕ → List ℕ → Result (Unit {0}) RunFault → Type 0
AfterPiece how start now kept lines bytes text piece (Ok done) = Fed how start now kept lines bytes (text ++ piece)
AfterPiece how start now kept lines bytes text piece (Err fault.Read) = ⊥
AfterPiece how start now kept lines bytes text piece (Err fault.Write) = FailsInPiece how start now text piece
AfterPiece how start now kept lines bytes text piece (Err fault.TooLong) = EndsInPiece how start now text piece

-- after the lines that end in a piece: `count` bytes of it, behind which no line ends
pub record LinesDone (how : Answering) (start now : Progress how.State) (kept : List ℕ) (lines : ℕ) (text piece : List ℕ) (count : ℕ) : Type 0 where
  pub fed : Fed how start now kept lines (length (text ++ take count piece)) (text ++ take count piece)
  pub none : list_any (λ c. c == 10) (drop count piece) ≡ false

abbrev pub AfterLines : (how : Answering) → Progress how.State → Progress how.State → List ℕ → ℕ → List ℕ → List ℕ → Result ℕ RunFault → Type 0
AfterLines how start now kept lines text piece (Ok count) = LinesDone how start now kept lines text piece count
AfterLines how start now kept lines text piece (Err fault.Read) = ⊥
AfterLines how start now kept lines text piece (Err fault.Write) = FailsInPiece how start now text piece
AfterLines how start now kept lines text piece (Err fault.TooLong) = EndsInPiece how start now text piece

-- after the end of the input: a write failed, or the flush
abbrev pub AfterEnd : (how : Answering) → Progress how.State → Progress how.State → List ℕ → Result (Unit {0}) RunFault → Type 0
AfterEnd how start now text (Ok done) = how.whole start now (lines_of text)
AfterEnd how start now text (Err fault.Read) = ⊥
AfterEnd how start now text (Err fault.Write) = how.half start now (lines_of text) ⊎ how.whole start now (lines_of text)
AfterEnd how start now text (Err fault.TooLong) = ⊥
