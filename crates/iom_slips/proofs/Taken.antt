-- A line whose words are a whole row is not bad.
use Rattle.std.proofs.Common.{◌≡◌, ◌≤◌, ℕ, ◌+◌, ◌*◌, ◌^◌, ◌||◌, ◌&&◌, ◌==◌, ◌++◌, nat_lt, nat_le, Bool, true, false, not, List, [], ◌∷◌, length, map, bytes_eq, Option, Some, None, is_some, refl, sym, arith}
use Rattle.std.specs.List.{list_any}
use Rattle.std.specs.Option.{option_map, unwrap_or}
use Rattle.std.proofs.lemmas.Bool.{and_parts}
use Rattle.iom_text.specs.Words.{number, words_of}
use Rattle.iom_items.specs.Forms.{where_so}
use Rattle.iom_items.specs.Operands.{◌>>=◌}
use Rattle.iom_items.proofs.Joined.{turned}
use Rattle.iom_tool.specs.declared.language.Language.TheVariants.{Debug}
use Rattle.iom_tool.specs.declared.language.Inquiry.{Inquiry}
use Rattle.iom_tool.specs.declared.language.Inquiry.TheVariants as inquiry
use Rattle.iom_tool.specs.declared.rows.Form.{Form}
use Rattle.iom_tool.specs.declared.rows.Form.TheVariants as form
use Rattle.iom_tool.specs.Names.{block_registers, named_in, registers}
use Rattle.iom_tool.specs.Script.{Bad, DebugLine, Inquires, Plain, Row, Stores, all_say, at, debug_line_of, first_of, fitted, is_count, is_extent, is_limit, line_by, line_in, meaning, or_else, request_by, rows, stores_at, with_register}
use Rattle.iom_tool.specs.Values.{Values, nothing, with_number}
use Rattle.iom_tool.specs.Words.{bytes_of}
use Rattle.iom_tool.proofs.Languages.{uses_all}
use Rattle.iom_slips.specs.declared.ranges.Range.{Range}
use Rattle.iom_slips.specs.declared.pieces.Operand.{Operand}
use Rattle.iom_slips.specs.Patterns.{Among, BlockRegister, Data, Hex, Item, Number, Piece, Register, Word, part_of, patterns}
use Rattle.iom_slips.specs.Ranges.{is_in, is_one_in}
use Rattle.iom_slips.specs.Slips.{is_bad, is_piece}
use Rattle.iom_slips.specs.Telling.{are_pieces}

-- a line was found, and it is not bad; and what is found, if anything, is not bad
abbrev is_line : Option DebugLine → Bool
is_line None = false
is_line (Some line) = not (is_bad line)

abbrev is_fine : Option DebugLine → Bool
is_fine None = true
is_fine (Some line) = not (is_bad line)

-- the numbers that words say as these pieces behind others, each in its range; behind a register they don't matter
abbrev Adds : List Piece → List ℕ → List ℕ → Type 0
Adds [] said all = all ≡ said
Adds (Word name ∷ pieces) said all = Adds pieces said all
Adds (Among name choice ∷ pieces) said all = Adds pieces said all
Adds (Number operand range ∷ pieces) said all = (n : ℕ) × (is_in range n ≡ true) × Adds pieces (said ++ n ∷ []) all
Adds (Register ∷ pieces) said all = Unit {0}
Adds (BlockRegister ∷ pieces) said all = Unit {0}
Adds (Data ∷ pieces) said all = Adds pieces said all
Adds (Hex ∷ pieces) said all = Unit {0}
Adds (Item ∷ pieces) said all = true ≡ false

abbrev Said : List Piece → List (List ℕ) → Values → Type 0
Said pieces words said = (out : Values) × (all_say (map part_of pieces) words said ≡ Some out) × Adds pieces said.numbers out.numbers

word_said : (name word : List ℕ) (pieces : List Piece) (words : List (List ℕ)) (said : Values) → bytes_eq word name ≡ true →
    Said pieces words said → Said (Word name ∷ pieces) (word ∷ words) said
unfolding all_say
word_said name word pieces words said is more = (more.0, rw is more.1, more.2)

number_said : (operand : Operand) (range : Range) (word : List ℕ) (pieces : List Piece) (words : List (List ℕ)) (said : Values) (found : Option ℕ) →
    number word ≡ found → is_one_in range found ≡ true → ((n : ℕ) → Said pieces words (with_number said n)) →
    Said (Number operand range ∷ pieces) (word ∷ words) said
unfolding all_say
number_said operand range word pieces words said None there is more = absurd (cc is)
number_said operand range word pieces words said (Some n) there is more =
    let rest = more n in (rest.0, rw there rest.1, (n, is, rest.2))

register_said : (word : List ℕ) (pieces : List Piece) (words : List (List ℕ)) (said : Values) (found : Option (ℕ × ℕ)) →
    named_in registers word ≡ found → is_some found ≡ true → ((at : ℕ × ℕ) → Said pieces words (with_register said at)) →
    Said (Register ∷ pieces) (word ∷ words) said
unfolding all_say
register_said word pieces words said None there is more = absurd (cc is)
register_said word pieces words said (Some at) there is more = let rest = more at in (rest.0, rw there rest.1, tt)

block_register_said : (word : List ℕ) (pieces : List Piece) (words : List (List ℕ)) (said : Values) (found : Option (ℕ × ℕ)) →
    named_in block_registers word ≡ found → is_some found ≡ true → ((at : ℕ × ℕ) → Said pieces words (with_register said at)) →
    Said (BlockRegister ∷ pieces) (word ∷ words) said
unfolding all_say
block_register_said word pieces words said None there is more = absurd (cc is)
block_register_said word pieces words said (Some at) there is more = let rest = more at in (rest.0, rw there rest.1, tt)

data_said : (word : List ℕ) (pieces : List Piece) (words : List (List ℕ)) (said : Values) (found : Option (List ℕ)) →
    bytes_of word ≡ found → is_some found ≡ true → ((bytes : List ℕ) → Said pieces words (record said { bytes = bytes })) →
    Said (Data ∷ pieces) (word ∷ words) said
unfolding all_say
data_said word pieces words said None there is more = absurd (cc is)
data_said word pieces words said (Some bytes) there is more = let rest = more bytes in (rest.0, rw there rest.1, rest.2)

-- no row has bytes of a text
abbrev is_of_rows : List Piece → Bool
is_of_rows [] = true
is_of_rows (Hex ∷ pieces) = false
is_of_rows (piece ∷ pieces) = is_of_rows pieces

-- words that are the pieces of a row say its parts
said_in : (pieces : List Piece) (words : List (List ℕ)) (said : Values) → is_of_rows pieces ≡ true → are_pieces pieces words ≡ true → Said pieces words said
unfolding are_pieces is_piece all_say
said_in [] [] said plain is = (said, refl, refl)
said_in [] (word ∷ words) said plain is = absurd (cc is)
said_in (piece ∷ pieces) [] said plain is = absurd (cc is)
said_in (Word name ∷ pieces) (word ∷ words) said plain is =
    let parts = and_parts (bytes_eq word name) (are_pieces pieces words) is in
    word_said name word pieces words said parts.0 (said_in pieces words said plain parts.1)
said_in (Among name choice ∷ pieces) (word ∷ words) said plain is =
    let parts = and_parts (bytes_eq word name) (are_pieces pieces words) is in
    word_said name word pieces words said parts.0 (said_in pieces words said plain parts.1)
said_in (Number operand range ∷ pieces) (word ∷ words) said plain is =
    let parts = and_parts (is_one_in range (number word)) (are_pieces pieces words) is in
    number_said operand range word pieces words said (number word) refl parts.0 (λ n. said_in pieces words (with_number said n) plain parts.1)
said_in (Register ∷ pieces) (word ∷ words) said plain is =
    let parts = and_parts (is_some (named_in registers word)) (are_pieces pieces words) is in
    register_said word pieces words said (named_in registers word) refl parts.0 (λ at. said_in pieces words (with_register said at) plain parts.1)
said_in (BlockRegister ∷ pieces) (word ∷ words) said plain is =
    let parts = and_parts (is_some (named_in block_registers word)) (are_pieces pieces words) is in
    block_register_said word pieces words said (named_in block_registers word) refl parts.0 (λ at. said_in pieces words (with_register said at) plain parts.1)
said_in (Data ∷ pieces) (word ∷ words) said plain is =
    let parts = and_parts (is_some (bytes_of word)) (are_pieces pieces words) is in
    data_said word pieces words said (bytes_of word) refl parts.0 (λ bytes. said_in pieces words (record said { bytes = bytes }) plain parts.1)
said_in (Hex ∷ pieces) (word ∷ words) said plain is = absurd (cc plain)
said_in (Item ∷ pieces) (word ∷ words) said plain is = absurd (cc is)

-- a row whose pieces, where words are they, are a line
record Takes (row : Row) (pieces : List Piece) : Type 0 where
  takes : (words : List (List ℕ)) → are_pieces pieces words ≡ true → is_line (fitted row words) ≡ true

taken : (row : Row) (pieces : List Piece) → map part_of pieces ≡ row.parts → is_of_rows pieces ≡ true →
    ((out : Values) → Adds pieces [] out.numbers → is_line (line_by row.form out) ≡ true) → Takes row pieces
taken row pieces same plain judged = record {
  takes = λ words is.
      let said = said_in pieces words nothing plain is in
      rw (sym same, said.1) (judged said.0 said.2);
}

-- the rows that judge their numbers
dump_is : (out : Values) (addr count : ℕ) → out.numbers ≡ addr ∷ count ∷ [] → is_count count ≡ true → is_line (line_by form.Dump out) ≡ true
unfolding line_by
dump_is out addr count is fits = rw (is, fits) refl

disk_is : (out : Values) (dev byte count : ℕ) → out.numbers ≡ dev ∷ byte ∷ count ∷ [] → is_count count ≡ true → is_line (line_by form.Disk out) ≡ true
unfolding line_by
disk_is out dev byte count is fits = rw (is, fits) refl

device_is : (out : Values) (dev most : ℕ) → out.numbers ≡ dev ∷ most ∷ [] → is_limit most ≡ true → is_line (line_by form.DevRun out) ≡ true
unfolding line_by
device_is out dev most is fits = rw (is, fits) refl

commands_is : (out : Values) (most : ℕ) → out.numbers ≡ most ∷ [] → is_limit most ≡ true → is_line (line_by form.CmdRun out) ≡ true
unfolding line_by
commands_is out most is fits = rw (is, fits) refl

ahead_is : (out : Values) (did iova len : ℕ) → out.numbers ≡ did ∷ iova ∷ len ∷ [] → nat_lt did (2 ^ 24) ≡ true → is_extent len ≡ true →
    is_line (line_by form.Ahead out) ≡ true
unfolding line_by
ahead_is out did iova len is short fits = rw (is, short, fits) refl

-- row by row
abbrev AllTake : List Row → List (List Piece) → Type 0
AllTake [] others = others ≡ []
AllTake (row ∷ more) [] = true ≡ false
AllTake (row ∷ more) (pieces ∷ others) = Takes row pieces × AllTake more others

all_take : AllTake rows patterns
unfolding rows patterns line_by is_in
all_take = (
  taken _ _ refl refl (λ out s. refl),
  (
    taken _ _ refl refl (λ out s. refl),
    (
      taken _ _ refl refl (λ out s. refl),
      (
        taken _ _ refl refl (λ out s. refl),
        (
          taken _ _ refl refl (λ out s. refl),
          (
            taken _ _ refl refl (λ out s. refl),
            (
              taken _ _ refl refl (λ out s. refl),
              (
                taken _ _ refl refl (λ out s. refl),
                (
                  taken _ _ refl refl (λ out s. refl),
                  (
                    taken _ _ refl refl (λ out s. refl),
                    (
                      taken _ _ refl refl (λ out s. refl),
                      (
                        taken _ _ refl refl (λ out s. refl),
                        (
                          taken _ _ refl refl (λ out s. refl),
                          (
                            taken _ _ refl refl (λ out s. refl),
                            (
                              taken _ _ refl refl (λ out s. refl),
                              (
                                taken _ _ refl refl (λ out s. refl),
                                (
                                  taken _ _ refl refl (λ out s. refl),
                                  (
                                    taken _ _ refl refl (λ out s. refl),
                                    (
                                      taken _ _ refl refl (λ out s. refl),
                                      (
                                        taken _ _ refl refl (λ out s. refl),
                                        (
                                          taken _ _ refl refl (λ out s. refl),
                                          (
                                            taken _ _ refl refl (λ out s. refl),
                                            (
                                              taken _ _ refl refl (λ out s. refl),
                                              (
                                                taken _ _ refl refl (λ out s. refl),
                                                (
                                                  taken _ _ refl refl (λ out s. refl),
                                                  (
                                                    taken _ _ refl refl (λ out s. refl),
                                                    (
                                                      taken _ _ refl refl (λ out s. refl),
                                                      (
                                                        taken _ _ refl refl (λ out s. refl),
                                                        (
                                                          taken _ _ refl refl (λ out s. refl),
                                                          (
                                                            taken _ _ refl refl (λ out s. refl),
                                                            (
                                                              taken _ _ refl refl (λ out s. refl),
                                                              (
                                                                taken _ _ refl refl (λ out s. refl),
                                                                (
                                                                  taken _ _ refl refl (λ out s. refl),
                                                                  (
                                                                    taken _ _ refl refl (λ out s. dump_is out s.0 s.2.0 s.2.2 s.2.1),
                                                                    (
                                                                      taken _ _ refl refl (λ out s. disk_is out s.0 s.2.0 s.2.2.0 s.2.2.2 s.2.2.1),
                                                                      (
                                                                        taken _ _ refl refl (λ out s. refl),
                                                                        (
                                                                          taken _ _ refl refl (λ out s. device_is out s.0 s.2.0 s.2.2 s.2.1),
                                                                          (
                                                                            taken _ _ refl refl (λ out s. commands_is out s.0 s.2 s.1),
                                                                            (
                                                                              taken _ _ refl refl (λ out s. absurd (cc s.2)),
                                                                              (
                                                                                taken _ _ refl refl (λ out s. rw (s.2.2, s.1) refl),
                                                                                (
                                                                                  taken _ _ refl refl (λ out s. rw (s.2.2, s.1) refl),
                                                                                  (
                                                                                    taken _ _ refl refl (λ out s. refl),
                                                                                    (
                                                                                      taken _ _ refl refl (λ out s. refl),
                                                                                      (
                                                                                        taken _ _ refl refl (λ out s. rw (s.2.2.2, s.1) refl),
                                                                                        (
                                                                                          taken _ _ refl refl (λ out s. rw (s.2.2.2, s.1) refl),
                                                                                          (
                                                                                            taken _ _ refl refl (λ out s. refl),
                                                                                            (
                                                                                              taken _ _ refl refl (λ out s. refl),
                                                                                              (
                                                                                                taken _ _ refl refl (λ out s. refl),
                                                                                                (
                                                                                                  taken _ _ refl refl (λ out s. refl),
                                                                                                  (
                                                                                                    taken _ _ refl refl (λ out s. refl),
                                                                                                    (taken _ _ refl refl (λ out s. ahead_is out s.0 s.2.0 s.2.2.0 s.2.2.2 s.1 s.2.2.1), refl),
                                                                                                  ),
                                                                                                ),
                                                                                              ),
                                                                                            ),
                                                                                          ),
                                                                                        ),
                                                                                      ),
                                                                                    ),
                                                                                  ),
                                                                                ),
                                                                              ),
                                                                            ),
                                                                          ),
                                                                        ),
                                                                      ),
                                                                    ),
                                                                  ),
                                                                ),
                                                              ),
                                                            ),
                                                          ),
                                                        ),
                                                      ),
                                                    ),
                                                  ),
                                                ),
                                              ),
                                            ),
                                          ),
                                        ),
                                      ),
                                    ),
                                  ),
                                ),
                              ),
                            ),
                          ),
                        ),
                      ),
                    ),
                  ),
                ),
              ),
            ),
          ),
        ),
      ),
    ),
  ),
)

-- no row says a bad line
asked : (b : Bool) (found : Option DebugLine) → is_fine found ≡ true → is_fine (where_so b found) ≡ true
asked true found is = is
asked false found is = refl

requested : {R : Type 0} (f : R → Inquiry) (found : Option R) → is_fine (option_map (λ request. Inquires (f request)) found) ≡ true
requested f None = refl
requested f (Some request) = refl

never_bad : (form : Form) (out : Values) → is_fine (line_by form out) ≡ true
unfolding line_by
never_bad (form.Does action) out = refl
never_bad (form.Named action) out = refl
never_bad (form.Show kind) out = refl
never_bad form.PlaceContext out = refl
never_bad form.PlacePage out = refl
never_bad form.Trace out = refl
never_bad form.Message out = refl
never_bad (form.Stale kind) out = requested (λ request. inquiry.Stale request) (request_by kind out)
never_bad form.StaleContext out = refl
never_bad form.StalePage out = refl
never_bad (form.Walk kind) out = requested (λ request. inquiry.Walk request (at out 2)) (request_by kind out)
never_bad form.OriginContext out = refl
never_bad form.OriginPage out = refl
never_bad form.Why out = refl
never_bad (form.Queue which) out = refl
never_bad form.Vectors out = refl
never_bad form.Dump out = asked (is_count (at out 1)) _ refl
never_bad form.Disk out = asked (is_count (at out 2)) _ refl
never_bad form.DevShow out = refl
never_bad form.DevRun out = asked (is_limit (at out 1)) _ refl
never_bad form.CmdRun out = asked (is_limit (at out 0)) _ refl
never_bad form.Put out = asked (nat_le (at out 0 + 8 * length out.items) (2 ^ 64)) (Some (Stores (stores_at (at out 0) out.items))) refl
never_bad form.Owed out = refl
never_bad form.Free out = refl
never_bad form.Ahead out = asked (nat_lt (at out 0) (2 ^ 24) && is_extent (at out 2)) _ refl

fitted_fine : (row : Row) (words : List (List ℕ)) → is_fine (fitted row words) ≡ true
fitted_fine row words = by (all_say row.parts words nothing) where
  by : (said : Option Values) → is_fine (said >>= line_by row.form) ≡ true
  by None = refl
  by (Some out) = never_bad row.form out

chosen : (fit rest : Option DebugLine) (first later : Bool) → is_fine fit ≡ true → (first ≡ true → is_line fit ≡ true) →
    (later ≡ true → is_line rest ≡ true) → first || later ≡ true → is_line (or_else fit rest) ≡ true
chosen (Some line) rest first later fine one more is = fine
chosen None rest true later fine one more is = absurd (cc (one refl))
chosen None rest false later fine one more is = more is

first_is_line : (rows : List Row) (patterns : List (List Piece)) (words : List (List ℕ)) → AllTake rows patterns →
    list_any (λ pieces. are_pieces pieces words) patterns ≡ true → is_line (first_of Debug rows words) ≡ true
unfolding first_of
first_is_line [] [] words take is = absurd (cc is)
first_is_line [] (pieces ∷ patterns) words take is = absurd (cc take)
first_is_line (row ∷ rows) [] words take is = absurd (cc take)
first_is_line (row ∷ rows) (pieces ∷ patterns) words take is =
    rw (uses_all row.language)
    (chosen (fitted row words) (first_of Debug rows words) (are_pieces pieces words) (list_any (λ pieces. are_pieces pieces words) patterns)
    (fitted_fine row words) (take.0.takes words) (λ later. first_is_line rows patterns words take.1 later) is)

unwrapped : (found : Option DebugLine) → is_line found ≡ true → is_bad (unwrap_or found (Plain Bad)) ≡ false
unwrapped None is = absurd (cc is)
unwrapped (Some line) is = turned (is_bad line) is

in_words : (words : List (List ℕ)) → list_any (λ pieces. are_pieces pieces words) patterns ≡ true → is_bad (meaning Debug words) ≡ false
unfolding meaning
in_words [] is = refl
in_words (verb ∷ words) is = unwrapped (first_of Debug rows (verb ∷ words)) (first_is_line rows patterns (verb ∷ words) all_take is)

pub are_taken : (line : List ℕ) → length line ≤ 512 → list_any (λ c. c == 10) line ≡ false →
    list_any (λ pieces. are_pieces pieces (words_of line)) patterns ≡ true → is_bad (debug_line_of line) ≡ false
unfolding line_in
are_taken line short whole is =
    let within : nat_lt 512 (length line) ≡ false = grind arith in
    rw (within, whole) (in_words (words_of line) is)
