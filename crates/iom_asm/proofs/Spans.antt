-- Items one after the other: which are in memory, and their lines.
use Rattle.std.proofs.Common.{◌≡◌, ℕ, zero, suc, ◌+◌, ◌-◌, ◌*◌, ◌≤◌, ◌<◌, ◌^◌, true, false, ◌&&◌, nat_le, nat_eq, length, List, [], ◌∷◌, ◌++◌, Option, Some, None, refl, sym, ap, ◌∙◌, inl, inr, append_assoc, append-nil, arith}
use Rattle.std.specs.Option.{is_some, option_map}
use Rattle.std.proofs.lemmas.Bool.{cases_lt, le-leb, lt-leb}
use Rattle.iom_bits.specs.Bytes.{number_of_bytes, bytes_of_number}
use Rattle.iom_bits.specs.Features.{Features}
use Rattle.iom_mem.specs.Memory.{Memory, size_of, before, bytes_at, word, words_at}
use Rattle.iom_mem.specs.Words.{bytes_of_words}
use Rattle.iom_mem.proofs.Bytes.{bytes_at_inside}
use Rattle.iom_mem.proofs.Several.{words_at_outside}
use Rattle.iom_ddt.specs.Formats.{context_format}
use Rattle.iom_ddt.specs.declared.formats.ContextFormat.{ContextFormat}
use Rattle.iom_ddt.specs.declared.formats.ContextFormat.TheVariants.{Base, Extended}
use Rattle.iom_items.specs.declared.item.Item.{Item}
use Rattle.iom_items.specs.declared.item.Item.TheVariants as item
use Rattle.iom_items.specs.Items.{words_in}
use Rattle.iom_items.specs.Lines.{item_line_on, line_on}
use Rattle.iom_items.specs.Operands.{◌>>=◌}
use Rattle.iom_asm.specs.Listing.{listed}
use Rattle.iom_bits.proofs.Bytes.{length_of_number}
use Rattle.iom_image.proofs.Images.{number_back}
use Rattle.iom_asm.proofs.Standing.{front_at, behind_at}
use Rattle.iom_items.proofs.Bounds.{AreWords}

some_words : (format : ContextFormat) (kind : Item) → false ≡ nat_eq (words_in format kind) 0
some_words format item.Cmd = refl
some_words format item.Fault = refl
some_words Base item.Context = refl
some_words Extended item.Context = refl
some_words format item.Dir = refl
some_words format item.Pte = refl
some_words format item.Msi = refl
some_words format item.Word = refl

some_before : (first : Option ℕ) (rest : Option (List ℕ)) → is_some first ≡ true → is_some rest ≡ true → is_some (before first rest) ≡ true
some_before None rest one two = absurd cc
some_before (Some first) None one two = absurd cc
some_before (Some first) (Some rest) one two = refl

words_there : (memory : Memory) (addr at count : ℕ) → memory.base + at ≡ addr → at + 8 * count ≤ size_of memory →
    is_some (words_at memory addr count) ≡ true
words_there memory addr at zero e room = refl
words_there memory addr at (suc count) e room =
    some_before (word memory addr) (words_at memory (addr + 8) count)
    (ap (λ found. is_some (option_map number_of_bytes found)) (bytes_at_inside memory addr at 8 e (omega arith)))
    (words_there memory (addr + 8) (at + 8) count (omega arith) (omega arith))

-- words stand where their bytes do
pub words_stand : (memory : Memory) (words : List ℕ) (addr : ℕ) → AreWords words →
    bytes_at memory addr (length (bytes_of_words words)) ≡ Some (bytes_of_words words) → words_at memory addr (length words) ≡ Some words
unfolding bytes_of_words
words_stand memory [] addr fine stand = refl
words_stand memory (word ∷ words) addr fine stand =
    let own : List ℕ = bytes_of_number 8 word in
    let size : length own ≡ 8 = length_of_number 8 word in
    let first : bytes_at memory addr 8 ≡ Some own =
    ap (bytes_at memory addr) (sym size) ∙ front_at memory addr own (bytes_of_words words) stand in
    let behind : bytes_at memory (addr + 8) (length (bytes_of_words words)) ≡ Some (bytes_of_words words) =
    ap (λ n. bytes_at memory (addr + n) (length (bytes_of_words words))) (sym size) ∙ behind_at memory addr own (bytes_of_words words) stand in
    let one : option_map number_of_bytes (bytes_at memory addr 8) ≡ Some word =
    ap (option_map number_of_bytes) first ∙ ap (λ n. Some n) (number_back 8 word fine.0) in
    ap (λ found. before found (words_at memory (addr + 8) (length words))) one
    ∙ ap (before (Some word)) (words_stand memory words (addr + 8) fine.1 behind)

some_line : (features : Features) (kind : Item) (found : Option (List ℕ)) → is_some found ≡ true → is_some (option_map (line_on features kind) found) ≡ true
some_line features kind None some = absurd cc
some_line features kind (Some words) some = refl

there : (memory : Memory) (features : Features) (kind : Item) (addr : ℕ) → memory.base ≤ addr → addr + 8 * words_in (context_format features) kind ≤ memory.base + size_of memory →
    is_some (item_line_on memory features kind addr) ≡ true
unfolding item_line_on
there memory features kind addr above below =
    some_line features kind (words_at memory addr (words_in (context_format features) kind))
    (words_there memory addr (addr - memory.base) (words_in (context_format features) kind) (omega (arith, above)) (omega (arith, above, below)))

nothing : (memory : Memory) (features : Features) (kind : Item) (addr : ℕ) → words_at memory addr (words_in (context_format features) kind) ≡ None → item_line_on memory features kind addr ≡ None
unfolding item_line_on
nothing memory features kind addr none = ap (option_map (line_on features kind)) none

not_below : (memory : Memory) (features : Features) (kind : Item) (addr : ℕ) → addr < memory.base → item_line_on memory features kind addr ≡ None
not_below memory features kind addr lt =
    nothing memory features kind addr (words_at_outside memory addr (words_in (context_format features) kind) false (some_words (context_format features) kind) (inl lt))

not_past : (memory : Memory) (features : Features) (kind : Item) (addr : ℕ) → memory.base + size_of memory < addr + 8 * words_in (context_format features) kind → item_line_on memory features kind addr ≡ None
not_past memory features kind addr lt =
    nothing memory features kind addr (words_at_outside memory addr (words_in (context_format features) kind) false (some_words (context_format features) kind) (inr lt))

-- a line and the others
abbrev both : Option (List ℕ) → Option (List ℕ) → Option (List ℕ)
both first others = first >>= λ line. others >>= λ others. Some ((line ++ 10 ∷ []) ++ others)

both_some : (first others : Option (List ℕ)) → is_some first ≡ true → is_some others ≡ true → is_some (both first others) ≡ true
both_some None others one two = absurd cc
both_some (Some line) None one two = absurd cc
both_some (Some line) (Some lines) one two = refl

none_after : (first others : Option (List ℕ)) → others ≡ None → both first others ≡ None
none_after None others none = refl
none_after (Some line) others none = rw none refl

none_first : (first others : Option (List ℕ)) → first ≡ None → both first others ≡ None
none_first first others none = rw none refl

-- how many bytes so many items take
abbrev span : ℕ → ℕ → ℕ
span step zero = 0
span step (suc count) = step + span step count

all_there_in : (memory : Memory) (features : Features) (kind : Item) (addr count : ℕ) → memory.base ≤ addr →
    addr + span (8 * words_in (context_format features) kind) count ≤ memory.base + size_of memory → is_some (listed memory features kind addr count) ≡ true
unfolding listed
all_there_in memory features kind addr zero above below = refl
all_there_in memory features kind addr (suc count) above below =
    both_some (item_line_on memory features kind addr) (listed memory features kind (addr + 8 * words_in (context_format features) kind) count)
    (there memory features kind addr above (omega (arith, below)))
    (all_there_in memory features kind (addr + 8 * words_in (context_format features) kind) count (omega (arith, above)) (omega (arith, below)))

one_past : (memory : Memory) (features : Features) (kind : Item) (addr count : ℕ) →
    memory.base + size_of memory < addr + span (8 * words_in (context_format features) kind) (suc count) → listed memory features kind addr (suc count) ≡ None
unfolding listed
one_past memory features kind addr zero past =
    none_first (item_line_on memory features kind addr) (listed memory features kind (addr + 8 * words_in (context_format features) kind) zero) (not_past memory features kind addr (omega (arith, past)))
one_past memory features kind addr (suc count) past =
    none_after (item_line_on memory features kind addr) (listed memory features kind (addr + 8 * words_in (context_format features) kind) (suc count))
    (one_past memory features kind (addr + 8 * words_in (context_format features) kind) count (omega (arith, past)))

one_below : (memory : Memory) (features : Features) (kind : Item) (addr count : ℕ) → addr < memory.base → listed memory features kind addr (suc count) ≡ None
unfolding listed
one_below memory features kind addr count lt =
    none_first (item_line_on memory features kind addr) (listed memory features kind (addr + 8 * words_in (context_format features) kind) count) (not_below memory features kind addr lt)

span_is : (step count : ℕ) → span step count ≡ count * step
span_is step zero = omega arith
span_is step (suc count) = let others = span_is step count in omega (arith, others)

-- so many items are in memory exactly where their bytes are
pub are_there : (memory : Memory) (features : Features) (kind : Item) (addr count len : ℕ) → (count ≡ 0 → ⊥) → len ≡ count * (8 * words_in (context_format features) kind) →
    (nat_le memory.base addr && nat_le (addr + len) (memory.base + size_of memory)) ≡ is_some (listed memory features kind addr count)
are_there memory features kind addr zero len some is = absurd (some refl)
are_there memory features kind addr (suc count) len some is =
    let all : span (8 * words_in (context_format features) kind) (suc count) ≡ len = span_is (8 * words_in (context_format features) kind) (suc count) ∙ sym is in
    let end = memory.base + size_of memory in
    elim (cases_lt addr memory.base) as (λ _. (nat_le memory.base addr && nat_le (addr + len) end) ≡ is_some (listed memory features kind addr (suc count))) [
      | inl lt ↦ rw (lt-leb memory.base addr lt, one_below memory features kind addr count lt) refl
      | inr above ↦
          elim (cases_lt end (addr + len)) as (λ _. (nat_le memory.base addr && nat_le (addr + len) end) ≡ is_some (listed memory features kind addr (suc count))) [
            | inl past ↦ rw (le-leb memory.base addr above, lt-leb (addr + len) end past, one_past memory features kind addr count (omega (arith, past, all))) refl
            | inr within ↦
                rw (le-leb memory.base addr above, le-leb (addr + len) end within)
                (sym (all_there_in memory features kind addr (suc count) above (omega (arith, within, all))))
          ]
    ]

pub none_there : (memory : Memory) (features : Features) (kind : Item) (addr count : ℕ) → memory.base + size_of memory ≤ 2 ^ 56 → 2 ^ 64 ≤ count * (8 * words_in (context_format features) kind) →
    is_some (listed memory features kind addr count) ≡ false
none_there memory features kind addr zero legal far = absurd (omega (arith, far))
none_there memory features kind addr (suc count) legal far =
    ap is_some (one_past memory features kind addr count (omega (arith, legal, far, span_is (8 * words_in (context_format features) kind) (suc count))))

pub no_item : (memory : Memory) (features : Features) (kind : Item) (addr : ℕ) → is_some (listed memory features kind addr 0) ≡ true
unfolding listed
no_item memory features kind addr = refl

-- the items of a loop: what is left, from here, is behind what was listed
abbrev pub behind : List ℕ → Option (List ℕ) → Option (List ℕ)
behind text left = option_map (λ left. text ++ left) left

grown : (text line : List ℕ) (left : Option (List ℕ)) → behind text (both (Some line) left) ≡ behind (text ++ (line ++ 10 ∷ [])) left
grown text line None = refl
grown text line (Some left) = ap Some (sym (append_assoc text (line ++ 10 ∷ []) left))

pub list_goes_on : (memory : Memory) (features : Features) (kind : Item) (count i at next : ℕ) (text line new : List ℕ) (all : Option (List ℕ)) → i < count →
    item_line_on memory features kind at ≡ Some line → new ≡ text ++ (line ++ 10 ∷ []) → next ≡ at + 8 * words_in (context_format features) kind →
    behind text (listed memory features kind at (count - i)) ≡ all → behind new (listed memory features kind next (count - (i + 1))) ≡ all
unfolding listed
list_goes_on memory features kind count i at next text line new all lt first pushed moved so_far =
    let k : count - i ≡ suc (count - (i + 1)) = omega arith in
    let one : behind text (listed memory features kind at (count - i)) ≡ behind new (listed memory features kind next (count - (i + 1))) =
    rw (k, first, pushed, moved) (grown text line (listed memory features kind (at + 8 * words_in (context_format features) kind) (count - (i + 1)))) in
    sym one ∙ so_far

pub list_stops : (memory : Memory) (features : Features) (kind : Item) (count i at : ℕ) (text : List ℕ) (all : Option (List ℕ)) → i < count →
    item_line_on memory features kind at ≡ None → behind text (listed memory features kind at (count - i)) ≡ all → all ≡ None
unfolding listed
list_stops memory features kind count i at text all lt first so_far =
    let k : count - i ≡ suc (count - (i + 1)) = omega arith in
    let one : behind text (listed memory features kind at (count - i)) ≡ None = rw (k, first) refl in
    sym so_far ∙ one

pub list_done : (memory : Memory) (features : Features) (kind : Item) (count i at : ℕ) (text : List ℕ) (all : Option (List ℕ)) → count ≤ i →
    behind text (listed memory features kind at (count - i)) ≡ all → all ≡ Some text
unfolding listed
list_done memory features kind count i at text all le so_far =
    let k : count - i ≡ 0 = omega arith in
    let one : behind text (listed memory features kind at (count - i)) ≡ Some text = rw k (ap Some (append-nil text)) in
    sym so_far ∙ one

pub item_fits : (memory : Memory) (features : Features) (kind : Item) (addr : ℕ) (line : List ℕ) → item_line_on memory features kind addr ≡ Some line →
    addr + 8 * words_in (context_format features) kind ≤ memory.base + size_of memory
item_fits memory features kind addr line is =
    elim (cases_lt (memory.base + size_of memory) (addr + 8 * words_in (context_format features) kind)) as (λ _. addr + 8 * words_in (context_format features) kind ≤ memory.base + size_of memory) [
      | inl past ↦ absurd (let e : Some line ≡ None = sym is ∙ not_past memory features kind addr past in cc)
      | inr within ↦ within
    ]

pub begun : (left : Option (List ℕ)) → behind [] left ≡ left
begun None = refl
begun (Some left) = refl

pub at_least : (n m : ℕ) → (n < m → ⊥) → m ≤ n
at_least n m not_less =
    elim (cases_lt n m) as (λ _. m ≤ n) [
      | inl lt ↦ absurd (not_less lt)
      | inr le ↦ le
    ]
