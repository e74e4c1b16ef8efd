-- The text of a step is read as that step.
use Rattle.std.proofs.Common.{◌≡◌, ℕ, ◌+◌, ◌*◌, ◌<◌, ◌≤◌, ◌^◌, ◌==◌, ◌&&◌, nat_lt, nat_le, Bool, true, false, not, List, [], ◌∷◌, ◌++◌, length, length-append, map, codes, Some, refl, sym, ap, ◌∙◌, inl, inr, append_assoc, append-nil, arith}
use Rattle.std.specs.Fmt.{digit_glyph}
use Rattle.std.specs.List.{list_all, list_any}
use Rattle.std.specs.Int.Digits.{digits_of}
use Rattle.std.proofs.lemmas.Bool.{and_parts, and_from, cond_both, cases_lt}
use Rattle.std.proofs.lemmas.Grind.{common_steps}
use Rattle.std.proofs.lemmas.Int.Digits.{length-digits_of-le}
use Rattle.std.proofs.lemmas.List.{length-map}
use Rattle.std.proofs.lemmas.List.Folds.{list_any-append}
use Rattle.hex.specs.Hex.{encode_lower, is_hex_digit, lower_digits}
use Rattle.hex.proofs.HexLemmas.{decode_of-encode_lower, length-encode_with}
use Rattle.iom_text.specs.Texts.{hexadecimal, numeral, digits_in}
use Rattle.iom_text.specs.Words.{is_end, words_of}
use Rattle.iom_items.proofs.Bounds.{AreWords}
use Rattle.iom_items.proofs.Joined.{is_bare, words_joined, one_word, word_bare, bare_joined}
use Rattle.iom_items.proofs.Numerals.{is_word, hexed_inside, hexed_read}
use Rattle.iom_bits.specs.declared.causes.Kind.TheVariants as kind
use Rattle.iom_regs.specs.declared.busy.Busy.TheVariants as busy
use Rattle.iom_core.specs.declared.step.Step.{Step}
use Rattle.iom_core.specs.declared.step.Step.TheVariants as step
use Rattle.iom_tool.specs.declared.language.Language.{Language}
use Rattle.iom_tool.specs.declared.language.Language.TheVariants.{Run, Debug}
use Rattle.iom_tool.specs.Parsed.{IsStep}
use Rattle.iom_tool.specs.Rereading.{AreData, CanBeSaid, is_of_run}
use Rattle.iom_tool.specs.Script.{Data, Does, Number, Plain, all_say, debug_line_of, first_of, line_by, line_in, line_of, meaning, plain, rows, step_by}
use Rattle.iom_tool.specs.Texts.{operands, step_text}
use Rattle.iom_tool.specs.Values.{nothing, numbers_only}
use Rattle.iom_tool.specs.Words.{bytes_of}
use Rattle.iom_tool.proofs.Fast.{load, store, reg_read, reg_write, dma_read, dma_write, cmd, settle_ddtp, settle_cq, settle_fq, dev_read, dev_write, dev_step}
use Rattle.iom_tool.proofs.Forms.{no_hex}
use Rattle.iom_tool.proofs.Pairs.{no_bytes}

-- whether a line ends in a text
abbrev has_end : List ℕ → Bool
has_end text = list_any (λ c. c == 10) text

goes_on : (c : ℕ) → 11 ≤ c → (c == 10) ≡ false
goes_on c le = grind (arith, le)

ends_neither : (first second : List ℕ) → has_end first ≡ false → has_end second ≡ false → has_end (first ++ second) ≡ false
ends_neither first second one two = list_any-append (λ c. c == 10) first second ∙ rw (one, two) refl

glyph_whole : (d : ℕ) → (digit_glyph false d == 10) ≡ false
glyph_whole d =
    cond_both (nat_lt d 10) (48 + d) (87 + d) (λ c. (c == 10) ≡ false) (λ _. goes_on (48 + d) (omega arith)) (λ _. goes_on (87 + d) (omega arith))

glyphs_whole : (digits : List ℕ) → has_end (map (digit_glyph false) digits) ≡ false
glyphs_whole [] = refl
glyphs_whole (d ∷ digits) = rw (glyph_whole d) (glyphs_whole digits)

hexed_whole : (n : ℕ) → has_end (hexadecimal n) ≡ false
hexed_whole n = cond_both (n == 0) (codes "0") (digits_in 16 n) (λ text. has_end text ≡ false) (λ _. refl) (λ _. glyphs_whole (digits_of 16 n))

-- a number has 16 digits at most
hexed_short : (n : ℕ) → n < 2 ^ 64 → length (hexadecimal n) ≤ 18
hexed_short n fits =
    let digits : length (digits_in 16 n) ≤ 16 = omega (arith, length-map (digits_of 16 n) (digit_glyph false), length-digits_of-le 16 16 n (omega arith) fits) in
    let most : length (numeral 16 n) ≤ 16 = cond_both (n == 0) (codes "0") (digits_in 16 n) (λ text. length text ≤ 16) (λ _. omega arith) (λ _. digits) in
    omega (arith, most)

-- numbers behind a text
operands_whole : (numbers : List ℕ) → has_end (operands numbers) ≡ false
operands_whole [] = refl
operands_whole (n ∷ numbers) = ends_neither (hexadecimal n) (operands numbers) (hexed_whole n) (operands_whole numbers)

operands_short : (numbers : List ℕ) → AreWords numbers → length (operands numbers) ≤ 19 * length numbers
operands_short [] fits = omega arith
operands_short (n ∷ numbers) fits =
    omega (arith, length-append (hexadecimal n) (operands numbers), hexed_short n fits.0, operands_short numbers fits.1)

operands_parts : (text numbers : List ℕ) → is_bare text ≡ true → words_of (text ++ operands numbers) ≡ words_of text ++ map hexadecimal numbers
operands_parts text [] bare = ap words_of (append-nil text) ∙ sym (append-nil (words_of text))
operands_parts text (n ∷ numbers) bare =
    let inside : is_word (hexadecimal n) ≡ true = hexed_inside n in
    ap words_of (sym (append_assoc text (32 ∷ hexadecimal n) (operands numbers)))
    ∙ operands_parts (text ++ 32 ∷ hexadecimal n) numbers (bare_joined text (32 ∷ hexadecimal n) bare (word_bare (hexadecimal n) inside))
    ∙ ap (λ front. front ++ map hexadecimal numbers)
    (words_joined text (hexadecimal n) bare ∙ ap (λ last. words_of text ++ last) (one_word (hexadecimal n) inside (omega arith)))
    ∙ append_assoc (words_of text) (hexadecimal n ∷ []) (map hexadecimal numbers)

operands_bare : (text numbers : List ℕ) → is_bare text ≡ true → is_bare (text ++ operands numbers) ≡ true
operands_bare text [] bare = ap is_bare (append-nil text) ∙ bare
operands_bare text (n ∷ numbers) bare =
    ap is_bare (sym (append_assoc text (32 ∷ hexadecimal n) (operands numbers)))
    ∙ operands_bare (text ++ 32 ∷ hexadecimal n) numbers (bare_joined text (32 ∷ hexadecimal n) bare (word_bare (hexadecimal n) (hexed_inside n)))

-- A text of some words is what they mean.
in_line : (language : Language) (text verb : List ℕ) (words : List (List ℕ)) (s : Step) → has_end text ≡ false → length text ≤ 512 →
    words_of text ≡ verb ∷ words → meaning language (verb ∷ words) ≡ Plain (Does s) → line_in language text ≡ Plain (Does s)
unfolding line_in
in_line language text verb words s whole short split means =
    let within : nat_lt 512 (length text) ≡ false = grind arith in
    rw (within, whole, split) means

-- first words, and numbers
numbered : (language : Language) (head verb : List ℕ) (words : List (List ℕ)) (numbers : List ℕ) (s : Step) → is_bare head ≡ true →
    has_end head ≡ false → length head ≤ 15 → length numbers ≤ 4 → AreWords numbers → words_of head ++ map hexadecimal numbers ≡ verb ∷ words →
    meaning language (verb ∷ words) ≡ Plain (Does s) → line_in language (head ++ operands numbers) ≡ Plain (Does s)
numbered language head verb words numbers s bare whole short few fits split means =
    in_line language (head ++ operands numbers) verb words s (ends_neither head (operands numbers) whole (operands_whole numbers))
    (omega (arith, length-append head (operands numbers), operands_short numbers fits, short, few)) (operands_parts head numbers bare ∙ split) means

-- what the words of numbers say
one_says : (a : ℕ) → a < 2 ^ 64 → all_say (Number ∷ []) (hexadecimal a ∷ []) nothing ≡ Some (numbers_only (a ∷ []))
unfolding all_say
one_says a p = rw (hexed_read a p) refl

two_say : (a b : ℕ) → a < 2 ^ 64 → b < 2 ^ 64 →
    all_say (Number ∷ Number ∷ []) (hexadecimal a ∷ hexadecimal b ∷ []) nothing ≡ Some (numbers_only (a ∷ b ∷ []))
unfolding all_say
two_say a b p q = rw (hexed_read a p, hexed_read b q) refl

three_say : (a b c : ℕ) → a < 2 ^ 64 → b < 2 ^ 64 → c < 2 ^ 64 →
    all_say (Number ∷ Number ∷ Number ∷ []) (hexadecimal a ∷ hexadecimal b ∷ hexadecimal c ∷ []) nothing ≡ Some (numbers_only (a ∷ b ∷ c ∷ []))
unfolding all_say
three_say a b c p q r = rw (hexed_read a p, hexed_read b q, hexed_read c r) refl

four_say : (a b c d : ℕ) → a < 2 ^ 64 → b < 2 ^ 64 → c < 2 ^ 64 → d < 2 ^ 64 →
    all_say (Number ∷ Number ∷ Number ∷ Number ∷ []) (hexadecimal a ∷ hexadecimal b ∷ hexadecimal c ∷ hexadecimal d ∷ []) nothing
    ≡ Some (numbers_only (a ∷ b ∷ c ∷ d ∷ []))
unfolding all_say
four_say a b c d p q r s = rw (hexed_read a p, hexed_read b q, hexed_read c r, hexed_read d s) refl

-- data is one word of hex digits
data_read : (bytes : List ℕ) → AreData bytes → bytes_of (encode_lower bytes) ≡ Some bytes
unfolding bytes_of
data_read bytes are =
    let long = length-encode_with lower_digits bytes in
    let fits : nat_le 2 (length (encode_lower bytes)) && nat_le (length (encode_lower bytes)) 128 ≡ true = grind (arith, long, are.some, are.few) in
    rw (fits, decode_of-encode_lower bytes are.each) refl

digits_all : (bytes : List ℕ) → AreData bytes → list_all is_hex_digit (encode_lower bytes) ≡ true
digits_all bytes are = by (list_all is_hex_digit (encode_lower bytes)) refl where
  by : (b : Bool) → list_all is_hex_digit (encode_lower bytes) ≡ b → b ≡ true
  by true is = refl
  by false is = absurd (cc (no_bytes (encode_lower bytes) is, data_read bytes are))

digit_least : (c : ℕ) → is_hex_digit c ≡ true → 48 ≤ c
digit_least c is = elim (cases_lt c 48) as (λ _. 48 ≤ c) [
  | inl less ↦ absurd (cc (no_hex c less, is))
  | inr large ↦ large
]

no_end : (c : ℕ) → 36 ≤ c → not (is_end c) ≡ true
no_end c le = grind (arith, common_steps, le)

digits_inside : (text : List ℕ) → list_all is_hex_digit text ≡ true → is_word text ≡ true
digits_inside [] are = refl
digits_inside (c ∷ text) are =
    let parts = and_parts (is_hex_digit c) (list_all is_hex_digit text) are in
    and_from (not (is_end c)) (is_word text) (no_end c (omega (arith, digit_least c parts.0))) (digits_inside text parts.1)

digits_whole : (text : List ℕ) → list_all is_hex_digit text ≡ true → has_end text ≡ false
digits_whole [] are = refl
digits_whole (c ∷ text) are =
    let parts = and_parts (is_hex_digit c) (list_all is_hex_digit text) are in
    rw (goes_on c (omega (arith, digit_least c parts.0))) (digits_whole text parts.1)

write_says : (a b : ℕ) (bytes : List ℕ) → a < 2 ^ 64 → b < 2 ^ 64 → AreData bytes →
    all_say (Number ∷ Number ∷ Data ∷ []) (hexadecimal a ∷ hexadecimal b ∷ encode_lower bytes ∷ []) nothing
    ≡ Some (record { numbers = a ∷ b ∷ []; bytes = bytes; items = [] })
unfolding all_say
write_says a b bytes p q are = rw (hexed_read a p, hexed_read b q, data_read bytes are) refl

write_again : (language : Language) (did iova : ℕ) (bytes : List ℕ) → did < 2 ^ 64 → iova < 2 ^ 64 → AreData bytes →
    line_in language (codes "dma write" ++ operands (did ∷ iova ∷ []) ++ codes " " ++ encode_lower bytes)
    ≡ Plain (Does (step.DmaWrite did iova (record { items = bytes })))
unfolding IsStep words_of
write_again language did iova bytes p q are =
    let front = codes "dma write" ++ operands (did ∷ iova ∷ []) in
    let digits = digits_all bytes are in
    let long = length-encode_with lower_digits bytes in
    let inside = digits_inside (encode_lower bytes) digits in
    ap (line_in language) (append_assoc front (codes " ") (encode_lower bytes))
    ∙ in_line language (front ++ 32 ∷ encode_lower bytes) (codes "dma") (codes "write" ∷ hexadecimal did ∷ hexadecimal iova ∷ encode_lower bytes ∷ []) _
    (ends_neither front (32 ∷ encode_lower bytes)
    (ends_neither (codes "dma write") (operands (did ∷ iova ∷ [])) refl (operands_whole (did ∷ iova ∷ []))) (digits_whole (encode_lower bytes) digits))
    (omega (
      arith,
      length-append front (32 ∷ encode_lower bytes),
      length-append (codes "dma write") (operands (did ∷ iova ∷ [])),
      operands_short (did ∷ iova ∷ []) (p, (q, tt)),
      long,
      are.few,
    ))
    (words_joined front (encode_lower bytes) (operands_bare (codes "dma write") (did ∷ iova ∷ []) refl)
    ∙ ap (λ last. words_of front ++ last) (one_word (encode_lower bytes) inside (omega (arith, long, are.some)))
    ∙ ap (λ front. front ++ encode_lower bytes ∷ []) (operands_parts (codes "dma write") (did ∷ iova ∷ []) refl))
    (dma_write _ did iova bytes (write_says did iova bytes p q are) language)

-- each step but `translate` in each script
step_again : (language : Language) (s : Step) → CanBeSaid s → is_of_run s ≡ true → line_in language (step_text s) ≡ Plain (Does s)
unfolding step_text IsStep words_of
step_again language (step.Load a b) (p, q) is =
    numbered language (codes "load") _ _ (a ∷ b ∷ []) _ refl refl (omega arith) (omega arith) (p, (q, tt)) refl (load _ a b (two_say a b p q) language)
step_again language (step.Store a b c) (p, q, r) is =
    numbered language (codes "store") _ _ (a ∷ b ∷ c ∷ []) _ refl refl (omega arith) (omega arith) (p, (q, (r, tt))) refl (store _ a b c (three_say a b c p q r) language)
step_again language (step.RegRead a b) (p, q) is =
    numbered language (codes "reg read") _ _ (a ∷ b ∷ []) _ refl refl (omega arith) (omega arith) (p, (q, tt)) refl (reg_read _ a b (two_say a b p q) language)
step_again language (step.RegWrite a b c) (p, q, r) is =
    numbered language (codes "reg write") _ _ (a ∷ b ∷ c ∷ []) _ refl refl (omega arith) (omega arith) (p, (q, (r, tt))) refl
    (reg_write _ a b c (three_say a b c p q r) language)
step_again language step.Command said is =
    in_line language (codes "cmd") (codes "cmd") [] step.Command refl (omega arith) refl (cmd [] refl language)
step_again language (step.Settle busy.Directory) said is =
    in_line language (codes "settle ddtp") (codes "settle") (codes "ddtp" ∷ []) (step.Settle busy.Directory) refl (omega arith) refl (settle_ddtp language)
step_again language (step.Settle busy.Commands) said is =
    in_line language (codes "settle cq") (codes "settle") (codes "cq" ∷ []) (step.Settle busy.Commands) refl (omega arith) refl (settle_cq language)
step_again language (step.Settle busy.Faults) said is =
    in_line language (codes "settle fq") (codes "settle") (codes "fq" ∷ []) (step.Settle busy.Faults) refl (omega arith) refl (settle_fq language)
step_again language (step.DmaRead a b c) (p, q, r) is =
    numbered language (codes "dma read") _ _ (a ∷ b ∷ c ∷ []) _ refl refl (omega arith) (omega arith) (p, (q, (r, tt))) refl
    (dma_read _ a b c (three_say a b c p q r) language)
step_again language (step.DmaWrite a b bytes) (p, q, are) is = write_again language a b bytes.items p q are
step_again language (step.Translate a b kind) said is = absurd (cc is)
step_again language (step.DevRead a b c) (p, q, r) is =
    numbered language (codes "dev read") _ _ (a ∷ b ∷ c ∷ []) _ refl refl (omega arith) (omega arith) (p, (q, (r, tt))) refl
    (dev_read _ a b c (three_say a b c p q r) language)
step_again language (step.DevWrite a b c d) (p, q, r, s) is =
    numbered language (codes "dev write") _ _ (a ∷ b ∷ c ∷ d ∷ []) _ refl refl (omega arith) (omega arith) (p, (q, (r, (s, tt)))) refl
    (dev_write _ a b c d (four_say a b c d p q r s) language)
step_again language (step.Device a) p is =
    numbered language (codes "dev step") _ _ (a ∷ []) _ refl refl (omega arith) (omega arith) (p, tt) refl (dev_step _ a (one_says a p) language)

-- `translate` in those of `debug`
translated_read : (words : List (List ℕ)) (a b : ℕ) → all_say (Number ∷ Number ∷ []) words nothing ≡ Some (numbers_only (a ∷ b ∷ [])) →
    meaning Debug (codes "translate" ∷ codes "read" ∷ words) ≡ Plain (Does (step.Translate a b kind.Read))
unfolding meaning first_of rows all_say line_by step_by
translated_read words a b is = rw is refl

translated_write : (words : List (List ℕ)) (a b : ℕ) → all_say (Number ∷ Number ∷ []) words nothing ≡ Some (numbers_only (a ∷ b ∷ [])) →
    meaning Debug (codes "translate" ∷ codes "write" ∷ words) ≡ Plain (Does (step.Translate a b kind.Write))
unfolding meaning first_of rows all_say line_by step_by
translated_write words a b is = rw is refl

pub reads_steps : (s : Step) → CanBeSaid s → debug_line_of (step_text s) ≡ Plain (Does s)
unfolding step_text words_of
reads_steps (step.Translate a b kind.Read) (p, q) =
    numbered Debug (codes "translate read") _ _ (a ∷ b ∷ []) _ refl refl (omega arith) (omega arith) (p, (q, tt)) refl (translated_read _ a b (two_say a b p q))
reads_steps (step.Translate a b kind.Write) (p, q) =
    numbered Debug (codes "translate write") _ _ (a ∷ b ∷ []) _ refl refl (omega arith) (omega arith) (p, (q, tt)) refl (translated_write _ a b (two_say a b p q))
reads_steps (step.Load a b) said = step_again Debug (step.Load a b) said refl
reads_steps (step.Store a b c) said = step_again Debug (step.Store a b c) said refl
reads_steps (step.RegRead a b) said = step_again Debug (step.RegRead a b) said refl
reads_steps (step.RegWrite a b c) said = step_again Debug (step.RegWrite a b c) said refl
reads_steps step.Command said = step_again Debug step.Command said refl
reads_steps (step.Settle register) said = step_again Debug (step.Settle register) said refl
reads_steps (step.DmaRead a b c) said = step_again Debug (step.DmaRead a b c) said refl
reads_steps (step.DmaWrite a b bytes) said = step_again Debug (step.DmaWrite a b bytes) said refl
reads_steps (step.DevRead a b c) said = step_again Debug (step.DevRead a b c) said refl
reads_steps (step.DevWrite a b c d) said = step_again Debug (step.DevWrite a b c d) said refl
reads_steps (step.Device a) said = step_again Debug (step.Device a) said refl

pub reads_steps_of_run : (s : Step) → CanBeSaid s → is_of_run s ≡ true → line_of (step_text s) ≡ Does s
reads_steps_of_run s said is = ap plain (step_again Run s said is)
