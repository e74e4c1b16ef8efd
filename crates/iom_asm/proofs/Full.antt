-- A statement that places bytes places at least one.
use Rattle.std.proofs.Common.{◌≡◌, ℕ, suc, ◌<◌, List, [], ◌∷◌, length, codes, bytes_eq, Option, Some, None, Result, Ok, Err, refl, arith}
use Rattle.std.specs.Prelude.{◌%◌, ◌==◌, ◌&&◌, IfSome, nat_le}
use Rattle.std.specs.Option.{option_map}
use Rattle.std.specs.Result.{result_ok}
use Rattle.std.proofs.lemmas.Bool.{cond_both}
use Rattle.hex.specs.Hex.{decode_of, decode_pairs, pair_value, ◌>>=◌}
use Rattle.hex.specs.declared.error.FromHexError.{FromHexError}
use Rattle.hex.specs.declared.error.FromHexError.TheVariants.{OddLength}
use Rattle.iom_mem.specs.Words.{bytes_of_words}
use Rattle.iom_bits.specs.Features.{Features}
use Rattle.iom_ddt.specs.Formats.{context_format}
use Rattle.iom_ddt.specs.declared.formats.ContextFormat.{ContextFormat}
use Rattle.iom_items.specs.Forms.{are_offered, words_as, words_for, words_on}
use Rattle.iom_items.specs.Items.{item_named}
use Rattle.iom_items.proofs.Restated.{words_some}
use Rattle.iom_items.proofs.Stated.{found_then}
use Rattle.iom_asm.specs.Assembly.{hex, one_hex, bytes_for}

some_words : (format : ContextFormat) (name : List ℕ) (operands : List (List ℕ)) (words : List ℕ) → words_for format name operands ≡ Some words →
    0 < length words
unfolding words_for
some_words format name operands words is =
    let named = found_then (item_named name) (λ kind. words_as format kind operands) words is in words_some format named.0 operands words named.2

abbrev Full : {A : Type 0} → Option (List A) → Type 0
Full found = IfSome found (λ xs. 0 < length xs)

-- words
words_full : (format : ContextFormat) (name : List ℕ) (operands : List (List ℕ)) → Full (words_for format name operands)
words_full format name operands = by (words_for format name operands) refl
  where
    by : (found : Option (List ℕ)) → words_for format name operands ≡ found → Full found
    by None is = tt
    by (Some words) is = some_words format name operands words is

-- bytes
bytes_full : (found : Option (List ℕ)) → Full found → Full (option_map bytes_of_words found)
unfolding bytes_of_words
bytes_full None full = tt
bytes_full (Some []) full = absurd (omega (arith, full))
bytes_full (Some (word ∷ words)) full = omega arith

rest_full : (byte : ℕ) (others : Result (List ℕ) FromHexError) → Full (result_ok (others >>= λ bytes. Ok (byte ∷ bytes)))
rest_full byte (Ok bytes) = omega arith
rest_full byte (Err e) = tt

pair_full : (first : Result ℕ FromHexError) (others : Result (List ℕ) FromHexError) → Full (result_ok (first >>= λ byte. others >>= λ bytes. Ok (byte ∷ bytes)))
pair_full (Ok byte) others = rest_full byte others
pair_full (Err e) others = tt

decoded_full : (high low : ℕ) (rest : List ℕ) → Full (result_ok (decode_of (high ∷ low ∷ rest)))
unfolding decode_pairs
decoded_full high low rest =
    cond_both {A = Result (List ℕ) FromHexError} (length (high ∷ low ∷ rest) % 2 == 1) (Err OddLength) (decode_pairs 0 (high ∷ low ∷ rest)) (λ decoded. Full {A = ℕ} (result_ok decoded))
    (λ _. tt) (λ _. pair_full (pair_value high low 0) (decode_pairs 2 rest))

hex_full : (word : List ℕ) → Full (hex word)
unfolding hex
hex_full [] = tt
hex_full (high ∷ []) = tt
hex_full (high ∷ low ∷ rest) =
    cond_both (nat_le 2 (length (high ∷ low ∷ rest))) (result_ok (decode_of (high ∷ low ∷ rest))) None Full (λ _. decoded_full high low rest) (λ _. tt)

one_hex_full : (words : List (List ℕ)) → Full (one_hex words)
one_hex_full [] = tt
one_hex_full (word ∷ []) = hex_full word
one_hex_full (word ∷ other ∷ others) = tt

on_full : (features : Features) (name : List ℕ) (operands : List (List ℕ)) → Full (words_on features name operands)
unfolding words_on
on_full features name operands =
    cond_both (are_offered features operands) (words_for (context_format features) name operands) None Full
    (λ _. words_full (context_format features) name operands) (λ _. tt)

pub bytes_for_full : (features : Features) (name : List ℕ) (operands : List (List ℕ)) → Full (bytes_for features name operands)
unfolding bytes_for
bytes_for_full features name operands =
    cond_both (bytes_eq name (codes "bytes")) (one_hex operands) (option_map bytes_of_words (words_on features name operands)) Full
    (λ _. one_hex_full operands) (λ _. bytes_full (words_on features name operands) (on_full features name operands))

pub some_byte : (features : Features) (name : List ℕ) (operands : List (List ℕ)) (bytes : List ℕ) → bytes_for features name operands ≡ Some bytes →
    0 < length bytes
some_byte features name operands bytes is = rw is at (bytes_for_full features name operands)
