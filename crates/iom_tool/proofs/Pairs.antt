-- What pairs of hex digits write.
use Rattle.std.proofs.Common.{◌≡◌, zero, suc, ◌==◌, ◌%◌, ◌/◌, slice_index, ◌+◌, ◌-◌, ◌*◌, ◌<◌, ◌≤◌, ◌&&◌, nat_le, ◌++◌, ℕ, List, [], ◌∷◌, Bool, true, if◌then◌else◌, length, take, drop, replicate, get_or, false, Option, Some, None, Result, Ok, Err, is_some, sym, ◌∙◌, ap, refl, arith, append_assoc, append-nil, length-append, ◌⊎◌, inl, inr, ⊎_elim}
use Rattle.std.specs.List.{list_all}
use Rattle.std.specs.Option.{option_map}
use Rattle.std.specs.Result.{result_ok}
use Rattle.std.proofs.lemmas.List.{drop_more, length-take-le, take-take, take_more, take_more_set, take_all, drop_all, length-set, length-replicate, take_at}
use Rattle.std.proofs.Math.ListN.{set}
use Rattle.std.proofs.Math.Seq.{take-nil, take-append-add}
use Rattle.std.proofs.lemmas.Slice.{take-put_mid}
use borrow.Rule.Slice.PartMut.{put_mid}
use Rattle.hex.specs.Hex.{encode_with, encode_lower, lower_digits, hex_digit_value, is_hex_digit, pair_value, decode_pairs, decode_of, ◌>>=◌}
use Rattle.hex.specs.declared.error.FromHexError.{FromHexError}
use Rattle.hex.specs.declared.error.FromHexError.TheVariants.{OddLength}
use Rattle.iom_tool.specs.Words.{bytes_of}

two_more : (word : List ℕ) (i : ℕ) → 2 * i + 1 < length word →
    drop (2 * i) word ≡ get_or word (2 * i) 0 ∷ get_or word (2 * i + 1) 0 ∷ drop (2 * (i + 1)) word
two_more word i inside =
    let next : 2 * i + 1 + 1 ≡ 2 * (i + 1) = omega arith in
    drop_more word (2 * i) 0 (omega arith)
    ∙ ap (λ l. get_or word (2 * i) 0 ∷ l) (drop_more word (2 * i + 1) 0 inside ∙ ap (λ n. get_or word (2 * i + 1) 0 ∷ drop n word) next)

onto : (byte : ℕ) (rest : Result (List ℕ) FromHexError) →
    result_ok (rest >>= λ bytes. Ok (byte ∷ bytes)) ≡ option_map (λ more. byte ∷ more) (result_ok rest)
onto byte (Ok bytes) = refl
onto byte (Err e) = refl

pair_of : (at high low h l : ℕ) (rest : List ℕ) → hex_digit_value high ≡ Some h → hex_digit_value low ≡ Some l →
    result_ok (decode_pairs at (high ∷ low ∷ rest)) ≡ option_map (λ more. (h * 16 + l) ∷ more) (result_ok (decode_pairs (at + 2) rest))
unfolding decode_pairs
pair_of at high low h l rest first second = rw (first, second) (onto (h * 16 + l) (decode_pairs (at + 2) rest))

none_of : (found : Option ℕ) → is_some found ≡ false → found ≡ None
none_of None is = refl
none_of (Some n) is = absurd (cc is)

no_pair : (at high low : ℕ) (rest : List ℕ) (first second : Option ℕ) → hex_digit_value high ≡ first → hex_digit_value low ≡ second →
    is_some first && is_some second ≡ false → result_ok (decode_pairs at (high ∷ low ∷ rest)) ≡ None
unfolding decode_pairs
no_pair at high low rest None second is is' none = rw is refl
no_pair at high low rest (Some h) None is is' none = rw (is, is') refl
no_pair at high low rest (Some h) (Some l) is is' none = absurd (cc none)

fused : (front : List ℕ) (byte : ℕ) (rest : Option (List ℕ)) →
    option_map (λ more. front ++ more) (option_map (λ more. byte ∷ more) rest) ≡ option_map (λ more. (front ++ byte ∷ []) ++ more) rest
fused front byte (Some more) = ap Some (sym (append_assoc front (byte ∷ []) more))
fused front byte None = refl

pub pair_done : (word bytes : List ℕ) (i h l : ℕ) (all : Option (List ℕ)) → 2 * i + 1 < length word → i < length bytes →
    hex_digit_value (get_or word (2 * i) 0) ≡ Some h → hex_digit_value (get_or word (2 * i + 1) 0) ≡ Some l →
    all ≡ option_map (λ more. take i bytes ++ more) (result_ok (decode_pairs (2 * i) (drop (2 * i) word))) →
    all ≡ option_map (λ more. take (i + 1) (set bytes i (h * 16 + l)) ++ more) (result_ok (decode_pairs (2 * (i + 1)) (drop (2 * (i + 1)) word)))
pair_done word bytes i h l all inside within first second so_far =
    let next : 2 * i + 2 ≡ 2 * (i + 1) = omega arith in
    let rest : Option (List ℕ) = result_ok (decode_pairs (2 * (i + 1)) (drop (2 * (i + 1)) word)) in
    let step : result_ok (decode_pairs (2 * i) (drop (2 * i) word)) ≡ option_map (λ more. (h * 16 + l) ∷ more) rest =
    ap (λ s. result_ok (decode_pairs (2 * i) s)) (two_more word i inside)
    ∙ pair_of (2 * i) (get_or word (2 * i) 0) (get_or word (2 * i + 1) 0) h l (drop (2 * (i + 1)) word) first second
    ∙ ap (λ n. option_map (λ more. (h * 16 + l) ∷ more) (result_ok (decode_pairs n (drop (2 * (i + 1)) word)))) next in
    so_far ∙ ap (option_map (λ more. take i bytes ++ more)) step ∙ fused (take i bytes) (h * 16 + l) rest
    ∙ ap (λ front. option_map (λ more. front ++ more) rest) (sym (take_more_set bytes i (h * 16 + l) within))

-- the same where a byte was put that is this one
pub pair_put : (word bytes : List ℕ) (i h l byte : ℕ) (all : Option (List ℕ)) → byte ≡ h * 16 + l → 2 * i + 1 < length word → i < length bytes →
    hex_digit_value (get_or word (2 * i) 0) ≡ Some h → hex_digit_value (get_or word (2 * i + 1) 0) ≡ Some l →
    all ≡ option_map (λ more. take i bytes ++ more) (result_ok (decode_pairs (2 * i) (drop (2 * i) word))) →
    all ≡ option_map (λ more. take (i + 1) (set bytes i byte) ++ more) (result_ok (decode_pairs (2 * (i + 1)) (drop (2 * (i + 1)) word)))
pair_put word bytes i h l byte all is inside within first second so_far =
    rw is (pair_done word bytes i h l all inside within first second so_far)

pub pairs_begin : (all : Option (List ℕ)) (bytes : List ℕ) → all ≡ option_map (λ more. take 0 bytes ++ more) all
pairs_begin (Some more) bytes = refl
pairs_begin None bytes = refl

no_more : (at : ℕ) → decode_pairs at [] ≡ Ok []
unfolding decode_pairs
no_more at = refl

pub pairs_end : (word bytes : List ℕ) (i : ℕ) (all : Option (List ℕ)) → length word ≡ 2 * length bytes → length bytes ≤ i →
    all ≡ option_map (λ more. take i bytes ++ more) (result_ok (decode_pairs (2 * i) (drop (2 * i) word))) → Some bytes ≡ all
pairs_end word bytes i all twice past so_far =
    sym (so_far ∙ ap (λ s. option_map (λ more. take i bytes ++ more) (result_ok (decode_pairs (2 * i) s))) (drop_all (2 * i) word (omega arith))
    ∙ ap (λ r. option_map (λ more. take i bytes ++ more) (result_ok r)) (no_more (2 * i))
    ∙ ap Some (append-nil (take i bytes) ∙ take_all i bytes past))

either_none : (a b rest : Bool) → a && (b && rest) ≡ false → (a && b ≡ false) ⊎ (rest ≡ false)
either_none false b rest is = inl refl
either_none true false rest is = inl refl
either_none true true rest is = inr is

behind : (byte : Result ℕ FromHexError) (rest : Result (List ℕ) FromHexError) → result_ok rest ≡ None →
    result_ok (byte >>= λ first. rest >>= λ bytes. Ok (first ∷ bytes)) ≡ None
behind (Err e) rest is = refl
behind (Ok first) (Err e) is = refl
behind (Ok first) (Ok bytes) is = absurd (cc is)

-- where one isn't a digit, no bytes are written
none_in : (word : List ℕ) (at : ℕ) → list_all is_hex_digit word ≡ false → result_ok (decode_pairs at word) ≡ None
unfolding decode_pairs
none_in [] at other = absurd (cc other)
none_in (digit ∷ []) at other = refl
none_in (high ∷ low ∷ rest) at other =
    ⊎_elim
    (λ none. no_pair at high low rest (hex_digit_value high) (hex_digit_value low) refl refl none)
    (λ later. behind (pair_value high low at) (decode_pairs (at + 2) rest) (none_in rest (at + 2) later))
    (either_none (is_hex_digit high) (is_hex_digit low) (list_all is_hex_digit rest) other)

no_data : (word : List ℕ) → list_all is_hex_digit word ≡ false → result_ok (decode_of word) ≡ None
no_data word other = by_length (length word % 2 == 1) where
  by_length : (odd : Bool) → result_ok (if odd then Err OddLength else decode_pairs 0 word) ≡ None
  by_length true = refl
  by_length false = none_in word 0 other

pub no_bytes : (word : List ℕ) → list_all is_hex_digit word ≡ false → bytes_of word ≡ None
unfolding bytes_of
no_bytes word other = by_length (nat_le 2 (length word) && nat_le (length word) 128) where
  by_length : (fits : Bool) → (if fits then result_ok (decode_of word) else None) ≡ None
  by_length true = no_data word other
  by_length false = refl

-- digits 0 write zeros
zeros : (at m : ℕ) → decode_pairs at (replicate (2 * m) 48) ≡ Ok (replicate m 0)
unfolding decode_pairs
zeros at zero = refl
zeros at (suc m) =
    let twice : 2 * suc m ≡ suc (suc (2 * m)) = omega arith in
    ap (λ n. decode_pairs at (replicate n 48)) twice ∙ rw (zeros (at + 2) m) refl

behind_one : (byte : Result ℕ FromHexError) (rest more : Result (List ℕ) FromHexError) (zs : List ℕ) →
    result_ok more ≡ option_map (λ bytes. bytes ++ zs) (result_ok rest) →
    result_ok (byte >>= λ first. more >>= λ bytes. Ok (first ∷ bytes))
    ≡ option_map (λ bytes. bytes ++ zs) (result_ok (byte >>= λ first. rest >>= λ bytes. Ok (first ∷ bytes)))
behind_one (Err e) rest more zs is = refl
behind_one (Ok first) (Ok xs) (Ok ys) zs is = ap (option_map (λ bytes. first ∷ bytes)) is
behind_one (Ok first) (Ok xs) (Err e) zs is = absurd (cc is)
behind_one (Ok first) (Err e) (Ok ys) zs is = absurd (cc is)
behind_one (Ok first) (Err e) (Err f) zs is = refl

-- and behind a word they write them behind its bytes
padded_pairs : (at m half : ℕ) (word : List ℕ) → length word ≡ 2 * half →
    result_ok (decode_pairs at (word ++ replicate (2 * m) 48)) ≡ option_map (λ bytes. bytes ++ replicate m 0) (result_ok (decode_pairs at word))
unfolding decode_pairs
padded_pairs at m half [] is = ap result_ok (zeros at m)
padded_pairs at m half (digit ∷ []) is = absurd (omega (arith, is))
padded_pairs at m half (high ∷ low ∷ rest) is =
    behind_one (pair_value high low at) (decode_pairs (at + 2) rest) (decode_pairs (at + 2) (rest ++ replicate (2 * m) 48)) (replicate m 0)
    (padded_pairs (at + 2) m (half - 1) rest (omega (arith, is)))

fits : (word : List ℕ) → 2 ≤ length word → length word ≤ 128 → length word % 2 ≡ 0 → bytes_of word ≡ result_ok (decode_pairs 0 word)
unfolding bytes_of
fits word least most even =
    let within : nat_le 2 (length word) && nat_le (length word) 128 ≡ true = grind arith in
    let paired : length word % 2 == 1 ≡ false = grind arith in
    rw (within, paired) refl

padding : (word : List ℕ) → length word ≤ 128 → length word % 2 ≡ 0 →
    result_ok (decode_pairs 0 (word ++ replicate (128 - length word) 48))
    ≡ option_map (λ bytes. bytes ++ replicate (64 - length word / 2) 0) (result_ok (decode_pairs 0 word))
padding word most even =
    let twice : 128 - length word ≡ 2 * (64 - length word / 2) = omega arith in
    ap (λ n. result_ok (decode_pairs 0 (word ++ replicate n 48))) twice
    ∙ padded_pairs 0 (64 - length word / 2) (length word / 2) word (omega arith)

front_of : (bytes : Option (List ℕ)) (all : List ℕ) (n : ℕ) → n ≤ 64 → length all ≡ 64 →
    Some all ≡ option_map (λ bytes. bytes ++ replicate (64 - n) 0) bytes → bytes ≡ Some (take n all)
front_of None all n below full is = absurd (cc is)
front_of (Some bytes) all n below full is =
    let both : all ≡ bytes ++ replicate (64 - n) 0 = cc is in
    let long : length bytes ≡ n = omega (arith, ap length both, length-append bytes (replicate (64 - n) 0), length-replicate {A = ℕ} (64 - n) 0) in
    ap Some (sym (ap (take n) both ∙ take_at bytes (replicate (64 - n) 0) n long))

-- what a word writes is the front of what it writes with digits 0 behind it
pub front_decoded : (word all : List ℕ) → 2 ≤ length word → length word ≤ 128 → length word % 2 ≡ 0 → length all ≡ 64 →
    Some all ≡ result_ok (decode_pairs 0 (word ++ replicate (128 - length word) 48)) → bytes_of word ≡ Some (take (length word / 2) all)
front_decoded word all least most even full is =
    fits word least most even ∙ front_of (result_ok (decode_pairs 0 word)) all (length word / 2) (omega arith) full (is ∙ padding word most even)

none_of_front : (bytes : Option (List ℕ)) (zs : List ℕ) → option_map (λ bytes. bytes ++ zs) bytes ≡ None → bytes ≡ None
none_of_front None zs is = refl
none_of_front (Some bytes) zs is = absurd (cc is)

pub none_decoded : (word : List ℕ) → 2 ≤ length word → length word ≤ 128 → length word % 2 ≡ 0 →
    result_ok (decode_pairs 0 (word ++ replicate (128 - length word) 48)) ≡ None → bytes_of word ≡ None
none_decoded word least most even is =
    fits word least most even ∙ none_of_front (result_ok (decode_pairs 0 word)) (replicate (64 - length word / 2) 0) (sym (padding word most even) ∙ is)

-- the digits of one byte more
encode-more : (table bytes : List ℕ) (byte : ℕ) →
    encode_with table (bytes ++ byte ∷ []) ≡ encode_with table bytes ++ slice_index table (byte / 16) ∷ slice_index table (byte % 16) ∷ []
unfolding encode_with
encode-more table [] byte = refl
encode-more table (first ∷ bytes) byte =
    ap (λ l. slice_index table (first / 16) ∷ slice_index table (first % 16) ∷ l) (encode-more table bytes byte)

pub byte_written : (bytes digits : List ℕ) (i high low : ℕ) → i < length bytes → 2 * i + 1 < length digits →
    high ≡ slice_index lower_digits (get_or bytes i 0 / 16) → low ≡ slice_index lower_digits (get_or bytes i 0 % 16) →
    take (2 * i) digits ≡ encode_lower (take i bytes) →
    take (2 * (i + 1)) (set (set digits (2 * i) high) (2 * i + 1) low) ≡ encode_lower (take (i + 1) bytes)
byte_written bytes digits i high low within inside first second so_far =
    let twice : 2 * (i + 1) ≡ 2 * i + 1 + 1 = omega arith in
    ap (λ n. take n (set (set digits (2 * i) high) (2 * i + 1) low)) twice
    ∙ take_more_set (set digits (2 * i) high) (2 * i + 1) low (omega (arith, length-set digits (2 * i) high))
    ∙ ap (λ l. l ++ low ∷ []) (take_more_set digits (2 * i) high (omega arith))
    ∙ append_assoc (take (2 * i) digits) (high ∷ []) (low ∷ [])
    ∙ ap (λ l. l ++ high ∷ low ∷ []) so_far
    ∙ rw (first, second) (sym (encode-more lower_digits (take i bytes) (get_or bytes i 0)))
    ∙ ap encode_lower (sym (take_more bytes i 0 within))

pub all_written : (bytes digits : List ℕ) (i : ℕ) → length digits ≡ 2 * length bytes → length bytes ≤ i →
    take (2 * i) digits ≡ encode_lower (take i bytes) → digits ≡ encode_lower bytes
all_written bytes digits i twice past so_far =
    sym (take_all (2 * i) digits (omega arith)) ∙ so_far ∙ ap encode_lower (take_all i bytes past)

-- where a pair isn't two digits, nothing is written
pub pair_fails : (word bytes : List ℕ) (i : ℕ) (all : Option (List ℕ)) → 2 * i + 1 < length word →
    (is_some (hex_digit_value (get_or word (2 * i) 0)) && is_some (hex_digit_value (get_or word (2 * i + 1) 0)) ≡ false) →
    all ≡ option_map (λ more. take i bytes ++ more) (result_ok (decode_pairs (2 * i) (drop (2 * i) word))) → all ≡ None
pair_fails word bytes i all inside none so_far =
    so_far ∙ ap (λ s. option_map (λ more. take i bytes ++ more) (result_ok (decode_pairs (2 * i) s))) (two_more word i inside)
    ∙ ap (option_map (λ more. take i bytes ++ more)) (no_pair (2 * i) (get_or word (2 * i) 0) (get_or word (2 * i + 1) 0) (drop (2 * (i + 1)) word) _ _ refl refl none)

-- the digits of the first bytes are the first digits
pub front_encoded : (bytes : List ℕ) (n : ℕ) → take (2 * n) (encode_lower bytes) ≡ encode_lower (take n bytes)
unfolding encode_with
front_encoded [] n = take-nil (2 * n) ∙ sym (ap encode_lower (take-nil n))
front_encoded (byte ∷ bytes) zero = refl
front_encoded (byte ∷ bytes) (suc n) =
    let twice : 2 * suc n ≡ suc (suc (2 * n)) = omega arith in
    ap (λ k. take k (encode_lower (byte ∷ bytes))) twice
    ∙ ap (λ l. slice_index lower_digits (byte / 16) ∷ slice_index lower_digits (byte % 16) ∷ l) (front_encoded bytes n)

-- the front of a part that was written into a list
pub front_put : (xs ys : List ℕ) (a k m : ℕ) → a ≤ length xs → m ≤ length ys → take (a + m) (put_mid a k xs ys) ≡ take a xs ++ take m ys
front_put xs ys a k m before within =
    sym (take-take (a + m) (a + length ys) (put_mid a k xs ys) (omega (arith, within)))
    ∙ ap (take (a + m)) (take-put_mid a k xs ys (a + length ys) refl before)
    ∙ ap (λ n. take (n + m) (take a xs ++ ys)) (sym (length-take-le a xs before))
    ∙ take-append-add (take a xs) ys m
