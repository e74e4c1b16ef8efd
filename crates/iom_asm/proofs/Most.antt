-- No statement has more than fourteen words.
use Rattle.std.proofs.Common.{◌≡◌, ℕ, zero, suc, ◌+◌, ◌≤◌, ◌<◌, ◌&&◌, ◌||◌, Bool, true, false, not, nat_le, List, [], ◌∷◌, length, map, take, codes, bytes_eq, Option, Some, None, Result, Err, refl, ap, arith, inl, inr, ◌++◌, length-append}
use Rattle.std.proofs.lemmas.Bool.{cond_both, leb-true}
use Rattle.std.proofs.lemmas.List.{length-map}
use Rattle.std.proofs.lemmas.Grind.{common_steps}
use Rattle.std.specs.Option.{option_map}
use Rattle.iom_bits.specs.Bits.{flag}
use Rattle.iom_mem.specs.Words.{bytes_of_words}
use Rattle.iom_asm.specs.declared.asm_fault.AsmFault.{AsmFault}
use Rattle.iom_asm.specs.declared.asm_fault.AsmFault.TheVariants.{BadLine}
use Rattle.iom_items.specs.Operands.{operand_of, has_key, is_given, is_one_of, are_operands, ◌>>=◌}
use Rattle.iom_items.specs.Capabilities.{features_for, keys_of as feature_keys}
use Rattle.iom_bits.specs.Features.{Features, rows}
use Rattle.iom_image.specs.Versions.{features_of}
use Rattle.iom_ddt.specs.Formats.{context_format}
use Rattle.iom_ddt.specs.declared.formats.ContextFormat.{ContextFormat}
use Rattle.iom_items.specs.Forms.{where_so, are_offered, each_number, numbers, words_as, words_for, words_laid, words_on}
use Rattle.iom_items.specs.declared.item.Item.{Item}
use Rattle.iom_items.specs.Items.{item_named}
use Rattle.iom_text.specs.Words.{number}
use Rattle.iom_items.specs.declared.layouts.Layout.{Layout}
use Rattle.iom_items.specs.Layouts.{Field, fields_of, keys_of}
use Rattle.iom_items.specs.declared.layouts.Layout.TheVariants as layout
use Rattle.iom_items.proofs.Restated.{form_of, split}
use Rattle.iom_items.proofs.Stated.{found_then, under_test}
use Rattle.iom_asm.specs.Assembly.{ImageDraftView, one_hex, bytes_for, opened, moved, first_bytes, disk_of, disk_for, joined, offered, window_for, windowed, or_bad, then_so, placed, stated, started, after_words}

-- how many of some keys are given
abbrev given_among : List (List ℕ) → List (List ℕ) → ℕ
given_among [] words = 0
given_among (key ∷ keys) words = flag (is_given key words) + given_among keys words

one_at_most : (b : Bool) (m n : ℕ) → m ≤ n → flag b + m ≤ suc n
one_at_most true m n le = omega (arith, le)
one_at_most false m n le = omega (arith, le)

all_at_most : (keys words : List (List ℕ)) → given_among keys words ≤ length keys
all_at_most [] words = omega arith
all_at_most (key ∷ keys) words = one_at_most (is_given key words) (given_among keys words) (length keys) (all_at_most keys words)

one_grows : (has given : Bool) (m n : ℕ) → m ≤ n → flag given + m ≤ flag (has || given) + n
one_grows true true m n le = omega (arith, le)
one_grows true false m n le = omega (arith, le)
one_grows false true m n le = omega (arith, le)
one_grows false false m n le = omega (arith, le)

grows : (keys : List (List ℕ)) (word : List ℕ) (words : List (List ℕ)) → given_among keys words ≤ given_among keys (word ∷ words)
grows [] word words = omega arith
grows (key ∷ keys) word words =
    one_grows (has_key key (operand_of word)) (is_given key words) (given_among keys words) (given_among keys (word ∷ words)) (grows keys word words)

one_new : (has given other : Bool) (m n : ℕ) → m ≤ n → (other ≡ true → suc m ≤ n) → (has && not given || other) ≡ true →
    suc (flag given + m) ≤ flag (has || given) + n
one_new true true other m n le more is = let lt = more is in omega (arith, lt)
one_new true false other m n le more is = omega (arith, le)
one_new false true other m n le more is = let lt = more is in omega (arith, lt)
one_new false false other m n le more is = let lt = more is in omega (arith, lt)

new_one : (keys : List (List ℕ)) (word : List ℕ) (words : List (List ℕ)) → is_one_of keys (operand_of word) words ≡ true →
    suc (given_among keys words) ≤ given_among keys (word ∷ words)
new_one [] word words is = absurd cc
new_one (key ∷ keys) word words is =
    one_new (has_key key (operand_of word)) (is_given key words) (is_one_of keys (operand_of word) words) (given_among keys words)
    (given_among keys (word ∷ words)) (grows keys word words) (new_one keys word words) is

both_so : (a b : Bool) → (a && b) ≡ true → (a ≡ true) × (b ≡ true)
both_so true b is = (refl, is)
both_so false b is = absurd cc

as_many : (keys words : List (List ℕ)) → are_operands keys words ≡ true → length words ≤ given_among keys words
as_many keys [] is = omega arith
as_many keys (word ∷ words) is =
    let parts = both_so (is_one_of keys (operand_of word) words) (are_operands keys words) is in
    let new = new_one keys word words parts.0 in
    let others = as_many keys words parts.1 in omega (arith, new, others)

-- more words than keys are no operands
closed : {A : Type 0} (b : Bool) (found : Option A) → (b ≡ true → ⊥) → where_so b found ≡ None
closed true found never = absurd (never refl)
closed false found never = refl

too_many_for : {A : Type 0} (keys words : List (List ℕ)) (found : Option A) → length keys < length words → where_so (are_operands keys words) found ≡ None
too_many_for keys words found lt =
    closed (are_operands keys words) found (λ is. let a = as_many keys words is in let b = all_at_most keys words in omega (arith, a, b, lt))

laid_few : (layout : Layout) → length (form_of layout) + length (fields_of layout) ≤ 13
unfolding fields_of
laid_few layout.Vma = omega arith
laid_few layout.Gvma = omega arith
laid_few layout.Fence = omega arith
laid_few layout.Iodir = omega arith
laid_few layout.Fault = omega arith
laid_few layout.Context = omega arith
laid_few layout.ExtendedContext = omega arith
laid_few layout.Dir = omega arith
laid_few layout.Pte = omega arith
laid_few layout.Msi = omega arith

few_laid : (layout : Layout) (operands : List (List ℕ)) (words : List ℕ) → words_laid layout operands ≡ Some words → length operands ≤ length (fields_of layout)
unfolding words_laid
few_laid layout operands words is =
    let test = under_test (are_operands (keys_of (fields_of layout)) operands) _ words is in
    omega (
      arith,
      as_many (keys_of (fields_of layout)) operands test.0,
      all_at_most (keys_of (fields_of layout)) operands,
      length-map (fields_of layout) (λ (field : Field). field.key),
    )

few_for : (format : ContextFormat) (kind : Item) (operands : List (List ℕ)) (words : List ℕ) → words_as format kind operands ≡ Some words →
    length operands ≤ 13
unfolding numbers
few_for format kind operands words is = elim (split format kind operands words is) as (λ _. length operands ≤ 13) [
  | inl own ↦
      omega (
        arith,
        ap (λ (words : List (List ℕ)). length words) own.parts,
        length-append (form_of own.layout) own.rest,
        few_laid own.layout own.rest words own.stands,
        laid_few own.layout,
      )
  | inr own ↦
      let test = under_test (nat_le 1 (length operands) && nat_le (length operands) 8) (each_number operands) words own.1 in
      let counts = both_so (nat_le 1 (length operands)) (nat_le (length operands) 8) test.0 in
      omega (arith, leb-true (length operands) 8 counts.1)
]

few_words : (format : ContextFormat) (name : List ℕ) (operands : List (List ℕ)) (words : List ℕ) → words_for format name operands ≡ Some words →
    length operands ≤ 13
unfolding words_for
few_words format name operands words is =
    let named = found_then (item_named name) (λ kind. words_as format kind operands) words is in few_for format named.0 operands words named.2

words_none : (format : ContextFormat) (name : List ℕ) (words : List (List ℕ)) → 13 < length words → words_for format name words ≡ None
words_none format name words lt = by (words_for format name words) refl
  where
    by : (found : Option (List ℕ)) → words_for format name words ≡ found → words_for format name words ≡ None
    by None is = is
    by (Some numbers) is = absurd (omega (arith, lt, few_words format name words numbers is))

nothing : {A B : Type 0} (f : A → B) (found : Option A) → found ≡ None → option_map f found ≡ None
nothing f found is = ap (option_map f) is

-- the other statements
one_hex_none : (words : List (List ℕ)) → 1 < length words → one_hex words ≡ None
one_hex_none [] lt = refl
one_hex_none (word ∷ []) lt = absurd (omega (arith, lt))
one_hex_none (word ∷ other ∷ more) lt = refl

on_none : (features : Features) (name : List ℕ) (words : List (List ℕ)) → 13 < length words → words_on features name words ≡ None
unfolding words_on
on_none features name words lt =
    cond_both (are_offered features words) (words_for (context_format features) name words) None (λ found. found ≡ None)
    (λ _. words_none (context_format features) name words lt) (λ _. refl)

bytes_none : (features : Features) (name : List ℕ) (words : List (List ℕ)) → 13 < length words → bytes_for features name words ≡ None
unfolding bytes_for
bytes_none features name words lt =
    cond_both (bytes_eq name (codes "bytes")) _ _ (λ found. found ≡ None) (λ _. one_hex_none words (omega (arith, lt)))
    (λ _. nothing bytes_of_words (words_on features name words) (on_none features name words lt))

moved_none : (draft : ImageDraftView) (words : List (List ℕ)) → 13 < length words → moved draft words ≡ None
unfolding moved
moved_none draft [] lt = refl
moved_none draft (place ∷ []) lt = absurd (omega (arith, lt))
moved_none draft (place ∷ more ∷ others) lt = refl

opened_none : (words : List (List ℕ)) → 13 < length words → opened words ≡ None
unfolding opened
opened_none [] lt = refl
opened_none (base ∷ []) lt = refl
opened_none (base ∷ size ∷ []) lt = absurd (omega (arith, lt))
opened_none (base ∷ size ∷ more ∷ others) lt = refl

first_none : (words : List (List ℕ)) → 1 < length words → first_bytes words ≡ None
first_none [] lt = absurd (omega (arith, lt))
first_none (word ∷ words) lt = one_hex_none (word ∷ words) lt

ends_none : {A B : Type 0} (found : Option A) (f : A → Option B) → ((x : A) → f x ≡ None) → (found >>= f) ≡ None
ends_none None f is = refl
ends_none (Some x) f is = is x

none_then : {A B : Type 0} (found : Option A) (f : A → Option B) → found ≡ None → (found >>= f) ≡ None
none_then found f is = ap (λ found. found >>= f) is

disk_none : (read_only : Bool) (words : List (List ℕ)) → 13 < length words → disk_for read_only words ≡ None
unfolding disk_for disk_of
disk_none read_only [] lt = refl
disk_none read_only (id ∷ []) lt = refl
disk_none read_only (id ∷ sectors ∷ words) lt =
    ends_none (number id) _ (λ id. ends_none (number sectors) _ (λ sectors. none_then (first_bytes words) _ (first_none words (omega (arith, lt)))))

joined_none : (draft : ImageDraftView) (read_only : Bool) (words : List (List ℕ)) → 13 < length words → joined draft read_only words ≡ None
unfolding joined
joined_none draft read_only words lt = none_then (disk_for read_only words) _ (disk_none read_only words lt)

few_keys : length (feature_keys rows) ≤ 13
unfolding rows
few_keys = omega arith

offered_none : (draft : ImageDraftView) (words : List (List ℕ)) → 13 < length words → offered draft words ≡ None
unfolding offered features_for
offered_none draft words lt = none_then (features_for words) _ (too_many_for (feature_keys rows) words _ (omega (arith, lt, few_keys)))

window_none : (words : List (List ℕ)) → 13 < length words → window_for words ≡ None
unfolding window_for
window_none [] lt = refl
window_none (base ∷ []) lt = refl
window_none (base ∷ size ∷ []) lt = absurd (omega (arith, lt))
window_none (base ∷ size ∷ more ∷ others) lt = refl

windowed_none : (draft : ImageDraftView) (words : List (List ℕ)) → 13 < length words → windowed draft words ≡ None
unfolding windowed
windowed_none draft words lt = none_then (window_for words) _ (window_none words lt)

bad : {A B : Type 0} (line : ℕ) (found : Option A) (f : A → Result B AsmFault) → found ≡ None → then_so (or_bad line found) f ≡ Err (BadLine line)
bad line found f is = ap (λ found. then_so (or_bad line found) f) is

stated_bad : (line : ℕ) (draft : ImageDraftView) (name : List ℕ) (words : List (List ℕ)) → 13 < length words → stated line draft name words ≡ Err (BadLine line)
unfolding stated
stated_bad line draft name words lt =
    cond_both (bytes_eq name (codes "at")) _ _ (λ made. made ≡ Err (BadLine line)) (λ _. ap (or_bad line) (moved_none draft words lt)) (λ _.
    cond_both (bytes_eq name (codes "disk")) _ _ (λ made. made ≡ Err (BadLine line)) (λ _. ap (or_bad line) (joined_none draft false words lt)) (λ _.
    cond_both (bytes_eq name (codes "rodisk")) _ _ (λ made. made ≡ Err (BadLine line)) (λ _. ap (or_bad line) (joined_none draft true words lt)) (λ _.
    cond_both (bytes_eq name (codes "capabilities")) _ _ (λ made. made ≡ Err (BadLine line)) (λ _. ap (or_bad line) (offered_none draft words lt)) (λ _.
    cond_both (bytes_eq name (codes "window")) _ _ (λ made. made ≡ Err (BadLine line)) (λ _. ap (or_bad line) (windowed_none draft words lt))
    (λ _. bad line (bytes_for (features_of draft.image.version) name words) (placed line draft) (bytes_none (features_of draft.image.version) name words lt))))))

no_more : {A : Type 0} (b : Bool) (found : Option A) → found ≡ None → where_so b found ≡ None
no_more true found is = is
no_more false found is = refl

started_bad : (line : ℕ) (name : List ℕ) (words : List (List ℕ)) → 13 < length words → started line name words ≡ Err (BadLine line)
unfolding started
started_bad line name words lt = ap (or_bad line) (no_more (bytes_eq name (codes "ram")) (opened words) (opened_none words lt))

stops : {A B : Type 0} (line : ℕ) (made : Result A AsmFault) (f : A → Result B AsmFault) → made ≡ Err (BadLine line) → then_so made f ≡ Err (BadLine line)
stops line made f is = ap (λ made. then_so made f) is

pub too_many : (line : ℕ) (draft : Option ImageDraftView) (words : List (List ℕ)) → 14 < length words → after_words line draft words ≡ Err (BadLine line)
unfolding after_words
too_many line draft [] lt = absurd (omega (arith, lt))
too_many line None (name ∷ words) lt = stops line (started line name words) _ (started_bad line name words (omega (arith, lt)))
too_many line (Some draft) (name ∷ words) lt = stops line (stated line draft name words) _ (stated_bad line draft name words (omega (arith, lt)))

-- of words that were taken, more than fourteen are more than fourteen of all
take_le : {A : Type 0} (n : ℕ) (items : List A) → length (take n items) ≤ length items
take_le zero items = omega arith
take_le (suc n) [] = omega arith
take_le (suc n) (item ∷ items) = let le = take_le n items in omega (arith, le)

pub long : {A : Type 0} (f : A → List ℕ) (items : List A) (words : List (List ℕ)) → map f items ≡ take 15 words → 14 < length items → 14 < length words
long f items words is lt =
    let same : length (map f items) ≡ length items = grind (arith, common_steps) in
    let taken = take_le 15 words in
    let fifteen : length (map f items) ≡ length (take 15 words) = ap (λ words. length words) is in omega (arith, same, taken, fifteen, lt)
