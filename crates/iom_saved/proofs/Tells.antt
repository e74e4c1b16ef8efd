-- Words and what they stand for: those of one thing aren't those of another, whatever follows them.
use Rattle.std.proofs.Common.{◌≡◌, ◌/◌, ◌++◌, ◌∙◌, ℕ, zero, suc, List, [], ◌∷◌, length, get_or, drop, append_assoc, refl, sym, ap, ap₂, arith}
use Rattle.std.specs.List.{flat_map}
use Rattle.iom_saved.specs.Bytes.{words_in, words_of_bytes}
use Rattle.iom_saved.specs.Histories.{number_words}
use Rattle.iom_saved.specs.Whole.{IsWhole}
use Rattle.iom_saved.proofs.Bytes.{whole_back}
use Rattle.iom_mem.specs.Words.{bytes_of_words}

-- the words of two things that begin alike are those of things that are alike in this
abbrev pub Tells : {X Y : Type 0} → (X → Y) → (X → List ℕ) → Type 0
Tells {X} {Y} f words = (x y : X) (r s : List ℕ) → words x ++ r ≡ words y ++ s → (f x ≡ f y) × (r ≡ s)

pub tells_by : {X Y : Type 0} (f : X → Y) (words : X → List ℕ) (read : List ℕ → Y) (behind : List ℕ → List ℕ) →
    ((x : X) (r : List ℕ) → read (words x ++ r) ≡ f x) → ((x : X) (r : List ℕ) → behind (words x ++ r) ≡ r) → Tells f words
tells_by f words read behind back rest x y r s same = (sym (back x r) ∙ ap read same ∙ back y s, sym (rest x r) ∙ ap behind same ∙ rest y s)

-- of two that follow one another
pub tells_both : {X Y Z : Type 0} (f : X → Y) (g : X → Z) (v w : X → List ℕ) → Tells f v → Tells g w →
    Tells {Y = Y × Z} (λ x. (f x, g x)) (λ x. v x ++ w x)
tells_both {Y = Y} {Z = Z} f g v w first second x y r s same =
    let here : (f x ≡ f y) × (w x ++ r ≡ w y ++ s) =
    first x y (w x ++ r) (w y ++ s) (sym (append_assoc (v x) (w x) r) ∙ same ∙ append_assoc (v y) (w y) s) in
    let there : (g x ≡ g y) × (r ≡ s) = second x y r s here.1 in
    (ap₂ {C = Y × Z} (λ (a : Y) (b : Z). (a, b)) here.0 there.0, there.1)

-- of lists of as many elements
pub tells_list : {X : Type 0} (words : X → List ℕ) → Tells (λ x. x) words → (xs ys : List X) (r s : List ℕ) → length xs ≡ length ys →
    flat_map words xs ++ r ≡ flat_map words ys ++ s → (xs ≡ ys) × (r ≡ s)
tells_list words tells [] [] r s count same = (refl, same)
tells_list words tells [] (y ∷ ys) r s count same = absurd (omega (arith, count))
tells_list words tells (x ∷ xs) [] r s count same = absurd (omega (arith, count))
tells_list words tells (x ∷ xs) (y ∷ ys) r s count same =
    let fewer : length xs ≡ length ys = omega (arith, count) in
    let here : (x ≡ y) × (flat_map words xs ++ r ≡ flat_map words ys ++ s) =
    tells x y (flat_map words xs ++ r) (flat_map words ys ++ s)
    (sym (append_assoc (words x) (flat_map words xs) r) ∙ same ∙ append_assoc (words y) (flat_map words ys) s) in
    let there : (xs ≡ ys) × (r ≡ s) = tells_list words tells xs ys r s fewer here.1 in
    (ap₂ (λ a b. a ∷ b) here.0 there.0, there.1)

pub tells_counted : {X : Type 0} (words : X → List ℕ) → Tells (λ x. x) words → Tells (λ (xs : List X). xs) (λ (xs : List X). length xs ∷ flat_map words xs)
tells_counted words tells xs ys r s same =
    tells_list words tells xs ys r s (ap (λ (l : List ℕ). get_or l 0 0) same) (ap (λ (l : List ℕ). drop 1 l) same)

tells_plain : (xs ys r s : List ℕ) → length xs ≡ length ys → xs ++ r ≡ ys ++ s → (xs ≡ ys) × (r ≡ s)
tells_plain [] [] r s count same = (refl, same)
tells_plain [] (y ∷ ys) r s count same = absurd (omega (arith, count))
tells_plain (x ∷ xs) [] r s count same = absurd (omega (arith, count))
tells_plain (x ∷ xs) (y ∷ ys) r s count same =
    let fewer : length xs ≡ length ys = omega (arith, count) in
    let here : x ≡ y = ap (λ (l : List ℕ). get_or l 0 0) same in
    let there : (xs ≡ ys) × (r ≡ s) = tells_plain xs ys r s fewer (ap (λ (l : List ℕ). drop 1 l) same) in
    (ap₂ (λ a b. a ∷ b) here there.0, there.1)

pub tells_numbers : Tells (λ (xs : List ℕ). xs) number_words
tells_numbers xs ys r s same = tells_plain xs ys r s (ap (λ (l : List ℕ). get_or l 0 0) same) (ap (λ (l : List ℕ). drop 1 l) same)

pub length_words : (count : ℕ) (bytes : List ℕ) → length (words_in count bytes) ≡ count
unfolding words_in
length_words zero bytes = refl
length_words (suc count) bytes = ap suc (length_words count (drop 8 bytes))

pub tells_bytes : (a b r s : List ℕ) → IsWhole a → IsWhole b → words_of_bytes a ++ r ≡ words_of_bytes b ++ s → (a ≡ b) × (r ≡ s)
tells_bytes a b r s first second same =
    let count : length a / 8 ≡ length b / 8 = ap (λ (l : List ℕ). get_or l 0 0) same in
    let as_many : length (words_in (length a / 8) a) ≡ length (words_in (length b / 8) b) =
    length_words (length a / 8) a ∙ count ∙ sym (length_words (length b / 8) b) in
    let told : (words_in (length a / 8) a ≡ words_in (length b / 8) b) × (r ≡ s) =
    tells_plain (words_in (length a / 8) a) (words_in (length b / 8) b) r s as_many (ap (λ (l : List ℕ). drop 1 l) same) in (
      sym (whole_back (length a / 8) a (omega (arith, first.whole)) first.small) ∙ ap bytes_of_words told.0
          ∙ whole_back (length b / 8) b (omega (arith, second.whole)) second.small,
      told.1,
    )
