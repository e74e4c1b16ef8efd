-- How many live places have a tag, as a place is filled and as the oldest leaves; where none has it no key with it is found.
use Rattle.std.proofs.Common.{◌≡◌, ◌≢◌, ◌+◌, ◌-◌, ◌<◌, ◌≤◌, ◌==◌, ◌∙◌, ◌++◌, ℕ, suc, List, [], ◌∷◌, length, get_or, set, Bool, true, false, Option, Some, None, if◌then◌else◌, refl, sym, ap, arith}
use Rattle.std.specs.Prelude.{min}
use Rattle.std.proofs.lemmas.List.{get_or-set_other, get_or-set_same}
use Rattle.iom_nested.specs.declared.translation.Hit.{Hit}
use Rattle.iom_cache.specs.declared.key.Key.{Key}
use Rattle.iom_cache.specs.Index.{counted_less, counted_more, has_tag, tag_of, tally}
use Rattle.iom_cache.specs.Keys.{same_key}
use Rattle.iom_cache.specs.Places.{find}
use Rattle.iom_cache.proofs.Same.{same_key_exact}

abbrev one_more : Bool → ℕ → ℕ
one_more b n = if b then suc n else n

swapped : (b h : Bool) (x y : ℕ) → x ≡ one_more h y → one_more b x ≡ one_more h (one_more b y)
swapped true true x y e = ap suc e
swapped true false x y e = ap suc e
swapped false true x y e = e
swapped false false x y e = e

pub tally_filled : (tag : ℕ) (places : List (Option (Key × Hit))) (place : Option (Key × Hit)) →
    tally tag (places ++ place ∷ []) ≡ one_more (has_tag tag place) (tally tag places)
tally_filled tag [] place = refl
tally_filled tag (first ∷ places) place =
    swapped (has_tag tag first) (has_tag tag place) (tally tag (places ++ place ∷ [])) (tally tag places) (tally_filled tag places place)

few_more : (b : Bool) (n count : ℕ) → n ≤ count → one_more b n ≤ suc count
few_more true n count few = omega arith
few_more false n count few = omega arith

tally_few : (tag : ℕ) (places : List (Option (Key × Hit))) → tally tag places ≤ length places
tally_few tag [] = omega arith
tally_few tag (first ∷ places) = few_more (has_tag tag first) (tally tag places) (length places) (tally_few tag places)

pub same_tag : (own tag : ℕ) → (own == tag) ≡ true → own ≡ tag
same_tag own tag e = grind arith

other_tag : (own tag : ℕ) → (own == tag) ≡ false → tag ≢ own
other_tag own tag e = λ same. grind (arith, e, same)

at_most : (n : ℕ) → n < 64 → min (n + 1) 255 ≡ suc n
at_most n few = grind arith

one_less : (n : ℕ) → suc n - 1 ≡ n
one_less n = omega arith

-- a place with a key is filled
pub counted_filled : (counts : List ℕ) (places : List (Option (Key × Hit))) (entry : Key × Hit) (own : ℕ) → own ≡ tag_of entry.0 →
    length counts ≡ 256 → length places < 64 → ((tag : ℕ) → tag < 256 → get_or counts tag 0 ≡ tally tag places) →
    (tag : ℕ) → tag < 256 → get_or (counted_more counts own) tag 0 ≡ tally tag (places ++ Some entry ∷ [])
counted_filled counts places entry own is len room h tag few =
    let value = min (get_or counts own 0 + 1) 255 in
    let Goal : Bool → Type 0 = λ b. (own == tag) ≡ b → get_or (counted_more counts own) tag 0 ≡ one_more b (tally tag places) in
    let by_test : (b : Bool) → Goal b = λ b. elim b as Goal [
      | true ↦ λ e.
          let same : own ≡ tag = same_tag own tag e in
          let count : get_or counts own 0 ≡ tally tag places = ap (λ (t : ℕ). get_or counts t 0) same ∙ h tag few in
          let low = tally_few tag places in
          ap (λ (t : ℕ). get_or (counted_more counts own) t 0) (sym same)
          ∙ get_or-set_same counts own value 0 (omega (arith, len, few, same))
          ∙ ap (λ (n : ℕ). min (n + 1) 255) count ∙ at_most (tally tag places) (omega (arith, low, room))
      | false ↦ λ e. get_or-set_other counts own tag value 0 (other_tag own tag e) ∙ h tag few
    ] in by_test (own == tag) refl
    ∙ ap (λ (n : ℕ). one_more (n == tag) (tally tag places)) is ∙ sym (tally_filled tag places (Some entry))

-- the oldest place leaves
pub counted_left : (counts : List ℕ) (oldest : Option (Key × Hit)) (places : List (Option (Key × Hit))) → length counts ≡ 256 →
    ((tag : ℕ) → tag < 256 → get_or counts tag 0 ≡ tally tag (oldest ∷ places)) →
    (tag : ℕ) → tag < 256 → get_or (counted_less counts oldest) tag 0 ≡ tally tag places
counted_left counts None places len h tag few = h tag few
counted_left counts (Some entry) places len h tag few =
    let own = tag_of entry.0 in
    let value = get_or counts own 0 - 1 in
    let Goal : Bool → Type 0 = λ b. (own == tag) ≡ b → get_or counts tag 0 ≡ one_more b (tally tag places) →
    get_or (set counts own value) tag 0 ≡ tally tag places in
    let by_test : (b : Bool) → Goal b = λ b. elim b as Goal [
      | true ↦ λ e count.
          let same : own ≡ tag = same_tag own tag e in
          ap (λ (t : ℕ). get_or (set counts own value) t 0) (sym same)
          ∙ get_or-set_same counts own value 0 (omega (arith, len, few, same))
          ∙ ap (λ (n : ℕ). n - 1) (ap (λ (t : ℕ). get_or counts t 0) same ∙ count) ∙ one_less (tally tag places)
      | false ↦ λ e count. get_or-set_other counts own tag value 0 (other_tag own tag e) ∙ count
    ] in by_test (own == tag) refl (h tag few)

none_behind : (b : Bool) (n : ℕ) → one_more b n ≡ 0 → (b ≡ false) × (n ≡ 0)
none_behind true n e = absurd (cc)
none_behind false n e = (refl, e)

equal_tags : (n : ℕ) → (n == n) ≡ true
equal_tags n = grind arith

-- a key whose tag no live place has isn't found
pub not_tagged : (key : Key) (places : List (Option (Key × Hit))) → tally (tag_of key) places ≡ 0 → find (same_key key) places ≡ None
not_tagged key [] none = refl
not_tagged key (None ∷ places) none = not_tagged key places none
not_tagged key (Some own ∷ places) none =
    let tag = tag_of key in
    let behind = none_behind (has_tag tag (Some own)) (tally tag places) none in
    let Goal : Bool → Type 0 = λ b. same_key key own.0 ≡ b → (if b then Some own.1 else find (same_key key) places) ≡ None in
    let by_test : (b : Bool) → Goal b = λ b. elim b as Goal [
      | true ↦ λ is.
          let same : key ≡ own.0 = same_key_exact key own.0 is in
          let tagged : (tag_of own.0 == tag) ≡ true = ap (λ (k : Key). tag_of k == tag) (sym same) ∙ equal_tags tag in
          let not = behind.0 in absurd (cc)
      | false ↦ λ is. not_tagged key places behind.1
    ] in by_test (same_key key own.0) refl
