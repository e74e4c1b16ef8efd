-- Two words state the features that they are the words of.
use Rattle.std.proofs.Common.{◌≡◌, ◌+◌, ◌%◌, ◌^◌, ◌<◌, ◌==◌, ◌&&◌, ℕ, Bool, true, false, not, nat_lt, Option, Some, None, bit_and, bit_or, refl, sym, ap, ◌∙◌, arith}
use Rattle.std.proofs.lemmas.Bool.{and_parts, and_from, eqb-true, eq-eqb, ltb-true, lt-ltb, leb-true, leb-false, le-leb, lt-leb}
use Rattle.std.proofs.lemmas.Nat.{and_le_r, and_comm, or_comm, or_lt, and_mod, or_disjoint, and_or_apart, and_assoc}
use Rattle.std.specs.Prelude.{if◌then◌else◌}
use Rattle.iom_bits.specs.Bits.{has_bit}
use Rattle.iom_bits.specs.Features.{Features, all_bits, beside, choice_bit, four_vectors_bit, igs_bits, interrupts_word, is_offer, no_features, rows, shown_bits, two_vectors_bit, wires_bit}
use Rattle.iom_bits.specs.declared.features.Interrupts.TheVariants.{Wires}
use Rattle.iom_messages.specs.declared.window.Window.{Window}
use Rattle.iom_regs.specs.Offers.{capabilities_of, each}
use Rattle.iom_image.specs.declared.version.Version.{Version}
use Rattle.iom_image.specs.declared.version.Version.TheVariants.{First, Second, Third, Fourth}
use Rattle.iom_image.specs.Versions.{CanState, are_words, choices_of, features_in, features_of, has_window, is_third, is_third_word, is_window, register_bits, third_bits, third_features, third_word, window_bit, window_of}

-- Facts of the table, by computing: which bits there are.
abbrev known : ℕ
known = bit_or beside (all_bits rows)

known_small : nat_lt known (2 ^ 64) ≡ true
unfolding rows
known_small = refl

shown_small : nat_lt register_bits (2 ^ 56) ≡ true
unfolding rows
shown_small = refl

shown_low : known % 2 ^ 56 ≡ register_bits % 2 ^ 56
unfolding rows
shown_low = refl

shown_apart : bit_and register_bits each ≡ 0
unfolding rows
shown_apart = refl

shown_same : bit_and register_bits register_bits ≡ register_bits
unfolding rows
shown_same = refl

none_offered : is_offer no_features ≡ true
unfolding is_offer rows has_bit
none_offered = refl

pub can_offer : (version : Version) → CanState version → is_offer (features_of version) ≡ true
can_offer First stated = none_offered
can_offer Second stated = none_offered
can_offer (Third features) stated = (and_parts (is_third features) (is_offer features) stated).1
can_offer (Fourth features window) stated = stated.0

pub can_have : (version : Version) → CanState version → is_window (window_of version) ≡ true
can_have First stated = refl
can_have Second stated = refl
can_have (Third features) stated = refl
can_have (Fourth features window) stated = stated.1

-- an offer has no other bit
offer_known : (f : Features) → is_offer f ≡ true → bit_and f known ≡ f
unfolding is_offer
offer_known f is =
    let igs = not (has_bit f wires_bit && has_bit f choice_bit) in
    let vectors = not (has_bit f two_vectors_bit && has_bit f four_vectors_bit) in
    let front = and_parts (bit_and f known == f && igs) vectors is in
    eqb-true (bit_and f known) f (and_parts (bit_and f known == f) igs front.0).0

-- what a word has of the bits that are shown
shown_below : (f : ℕ) → bit_and f register_bits < 2 ^ 56
shown_below f =
    omega (arith, and_le_r f register_bits, ltb-true register_bits (2 ^ 56) shown_small)

low_shown : (f : Features) → is_offer f ≡ true → bit_and f register_bits ≡ f % 2 ^ 56
low_shown f is =
    let whole : bit_and f register_bits ≡ bit_and f register_bits % 2 ^ 56 = omega (arith, shown_below f) in
    whole ∙ and_mod f register_bits 56 ∙ ap (bit_and (f % 2 ^ 56)) (sym shown_low) ∙ sym (and_mod f known 56)
    ∙ ap (λ n. n % 2 ^ 56) (offer_known f is)

-- what each IOMMU has is beside them
apart : (f : ℕ) → bit_and each (bit_and f register_bits) ≡ 0
apart f =
    let none : bit_and f 0 ≡ 0 = omega (arith, and_le_r f 0) in
    and_comm each (bit_and f register_bits) ∙ and_assoc each f register_bits ∙ ap (bit_and f) shown_apart ∙ none

register_shows : (f : ℕ) → bit_and (capabilities_of f) register_bits ≡ bit_and f register_bits
register_shows f =
    let part = bit_and f register_bits in
    ap (λ n. bit_and n register_bits) (or_comm each part)
    ∙ and_or_apart register_bits part each (and_comm each register_bits ∙ shown_apart)
    ∙ and_assoc register_bits f register_bits ∙ ap (bit_and f) shown_same

pub states_capabilities : (features : Features) → is_offer features ≡ true → capabilities_of features ≡ each + features % 2 ^ 56
states_capabilities f is =
    or_disjoint each (bit_and f register_bits) (apart f) ∙ ap (λ n. each + n) (low_shown f is)

-- the word of version 3: IGS 1 has no bit there
third_alone : bit_and third_bits (interrupts_word Wires) ≡ 0
third_alone = refl

third_same : bit_and third_bits third_bits ≡ third_bits
third_same = refl

pub third_fits : (features : Features) → third_word features < 2 ^ 64
third_fits f = omega (arith, and_le_r f third_bits)

pub third_back : (features : Features) → is_third features ≡ true → third_features (third_word features) ≡ features
third_back f is = eqb-true (third_features (third_word f)) f is

pub third_states : (features : Features) → is_third features ≡ true → is_offer features ≡ true → is_third_word (third_word features) ≡ true
third_states f is offer =
    let same : bit_and (third_word f) third_bits ≡ third_word f = and_assoc third_bits f third_bits ∙ ap (bit_and f) third_same in
    and_from _ _ (eq-eqb (bit_and (third_word f) third_bits) (third_word f) same) (rw (third_back f is) offer)

third_apart : (word : ℕ) → bit_and word third_bits ≡ word → bit_and word (interrupts_word Wires) ≡ 0
third_apart word is =
    let none : bit_and word 0 ≡ 0 = omega (arith, and_le_r word 0) in
    ap (λ n. bit_and n (interrupts_word Wires)) (sym is) ∙ and_assoc (interrupts_word Wires) word third_bits ∙ ap (bit_and word) third_alone ∙ none

third_part : (word : ℕ) → bit_and word third_bits ≡ word → third_word (third_features word) ≡ word
third_part word is =
    let wires = interrupts_word Wires in
    ap (λ n. bit_and n third_bits) (sym (or_disjoint word wires (third_apart word is)))
    ∙ and_or_apart third_bits word wires (and_comm wires third_bits ∙ third_alone) ∙ is

-- what a word of version 3 states has this word
pub record StatesThird (word : ℕ) : Type 0 where
  pub same : third_word (third_features word) ≡ word
  pub stated : (is_third (third_features word) && is_offer (third_features word)) ≡ true

pub third_is : (word : ℕ) → is_third_word word ≡ true → StatesThird word
third_is word is =
    let p = and_parts (bit_and word third_bits == word) (is_offer (third_features word)) is in
    let same : third_word (third_features word) ≡ word = third_part word (eqb-true (bit_and word third_bits) word p.0) in
    record {
      same = same;
      stated = and_from _ _ (eq-eqb (third_features (third_word (third_features word))) (third_features word) (ap third_features same)) p.1;
    }

-- the words of an offer
pub word_fits : (features : Features) → is_offer features ≡ true → features < 2 ^ 64
word_fits f is =
    let same : bit_and f known ≡ f = offer_known f is in
    omega (arith, same, and_le_r f known, ltb-true known (2 ^ 64) known_small)

pub choices_fit : (features : Features) → is_offer features ≡ true → choices_of features < 2 ^ 8
choices_fit f is = omega (arith, word_fits f is)

pub capabilities_fit : (features : Features) → capabilities_of features < 2 ^ 64
capabilities_fit f = or_lt 64 each (bit_and f register_bits) (omega arith) (omega (arith, shown_below f))

abbrev pub choices_word : Features → Option Window → ℕ
choices_word features window = choices_of features + window_bit window

low_choices : (f : Features) (window : Option Window) → is_offer f ≡ true → choices_word f window % 2 ^ 8 ≡ choices_of f
low_choices f None is = omega (arith, choices_fit f is)
low_choices f (Some window) is = omega (arith, choices_fit f is)

pub word_of_choices_fits : (features : Features) (window : Option Window) → is_offer features ≡ true → choices_word features window < 2 ^ 9
word_of_choices_fits f None is = omega (arith, choices_fit f is)
word_of_choices_fits f (Some window) is = omega (arith, choices_fit f is)

pub features_back : (features : Features) (window : Option Window) → is_offer features ≡ true →
    features_in (capabilities_of features) (choices_word features window) ≡ features
features_back f window is =
    let low : bit_and (capabilities_of f) register_bits ≡ f % 2 ^ 56 = register_shows f ∙ low_shown f is in
    let high : choices_word f window % 2 ^ 8 ≡ choices_of f = low_choices f window is in
    omega (arith, low, high)

pub words_state : (features : Features) (window : Option Window) → is_offer features ≡ true →
    are_words (capabilities_of features) (choices_word features window) ≡ true
words_state f window is =
    let back = features_back f window is in
    and_from _ _ (lt-ltb (choices_word f window) (2 ^ 9) (word_of_choices_fits f window is))
    (rw back (and_from _ _ (eq-eqb (capabilities_of f) (capabilities_of f) refl) is))

-- whether a window follows
pub window_told : (features : Features) (window : Window) → has_window (choices_word features (Some window)) ≡ true
window_told f window = le-leb (2 ^ 8) (choices_word f (Some window)) (omega arith)

pub no_window_told : (features : Features) → is_offer features ≡ true → has_window (choices_word features None) ≡ false
no_window_told f is = lt-leb (2 ^ 8) (choices_word f None) (omega (arith, choices_fit f is))

-- the other way: what two words state has these words
pub below_choices : (capabilities choices : ℕ) → features_in capabilities choices < 2 ^ 64
below_choices capabilities choices = omega (arith, shown_below capabilities)

pub choices_whole : (choices : ℕ) (follows : Bool) (window : Option Window) → choices < 2 ^ 9 → has_window choices ≡ follows →
    window_bit window ≡ (if follows then 2 ^ 8 else 0) → choices % 2 ^ 8 + window_bit window ≡ choices
choices_whole choices true window few has is = let le = leb-true (2 ^ 8) choices has in omega (arith, few, le, is)
choices_whole choices false window few has is = let lt = leb-false (2 ^ 8) choices has in omega (arith, few, lt, is)

pub record States (one other : ℕ) : Type 0 where
  pub register : capabilities_of (features_in one other) ≡ one
  pub few : other < 2 ^ 9
  pub others : choices_of (features_in one other) ≡ other % 2 ^ 8
  pub offer : is_offer (features_in one other) ≡ true

pub words_back : (capabilities choices : ℕ) → are_words capabilities choices ≡ true → States capabilities choices
words_back capabilities choices are =
    let f = features_in capabilities choices in
    let p = and_parts (nat_lt choices (2 ^ 9)) (capabilities_of f == capabilities && is_offer f) are in
    let q = and_parts (capabilities_of f == capabilities) (is_offer f) p.1 in
    record {
      register = eqb-true (capabilities_of f) capabilities q.0;
      few = ltb-true choices (2 ^ 9) p.0;
      others = omega (arith, shown_below capabilities);
      offer = q.1;
    }
