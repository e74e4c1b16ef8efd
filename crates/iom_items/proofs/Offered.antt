-- What the operands of a statement name is offered exactly if its words are taken as what they stand for.
use Rattle.std.proofs.Common.{◌≡◌, ℕ, ◌==◌, ◌&&◌, ◌||◌, if◌then◌else◌, Bool, true, false, not, List, [], ◌∷◌, codes, bytes_eq, Some, refl, sym, ap, ◌∙◌, inl, inr}
use Rattle.std.specs.List.{AllByRecursion, list_all}
use Rattle.std.proofs.lemmas.Bool.{and_parts, and_from, cases_Bool, eqb-true, or_parts}
use Rattle.std.proofs.lemmas.Slice.Eq.{bytes_eq-Decides}
use Rattle.iom_bits.specs.Bits.{has_bit}
use Rattle.iom_bits.specs.Features.{Features, nl_bit, s_bit, sv57_bit, sv57x4_bit}
use Rattle.iom_items.specs.Operands.{operand_of, has_key, is_given, number_for as read_for, value_of}
use Rattle.iom_items.specs.Forms.{is_ten, are_offered}
use Rattle.iom_items.specs.Lines.{Pair, are_had, may_lack, number_for, shown_of}
use Rattle.iom_items.proofs.Joined.{turned}
use Rattle.iom_items.proofs.Saying.{Says, some_is}
use Rattle.iom_items.proofs.Again.{AreShownBy, AreSmall, among, are_fine, are_keys, is_key, keys_of, once_of, words_for_all, told_for, given_same, said_for}
use Rattle.iom_items.proofs.Laid.{once}

-- each of the four that a statement may need
pub record HasAll (features : Features) (operands : List (List ℕ)) : Type 0 where
  pub nl : (has_bit features nl_bit || not (is_given (codes "nl") operands)) ≡ true
  pub s : (has_bit features s_bit || not (is_given (codes "s") operands)) ≡ true
  pub first : (has_bit features sv57_bit || not (is_ten (value_of (codes "mode") operands))) ≡ true
  pub second : (has_bit features sv57x4_bit || not (is_ten (value_of (codes "gmode") operands))) ≡ true

pub all_offered : (features : Features) (operands : List (List ℕ)) → are_offered features operands ≡ true → HasAll features operands
all_offered features operands is =
    let nl : Bool = has_bit features nl_bit || not (is_given (codes "nl") operands) in
    let s : Bool = has_bit features s_bit || not (is_given (codes "s") operands) in
    let first : Bool = has_bit features sv57_bit || not (is_ten (value_of (codes "mode") operands)) in
    let second : Bool = has_bit features sv57x4_bit || not (is_ten (value_of (codes "gmode") operands)) in
    let more = and_parts (nl && s && first) second is in
    let two = and_parts (nl && s) first more.0 in
    let one = and_parts nl s two.0 in
    record { nl = one.0; s = one.1; first = two.1; second = more.1 }

pub from_all : (features : Features) (operands : List (List ℕ)) → HasAll features operands → are_offered features operands ≡ true
from_all features operands all =
    let nl : Bool = has_bit features nl_bit || not (is_given (codes "nl") operands) in
    let s : Bool = has_bit features s_bit || not (is_given (codes "s") operands) in
    let first : Bool = has_bit features sv57_bit || not (is_ten (value_of (codes "mode") operands)) in
    let second : Bool = has_bit features sv57x4_bit || not (is_ten (value_of (codes "gmode") operands)) in
    and_from (nl && s && first) second (and_from (nl && s) first (and_from nl s all.nl all.s) all.first) all.second

-- the same of pairs
record NeedsAll (features : Features) (pairs : List Pair) : Type 0 where
  nl : (has_bit features nl_bit || number_for (codes "nl") pairs == 0) ≡ true
  s : (has_bit features s_bit || number_for (codes "s") pairs == 0) ≡ true
  first : (has_bit features sv57_bit || not (number_for (codes "mode") pairs == 10)) ≡ true
  second : (has_bit features sv57x4_bit || not (number_for (codes "gmode") pairs == 10)) ≡ true

needs_all : (features : Features) (pairs : List Pair) → are_had features pairs ≡ true → NeedsAll features pairs
needs_all features pairs is =
    let nl : Bool = has_bit features nl_bit || number_for (codes "nl") pairs == 0 in
    let s : Bool = has_bit features s_bit || number_for (codes "s") pairs == 0 in
    let first : Bool = has_bit features sv57_bit || not (number_for (codes "mode") pairs == 10) in
    let second : Bool = has_bit features sv57x4_bit || not (number_for (codes "gmode") pairs == 10) in
    let more = and_parts (nl && s && first) second is in
    let two = and_parts (nl && s) first more.0 in
    let one = and_parts nl s two.0 in
    record { nl = one.0; s = one.1; first = two.1; second = more.1 }

had_all : (features : Features) (pairs : List Pair) → NeedsAll features pairs → are_had features pairs ≡ true
had_all features pairs all =
    let nl : Bool = has_bit features nl_bit || number_for (codes "nl") pairs == 0 in
    let s : Bool = has_bit features s_bit || number_for (codes "s") pairs == 0 in
    let first : Bool = has_bit features sv57_bit || not (number_for (codes "mode") pairs == 10) in
    let second : Bool = has_bit features sv57x4_bit || not (number_for (codes "gmode") pairs == 10) in
    and_from (nl && s && first) second (and_from (nl && s) first (and_from nl s all.nl all.s) all.first) all.second

-- a key that isn't given stands for 0
not_given : (key : List ℕ) (words : List (List ℕ)) → is_given key words ≡ false → value_of key words ≡ Some 0
not_given key [] none = refl
not_given key (word ∷ words) none =
    let apart = or_parts (has_key key (operand_of word)) (is_given key words) none in
    ap (λ has. if has then read_for (operand_of word) else value_of key words) apart.0 ∙ not_given key words apart.1

told_is : (key : List ℕ) (pairs : List Pair) → told_for key pairs ≡ Some (number_for key pairs)
told_is key [] = refl
told_is key (pair ∷ pairs) = elim (cases_Bool (bytes_eq pair.0 key)) as (λ _. told_for key (pair ∷ pairs) ≡ Some (number_for key (pair ∷ pairs))) [
  | inl same ↦ rw same refl
  | inr other ↦ rw other (told_is key pairs)
]

value_is : (key : List ℕ) (pairs : List Pair) (operands : List (List ℕ)) → Says pairs operands → value_of key operands ≡ Some (number_for key pairs)
value_is key pairs operands says = said_for key pairs operands says ∙ told_is key pairs

bit_had : (have : Bool) (key : List ℕ) (pairs : List Pair) (operands : List (List ℕ)) → Says pairs operands → (have || not (is_given key operands)) ≡ true →
    (have || number_for key pairs == 0) ≡ true
bit_had true key pairs operands says is = refl
bit_had false key pairs operands says is =
    let none : Some (number_for key pairs) ≡ Some 0 = sym (value_is key pairs operands says) ∙ not_given key operands (turned (is_given key operands) is) in
    ap (λ n. n == 0) (some_is (number_for key pairs) 0 none)

mode_had : (have : Bool) (key : List ℕ) (pairs : List Pair) (operands : List (List ℕ)) → Says pairs operands → (have || not (is_ten (value_of key operands))) ≡ true →
    (have || not (number_for key pairs == 10)) ≡ true
mode_had have key pairs operands says is = ap (λ found. have || not (is_ten found)) (sym (value_is key pairs operands says)) ∙ is

-- the words of a statement that is offered are had
pub had_of : (features : Features) (pairs : List Pair) (operands : List (List ℕ)) → Says pairs operands → are_offered features operands ≡ true → are_had features pairs ≡ true
had_of features pairs operands says offered =
    let all = all_offered features operands offered in
    had_all features pairs (record {
      nl = bit_had (has_bit features nl_bit) (codes "nl") pairs operands says all.nl;
      s = bit_had (has_bit features s_bit) (codes "s") pairs operands says all.s;
      first = mode_had (has_bit features sv57_bit) (codes "mode") pairs operands says all.first;
      second = mode_had (has_bit features sv57x4_bit) (codes "gmode") pairs operands says all.second;
    })

-- Pairs that a line shows.
other_key : (key : List ℕ) (pairs : List Pair) → among key (keys_of pairs) ≡ false → among key (keys_of (shown_of pairs)) ≡ false
other_key key [] other = refl
other_key key (pair ∷ pairs) other =
    let apart = or_parts (bytes_eq pair.0 key) (among key (keys_of pairs)) other in
    elim (cases_Bool (may_lack pair.0 && pair.1 == 0)) as (λ _. among key (keys_of (shown_of (pair ∷ pairs))) ≡ false) [
      | inl hidden ↦ rw hidden (other_key key pairs apart.1)
      | inr shown ↦ rw (shown, apart.0) (other_key key pairs apart.1)
    ]

none_told : (key : List ℕ) (pairs : List Pair) → among key (keys_of pairs) ≡ false → told_for key pairs ≡ Some 0
none_told key [] other = refl
none_told key (pair ∷ pairs) other =
    let apart = or_parts (bytes_eq pair.0 key) (among key (keys_of pairs)) other in
    rw apart.0 (none_told key pairs apart.1)

-- one that isn't 0 is shown
pub not_shown : (key : List ℕ) (pairs : List Pair) → may_lack key ≡ true → once (keys_of pairs) ≡ true → (number_for key pairs == 0) ≡ true →
    among key (keys_of (shown_of pairs)) ≡ false
not_shown key [] lack apart zero = refl
not_shown key (pair ∷ pairs) lack apart zero =
    let parts = and_parts (not (among pair.0 (keys_of pairs))) (once (keys_of pairs)) apart in
    elim (cases_Bool (bytes_eq pair.0 key)) as (λ _. among key (keys_of (shown_of (pair ∷ pairs))) ≡ false) [
      | inl same ↦
          let is : pair.0 ≡ key = (bytes_eq-Decides pair.0 key).0 same in
          let none : (pair.1 == 0) ≡ true = rw same at zero in
          let hidden : (may_lack pair.0 && pair.1 == 0) ≡ true = and_from (may_lack pair.0) (pair.1 == 0) (ap may_lack is ∙ lack) none in
          rw hidden (other_key key pairs (ap (λ key. among key (keys_of pairs)) (sym is) ∙ turned (among pair.0 (keys_of pairs)) parts.0))
      | inr other ↦
          let rest : (number_for key pairs == 0) ≡ true = rw other at zero in
          let later : among key (keys_of (shown_of pairs)) ≡ false = not_shown key pairs lack parts.1 rest in
          elim (cases_Bool (may_lack pair.0 && pair.1 == 0)) as (λ _. among key (keys_of (shown_of (pair ∷ pairs))) ≡ false) [
            | inl hidden ↦ rw hidden later
            | inr shown ↦ rw (shown, other) later
          ]
    ]

shown_keys : (pairs : List Pair) → are_keys pairs ≡ true → are_keys (shown_of pairs) ≡ true
shown_keys [] keys = refl
shown_keys (pair ∷ pairs) keys =
    let parts = and_parts (is_key pair.0) (are_keys pairs) keys in
    elim (cases_Bool (may_lack pair.0 && pair.1 == 0)) as (λ _. are_keys (shown_of (pair ∷ pairs)) ≡ true) [
      | inl hidden ↦ rw hidden (shown_keys pairs parts.1)
      | inr shown ↦ rw shown (and_from (is_key pair.0) (are_keys (shown_of pairs)) parts.0 (shown_keys pairs parts.1))
    ]

shown_small : (pairs : List Pair) → AreSmall pairs → AreSmall (shown_of pairs)
shown_small [] small = tt
shown_small (pair ∷ pairs) small = elim (cases_Bool (may_lack pair.0 && pair.1 == 0)) as (λ _. AreSmall (shown_of (pair ∷ pairs))) [
  | inl hidden ↦ rw hidden (shown_small pairs small.1)
  | inr shown ↦ rw shown (small.0, shown_small pairs small.1)
]

-- each number is told by the pairs that are shown
others_told : (pair : Pair) (pairs some : List Pair) → among pair.0 (keys_of some) ≡ false →
    AllByRecursion (λ one. told_for one.0 (shown_of pairs) ≡ Some one.1) some →
    AllByRecursion (λ one. told_for one.0 (shown_of (pair ∷ pairs)) ≡ Some one.1) some
others_told pair pairs [] other told = tt
others_told pair pairs (one ∷ some) other told =
    let apart = or_parts (bytes_eq one.0 pair.0) (among pair.0 (keys_of some)) other in
    let differ : bytes_eq pair.0 one.0 ≡ false = elim (cases_Bool (bytes_eq pair.0 one.0)) as (λ _. bytes_eq pair.0 one.0 ≡ false) [
      | inl same ↦
          let is : pair.0 ≡ one.0 = (bytes_eq-Decides pair.0 one.0).0 same in
          ap (λ key. bytes_eq pair.0 key) (sym is) ∙ ap (λ key. bytes_eq key pair.0) is ∙ apart.0
      | inr none ↦ none
    ] in
    let first : told_for one.0 (shown_of (pair ∷ pairs)) ≡ Some one.1 =
    elim (cases_Bool (may_lack pair.0 && pair.1 == 0)) as (λ _. told_for one.0 (shown_of (pair ∷ pairs)) ≡ Some one.1) [
      | inl hidden ↦ rw hidden told.0
      | inr shown ↦ rw (shown, differ) told.0
    ] in
    (first, others_told pair pairs some apart.1 told.1)

shown_told : (pairs : List Pair) → once (keys_of pairs) ≡ true → AllByRecursion (λ one. told_for one.0 (shown_of pairs) ≡ Some one.1) pairs
shown_told [] apart = tt
shown_told (pair ∷ pairs) apart =
    let parts = and_parts (not (among pair.0 (keys_of pairs))) (once (keys_of pairs)) apart in
    let new : among pair.0 (keys_of pairs) ≡ false = turned (among pair.0 (keys_of pairs)) parts.0 in
    let own : told_for pair.0 (shown_of (pair ∷ pairs)) ≡ Some pair.1 =
    elim (cases_Bool (may_lack pair.0 && pair.1 == 0)) as (λ _. told_for pair.0 (shown_of (pair ∷ pairs)) ≡ Some pair.1) [
      | inl hidden ↦
          let none = and_parts (may_lack pair.0) (pair.1 == 0) hidden in
          rw hidden (none_told pair.0 (shown_of pairs) (other_key pair.0 pairs new) ∙ ap (λ n. Some n) (sym (eqb-true pair.1 0 none.1)))
      | inr shown ↦ rw (shown, (bytes_eq-Decides pair.0 pair.0).1 refl) refl
    ] in
    (own, others_told pair pairs pairs new (shown_told pairs parts.1))

-- their keys are known, each once
once_in : (known : List (List ℕ)) (key : List ℕ) (later : List (List ℕ)) → among key known ≡ true → among key later ≡ false → once_of known key later ≡ true
once_in [] key later is new = absurd cc
once_in (own ∷ known) key later is new = elim (cases_Bool (bytes_eq key own)) as (λ _. once_of (own ∷ known) key later ≡ true) [
  | inl same ↦
      let own_is : key ≡ own = (bytes_eq-Decides key own).0 same in
      let none : among own later ≡ false = ap (λ key. among key later) (sym own_is) ∙ new in
      rw (same, none) refl
  | inr other ↦
      let differ : bytes_eq own key ≡ false = elim (cases_Bool (bytes_eq own key)) as (λ _. bytes_eq own key ≡ false) [
        | inl same ↦
            let is : own ≡ key = (bytes_eq-Decides own key).0 same in
            ap (λ one. bytes_eq own one) (sym is) ∙ ap (λ one. bytes_eq one own) is ∙ other
        | inr none ↦ none
      ] in
      rw other (once_in known key later (ap (λ b. b || among key known) (sym differ) ∙ is) new)
]

abbrev are_known : List (List ℕ) → List Pair → Bool
are_known known pairs = list_all (λ (pair : Pair). among pair.0 known) pairs

shown_fine : (known : List (List ℕ)) (pairs : List Pair) → are_known known pairs ≡ true → once (keys_of pairs) ≡ true → are_fine known (keys_of (shown_of pairs)) ≡ true
shown_fine known [] are apart = refl
shown_fine known (pair ∷ pairs) are apart =
    let known_too = and_parts (among pair.0 known) (are_known known pairs) are in
    let parts = and_parts (not (among pair.0 (keys_of pairs))) (once (keys_of pairs)) apart in
    let later : are_fine known (keys_of (shown_of pairs)) ≡ true = shown_fine known pairs known_too.1 parts.1 in
    elim (cases_Bool (may_lack pair.0 && pair.1 == 0)) as (λ _. are_fine known (keys_of (shown_of (pair ∷ pairs))) ≡ true) [
      | inl hidden ↦ rw hidden later
      | inr shown ↦
          let new : among pair.0 (keys_of (shown_of pairs)) ≡ false = other_key pair.0 pairs (turned (among pair.0 (keys_of pairs)) parts.0) in
          rw shown (and_from (once_of known pair.0 (keys_of (shown_of pairs))) (are_fine known (keys_of (shown_of pairs)))
          (once_in known pair.0 (keys_of (shown_of pairs)) known_too.0 new) later)
    ]

more_known : (key : List ℕ) (known : List (List ℕ)) (pairs : List Pair) → are_known known pairs ≡ true → are_known (key ∷ known) pairs ≡ true
more_known key known [] are = refl
more_known key known (pair ∷ pairs) are =
    let parts = and_parts (among pair.0 known) (are_known known pairs) are in
    let anyway : (b : Bool) → (b || among pair.0 known) ≡ true = λ b. elim b as (λ b. (b || among pair.0 known) ≡ true) [ true ↦ refl | false ↦ parts.0 ] in
    and_from (bytes_eq key pair.0 || among pair.0 known) (are_known (key ∷ known) pairs) (anyway (bytes_eq key pair.0)) (more_known key known pairs parts.1)

own_known : (pairs : List Pair) → are_known (keys_of pairs) pairs ≡ true
own_known [] = refl
own_known (pair ∷ pairs) =
    and_from (bytes_eq pair.0 pair.0 || among pair.0 (keys_of pairs)) (are_known (pair.0 ∷ keys_of pairs) pairs)
    (ap (λ b. b || among pair.0 (keys_of pairs)) ((bytes_eq-Decides pair.0 pair.0).1 refl)) (more_known pair.0 (keys_of pairs) pairs (own_known pairs))

pub shown_by : (pairs : List Pair) → are_keys pairs ≡ true → once (keys_of pairs) ≡ true → AreSmall pairs → AreShownBy pairs (shown_of pairs)
shown_by pairs keys apart small = record {
  keys = shown_keys pairs keys;
  fine = shown_fine (keys_of pairs) pairs (own_known pairs) apart;
  own = shown_told pairs apart;
  small = shown_small pairs small;
}

-- what a line shows is offered where its words are had
given_shown : (have : Bool) (key : List ℕ) (pairs : List Pair) → may_lack key ≡ true → are_keys pairs ≡ true → once (keys_of pairs) ≡ true →
    (have || number_for key pairs == 0) ≡ true → (have || not (is_given key (words_for_all (shown_of pairs)))) ≡ true
given_shown true key pairs lack keys apart is = refl
given_shown false key pairs lack keys apart is =
    ap not (given_same key (shown_of pairs) (shown_keys pairs keys) ∙ not_shown key pairs lack apart is)

ten_shown : (have : Bool) (key : List ℕ) (pairs : List Pair) (operands : List (List ℕ)) → Says pairs operands →
    (have || not (number_for key pairs == 10)) ≡ true → (have || not (is_ten (value_of key operands))) ≡ true
ten_shown have key pairs operands says is = ap (λ found. have || not (is_ten found)) (value_is key pairs operands says) ∙ is

pub offered_by : (features : Features) (pairs : List Pair) → are_keys pairs ≡ true → once (keys_of pairs) ≡ true → Says pairs (words_for_all (shown_of pairs)) →
    are_had features pairs ≡ true → HasAll features (words_for_all (shown_of pairs))
offered_by features pairs keys apart says had =
    let all = needs_all features pairs had in
    record {
      nl = given_shown (has_bit features nl_bit) (codes "nl") pairs refl keys apart all.nl;
      s = given_shown (has_bit features s_bit) (codes "s") pairs refl keys apart all.s;
      first = ten_shown (has_bit features sv57_bit) (codes "mode") pairs (words_for_all (shown_of pairs)) says all.first;
      second = ten_shown (has_bit features sv57x4_bit) (codes "gmode") pairs (words_for_all (shown_of pairs)) says all.second;
    }

pub anyway : (b : Bool) → (b || true) ≡ true
anyway true = refl
anyway false = refl
