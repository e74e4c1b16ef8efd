-- What the operands of a statement give is what is computed of them.
use Rattle.std.proofs.Common.{◌≡◌, ◌≢◌, ℕ, zero, suc, ◌+◌, ◌==◌, ◌&&◌, ◌||◌, if◌then◌else◌, Bool, true, false, not, List, [], ◌∷◌, ◌++◌, length, take, drop, get_or, Option, Some, None, refl, sym, subst, ap, ◌∙◌, inl, inr, nat_lt, arith}
use Rattle.std.specs.Prelude.{IfSome, ◌⊎◌, All, Any, AllPairs, Contains}
use Rattle.std.specs.Option.{option_map}
use Rattle.std.specs.List.{position_or_len}
use Rattle.std.proofs.lemmas.Bool.{and_parts, cases_Bool, cases_lt, lt-ltb, le-ltb}
use Rattle.std.proofs.lemmas.Slice.Eq.{bytes_eq-Decides}
use Rattle.iom_items.specs.Operands.{◌>>=◌, Operand, operand_of, has_key, is_given, is_one_of, are_operands, number_for, value_of}
use Rattle.iom_items.specs.Given.{IsOperand, HasKey, IsKnown, AreApart, AreOperands, Gives, NoneHas, IsValue}

-- lists by their first element
pub all_none : {X : Type 0} (P : X → Type 0) → All P []
all_none P k d lt = absurd (omega (arith, lt))

pub all_first : {X : Type 0} (P : X → Type 0) (x : X) (xs : List X) → All P (x ∷ xs) → P x
all_first P x xs all = all 0 x (omega arith)

pub all_rest : {X : Type 0} (P : X → Type 0) (x : X) (xs : List X) → All P (x ∷ xs) → All P xs
all_rest P x xs all k d lt = all (suc k) d (omega (arith, lt))

pub all_both : {X : Type 0} (P : X → Type 0) (x : X) (xs : List X) → P x → All P xs → All P (x ∷ xs)
all_both P x xs first rest zero d lt = first
all_both P x xs first rest (suc k) d lt = rest k d (omega (arith, lt))

any_none : {X : Type 0} (P : X → Type 0) → Any P [] → ⊥
any_none P any = omega (arith, any.2)

any_first : {X : Type 0} (P : X → Type 0) (x : X) (xs : List X) → P x → Any P (x ∷ xs)
any_first P x xs is = (0, x, omega arith, refl, is)

any_rest : {X : Type 0} (P : X → Type 0) (x : X) (xs : List X) → Any P xs → Any P (x ∷ xs)
any_rest P x xs (k, y, lt, at, is) = (suc k, y, omega (arith, lt), at, is)

any_either : {X : Type 0} (P : X → Type 0) (x : X) (xs : List X) → Any P (x ∷ xs) → P x ⊎ Any P xs
any_either P x xs (zero, y, lt, at, is) = inl (subst P (sym at) is)
any_either P x xs (suc k, y, lt, at, is) = inr (k, y, omega (arith, lt), at, is)

has_none : {X : Type 0} (x : X) → Contains [] x → ⊥
has_none x has = omega (arith, has.1)

has_first : {X : Type 0} (x : X) (xs : List X) → Contains (x ∷ xs) x
has_first x xs = (0, omega arith, refl)

has_rest : {X : Type 0} (x y : X) (xs : List X) → Contains xs y → Contains (x ∷ xs) y
has_rest x y xs (k, lt, at) = (suc k, omega (arith, lt), at)

has_either : {X : Type 0} (x y : X) (xs : List X) → Contains (x ∷ xs) y → (x ≡ y) ⊎ Contains xs y
has_either x y xs (zero, lt, at) = inl at
has_either x y xs (suc k, lt, at) = inr (k, omega (arith, lt), at)

pairs_none : {X : Type 0} (R : X → X → Type 0) → AllPairs R []
pairs_none R i j d less lt = absurd (omega (arith, lt))

pairs_first : {X : Type 0} (R : X → X → Type 0) (x : X) (xs : List X) → AllPairs R (x ∷ xs) → All (R x) xs
pairs_first R x xs pairs k d lt = pairs 0 (suc k) d (omega arith) (omega (arith, lt))

pairs_rest : {X : Type 0} (R : X → X → Type 0) (x : X) (xs : List X) → AllPairs R (x ∷ xs) → AllPairs R xs
pairs_rest R x xs pairs i j d less lt = pairs (suc i) (suc j) d (omega (arith, less)) (omega (arith, lt))

pairs_both : {X : Type 0} (R : X → X → Type 0) (x : X) (xs : List X) → All (R x) xs → AllPairs R xs → AllPairs R (x ∷ xs)
pairs_both R x xs first rest i zero d less lt = absurd (omega (arith, less))
pairs_both R x xs first rest zero (suc j) d less lt = first j d (omega (arith, lt))
pairs_both R x xs first rest (suc i) (suc j) d less lt = rest i j d (omega (arith, less)) (omega (arith, lt))

-- none of a list, where not any is
none_of : {X : Type 0} (P : X → Type 0) (xs : List X) → (Any P xs → ⊥) → All (λ x. P x → ⊥) xs
none_of P [] not_any = all_none (λ x. P x → ⊥)
none_of P (x ∷ xs) not_any =
    all_both (λ x. P x → ⊥) x xs (λ is. not_any (any_first P x xs is)) (none_of P xs (λ any. not_any (any_rest P x xs any)))

not_any_of : {X : Type 0} (P : X → Type 0) (xs : List X) → All (λ x. P x → ⊥) xs → Any P xs → ⊥
not_any_of P [] none any = any_none P any
not_any_of P (x ∷ xs) none any = elim (any_either P x xs any) as (λ _. ⊥) [
  | inl is ↦ all_first (λ x. P x → ⊥) x xs none is
  | inr rest ↦ not_any_of P xs (all_rest (λ x. P x → ⊥) x xs none) rest
]

either_true : (a b : Bool) → (a || b) ≡ true → (a ≡ true) ⊎ (b ≡ true)
either_true true b is = inl refl
either_true false b is = inr is

true_first : (a b : Bool) → a ≡ true → (a || b) ≡ true
true_first true b is = refl
true_first false b is = absurd cc

true_second : (a b : Bool) → b ≡ true → (a || b) ≡ true
true_second true b is = refl
true_second false b is = is

both_true : (a b : Bool) → a ≡ true → b ≡ true → (a && b) ≡ true
both_true true b one other = other
both_true false b one other = absurd cc

-- the cut at the first `=`, byte by byte
abbrev pub cut : List ℕ → List ℕ → Option Operand
cut key value = Some (record { key = key; value = value })

abbrev pub longer : ℕ → Operand → Operand
longer c operand = record { key = c ∷ operand.key; value = operand.value }

abbrev first_equals : List ℕ → ℕ
first_equals word = position_or_len (λ c. c == 61) word

abbrev cut_at : List ℕ → ℕ → Bool → Option Operand
cut_at word at there =
    (if there then Some at else None) >>= λ at. Some (record { key = take at word; value = drop (suc at) word })

cut_first : (word : List ℕ) → operand_of word ≡ cut_at word (first_equals word) (nat_lt (first_equals word) (length word))
unfolding operand_of
cut_first word = refl

cut_where : (word : List ℕ) (at : ℕ) (there : Bool) → first_equals word ≡ at → nat_lt at (length word) ≡ there → operand_of word ≡ cut_at word at there
cut_where word at there is lt =
    cut_first word ∙ ap (λ at. cut_at word at (nat_lt at (length word))) is ∙ ap (cut_at word at) lt

cut_here : (c : ℕ) (word : List ℕ) → (c == 61) ≡ true → operand_of (c ∷ word) ≡ cut [] word
cut_here c word is = cut_where (c ∷ word) 0 true (rw is refl) (lt-ltb 0 (suc (length word)) (omega arith))

pub cut_later : (c : ℕ) (word : List ℕ) → (c == 61) ≡ false → operand_of (c ∷ word) ≡ option_map (longer c) (operand_of word)
cut_later c word is =
    let one_more : 1 + first_equals word ≡ suc (first_equals word) = omega arith in
    let next : first_equals (c ∷ word) ≡ suc (first_equals word) = rw is one_more in
    elim (cases_lt (first_equals word) (length word)) as (λ _. operand_of (c ∷ word) ≡ option_map (longer c) (operand_of word)) [
      | inl lt ↦
          cut_where (c ∷ word) (suc (first_equals word)) true next (lt-ltb (suc (first_equals word)) (suc (length word)) (omega (arith, lt)))
          ∙ ap (option_map (longer c)) (sym (cut_where word (first_equals word) true refl (lt-ltb (first_equals word) (length word) lt)))
      | inr le ↦
          cut_where (c ∷ word) (suc (first_equals word)) false next (le-ltb (suc (first_equals word)) (suc (length word)) (omega (arith, le)))
          ∙ ap (option_map (longer c)) (sym (cut_where word (first_equals word) false refl (le-ltb (first_equals word) (length word) le)))
    ]

-- what is cut off is the operand, and there is no other
abbrev IsCut : List ℕ → Option Operand → Type 0
IsCut word found = IfSome found (λ operand. IsOperand operand.key operand.value word)

not_equals : (c : ℕ) → (c == 61) ≡ false → c ≢ 61
not_equals c is same = grind (arith, is, same)

is_equals : (c : ℕ) → (c == 61) ≡ true → c ≡ 61
is_equals c is = grind (arith, is)

equals_not : (c : ℕ) → c ≢ 61 → (c == 61) ≡ false
equals_not c other = grind (arith, other)

is_longer : (c : ℕ) (word : List ℕ) (found : Option Operand) → (c == 61) ≡ false → IsCut word found → IsCut (c ∷ word) (option_map (longer c) found)
is_longer c word None is cuts = tt
is_longer c word (Some operand) is cuts = record {
  parts = ap (λ word. c ∷ word) cuts.parts;
  first = all_both (λ c. c ≢ 61) c operand.key (not_equals c is) cuts.first;
}

is_cut : (word : List ℕ) → IsCut word (operand_of word)
unfolding operand_of
is_cut [] = tt
is_cut (c ∷ word) = elim (cases_Bool (c == 61)) as (λ _. IsCut (c ∷ word) (operand_of (c ∷ word))) [
  | inl is ↦
      subst (IsCut (c ∷ word)) (sym (cut_here c word is))
      (record { parts = ap (λ c. c ∷ word) (is_equals c is); first = all_none (λ c. c ≢ 61) })
  | inr is ↦ subst (IsCut (c ∷ word)) (sym (cut_later c word is)) (is_longer c word (operand_of word) is (is_cut word))
]

cut_of : (key value : List ℕ) → All (λ c. c ≢ 61) key → operand_of (key ++ 61 ∷ value) ≡ cut key value
cut_of [] value first = cut_here 61 value refl
cut_of (c ∷ key) value first =
    cut_later c (key ++ 61 ∷ value) (equals_not c (all_first (λ c. c ≢ 61) c key first))
    ∙ ap (option_map (longer c)) (cut_of key value (all_rest (λ c. c ≢ 61) c key first))

pub operand_found : (key value word : List ℕ) → IsOperand key value word → operand_of word ≡ cut key value
operand_found key value word operand = ap operand_of operand.parts ∙ cut_of key value operand.first

pub operand_there : (key value word : List ℕ) → operand_of word ≡ cut key value → IsOperand key value word
operand_there key value word is = subst (IsCut word) is (is_cut word)

some_is : (x y : Operand) → cut x.key x.value ≡ cut y.key y.value → x.key ≡ y.key
some_is x y is = cc

-- a word has one key
one_key : (key other word : List ℕ) → HasKey key word → HasKey other word → key ≡ other
one_key key other word first second =
    some_is (record { key = key; value = first.value }) (record { key = other; value = second.value })
    (sym (operand_found key first.value word first.operand) ∙ operand_found other second.value word second.operand)

-- whether a word has a key
key_there : (key word : List ℕ) (found : Option Operand) → IsCut word found → has_key key found ≡ true → HasKey key word
key_there key word None cuts is = absurd cc
key_there key word (Some operand) cuts is =
    subst (λ (key : List ℕ). HasKey key word) ((bytes_eq-Decides operand.key key).0 is) (record { value = operand.value; operand = cuts })

has_key_there : (key word : List ℕ) → has_key key (operand_of word) ≡ true → HasKey key word
has_key_there key word is = key_there key word (operand_of word) (is_cut word) is

has_key_found : (key word : List ℕ) → HasKey key word → has_key key (operand_of word) ≡ true
has_key_found key word has =
    ap (has_key key) (operand_found key has.value word has.operand) ∙ (bytes_eq-Decides key key).1 refl

has_key_not : (key word : List ℕ) → (HasKey key word → ⊥) → has_key key (operand_of word) ≡ false
has_key_not key word has_not = elim (cases_Bool (has_key key (operand_of word))) as (λ _. has_key key (operand_of word) ≡ false) [
  | inl is ↦ absurd (has_not (has_key_there key word is))
  | inr is ↦ is
]

not_has_key : (key word : List ℕ) → has_key key (operand_of word) ≡ false → HasKey key word → ⊥
not_has_key key word is has = let e : true ≡ false = sym (has_key_found key word has) ∙ is in absurd cc

-- whether one of some words does
given_there : (key : List ℕ) (words : List (List ℕ)) → is_given key words ≡ true → Any (HasKey key) words
given_there key [] is = absurd cc
given_there key (word ∷ words) is = elim (either_true (has_key key (operand_of word)) (is_given key words) is) as (λ _. Any (HasKey key) (word ∷ words)) [
  | inl first ↦ any_first (HasKey key) word words (has_key_there key word first)
  | inr rest ↦ any_rest (HasKey key) word words (given_there key words rest)
]

given_found : (key : List ℕ) (words : List (List ℕ)) → Any (HasKey key) words → is_given key words ≡ true
given_found key [] any = absurd (any_none (HasKey key) any)
given_found key (word ∷ words) any = elim (any_either (HasKey key) word words any) as (λ _. is_given key (word ∷ words) ≡ true) [
  | inl first ↦ true_first (has_key key (operand_of word)) (is_given key words) (has_key_found key word first)
  | inr rest ↦ true_second (has_key key (operand_of word)) (is_given key words) (given_found key words rest)
]

not_given_found : (key : List ℕ) (words : List (List ℕ)) → NoneHas key words → not (is_given key words) ≡ true
not_given_found key words none = elim (cases_Bool (is_given key words)) as (λ _. not (is_given key words) ≡ true) [
  | inl is ↦ absurd (not_any_of (HasKey key) words none (given_there key words is))
  | inr is ↦ rw is refl
]

not_given_there : (key : List ℕ) (words : List (List ℕ)) → not (is_given key words) ≡ true → NoneHas key words
not_given_there key words is =
    none_of (HasKey key) words (λ any. let e : not true ≡ true = sym (ap not (given_found key words any)) ∙ is in absurd cc)

-- words that do not have the key of a word are apart from it
apart_from : (key word : List ℕ) → HasKey key word → (words : List (List ℕ)) → NoneHas key words → All (AreApart word) words
apart_from key word has words none k d lt other first second =
    none k d lt (subst (λ (key : List ℕ). HasKey key (get_or words k d)) (one_key other key word first has) second)

none_apart : (key word : List ℕ) → HasKey key word → (words : List (List ℕ)) → All (AreApart word) words → NoneHas key words
none_apart key word has words apart k d lt other = apart k d lt key has other

-- whether a word has one of some keys, and it alone
record IsOne (keys : List (List ℕ)) (word : List ℕ) (later : List (List ℕ)) : Type 0 where
  known : IsKnown keys word
  alone : All (AreApart word) later

one_there : (keys : List (List ℕ)) (word : List ℕ) (later : List (List ℕ)) → is_one_of keys (operand_of word) later ≡ true → IsOne keys word later
one_there [] word later is = absurd cc
one_there (key ∷ keys) word later is =
    elim (either_true (has_key key (operand_of word) && not (is_given key later)) (is_one_of keys (operand_of word) later) is) as
    (λ _. IsOne (key ∷ keys) word later) [
      | inl first ↦
          let both = and_parts (has_key key (operand_of word)) (not (is_given key later)) first in
          let has = has_key_there key word both.0 in
          record {
            known = record { key = key; operand = has; known = has_first key keys };
            alone = apart_from key word has later (not_given_there key later both.1);
          }
      | inr rest ↦
          let one = one_there keys word later rest in
          record {
            known = record { key = one.known.key; operand = one.known.operand; known = has_rest key one.known.key keys one.known.known };
            alone = one.alone;
          }
    ]

one_found : (keys : List (List ℕ)) (key word : List ℕ) (later : List (List ℕ)) → HasKey key word → Contains keys key → All (AreApart word) later →
    is_one_of keys (operand_of word) later ≡ true
one_found [] key word later has known alone = absurd (has_none key known)
one_found (first ∷ keys) key word later has known alone =
    let here = has_key first (operand_of word) && not (is_given first later) in
    let there = is_one_of keys (operand_of word) later in
    elim (has_either first key keys known) as (λ _. is_one_of (first ∷ keys) (operand_of word) later ≡ true) [
      | inl same ↦
          let has_first = subst (λ (key : List ℕ). HasKey key word) (sym same) has in
          true_first here there
          (both_true (has_key first (operand_of word)) (not (is_given first later)) (has_key_found first word has_first)
          (not_given_found first later (none_apart first word has_first later alone)))
      | inr rest ↦ true_second here there (one_found keys key word later has rest alone)
    ]

operands_there : (keys words : List (List ℕ)) → are_operands keys words ≡ true → AreOperands keys words
operands_there keys [] is = record { known = all_none (IsKnown keys); once = pairs_none AreApart }
operands_there keys (word ∷ words) is =
    let both = and_parts (is_one_of keys (operand_of word) words) (are_operands keys words) is in
    let one = one_there keys word words both.0 in
    let others = operands_there keys words both.1 in
    record {
      known = all_both (IsKnown keys) word words one.known others.known;
      once = pairs_both AreApart word words one.alone others.once;
    }

operands_found : (keys words : List (List ℕ)) → AreOperands keys words → are_operands keys words ≡ true
operands_found keys [] are = refl
operands_found keys (word ∷ words) are =
    let known = all_first (IsKnown keys) word words are.known in
    both_true (is_one_of keys (operand_of word) words) (are_operands keys words)
    (one_found keys known.key word words known.operand known.known (pairs_first AreApart word words are.once))
    (operands_found keys words (record { known = all_rest (IsKnown keys) word words are.known; once = pairs_rest AreApart word words are.once }))

pub reads_operands : (keys words : List (List ℕ)) →
    (are_operands keys words ≡ true → AreOperands keys words) × (AreOperands keys words → are_operands keys words ≡ true)
reads_operands keys words = (operands_there keys words, operands_found keys words)

-- the number for a key
abbrev found : ℕ → Option ℕ
found n = Some n

number_is : (m n : ℕ) → found m ≡ found n → m ≡ n
number_is m n is = cc

gives_there : (key word : List ℕ) (operand : Option Operand) (n : ℕ) → IsCut word operand → has_key key operand ≡ true →
    number_for operand ≡ Some n → Gives key n word
gives_there key word None n cuts is writes = absurd cc
gives_there key word (Some operand) n cuts is writes = record {
  value = operand.value;
  operand = subst (λ (key : List ℕ). IsOperand key operand.value word) ((bytes_eq-Decides operand.key key).0 is) cuts;
  writes = writes;
}

value_there : (key : List ℕ) (words : List (List ℕ)) (n : ℕ) → value_of key words ≡ Some n → IsValue key words n
value_there key [] n is = inr (all_none (λ word. HasKey key word → ⊥), number_is n 0 (sym is))
value_there key (word ∷ words) n is = elim (cases_Bool (has_key key (operand_of word))) as (λ _. IsValue key (word ∷ words) n) [
  | inl has ↦
      let writes : number_for (operand_of word) ≡ Some n =
      sym (ap (λ has. if has then number_for (operand_of word) else value_of key words) has) ∙ is in
      inl (any_first (Gives key n) word words (gives_there key word (operand_of word) n (is_cut word) has writes))
  | inr has_not ↦
      let later : value_of key words ≡ Some n =
      sym (ap (λ has. if has then number_for (operand_of word) else value_of key words) has_not) ∙ is in
      elim (value_there key words n later) as (λ _. IsValue key (word ∷ words) n) [
        | inl gives ↦ inl (any_rest (Gives key n) word words gives)
        | inr none ↦ inr (all_both (λ word. HasKey key word → ⊥) word words (not_has_key key word has_not) none.0, none.1)
      ]
]

has_given : (key : List ℕ) (n : ℕ) (word : List ℕ) → Gives key n word → HasKey key word
has_given key n word gives = record { value = gives.value; operand = gives.operand }

value_first : (key word : List ℕ) (words : List (List ℕ)) (n : ℕ) → Gives key n word → value_of key (word ∷ words) ≡ Some n
value_first key word words n gives =
    ap (λ has. if has then number_for (operand_of word) else value_of key words) (has_key_found key word (has_given key n word gives))
    ∙ ap number_for (operand_found key gives.value word gives.operand)
    ∙ gives.writes

value_later : (key word : List ℕ) (words : List (List ℕ)) → (HasKey key word → ⊥) → value_of key (word ∷ words) ≡ value_of key words
value_later key word words has_not =
    ap (λ has. if has then number_for (operand_of word) else value_of key words) (has_key_not key word has_not)

-- a word is apart from one of others that gives a number for a key
gives_apart : (key : List ℕ) (n : ℕ) (word : List ℕ) (words : List (List ℕ)) → All (AreApart word) words → Any (Gives key n) words →
    HasKey key word → ⊥
gives_apart key n word words apart (k, y, lt, at, gives) has =
    apart k y lt key has (subst (λ (word : List ℕ). HasKey key word) (sym at) (has_given key n y gives))

value_found : (key : List ℕ) (words : List (List ℕ)) (n : ℕ) → AllPairs AreApart words → IsValue key words n → value_of key words ≡ Some n
value_found key [] n once (inl gives) = absurd (any_none (Gives key n) gives)
value_found key [] n once (inr none) = ap found (sym none.1)
value_found key (word ∷ words) n once (inl gives) =
    elim (any_either (Gives key n) word words gives) as (λ _. value_of key (word ∷ words) ≡ Some n) [
      | inl first ↦ value_first key word words n first
      | inr rest ↦
          value_later key word words (gives_apart key n word words (pairs_first AreApart word words once) rest)
          ∙ value_found key words n (pairs_rest AreApart word words once) (inl rest)
    ]
value_found key (word ∷ words) n once (inr none) =
    value_later key word words (all_first (λ word. HasKey key word → ⊥) word words none.0)
    ∙ value_found key words n (pairs_rest AreApart word words once) (inr (all_rest (λ word. HasKey key word → ⊥) word words none.0, none.1))

pub reads_values : (keys : List (List ℕ)) (key : List ℕ) (words : List (List ℕ)) (n : ℕ) → AreOperands keys words →
    (value_of key words ≡ Some n → IsValue key words n) × (IsValue key words n → value_of key words ≡ Some n)
reads_values keys key words n are = (value_there key words n, value_found key words n are.once)
