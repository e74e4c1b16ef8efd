-- What a statement gives to the fields stands in its words, and nothing else does.
use Rattle.std.proofs.Common.{◌≡◌, ◌+◌, ◌^◌, ◌<◌, ◌≤◌, ◌⊎◌, ℕ, zero, suc, ◌==◌, ◌&&◌, ◌||◌, Bool, true, false, not, nat_le, nat_lt, List, [], ◌∷◌, length, get_or, Option, Some, None, refl, sym, ap, subst, ◌∙◌, inl, inr, arith}
use Rattle.std.specs.List.{AllByRecursion, list_all}
use Rattle.std.proofs.lemmas.Bool.{and_parts, and_from, cases_Bool, eq-eqb, eqb-true, leb-true, ltb-true}
use Rattle.iom_bits.specs.Bits.{field_of, with_field_of}
use Rattle.iom_items.specs.Operands.{◌>>=◌, value_of}
use Rattle.iom_items.specs.Layouts.{Field}
use Rattle.iom_items.specs.Forms.{content_of, stated_from, stated_word, told_by, where_so}
use Rattle.iom_items.specs.Lines.{are_made, content_in, filled, made_word}
use Rattle.iom_items.proofs.Fields.{field_below, kept_apart, read_back, stays_word}
use Rattle.iom_items.proofs.Saying.{some_is}

-- Tests of a table: each field lies within its word, and no two share a bit.
abbrev pub is_within : Field → Bool
is_within field = nat_le 1 field.width && nat_le (field.low + field.width) 64 && nat_le (field.zeros + field.width) 64

abbrev pub is_beside : ℕ → ℕ → Field → Bool
is_beside low width field = nat_le (low + width) field.low || nat_le (field.low + field.width) low

abbrev pub are_apart : Field → Field → Bool
are_apart one other = not (one.word == other.word) || is_beside one.low one.width other

abbrev pub all_apart : List Field → Bool
all_apart [] = true
all_apart (field ∷ fields) = list_all (are_apart field) fields && all_apart fields

-- a value that was found, and what followed it
pub found_then : {A B : Type 0} (found : Option A) (f : A → Option B) (y : B) → (found >>= f) ≡ Some y → (x : A) × (found ≡ Some x) × (f x ≡ Some y)
found_then None f y is = absurd cc
found_then (Some x) f y is = (x, refl, is)

pub under_test : {A : Type 0} (b : Bool) (found : Option A) (x : A) → where_so b found ≡ Some x → (b ≡ true) × (found ≡ Some x)
under_test true found x is = (refl, is)
under_test false found x is = absurd cc

pub beside_is : (low width : ℕ) (field : Field) → is_beside low width field ≡ true → (low + width ≤ field.low) ⊎ (field.low + field.width ≤ low)
beside_is low width field is = by (nat_le (low + width) field.low) refl
  where
    by : (b : Bool) → nat_le (low + width) field.low ≡ b → (low + width ≤ field.low) ⊎ (field.low + field.width ≤ low)
    by true under = inl (leb-true (low + width) field.low under)
    by false over = inr (leb-true (field.low + field.width) low (ap (λ b. b || nat_le (field.low + field.width) low) (sym over) ∙ is))

-- the content that tells a number
abbrev pub Tells : List (List ℕ) → ℕ → Field → Type 0
Tells operands content field = value_of field.key operands ≡ Some (told_by field content)

content_back : (field : Field) (content : ℕ) → content < 2 ^ field.width → content_of field (told_by field content) ≡ Some content
content_back field content fits =
    let back : field_of (told_by field content) field.zeros field.width ≡ content = read_back 0 field.zeros field.width content fits in
    rw (back, eq-eqb (told_by field content) (told_by field content) refl) refl

content_is : (field : Field) (n content : ℕ) → content_of field n ≡ Some content → (n ≡ told_by field content) × (content < 2 ^ field.width)
content_is field n content is =
    let own : ℕ = field_of n field.zeros field.width in
    let parts = under_test (told_by field own == n) (Some own) content is in
    let same : own ≡ content = some_is own content parts.1 in
    (sym (eqb-true (told_by field own) n parts.0) ∙ ap (told_by field) same, subst (λ (c : ℕ). c < 2 ^ field.width) same (field_below n field.zeros field.width))

-- by the operands: the word if each of its fields has the content that tells its number
pub by_contents : (fields : List Field) (operands : List (List ℕ)) (at word made : ℕ) →
    AllByRecursion (λ (field : Field). (field.word == at) ≡ true → Tells operands (field_of word field.low field.width) field) fields →
    stated_word fields operands at made ≡ Some (made_word fields at word made)
unfolding stated_word made_word
by_contents [] operands at word made told = refl
by_contents (field ∷ fields) operands at word made told =
    elim (cases_Bool (field.word == at)) as (λ _. stated_word (field ∷ fields) operands at made ≡ Some (made_word (field ∷ fields) at word made)) [
      | inl here ↦
          rw (here, told.0 here, content_back field (field_of word field.low field.width) (field_below word field.low field.width))
          (by_contents fields operands at word (filled field word made) told.1)
      | inr there ↦ rw there (by_contents fields operands at word made told.1)
    ]

-- one step of a statement's word
record IsStep (field : Field) (fields : List Field) (operands : List (List ℕ)) (at made word : ℕ) : Type 0 where
  content : ℕ
  tells : Tells operands content field
  fits : content < 2 ^ field.width
  rest : stated_word fields operands at (with_field_of made field.low field.width content) ≡ Some word

step_of : (field : Field) (fields : List Field) (operands : List (List ℕ)) (at made word : ℕ) → (field.word == at) ≡ true →
    stated_word (field ∷ fields) operands at made ≡ Some word → IsStep field fields operands at made word
unfolding stated_word
step_of field fields operands at made word here is =
    let a = found_then (value_of field.key operands) _ word (rw here at is) in
    let b = found_then (content_of field a.0) _ word a.2 in
    let told = content_is field a.0 b.0 b.1 in
    record { content = b.0; tells = a.1 ∙ ap (λ n. Some n) told.0; fits = told.1; rest = b.2 }

step_past : (field : Field) (fields : List Field) (operands : List (List ℕ)) (at made word : ℕ) → (field.word == at) ≡ false →
    stated_word (field ∷ fields) operands at made ≡ Some word → stated_word fields operands at made ≡ Some word
unfolding stated_word
step_past field fields operands at made word there is = rw there at is

-- bits beside the fields stay as they were
pub kept : (fields : List Field) (operands : List (List ℕ)) (at made word low width : ℕ) →
    AllByRecursion (λ (field : Field). (field.word == at) ≡ true → is_beside low width field ≡ true) fields →
    stated_word fields operands at made ≡ Some word → field_of word low width ≡ field_of made low width
unfolding stated_word
kept [] operands at made word low width beside is = ap (λ word. field_of word low width) (sym (some_is made word is))
kept (field ∷ fields) operands at made word low width beside is =
    elim (cases_Bool (field.word == at)) as (λ _. field_of word low width ≡ field_of made low width) [
      | inl here ↦
          let step = step_of field fields operands at made word here is in
          kept fields operands at (with_field_of made field.low field.width step.content) word low width beside.1 step.rest
          ∙ kept_apart made field.low field.width step.content low width step.fits (beside_is low width field (beside.0 here))
      | inr there ↦ kept fields operands at made word low width beside.1 (step_past field fields operands at made word there is)
    ]

-- a word stays one
pub word_fits : (fields : List Field) (operands : List (List ℕ)) (at made word : ℕ) → list_all is_within fields ≡ true → made < 2 ^ 64 →
    stated_word fields operands at made ≡ Some word → word < 2 ^ 64
unfolding stated_word
word_fits [] operands at made word within fits is = subst (λ (word : ℕ). word < 2 ^ 64) (some_is made word is) fits
word_fits (field ∷ fields) operands at made word within fits is =
    let parts = and_parts (is_within field) (list_all is_within fields) within in
    elim (cases_Bool (field.word == at)) as (λ _. word < 2 ^ 64) [
      | inl here ↦
          let step = step_of field fields operands at made word here is in
          let own = and_parts (nat_le 1 field.width && nat_le (field.low + field.width) 64) (nat_le (field.zeros + field.width) 64) parts.0 in
          let low = and_parts (nat_le 1 field.width) (nat_le (field.low + field.width) 64) own.0 in
          word_fits fields operands at (with_field_of made field.low field.width step.content) word parts.1
          (stays_word made field.low field.width step.content fits (leb-true (field.low + field.width) 64 low.1) step.fits) step.rest
      | inr there ↦ word_fits fields operands at made word parts.1 fits (step_past field fields operands at made word there is)
    ]

-- the rest of the table is beside a field of the same word
beside_all : (field : Field) (at : ℕ) (fields : List Field) → (field.word == at) ≡ true → list_all (are_apart field) fields ≡ true →
    AllByRecursion (λ (other : Field). (other.word == at) ≡ true → is_beside field.low field.width other ≡ true) fields
beside_all field at [] here apart = tt
beside_all field at (other ∷ fields) here apart =
    let parts = and_parts (are_apart field other) (list_all (are_apart field) fields) apart in
    let same : (other.word == at) ≡ true → (field.word == other.word) ≡ true = λ there.
    eq-eqb field.word other.word (eqb-true field.word at here ∙ sym (eqb-true other.word at there)) in (
      (λ there. ap (λ b. not b || is_beside field.low field.width other) (sym (same there)) ∙ parts.0),
      beside_all field at fields here parts.1,
    )

-- the word of a statement tells its numbers
pub contents_told : (fields : List Field) (operands : List (List ℕ)) (at made word : ℕ) → all_apart fields ≡ true → stated_word fields operands at made ≡ Some word →
    AllByRecursion (λ (field : Field). (field.word == at) ≡ true → Tells operands (field_of word field.low field.width) field) fields
unfolding stated_word
contents_told [] operands at made word apart is = tt
contents_told (field ∷ fields) operands at made word apart is =
    let parts = and_parts (list_all (are_apart field) fields) (all_apart fields) apart in
    let own : (field.word == at) ≡ true → Tells operands (field_of word field.low field.width) field = λ here.
    let step = step_of field fields operands at made word here is in
    let same : field_of word field.low field.width ≡ step.content =
    kept fields operands at (with_field_of made field.low field.width step.content) word field.low field.width (beside_all field at fields here parts.0) step.rest
    ∙ read_back made field.low field.width step.content step.fits in
    step.tells ∙ ap (λ content. Some (told_by field content)) (sym same) in
    let Others : Type 0 = AllByRecursion (λ (other : Field). (other.word == at) ≡ true → Tells operands (field_of word other.low other.width) other) fields in
    let others : Others = elim (cases_Bool (field.word == at)) as (λ _. Others) [
      | inl here ↦
          let step = step_of field fields operands at made word here is in
          contents_told fields operands at (with_field_of made field.low field.width step.content) word parts.1 step.rest
      | inr there ↦ contents_told fields operands at made word parts.1 (step_past field fields operands at made word there is)
    ] in
    (own, others)

-- Words, one by one.
pub record IsMore (fields : List Field) (operands : List (List ℕ)) (at made : ℕ) (bases words : List ℕ) : Type 0 where
  pub first : ℕ
  pub others : List ℕ
  pub own : stated_word fields operands at made ≡ Some first
  pub rest : stated_from fields operands (at + 1) bases ≡ Some others
  pub parts : words ≡ first ∷ others

pub more_of : (fields : List Field) (operands : List (List ℕ)) (at made : ℕ) (bases words : List ℕ) →
    stated_from fields operands at (made ∷ bases) ≡ Some words → IsMore fields operands at made bases words
unfolding stated_from
more_of fields operands at made bases words is =
    let a = found_then (stated_word fields operands at made) _ words is in
    let b = found_then (stated_from fields operands (at + 1) bases) _ words a.2 in
    record { first = a.0; others = b.0; own = a.1; rest = b.1; parts = sym (some_is (a.0 ∷ b.0) words b.2) }

pub as_many : (fields : List Field) (operands : List (List ℕ)) (at : ℕ) (bases words : List ℕ) → stated_from fields operands at bases ≡ Some words →
    length words ≡ length bases
unfolding stated_from
as_many fields operands at [] words is = ap (λ (words : List ℕ). length words) (sym (some_is [] words is))
as_many fields operands at (made ∷ bases) words is =
    let more = more_of fields operands at made bases words is in
    ap (λ (words : List ℕ). length words) more.parts ∙ ap suc (as_many fields operands (at + 1) bases more.others more.rest)

pub word_at : (fields : List Field) (operands : List (List ℕ)) (at : ℕ) (bases words : List ℕ) (i : ℕ) → i < length bases →
    stated_from fields operands at bases ≡ Some words → stated_word fields operands (at + i) (get_or bases i 0) ≡ Some (get_or words i 0)
word_at fields operands at [] words i few is = absurd (omega (arith, few))
word_at fields operands at (made ∷ bases) words zero few is =
    let more = more_of fields operands at made bases words is in
    let same : at + 0 ≡ at = omega arith in
    rw (same, more.parts) more.own
word_at fields operands at (made ∷ bases) words (suc i) few is =
    let more = more_of fields operands at made bases words is in
    let next : at + 1 + i ≡ at + suc i = omega arith in
    rw more.parts (subst (λ (n : ℕ). stated_word fields operands n (get_or bases i 0) ≡ Some (get_or more.others i 0)) next
    (word_at fields operands (at + 1) bases more.others i (omega (arith, few)) more.rest))

-- each field stands in one of so many words
abbrev pub are_inside : ℕ → List Field → Bool
are_inside count fields = list_all (λ (field : Field). nat_lt field.word count) fields

-- The words of a statement tell its numbers.
abbrev pub TellsAll : List (List ℕ) → List ℕ → List Field → Type 0
TellsAll operands words fields = AllByRecursion (λ (field : Field). Tells operands (content_in field words) field) fields

gather : (operands : List (List ℕ)) (words : List ℕ) (count : ℕ) (fields : List Field) → are_inside count fields ≡ true →
    ((at : ℕ) → at < count → AllByRecursion (λ (field : Field). (field.word == at) ≡ true → Tells operands (field_of (get_or words at 0) field.low field.width) field) fields) →
    TellsAll operands words fields
gather operands words count [] inside told = tt
gather operands words count (field ∷ fields) inside told =
    let parts = and_parts (nat_lt field.word count) (are_inside count fields) inside in (
      (told field.word (ltb-true field.word count parts.0)).0 (eq-eqb field.word field.word refl),
      gather operands words count fields parts.1 (λ at few. (told at few).1),
    )

pub all_told : (fields : List Field) (operands : List (List ℕ)) (bases words : List ℕ) → all_apart fields ≡ true → are_inside (length bases) fields ≡ true →
    stated_from fields operands 0 bases ≡ Some words → TellsAll operands words fields
all_told fields operands bases words apart inside is =
    gather operands words (length bases) fields inside (λ at few.
    let none : 0 + at ≡ at = omega arith in
    contents_told fields operands at (get_or bases at 0) (get_or words at 0) apart
    (subst (λ (n : ℕ). stated_word fields operands n (get_or bases at 0) ≡ Some (get_or words at 0)) none (word_at fields operands 0 bases words at few is)))

-- by the operands: the words, if they tell the numbers
spread : (fields : List Field) (operands : List (List ℕ)) (words : List ℕ) (at word : ℕ) → get_or words at 0 ≡ word → TellsAll operands words fields →
    AllByRecursion (λ (field : Field). (field.word == at) ≡ true → Tells operands (field_of word field.low field.width) field) fields
spread [] operands words at word same told = tt
spread (field ∷ fields) operands words at word same told = (
  (λ here. subst (λ (word : ℕ). Tells operands (field_of word field.low field.width) field) (ap (λ at. get_or words at 0) (eqb-true field.word at here) ∙ same) told.0),
  spread fields operands words at word same told.1,
)

pub by_all : (fields : List Field) (operands : List (List ℕ)) (all : List ℕ) (at : ℕ) (bases words : List ℕ) → TellsAll operands all fields →
    ((i : ℕ) → i < length words → get_or all (at + i) 0 ≡ get_or words i 0) → are_made fields at bases words ≡ true →
    stated_from fields operands at bases ≡ Some words
unfolding stated_from are_made
by_all fields operands all at [] [] told same made = refl
by_all fields operands all at [] (word ∷ words) told same made = absurd cc
by_all fields operands all at (base ∷ bases) [] told same made = absurd cc
by_all fields operands all at (base ∷ bases) (word ∷ words) told same made =
    let parts = and_parts (made_word fields at word base == word) (are_made fields (at + 1) bases words) made in
    let here : get_or all at 0 ≡ word = ap (λ n. get_or all n 0) (omega arith) ∙ same 0 (omega arith) in
    let first : stated_word fields operands at base ≡ Some word =
    by_contents fields operands at word base (spread fields operands all at word here told) ∙ ap (λ word. Some word) (eqb-true (made_word fields at word base) word parts.0) in
    let later : (i : ℕ) → i < length words → get_or all (at + 1 + i) 0 ≡ get_or words i 0 = λ i few.
    ap (λ n. get_or all n 0) (omega arith) ∙ same (suc i) (omega (arith, few)) in
    rw (first, by_all fields operands all (at + 1) bases words told later parts.1) refl

-- and the words of a statement are made of what they have
pub are_own : (fields : List Field) (operands : List (List ℕ)) (all : List ℕ) (at : ℕ) (bases words : List ℕ) → TellsAll operands all fields →
    ((i : ℕ) → i < length words → get_or all (at + i) 0 ≡ get_or words i 0) → stated_from fields operands at bases ≡ Some words →
    are_made fields at bases words ≡ true
unfolding stated_from are_made
are_own fields operands all at [] [] told same is = refl
are_own fields operands all at [] (word ∷ words) told same is = absurd cc
are_own fields operands all at (base ∷ bases) words told same is =
    let more = more_of fields operands at base bases words is in
    let moved : (i : ℕ) → i < suc (length more.others) → get_or all (at + i) 0 ≡ get_or (more.first ∷ more.others) i 0 =
    subst (λ (words : List ℕ). (i : ℕ) → i < length words → get_or all (at + i) 0 ≡ get_or words i 0) more.parts same in
    let here : get_or all at 0 ≡ more.first = ap (λ n. get_or all n 0) (omega arith) ∙ moved 0 (omega arith) in
    let first : made_word fields at more.first base ≡ more.first =
    some_is (made_word fields at more.first base) more.first
    (sym (by_contents fields operands at more.first base (spread fields operands all at more.first here told)) ∙ more.own) in
    let later : (i : ℕ) → i < length more.others → get_or all (at + 1 + i) 0 ≡ get_or more.others i 0 = λ i few.
    ap (λ n. get_or all n 0) (omega arith) ∙ moved (suc i) (omega (arith, few)) in
    rw more.parts (and_from (made_word fields at more.first base == more.first) (are_made fields (at + 1) bases more.others)
    (eq-eqb (made_word fields at more.first base) more.first first) (are_own fields operands all (at + 1) bases more.others told later more.rest))
