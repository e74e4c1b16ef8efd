-- The words of a comment.
use Rattle.std.proofs.Common.{◌≡◌, ◌∙◌, ◌++◌, ◌+◌, ◌-◌, ◌<◌, ◌≤◌, ◌&&◌, ◌==◌, ℕ, Bool, true, false, List, [], ◌∷◌, bytes_eq, codes, get_or, length, map, nat_le, take, drop, Option, Some, None, refl, sym, ap, subst, append-nil, arith, eqb-true, leb-true}
use Rattle.std.proofs.lemmas.List.{drop_all, drop_more, length-take, take-append-drop, take-map, take_all}
use Rattle.std.proofs.lemmas.Slice.Eq.{bytes_eq-Decides}
use Rattle.iom_judge.specs.declared.seen.Seen.{Seen}
use Rattle.iom_text.specs.Words.{number}
use Rattle.iom_traces.specs.Sights.{IfSaw, IsAddrTold, IsAnswerTold, IsSeen}
use Rattle.iom_traces.specs.declared.sights.Sight.{Sight}
use Rattle.iom_traces.specs.declared.sights.Sight.TheVariants.{Nothing, Saw, Unclear}

pub cut : {X : Type 0} (f : X → List ℕ) (n : ℕ) (xs : List X) → map f (take n xs) ≡ take n (map f xs)
cut f n xs = sym (take-map f n xs)

both : (a b : Bool) → (a && b) ≡ true → (a ≡ true) × (b ≡ true)
both true true is = (refl, refl)
both true false is = absurd (cc)
both false true is = absurd (cc)
both false false is = absurd (cc)

same_word : (word name : List ℕ) → bytes_eq word name ≡ true → word ≡ name
same_word word name is = (bytes_eq-Decides word name).0 is

pub where_is : (words : List (List ℕ)) (n : ℕ) → (nat_le 2 n && bytes_eq (get_or words (n - 2) []) (codes "at")) ≡ true → (2 ≤ n) × (get_or words (n - 2) [] ≡ codes "at")
where_is words n is =
    let h = both (nat_le 2 n) (bytes_eq (get_or words (n - 2) []) (codes "at")) is in
    (leb-true 2 n h.0, same_word (get_or words (n - 2) []) (codes "at") h.1)

-- one or two words
same_two : (told words : List (List ℕ)) → length told ≤ 2 → length told ≡ length words → get_or told 0 [] ≡ get_or words 0 [] → get_or told 1 [] ≡ get_or words 1 [] → told ≡ words
same_two [] [] few same first second = refl
same_two [] (w ∷ words) few same first second = absurd (omega (arith, same))
same_two (t ∷ told) [] few same first second = absurd (omega (arith, same))
same_two (t ∷ []) (w ∷ []) few same first second = ap (λ (w : List ℕ). w ∷ []) first
same_two (t ∷ []) (w ∷ v ∷ words) few same first second = absurd (omega (arith, same))
same_two (t ∷ u ∷ told) (w ∷ []) few same first second = absurd (omega (arith, same))
same_two (t ∷ u ∷ []) (w ∷ v ∷ []) few same first second = λ n. first n ∷ second n ∷ []
same_two (t ∷ u ∷ []) (w ∷ v ∷ x ∷ words) few same first second = absurd (omega (arith, same))
same_two (t ∷ u ∷ s ∷ told) (w ∷ v ∷ words) few same first second = absurd (omega (arith, few))

pub few_same : (told words : List (List ℕ)) → (nat_le (length told) 2 && (length told == length words && (bytes_eq (get_or told 0 []) (get_or words 0 []) && bytes_eq (get_or told 1 []) (get_or words 1 [])))) ≡ true →
    (told ≡ words) × (length words ≤ 2)
few_same told words is =
    let first : Bool = bytes_eq (get_or told 0 []) (get_or words 0 []) in
    let second : Bool = bytes_eq (get_or told 1 []) (get_or words 1 []) in
    let a = both (nat_le (length told) 2) (length told == length words && (first && second)) is in
    let b = both (length told == length words) (first && second) a.1 in
    let c = both first second b.1 in
    let few : length told ≤ 2 = leb-true (length told) 2 a.0 in
    let same : length told ≡ length words = eqb-true (length told) (length words) b.0 in
    (same_two told words few same (same_word (get_or told 0 []) (get_or words 0 []) c.0) (same_word (get_or told 1 []) (get_or words 1 []) c.1), omega (arith, few, same))

-- of few words all are taken
pub all_taken : (n : ℕ) (words : List (List ℕ)) → length (take n words) < n → take n words ≡ words
all_taken n words few = let count = length-take n words in take_all n words (omega (arith, count, few))

-- the last two words
pub last_two : (words : List (List ℕ)) (i : ℕ) → i + 2 ≡ length words → drop i words ≡ get_or words i [] ∷ get_or words (i + 1) [] ∷ []
last_two words i last =
    let twice : i + 1 + 1 ≡ i + 2 = omega arith in
    drop_more words i [] (omega (arith, last))
    ∙ ap (λ (rest : List (List ℕ)). get_or words i [] ∷ rest)
    (drop_more words (i + 1) [] (omega (arith, last)) ∙ ap (λ (rest : List (List ℕ)). get_or words (i + 1) [] ∷ rest) (drop_all (i + 1 + 1) words (omega (arith, last))))

pub saw_so : (sight : Sight) (P Q : Seen → Type 0) → ((seen : Seen) → P seen → Q seen) → IfSaw sight P → IfSaw sight Q
saw_so Nothing P Q so h = h
saw_so (Saw seen) P Q so h = so seen h
saw_so Unclear P Q so h = h

-- an answer with an address behind it
pub seen_at : (words told : List (List ℕ)) (i addr : ℕ) (seen : Seen) → i + 2 ≡ length words → told ≡ take i words → get_or words i [] ≡ codes "at" → number (get_or words (i + 1) []) ≡ Some addr →
    IsAnswerTold told seen.answer → seen.addr ≡ Some addr → IsSeen words seen
seen_at words told i addr seen last front at is answer same = record {
  told = told;
  place = get_or words i [] ∷ get_or words (i + 1) [] ∷ [];
  are = sym (take-append-drop i words) ∙ (λ n. sym front n ++ last_two words i last n);
  answer = answer;
  addr = subst (λ (addr : Option ℕ). IsAddrTold (get_or words i [] ∷ get_or words (i + 1) [] ∷ []) addr) (sym same)
      (get_or words (i + 1) [], ap (λ (word : List ℕ). word ∷ get_or words (i + 1) [] ∷ []) at, is);
}

-- and without
pub seen_alone : (words : List (List ℕ)) (seen : Seen) → IsAnswerTold words seen.answer → seen.addr ≡ None → IsSeen words seen
seen_alone words seen answer same = record {
  told = words;
  place = [];
  are = sym (append-nil words);
  answer = answer;
  addr = subst (IsAddrTold []) (sym same) refl;
}
