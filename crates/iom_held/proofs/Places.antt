-- What is left of a list when new things are put into it.
use Rattle.std.proofs.Common.{◌≡◌, ◌∙◌, ◌⊎◌, ◌++◌, ℕ, zero, suc, List, [], ◌∷◌, map, Some, ◌↔◌, refl, sym, ap, subst, inl, inr}
use Rattle.std.specs.Prelude.{Bool, true, IsOk, Result, if◌then◌else◌, is_ok, slice_get, slice_set}
use Rattle.std.proofs.lemmas.List.{map-append}
use Rattle.iom_choices.specs.Systems.{IsAmong}
use Rattle.iom_choices.proofs.Lists.{among-left, among-right, among_at, among_either}
use Rattle.iom_held.specs.Kept.{HasNoneTwice}
use Rattle.iom_held.specs.Kept.{Renews}
use Rattle.iom_held.proofs.Lists.{among_both, among_of, once_more}

pub renews_none : {N X : Type 0} (of : N → X) (xs : List N) → Renews of [] xs xs
renews_none of xs = record {
  all = λ x h. inl h;
  kept = λ x h. elim h [
    | inl old ↦ old
    | inr none ↦ absurd none
  ];
  each = λ once n h. inr (h, λ none. none);
  once = λ once. once;
}

-- at the end
pub renews_end : {N X : Type 0} (of : N → X) (new : N) (xs : List N) → (IsAmong (map of xs) (of new) → ⊥) → Renews of (new ∷ []) xs (xs ++ new ∷ [])
renews_end {N} {X} of new xs other =
    let keys : map of (xs ++ new ∷ []) ≡ map of xs ++ of new ∷ [] = map-append of xs (new ∷ []) in record {
      all = λ x h. among_either (map of xs) (of new ∷ []) x (subst (λ (ys : List X). IsAmong ys x) keys h);
      kept = λ x h. subst (λ (ys : List X). IsAmong ys x) (sym keys) (elim h [
        | inl old ↦ among-left (map of xs) (of new ∷ []) x old
        | inr last ↦ among-right (map of xs) (of new ∷ []) x last
      ]);
      each = λ once n h. elim (among_either xs (new ∷ []) n h) [
        | inl old ↦ inr (
          old,
          λ k. elim k [
            | inl same ↦ other (subst (IsAmong (map of xs)) (sym same) (among_of of xs n old))
            | inr none ↦ none
          ],
        )
        | inr last ↦ inl last
      ];
      once = λ once. subst HasNoneTwice (sym keys) (once_more (map of xs) (of new) once other);
    }

pub some_is : {X : Type 0} {a b : X} → Some a ≡ Some b → a ≡ b
some_is is = search is

-- in place of one of the same
keys_at : {N X : Type 0} (of : N → X) (new : N) (xs : List N) (i : ℕ) → slice_get (map of xs) i ≡ Some (of new) → map of (slice_set xs i new) ≡ map of xs
keys_at of new [] i is = refl
keys_at {N} {X} of new (x ∷ xs) zero is = ap (λ (y : X). y ∷ map of xs) (sym (some_is is))
keys_at {N} {X} of new (x ∷ xs) (suc i) is = ap (λ (ys : List X). of x ∷ ys) (keys_at of new xs i is)

set_each : {N X : Type 0} (of : N → X) (new : N) (xs : List N) (i : ℕ) → slice_get (map of xs) i ≡ Some (of new) → HasNoneTwice (map of xs) →
    (n : N) → IsAmong (slice_set xs i new) n → (new ≡ n) ⊎ (IsAmong xs n × (of new ≡ of n → ⊥))
set_each of new [] i is once n h = absurd h
set_each of new (x ∷ xs) zero is once n (inl same) = inl same
set_each {N} {X} of new (x ∷ xs) zero is once n (inr h) =
    inr (inr h, λ same. once.0 (subst (IsAmong (map of xs)) (sym same ∙ sym (some_is is)) (among_of of xs n h)))
set_each {N} {X} of new (x ∷ xs) (suc i) is once n (inl here) =
    inr (inl here, λ same. once.0 (subst (IsAmong (map of xs)) (same ∙ sym (ap of here)) (among_at (map of xs) i (of new) is)))
set_each of new (x ∷ xs) (suc i) is once n (inr h) = elim (set_each of new xs i is once.1 n h) [
  | inl same ↦ inl same
  | inr k ↦ inr (inr k.0, k.1)
]

pub renews_at : {N X : Type 0} (of : N → X) (new : N) (xs : List N) (i : ℕ) → slice_get (map of xs) i ≡ Some (of new) → Renews of (new ∷ []) xs (slice_set xs i new)
renews_at {N} {X} of new xs i is =
    let keys : map of (slice_set xs i new) ≡ map of xs = keys_at of new xs i is in record {
      all = λ x h. inl (subst (λ (ys : List X). IsAmong ys x) keys h);
      kept = λ x h. subst (λ (ys : List X). IsAmong ys x) (sym keys) (elim h [
        | inl old ↦ old
        | inr last ↦ elim last [
          | inl same ↦ subst (IsAmong (map of xs)) same (among_at (map of xs) i (of new) is)
          | inr none ↦ absurd none
        ]
      ]);
      each = λ once n h. elim (set_each of new xs i is once n h) [
        | inl same ↦ inl (inl same)
        | inr k ↦ inr (
          k.0,
          λ a. elim a [
            | inl same ↦ k.1 same
            | inr none ↦ none
          ],
        )
      ];
      once = λ once. subst HasNoneTwice (sym keys) once;
    }

-- one thing, and then others
pub renews_then : {N X : Type 0} (of : N → X) (new : N) (news a b c : List N) → Renews of (new ∷ []) a b → Renews of news b c → Renews of (new ∷ news) a c
renews_then {N} {X} of new news a b c p q = record {
  all = λ x h. elim (q.all x h) [
    | inl mid ↦ elim (p.all x mid) [
      | inl old ↦ inl old
      | inr one ↦ elim one [
        | inl same ↦ inr (inl same)
        | inr none ↦ absurd none
      ]
    ]
    | inr later ↦ inr (inr later)
  ];
  kept = λ x h. elim h [
    | inl old ↦ q.kept x (inl (p.kept x (inl old)))
    | inr some ↦ elim some [
      | inl same ↦ q.kept x (inl (p.kept x (inr (inl same))))
      | inr later ↦ q.kept x (inr later)
    ]
  ];
  each = λ once n h. elim (q.each (p.once once) n h) [
    | inl later ↦ inl (inr later)
    | inr k ↦ elim (p.each once n k.0) [
      | inl one ↦ elim one [
        | inl same ↦ inl (inl same)
        | inr none ↦ absurd none
      ]
      | inr l ↦ inr (
        l.0,
        λ some. elim some [
          | inl same ↦ l.1 (inl same)
          | inr later ↦ k.1 later
        ],
      )
    ]
  ];
  once = λ once. q.once (p.once once);
}

-- some things, and then others
pub renews_both : {N X : Type 0} (of : N → X) (news more a b c : List N) → Renews of news a b → Renews of more b c → Renews of (news ++ more) a c
renews_both {N} {X} of news more a b c p q =
    let keys : map of (news ++ more) ≡ map of news ++ map of more = map-append of news more in record {
      all = λ x h. elim (q.all x h) [
        | inl mid ↦ elim (p.all x mid) [
          | inl old ↦ inl old
          | inr new ↦ inr (subst (λ (ys : List X). IsAmong ys x) (sym keys) (among-left (map of news) (map of more) x new))
        ]
        | inr later ↦ inr (subst (λ (ys : List X). IsAmong ys x) (sym keys) (among-right (map of news) (map of more) x later))
      ];
      kept = λ x h. elim h [
        | inl old ↦ q.kept x (inl (p.kept x (inl old)))
        | inr some ↦ elim (among_either (map of news) (map of more) x (subst (λ (ys : List X). IsAmong ys x) keys some)) [
          | inl new ↦ q.kept x (inl (p.kept x (inr new)))
          | inr later ↦ q.kept x (inr later)
        ]
      ];
      each = λ once n h. elim (q.each (p.once once) n h) [
        | inl later ↦ inl (among-right news more n later)
        | inr k ↦ elim (p.each once n k.0) [
          | inl new ↦ inl (among-left news more n new)
          | inr l ↦ inr (
            l.0,
            λ some. elim (among_either (map of news) (map of more) (of n) (subst (λ (ys : List X). IsAmong ys (of n)) keys some)) [
              | inl new ↦ l.1 new
              | inr later ↦ k.1 later
            ],
          )
        ]
      ];
      once = λ once. q.once (p.once once);
    }

-- all that is there is put in anew, where nothing was
pub renews_anew : {N X : Type 0} (of : N → X) (news before after again : List N) → Renews of news before after → Renews of after [] again → Renews of news before again
renews_anew of news before after again p q = record {
  all = λ x h. elim (q.all x h) [
    | inl none ↦ absurd none
    | inr k ↦ p.all x k
  ];
  kept = λ x h. q.kept x (inr (p.kept x h));
  each = λ once n h. elim (q.each tt n h) [
    | inl k ↦ p.each once n k
    | inr none ↦ absurd none.0
  ];
  once = λ once. q.once tt;
}

-- the things that are put in may as well be listed in another order, or more than once
pub renews_same : {N X : Type 0} (of : N → X) (news others before after : List N) → ((n : N) → IsAmong news n ↔ IsAmong others n) → Renews of news before after → Renews of others before after
renews_same of news others before after same p = record {
  all = λ x h. elim (p.all x h) [
    | inl old ↦ inl old
    | inr new ↦ inr (among_both of news others (λ n h. (same n).0 h) x new)
  ];
  kept = λ x h. p.kept x (elim h [
    | inl old ↦ inl old
    | inr new ↦ inr (among_both of others news (λ n h. (same n).1 h) x new)
  ]);
  each = λ once n h. elim (p.each once n h) [
    | inl new ↦ inl ((same n).0 new)
    | inr old ↦ inr (old.0, λ k. old.1 (among_both of others news (λ n h. (same n).1 h) (of n) k))
  ];
  once = p.once;
}

-- what a push leaves that has room
pub pushed : {T E X : Type 0} (r : Result T E) (a b c : X) → c ≡ (if is_ok r then a else b) → IsOk r → c ≡ a
pushed {T} {E} {X} r a b c is ok = let passes : is_ok r ≡ true = ok in subst (λ (b' : Bool). c ≡ (if b' then a else b)) passes is
