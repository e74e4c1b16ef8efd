-- The index as a place is filled and as the oldest leaves.
use Rattle.std.proofs.Common.{◌≡◌, ◌≢◌, ◌+◌, ◌-◌, ◌%◌, ◌<◌, ◌==◌, ◌⊎◌, ◌∙◌, ◌++◌, ℕ, zero, suc, List, [], ◌∷◌, length, get_or, set, Bool, true, false, Option, Some, None, if◌then◌else◌, refl, sym, ap, subst, inl, inr, arith}
use Rattle.std.specs.Prelude.{min, replicate}
use Rattle.std.proofs.lemmas.Bool.{cases_lt}
use Rattle.std.proofs.Math.Seq.{get_or-append_seam}
use Rattle.std.proofs.lemmas.List.{get_or_append_left, get_or-replicate, get_or-set_other, get_or-set_same, get_or_default, length-set}
use Rattle.iom_nested.specs.declared.translation.Hit.{Hit}
use Rattle.iom_cache.specs.declared.index.Index.{Index}
use Rattle.iom_cache.specs.declared.key.Key.{Key}
use Rattle.iom_cache.specs.Buckets.{bucket_of, is_in}
use Rattle.iom_cache.specs.Index.{IsIndex, IsWithin, Leads, LeadsAt, cleared, counted_less, counted_more, is_in_at, position, tag_of}
use Rattle.iom_cache.proofs.Chains.{Led, frame, led_to, next_first, nothing_leads, position_down, position_end, position_filled, position_first, position_oldest, position_stays, shift}
use Rattle.iom_cache.proofs.Tallied.{counted_filled, counted_left, tally_filled}

length_one_more : {X : Type 0} → (xs : List X) (x : X) → length (xs ++ x ∷ []) ≡ suc (length xs)
length_one_more [] x = refl
length_one_more (first ∷ xs) x = ap suc (length_one_more xs x)

is_same_bucket : (own bucket : ℕ) → (own == bucket) ≡ true → own ≡ bucket
is_same_bucket own bucket e = grind arith

is_other_bucket : (own bucket : ℕ) → (own == bucket) ≡ false → own ≢ bucket
is_other_bucket own bucket e = λ same. grind (arith, e, same)

same_or_not : (a b : ℕ) → (a ≡ b) ⊎ (a ≢ b)
same_or_not a b = elim (cases_lt a b) [
  | inl lt ↦ inr (λ same. omega (arith, lt, same))
  | inr ge ↦ elim (cases_lt b a) [
    | inl lt ↦ inr (λ same. omega (arith, lt, same))
    | inr le ↦ inl (omega arith)
  ]
]

within_more : (at count : ℕ) → IsWithin at count → IsWithin at (suc count)
within_more at count (inl low) = inl (omega arith)
within_more at count (inr none) = inr none

within_other : (at count : ℕ) → count < 64 → IsWithin at count → at ≢ count
within_other at count few (inl low) = λ same. omega (arith, low, same)
within_other at count few (inr none) = λ same. omega (arith, few, none, same)

-- the index of no place
pub empty_index : (index : Index) → index.heads ≡ replicate 32 64 → length index.links ≡ 64 → index.first ≡ 0 → index.counts ≡ replicate 256 0 →
    IsIndex index []
empty_index index heads links first counts = record {
  heads = ap length heads;
  links = links;
  first = omega (arith, first);
  leads = λ bucket few. tt;
  within = λ bucket few. inr (ap (position index.first) (ap (λ (l : List ℕ). get_or l bucket 64) heads ∙ get_or-replicate 32 bucket 64 64 few) ∙ position_end index.first);
  counts = ap length counts;
  counted = λ tag few. ap (λ (l : List ℕ). get_or l tag 0) counts ∙ get_or-replicate 256 tag 0 0 few;
}

-- an empty place is filled: a copy of one
pub appended_none : (index : Index) (places : List (Option (Key × Hit))) → length places < 64 → IsIndex index places → IsIndex index (places ++ None ∷ [])
appended_none index places room h =
    let len : length (places ++ None ∷ []) ≡ suc (length places) = length_one_more places None in
    let Old = λ (bucket : ℕ). Leads index.links index.first bucket (places ++ None ∷ []) in
    record {
      heads = h.heads;
      links = h.links;
      first = h.first;
      leads = λ bucket few.
          let head = get_or index.heads bucket 64 in
          let none : is_in_at bucket (places ++ None ∷ []) (length places) ≡ false = ap (is_in bucket) (get_or-append_seam places None [] None) in
          subst (λ (n : ℕ). Leads index.links index.first bucket (places ++ None ∷ []) head n) (sym len)
          (subst (λ (b : Bool). LeadsAt b (position index.first head) (length places)
          (Leads index.links index.first bucket (places ++ None ∷ []) (get_or index.links head 64) (length places))
          (Leads index.links index.first bucket (places ++ None ∷ []) head (length places))) (sym none) (
            within_other (position index.first head) (length places) room (h.within bucket few),
            frame index.links index.links index.first bucket places (places ++ None ∷ []) (length places)
                (λ j low. get_or_append_left places (None ∷ []) None j low) (λ slot low. refl) head (length places) (omega arith) (h.leads bucket few),
          ));
      within = λ bucket few. subst (IsWithin (position index.first (get_or index.heads bucket 64))) (sym len)
          (within_more (position index.first (get_or index.heads bucket 64)) (length places) (h.within bucket few));
      counts = h.counts;
      counted = λ tag few. h.counted tag few ∙ sym (tally_filled tag places None);
    }

-- a place is filled: its bucket starts with it
module _ (index : Index) (places : List (Option (Key × Hit))) (entry : Key × Hit) (own : ℕ) (is : own ≡ bucket_of entry.0) (small : own < 32)
    (tag : ℕ) (tagged : tag ≡ tag_of entry.0) (room : length places < 64) (h : IsIndex index places) where
  abbrev pub slot : ℕ
  slot = (index.first + length places) % 64

  abbrev pub after : Index
  after = record {
    heads = set index.heads own slot;
    links = set index.links slot (get_or index.heads own 0);
    first = index.first;
    counts = counted_more index.counts tag;
  }

  there : position index.first slot ≡ length places
  there = position_filled index.first (length places) h.first room

  slot_few : slot < 64
  slot_few = omega arith

  kept : (other : ℕ) → position index.first other < length places → get_or after.links other 64 ≡ get_or index.links other 64
  kept other low =
      let differs : other ≢ slot = λ same. let e : position index.first other ≡ position index.first slot = ap (position index.first) same in omega (arith, low, e, there) in
      get_or-set_other index.links slot other (get_or index.heads own 0) 64 differs

  framed : (bucket from : ℕ) → Leads index.links index.first bucket places from (length places) →
      Leads after.links index.first bucket (places ++ Some entry ∷ []) from (length places)
  framed bucket from led = frame index.links after.links index.first bucket places (places ++ Some entry ∷ []) (length places)
      (λ j low. get_or_append_left places (Some entry ∷ []) None j low) kept from (length places) (omega arith) led

  own_head : get_or after.heads own 64 ≡ slot
  own_head = get_or-set_same index.heads own slot 64 (let len = h.heads in omega (arith, len, small))

  own_behind : get_or after.links slot 64 ≡ get_or index.heads own 64
  own_behind = get_or-set_same index.links slot (get_or index.heads own 0) 64 (let len = h.links in let few = slot_few in omega (arith, len, few))
      ∙ get_or_default index.heads own 0 64 (let len = h.heads in omega (arith, len, small))

  other_head : (bucket : ℕ) → own ≢ bucket → get_or after.heads bucket 64 ≡ get_or index.heads bucket 64
  other_head bucket differs = get_or-set_other index.heads own bucket slot 64 (λ same. differs (sym same))

  abbrev LedAt : ℕ → ℕ → Bool → Type 0
  LedAt bucket head b = LeadsAt b (position index.first head) (length places)
      (Leads after.links index.first bucket (places ++ Some entry ∷ []) (get_or after.links head 64) (length places))
      (Leads after.links index.first bucket (places ++ Some entry ∷ []) head (length places))

  led_at : (bucket : ℕ) → bucket < 32 → LedAt bucket (get_or after.heads bucket 64) (bucket_of entry.0 == bucket)
  led_at bucket few =
      let Goal : Bool → Type 0 = λ b. (bucket_of entry.0 == bucket) ≡ b → LedAt bucket (get_or after.heads bucket 64) b in
      let by_test : (b : Bool) → Goal b = λ b. elim b as Goal [
        | true ↦ λ e.
            let same : own ≡ bucket = is ∙ is_same_bucket (bucket_of entry.0) bucket e in
            subst (λ (c : ℕ). LedAt c (get_or after.heads c 64) true) same
            (subst (λ (head : ℕ). LedAt own head true) (sym own_head) (
              there,
              subst (λ (from : ℕ). Leads after.links index.first own (places ++ Some entry ∷ []) from (length places)) (sym own_behind)
                  (framed own (get_or index.heads own 64) (h.leads own small)),
            ))
        | false ↦ λ e.
            let differs : own ≢ bucket = λ same. is_other_bucket (bucket_of entry.0) bucket e (sym is ∙ same) in
            subst (λ (head : ℕ). LedAt bucket head false) (sym (other_head bucket differs)) (
              within_other (position index.first (get_or index.heads bucket 64)) (length places) room (h.within bucket few),
              framed bucket (get_or index.heads bucket 64) (h.leads bucket few),
            )
      ] in by_test (bucket_of entry.0 == bucket) refl

  within_at : (bucket : ℕ) → bucket < 32 → IsWithin (position index.first (get_or after.heads bucket 64)) (suc (length places))
  within_at bucket few = elim (same_or_not own bucket) [
    | inl same ↦ subst (λ (c : ℕ). IsWithin (position index.first (get_or after.heads c 64)) (suc (length places))) same
        (subst (λ (head : ℕ). IsWithin (position index.first head) (suc (length places))) (sym own_head)
        (inl (let e = there in omega (arith, e))))
    | inr differs ↦ subst (λ (head : ℕ). IsWithin (position index.first head) (suc (length places))) (sym (other_head bucket differs))
        (within_more (position index.first (get_or index.heads bucket 64)) (length places) (h.within bucket few))
  ]

  pub appended_some : IsIndex after (places ++ Some entry ∷ [])
  appended_some =
      let len : length (places ++ Some entry ∷ []) ≡ suc (length places) = length_one_more places (Some entry) in
      record {
        heads = length-set index.heads own slot ∙ h.heads;
        links = length-set index.links slot (get_or index.heads own 0) ∙ h.links;
        first = h.first;
        leads = λ bucket few.
            subst (λ (n : ℕ). Leads after.links index.first bucket (places ++ Some entry ∷ []) (get_or after.heads bucket 64) n) (sym len)
            (subst (λ (place : Option (Key × Hit)). LedAt bucket (get_or after.heads bucket 64) (is_in bucket place))
            (sym (get_or-append_seam places (Some entry) [] None)) (led_at bucket few));
        within = λ bucket few. subst (IsWithin (position index.first (get_or after.heads bucket 64))) (sym len) (within_at bucket few);
        counts = length-set index.counts tag (min (get_or index.counts tag 0 + 1) 255) ∙ h.counts;
        counted = counted_filled index.counts places entry tag tagged h.counts room h.counted;
      }

-- the oldest place leaves
counted_length : (counts : List ℕ) (oldest : Option (Key × Hit)) → length (counted_less counts oldest) ≡ length counts
counted_length counts None = refl
counted_length counts (Some entry) = length-set counts (tag_of entry.0) (get_or counts (tag_of entry.0) 0 - 1)

cleared_length : (heads : List ℕ) (first : ℕ) (oldest : Option (Key × Hit)) → length (cleared heads first oldest) ≡ length heads
cleared_length heads first None = refl
cleared_length heads first (Some entry) =
    elim (get_or heads (bucket_of entry.0) 64 == first) as (λ b. length (if b then set heads (bucket_of entry.0) 64 else heads) ≡ length heads) [
      | true ↦ length-set heads (bucket_of entry.0) 64
      | false ↦ refl
    ]

cleared_other : (heads : List ℕ) (first : ℕ) (oldest : Option (Key × Hit)) (bucket : ℕ) → get_or heads bucket 64 ≢ first →
    get_or (cleared heads first oldest) bucket 64 ≡ get_or heads bucket 64
cleared_other heads first None bucket differs = refl
cleared_other heads first (Some entry) bucket differs =
    let own = bucket_of entry.0 in
    let Goal : Bool → Type 0 = λ b. (get_or heads own 64 == first) ≡ b → get_or (if b then set heads own 64 else heads) bucket 64 ≡ get_or heads bucket 64 in
    let by_test : (b : Bool) → Goal b = λ b. elim b as Goal [
      | true ↦ λ e. get_or-set_other heads own bucket 64 64
          (λ same. differs (ap (λ (c : ℕ). get_or heads c 64) same ∙ is_same_bucket (get_or heads own 64) first e))
      | false ↦ λ e. refl
    ] in by_test (get_or heads own 64 == first) refl

cleared_own : (heads : List ℕ) (first : ℕ) (oldest : Option (Key × Hit)) (bucket : ℕ) → is_in bucket oldest ≡ true → get_or heads bucket 64 ≡ first →
    bucket < length heads → get_or (cleared heads first oldest) bucket 64 ≡ 64
cleared_own heads first None bucket is starts low = absurd (cc)
cleared_own heads first (Some entry) bucket is starts low =
    let own = bucket_of entry.0 in
    let same : own ≡ bucket = is_same_bucket own bucket is in
    let e : (get_or heads own 64 == first) ≡ true = let s : get_or heads own 64 ≡ first = ap (λ (c : ℕ). get_or heads c 64) same ∙ starts in grind (arith, s) in
    ap (λ (b : Bool). get_or (if b then set heads own 64 else heads) bucket 64) e
    ∙ ap (λ (c : ℕ). get_or (set heads c 64) bucket 64) same ∙ get_or-set_same heads bucket 64 64 low

module _ (index : Index) (oldest : Option (Key × Hit)) (places : List (Option (Key × Hit))) (room : length places < 64)
    (h : IsIndex index (oldest ∷ places)) where
  abbrev pub rest : Index
  rest = record {
    heads = cleared index.heads index.first oldest;
    links = index.links;
    first = next_first index.first;
    counts = counted_less index.counts oldest;
  }

  -- what is to be shown of a bucket
  record Stays (bucket : ℕ) : Type 0 where
    leads : Leads index.links (next_first index.first) bucket places (get_or rest.heads bucket 64) (length places)
    within : IsWithin (position (next_first index.first) (get_or rest.heads bucket 64)) (length places)

  within_less : (head : ℕ) → position index.first head ≢ 0 → IsWithin (position index.first head) (suc (length places)) →
      IsWithin (position (next_first index.first) head) (length places)
  within_less head some (inl low) =
      let down : (n : ℕ) → position index.first head ≡ n → IsWithin (position (next_first index.first) head) (length places) = λ n. elim n as (λ n. position index.first head ≡ n → IsWithin (position (next_first index.first) head) (length places)) [
        | zero ↦ λ e. absurd (some e)
        | suc n ↦ λ e. inl (let d = position_down index.first head n h.first (omega (arith, low, e, room)) e in omega (arith, d, low, e))
      ] in down (position index.first head) refl
  within_less head some (inr none) = inr (position_stays index.first head none)

  -- the bucket goes on: its newest place isn't the oldest
  goes_on : (bucket : ℕ) → bucket < 32 → position index.first (get_or index.heads bucket 64) ≢ 0 → Stays bucket
  goes_on bucket few some =
      let head = get_or index.heads bucket 64 in
      let differs : head ≢ index.first = λ same. some (ap (position index.first) same ∙ position_first index.first h.first) in
      let kept : get_or rest.heads bucket 64 ≡ head = cleared_other index.heads index.first oldest bucket differs in
      record {
        leads = subst (λ (s : ℕ). Leads index.links (next_first index.first) bucket places s (length places)) (sym kept)
            (shift index.links index.first bucket oldest places h.first head (length places) (omega (arith, room)) (h.leads bucket few));
        within = subst (λ (s : ℕ). IsWithin (position (next_first index.first) s) (length places)) (sym kept)
            (within_less head some (h.within bucket few));
      }

  -- the oldest was the bucket's only place
  ends : (bucket : ℕ) → bucket < 32 → position index.first (get_or index.heads bucket 64) ≡ 0 → Stays bucket
  ends bucket few zero_at =
      let head = get_or index.heads bucket 64 in
      let starts : head ≡ index.first = position_oldest index.first head h.first zero_at in
      let led : Led index.links index.first bucket (oldest ∷ places) head (position index.first head) (suc (length places)) =
      led_to index.links index.first bucket (oldest ∷ places) head (suc (length places)) (h.leads bucket few) (omega (arith, zero_at)) in
      let is : is_in bucket oldest ≡ true = subst (λ (n : ℕ). is_in_at bucket (oldest ∷ places) n ≡ true) zero_at led.is in
      let none : (j : ℕ) → j < length places → is_in_at bucket places j ≡ false = λ j low. led.above (suc j) (omega (arith, zero_at)) (omega arith) in
      let empty : get_or rest.heads bucket 64 ≡ 64 = cleared_own index.heads index.first oldest bucket is starts (let len = h.heads in omega (arith, len, few)) in
      let end : position (next_first index.first) 64 ≡ 64 = position_end (next_first index.first) in
      record {
        leads = subst (λ (s : ℕ). Leads index.links (next_first index.first) bucket places s (length places)) (sym empty)
            (nothing_leads index.links (next_first index.first) bucket places 64 (length places) (omega (arith, end, room)) none);
        within = inr (ap (position (next_first index.first)) empty ∙ end);
      }

  stays : (bucket : ℕ) → bucket < 32 → Stays bucket
  stays bucket few = elim (same_or_not (position index.first (get_or index.heads bucket 64)) 0) [
    | inl e ↦ ends bucket few e
    | inr differs ↦ goes_on bucket few differs
  ]

  pub left : IsIndex rest places
  left = record {
    heads = cleared_length index.heads index.first oldest ∙ h.heads;
    links = h.links;
    first = omega arith;
    leads = λ bucket few. (stays bucket few).leads;
    within = λ bucket few. (stays bucket few).within;
    counts = counted_length index.counts oldest ∙ h.counts;
    counted = counted_left index.counts oldest places h.counts h.counted;
  }
