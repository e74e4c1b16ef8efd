-- The buckets of the index, as a place is filled and as the oldest leaves.
use Rattle.std.proofs.Common.{◌≡◌, ◌≢◌, ◌+◌, ◌%◌, ◌<◌, ◌≤◌, ◌⊎◌, ℕ, zero, suc, List, ◌∷◌, get_or, Bool, true, false, Option, None, refl, sym, subst, inl, inr, arith}
use Rattle.std.proofs.lemmas.Bool.{cases_lt}
use Rattle.iom_nested.specs.declared.translation.Hit.{Hit}
use Rattle.iom_cache.specs.declared.key.Key.{Key}
use Rattle.iom_cache.specs.Buckets.{is_in}
use Rattle.iom_cache.specs.Index.{Leads, LeadsAt, is_in_at, position}

-- where a slot's place goes as the oldest leaves
abbrev pub next_first : ℕ → ℕ
next_first first = (first + 1) % 64

pub position_oldest : (first slot : ℕ) → first < 64 → position first slot ≡ 0 → slot ≡ first
unfolding position
position_oldest first slot small e = grind arith

pub position_down : (first slot n : ℕ) → first < 64 → n < 63 → position first slot ≡ suc n → position (next_first first) slot ≡ n
unfolding position
position_down first slot n small low e = grind arith

pub position_up : (first slot n : ℕ) → first < 64 → n < 63 → position (next_first first) slot ≡ n → position first slot ≡ suc n
unfolding position
position_up first slot n small low e = grind arith

pub position_end : (first : ℕ) → position first 64 ≡ 64
unfolding position
position_end first = refl

pub position_first : (first : ℕ) → first < 64 → position first first ≡ 0
unfolding position
position_first first small = grind arith

pub position_stays : (first slot : ℕ) → position first slot ≡ 64 → position (next_first first) slot ≡ 64
unfolding position
position_stays first slot none = grind arith

pub position_past : (first slot : ℕ) → first < 64 → position first slot ≡ 64 ⊎ position first slot < 64
unfolding position
position_past first slot small = grind arith

pub position_filled : (first at : ℕ) → first < 64 → at < 64 → position first ((first + at) % 64) ≡ at
unfolding position
position_filled first at small low = grind arith

pub position_few : (first slot : ℕ) → position first slot ≢ 64 → slot < 64
unfolding position
position_few first slot some = grind arith

module _ (links : List ℕ) (first bucket : ℕ) (places : List (Option (Key × Hit))) where
  abbrev Here : ℕ → ℕ → Type 0
  Here = Leads links first bucket places

  -- a slot whose place isn't below n has none of the bucket below n
  pub none_below : (slot n : ℕ) → Here slot n → n ≤ position first slot → (j : ℕ) → j < n → is_in_at bucket places j ≡ false
  none_below slot zero h far j low = absurd (omega arith)
  none_below slot (suc n) h far j low =
      let Goal : Bool → Type 0 = λ b. is_in_at bucket places n ≡ b → LeadsAt b (position first slot) n (Here (get_or links slot 64) n) (Here slot n) →
      is_in_at bucket places j ≡ false in
      let by_test : (b : Bool) → Goal b = λ b. elim b as Goal [
        | true ↦ λ is h. let at = h.0 in absurd (omega arith)
        | false ↦ λ is h. elim (cases_lt j n) [
          | inl lt ↦ none_below slot n h.1 (omega arith) j lt
          | inr ge ↦ let same : n ≡ j = omega arith in subst (λ (k : ℕ). is_in_at bucket places k ≡ false) same is
        ]
      ] in by_test (is_in_at bucket places n) refl h

  -- where no place below n is of the bucket, a slot whose place isn't below n leads
  pub nothing_leads : (slot n : ℕ) → n ≤ position first slot → ((j : ℕ) → j < n → is_in_at bucket places j ≡ false) → Here slot n
  nothing_leads slot zero far none = tt
  nothing_leads slot (suc n) far none =
      subst (λ (b : Bool). LeadsAt b (position first slot) n (Here (get_or links slot 64) n) (Here slot n)) (sym (none n (omega arith)))
      ((λ at. absurd (omega arith)), nothing_leads slot n (omega arith) (λ j low. none j (omega arith)))

-- A slot whose place is below n is of the bucket, leads on, and no place above it is of the bucket.
pub record Led (links : List ℕ) (first bucket : ℕ) (places : List (Option (Key × Hit))) (slot at n : ℕ) : Type 0 where
  pub is : is_in_at bucket places at ≡ true
  pub behind : Leads links first bucket places (get_or links slot 64) at
  pub above : (j : ℕ) → at < j → j < n → is_in_at bucket places j ≡ false

pub led_to : (links : List ℕ) (first bucket : ℕ) (places : List (Option (Key × Hit))) (slot n : ℕ) → Leads links first bucket places slot n →
    position first slot < n → Led links first bucket places slot (position first slot) n
led_to links first bucket places slot zero h low = absurd (omega arith)
led_to links first bucket places slot (suc n) h low =
    let Here = Leads links first bucket places in
    let Goal : Bool → Type 0 = λ b. is_in_at bucket places n ≡ b → LeadsAt b (position first slot) n (Here (get_or links slot 64) n) (Here slot n) →
    Led links first bucket places slot (position first slot) (suc n) in
    let by_test : (b : Bool) → Goal b = λ b. elim b as Goal [
      | true ↦ λ is h. record {
        is = subst (λ (k : ℕ). is_in_at bucket places k ≡ true) (sym h.0) is;
        behind = subst (λ (k : ℕ). Here (get_or links slot 64) k) (sym h.0) h.1;
        above = λ j after lt. let at = h.0 in absurd (omega arith);
      }
      | false ↦ λ is h.
          let other : position first slot ≢ n = h.0 in
          let r = led_to links first bucket places slot n h.1 (omega arith) in record {
            is = r.is;
            behind = r.behind;
            above = λ j after lt. elim (cases_lt j n) [
              | inl below ↦ r.above j after below
              | inr ge ↦ let same : n ≡ j = omega arith in subst (λ (k : ℕ). is_in_at bucket places k ≡ false) same is
            ];
          }
    ] in by_test (is_in_at bucket places n) refl h

-- what stands at places and slots that are not below m does nothing to what leads below m
pub frame : (links links' : List ℕ) (first bucket : ℕ) (places places' : List (Option (Key × Hit))) (m : ℕ) →
    ((j : ℕ) → j < m → get_or places' j None ≡ get_or places j None) →
    ((slot : ℕ) → position first slot < m → get_or links' slot 64 ≡ get_or links slot 64) →
    (slot n : ℕ) → n ≤ m → Leads links first bucket places slot n → Leads links' first bucket places' slot n
frame links links' first bucket places places' m same kept slot zero few h = tt
frame links links' first bucket places places' m same kept slot (suc n) few h =
    let New = Leads links' first bucket places' in
    let Goal : Bool → Type 0 = λ b. LeadsAt b (position first slot) n (Leads links first bucket places (get_or links slot 64) n) (Leads links first bucket places slot n) →
    LeadsAt b (position first slot) n (New (get_or links' slot 64) n) (New slot n) in
    let by_test : (b : Bool) → Goal b = λ b. elim b as Goal [
      | true ↦ λ h.
          let at : position first slot ≡ n = h.0 in (
            at,
            subst (λ (s : ℕ). New s n) (sym (kept slot (omega arith)))
                (frame links links' first bucket places places' m same kept (get_or links slot 64) n (omega arith) h.1),
          )
      | false ↦ λ h. (h.0, frame links links' first bucket places places' m same kept slot n (omega arith) h.1)
    ] in
    subst (λ (place : Option (Key × Hit)). LeadsAt (is_in bucket place) (position first slot) n (New (get_or links' slot 64) n) (New slot n))
    (sym (same n (omega arith))) (by_test (is_in_at bucket places n) h)

-- the oldest place leaves
pub shift : (links : List ℕ) (first bucket : ℕ) (oldest : Option (Key × Hit)) (places : List (Option (Key × Hit))) → first < 64 →
    (slot n : ℕ) → n ≤ 63 → Leads links first bucket (oldest ∷ places) slot (suc n) → Leads links (next_first first) bucket places slot n
shift links first bucket oldest places small slot zero few h = tt
shift links first bucket oldest places small slot (suc n) few h =
    let Old = Leads links first bucket (oldest ∷ places) in
    let New = Leads links (next_first first) bucket places in
    let Goal : Bool → Type 0 = λ b. LeadsAt b (position first slot) (suc n) (Old (get_or links slot 64) (suc n)) (Old slot (suc n)) →
    LeadsAt b (position (next_first first) slot) n (New (get_or links slot 64) n) (New slot n) in
    let by_test : (b : Bool) → Goal b = λ b. elim b as Goal [
      | true ↦ λ h. (
        position_down first slot n small (omega arith) h.0,
        shift links first bucket oldest places small (get_or links slot 64) n (omega arith) h.1,
      )
      | false ↦ λ h. (
        (λ at. h.0 (position_up first slot n small (omega arith) at)),
        shift links first bucket oldest places small slot n (omega arith) h.1,
      )
    ] in by_test (is_in_at bucket places n) h
