-- What was put is taken: what is left when some of a list were taken.
use Rattle.std.proofs.Common.{◌≡◌, ◌<◌, ◌≤◌, ◌+◌, ◌++◌, ◌∙◌, ℕ, zero, suc, List, [], ◌∷◌, length, take, append_assoc, append-nil, length-append, refl, sym, ap, ap₂, subst, arith, Option, Some, None}
use Rattle.std.specs.Prelude.{is_some, slice_set}
use Rattle.std.specs.List.{AllByRecursion, flat_map, slice_get}
use Rattle.std.proofs.lemmas.List.{take_all}
use Rattle.iom_ddt.specs.declared.context.Context.{Context}
use Rattle.iom_regs.specs.declared.vectors.MsiVector.{MsiVector}
use Rattle.iom_nested.specs.declared.translation.Hit.{Hit}
use Rattle.iom_cache.specs.declared.key.Key.{Key}
use Rattle.iom_messages.specs.Messages.{Messages}
use Rattle.iom_messages.specs.declared.messages.Message.{Message}
use Rattle.iom_messages.specs.declared.window.Window.{Window}
use Rattle.iom_cache.specs.Places.{place_in}
use Rattle.iom_blk.specs.Device.{Device}
use Rattle.iom_core.specs.State.{EachFits}
use Rattle.iom_bits.specs.Bits.{flag}
use Rattle.iom_saved.specs.Caches.{context_place_words, context_words, hit_words, id_words, key_words, page_place_words}
use Rattle.iom_saved.specs.Kept.{IsContextPlace, IsDevice, IsOwn, IsPagePlace}
use Rattle.iom_saved.specs.Messages.{window_words}
use Rattle.iom_saved.specs.Seen.{IsContextSeen, IsPageSeen}

-- these were taken of a list, and the others are left in front of the rest
pub record Went {X : Type 0} (f : X → List ℕ) (Is : X → Type 0) (all taken : List X) (rest words : List ℕ) : Type 0 where
  pub more : List X
  pub whole : all ≡ taken ++ more
  pub are : AllByRecursion Is more
  pub left : words ≡ flat_map f more ++ rest

-- another one is next
pub record GoesOn {X : Type 0} (f : X → List ℕ) (Is : X → Type 0) (all taken : List X) (rest words : List ℕ) : Type 0 where
  pub one : X
  pub is : Is one
  pub more : List X
  pub whole : all ≡ taken ++ one ∷ more
  pub are : AllByRecursion Is more
  pub left : words ≡ f one ++ (flat_map f more ++ rest)

pub begun : {X : Type 0} (f : X → List ℕ) (Is : X → Type 0) (all taken : List X) (rest left : List ℕ) → taken ≡ [] → left ≡ flat_map f all ++ rest →
    AllByRecursion Is all → Went f Is all taken rest left
begun f Is all taken rest left none are each = record { more = all; whole = sym (ap (λ l. l ++ all) none); are = each; left = are }

pub goes_on : {X : Type 0} (f : X → List ℕ) (Is : X → Type 0) (all taken : List X) (rest left : List ℕ) → Went f Is all taken rest left →
    length taken < length all → GoesOn f Is all taken rest left
goes_on {X} f Is all taken rest left went fewer =
    let Goal : List X → Type 0 = λ more. all ≡ taken ++ more → AllByRecursion Is more → left ≡ flat_map f more ++ rest → GoesOn f Is all taken rest left in
    let by_more : (more : List X) → Goal more = λ more. elim more as Goal [
      | [] ↦ λ whole are is.
          let same : length all ≡ length taken = ap length whole ∙ ap length (append-nil taken) in absurd (omega (arith, same, fewer))
      | one ∷ more ↦ λ whole are is. record { one = one; is = are.0; more = more; whole = whole; are = are.1; left = is ∙ append_assoc (f one) (flat_map f more) rest }
    ] in by_more went.more went.whole went.are went.left

pub went_on : {X : Type 0} (f : X → List ℕ) (Is : X → Type 0) (all taken new : List X) (one : X) (rest left after : List ℕ) →
    (g : GoesOn f Is all taken rest left) → one ≡ g.one → after ≡ flat_map f g.more ++ rest → new ≡ taken ++ one ∷ [] → Went f Is all new rest after
went_on {X} f Is all taken new one rest left after g same is added =
    let these : new ≡ taken ++ g.one ∷ [] = added ∙ ap (λ (x : X). taken ++ x ∷ []) same in
    record {
      more = g.more;
      whole = g.whole ∙ sym (append_assoc taken (g.one ∷ []) g.more) ∙ sym (ap (λ (l : List X). l ++ g.more) these);
      are = g.are;
      left = is;
    }

-- all were taken
pub went_all : {X : Type 0} (f : X → List ℕ) (Is : X → Type 0) (all taken : List X) (rest left : List ℕ) → Went f Is all taken rest left →
    length all ≤ length taken → (taken ≡ all) × (left ≡ rest)
went_all {X} f Is all taken rest left went no_fewer =
    let Goal : List X → Type 0 = λ more. all ≡ taken ++ more → left ≡ flat_map f more ++ rest → (taken ≡ all) × (left ≡ rest) in
    let by_more : (more : List X) → Goal more = λ more. elim more as Goal [
      | [] ↦ λ whole is. (sym (append-nil taken) ∙ sym whole, is)
      | one ∷ more ↦ λ whole is.
          let longer : length all ≡ length taken + suc (length more) = ap length whole ∙ length-append taken (one ∷ more) in absurd (omega (arith, longer, no_fewer))
    ] in by_more went.more went.whole went.left

-- the elements so far are such, and the next one is
each_next : {X : Type 0} (Is : X → Type 0) (Seen : Option X → Type 0) → ((x : X) → Seen (Some x) → Is x) → (xs : List X) (i : ℕ) → i < length xs →
    AllByRecursion Is (take i xs) → Seen (slice_get xs i) → AllByRecursion Is (take (suc i) xs)
each_next Is Seen gives [] i within each seen = absurd (omega (arith, within))
each_next Is Seen gives (x ∷ xs) zero within each seen = (gives x seen, tt)
each_next Is Seen gives (x ∷ xs) (suc i) within each seen = (each.0, each_next Is Seen gives xs i (omega (arith, within)) each.1 seen)

pub each_step : {X : Type 0} (Is : X → Type 0) (Seen : Option X → Type 0) → ((x : X) → Seen (Some x) → Is x) → (xs : List X) (i : ℕ) → i < length xs →
    AllByRecursion Is (take i xs) → Seen (slice_get xs i) → AllByRecursion Is (take (i + 1) xs)
each_step Is Seen gives xs i within each seen =
    let step : i + 1 ≡ suc i = omega arith in rw step (each_next Is Seen gives xs i within each seen)

pub each_all : {X : Type 0} (Is : X → Type 0) (xs : List X) (n : ℕ) → length xs ≤ n → AllByRecursion Is (take n xs) → AllByRecursion Is xs
each_all Is xs n past each = subst (AllByRecursion Is) (take_all n xs past) each

pub seen_context : (place : Option (ℕ × Context)) → IsContextSeen (place_in (Some place)) → IsContextPlace place
seen_context None seen = tt
seen_context (Some entry) seen = seen

pub seen_page : (place : Option (Key × Hit)) → IsPageSeen (place_in (Some place)) → IsPagePlace place
seen_page None seen = tt
seen_page (Some entry) seen = seen

-- each device behind its id
pub each_own : (devices : List (ℕ × Device)) → EachFits devices → AllByRecursion (λ (own : ℕ × Device). IsDevice own.1) devices → AllByRecursion IsOwn devices
each_own [] fit each = tt
each_own (own ∷ more) fit each = ((fit.0, each.0), each_own more fit.1 each.1)

-- the flag in front of an id, and of a place
abbrev pub id_or_0 : Option ℕ → ℕ
id_or_0 None = 0
id_or_0 (Some id) = id

pub id_front : (id : Option ℕ) (rest : List ℕ) → id_words id ++ rest ≡ flag (is_some id) ∷ id_or_0 id ∷ rest
id_front None rest = refl
id_front (Some id) rest = refl

abbrev pub behind_context : Option (ℕ × Context) → List ℕ → List ℕ
behind_context None rest = rest
behind_context (Some entry) rest = entry.0 ∷ (context_words entry.1 ++ rest)

pub context_front : (place : Option (ℕ × Context)) (rest : List ℕ) → context_place_words place ++ rest ≡ flag (is_some place) ∷ behind_context place rest
context_front None rest = refl
context_front (Some entry) rest = refl

abbrev pub behind_page : Option (Key × Hit) → List ℕ → List ℕ
behind_page None rest = rest
behind_page (Some entry) rest = (key_words entry.0 ++ hit_words entry.1) ++ rest

pub page_front : (place : Option (Key × Hit)) (rest : List ℕ) → page_place_words place ++ rest ≡ flag (is_some place) ∷ behind_page place rest
page_front None rest = refl
page_front (Some entry) rest = refl

-- the flag in front of a window, and its base and its size
abbrev pub base_or_0 : Option Window → ℕ
base_or_0 None = 0
base_or_0 (Some window) = window.base

abbrev pub size_or_0 : Option Window → ℕ
size_or_0 None = 0
size_or_0 (Some window) = window.size

pub window_front : (window : Option Window) (rest : List ℕ) → window_words window ++ rest ≡ flag (is_some window) ∷ base_or_0 window ∷ size_or_0 window ∷ rest
window_front None rest = refl
window_front (Some window) rest = refl

-- messages with the same parts
pub messages_same : (a b : Messages) → a.window ≡ b.window → a.sent ≡ b.sent → a.kept ≡ b.kept → a ≡ b
messages_same a b window sent kept =
    ap₂ (λ (front : Option Window × ℕ) (messages : List Message). record { window = front.0; sent = front.1; kept = messages })
    (ap₂ (λ (w : Option Window) (n : ℕ). (w, n)) window sent) kept

-- one element put in its place
pub length_set : {X : Type 0} (xs : List X) (i : ℕ) (x : X) → length (slice_set xs i x) ≡ length xs
length_set [] i x = refl
length_set (y ∷ ys) zero x = refl
length_set (y ∷ ys) (suc i) x = ap suc (length_set ys i x)

set_next : {X : Type 0} (xs : List X) (i : ℕ) (x : X) → i < length xs → take (suc i) (slice_set xs i x) ≡ take i xs ++ x ∷ []
set_next [] i x within = absurd (omega (arith, within))
set_next (y ∷ ys) zero x within = refl
set_next (y ∷ ys) (suc i) x within = ap (λ l. y ∷ l) (set_next ys i x (omega (arith, within)))

pub take_set : {X : Type 0} (xs : List X) (i : ℕ) (x : X) → i < length xs → take (i + 1) (slice_set xs i x) ≡ take i xs ++ x ∷ []
take_set xs i x within =
    let step : i + 1 ≡ suc i = omega arith in rw step (set_next xs i x within)

-- a table of four vectors, one by one
pub record Four (table : List MsiVector) : Type 0 where
  pub first : MsiVector
  pub second : MsiVector
  pub third : MsiVector
  pub fourth : MsiVector
  pub same : table ≡ first ∷ second ∷ third ∷ fourth ∷ []

pub four_of : (table : List MsiVector) → length table ≡ 4 → Four table
four_of [] room = absurd (omega (arith, room))
four_of (a ∷ []) room = absurd (omega (arith, room))
four_of (a ∷ b ∷ []) room = absurd (omega (arith, room))
four_of (a ∷ b ∷ c ∷ []) room = absurd (omega (arith, room))
four_of (a ∷ b ∷ c ∷ d ∷ []) room = record { first = a; second = b; third = c; fourth = d; same = refl }
four_of (a ∷ b ∷ c ∷ d ∷ e ∷ more) room = absurd (omega (arith, room))
