-- Lists whose words are put, or taken, one after the other.
use Rattle.std.proofs.Common.{◌≡◌, ◌<◌, ◌≤◌, ◌+◌, ◌++◌, ◌∙◌, ℕ, zero, suc, List, [], ◌∷◌, length, take, sym, refl, ap, append_assoc, append-nil, arith, Option, Some, None, subst}
use Rattle.std.specs.List.{flat_map, slice_get}
use Rattle.std.proofs.lemmas.List.{flat_map_more, length_push, take_all}
use Rattle.iom_ddt.specs.declared.context.Context.{Context}
use Rattle.iom_nested.specs.declared.translation.Hit.{Hit}
use Rattle.iom_cache.specs.declared.key.Key.{Key}
use Rattle.iom_cache.specs.Places.{place_in}
use Rattle.iom_blk.specs.Device.{Device}
use Rattle.iom_messages.specs.declared.messages.Message.{Message}
use Rattle.iom_core.specs.State.{device_id_end, EachFits}
use Rattle.iom_saved.specs.Boards.{numbered_words, own_words}
use Rattle.iom_saved.specs.Caches.{context_place_words, page_place_words}
use Rattle.iom_saved.specs.Messages.{message_seen_words, message_words}
use Rattle.iom_saved.specs.Seen.{context_seen_words, page_seen_words}
use Rattle.iom_saved.specs.Whole.{EachWhole, IsWhole, IsWholeIf}

-- the pieces of a list up to an element, and that of the next
pub next_piece : {X : Type 0} (f : X → List ℕ) (g : Option X → List ℕ) → ((x : X) → g (Some x) ≡ f x) → (xs : List X) (i : ℕ) → i < length xs →
    flat_map f (take (suc i) xs) ≡ flat_map f (take i xs) ++ g (slice_get xs i)
next_piece f g same [] i within = absurd (omega arith)
next_piece f g same (x ∷ xs) zero within = append-nil (f x) ∙ sym (same x)
next_piece f g same (x ∷ xs) (suc i) within =
    ap (λ (l : List ℕ). f x ++ l) (next_piece f g same xs i (omega arith)) ∙ sym (append_assoc (f x) (flat_map f (take i xs)) (g (slice_get xs i)))

context_same : (place : Option (ℕ × Context)) → context_seen_words (place_in (Some place)) ≡ context_place_words place
context_same None = refl
context_same (Some entry) = refl

page_same : (place : Option (Key × Hit)) → page_seen_words (place_in (Some place)) ≡ page_place_words place
page_same None = refl
page_same (Some entry) = refl

-- what is put behind what was put before
pub put_behind : (start front piece more out new : List ℕ) → out ≡ start ++ front → new ≡ out ++ piece → more ≡ front ++ piece → new ≡ start ++ more
put_behind start front piece more out new first second are =
    second ∙ ap (λ (l : List ℕ). l ++ piece) first ∙ append_assoc start front piece ∙ sym (ap (λ (l : List ℕ). start ++ l) are)

-- the next of a list is put
pub next_put : {X : Type 0} (f : X → List ℕ) (g : Option X → List ℕ) → ((x : X) → g (Some x) ≡ f x) → (xs : List X) (i : ℕ) (start out new : List ℕ) →
    i < length xs → out ≡ start ++ flat_map f (take i xs) → new ≡ out ++ g (slice_get xs i) → new ≡ start ++ flat_map f (take (i + 1) xs)
next_put f g same xs i start out new within first second =
    let step : i + 1 ≡ suc i = omega arith in
    rw step (put_behind start _ _ _ out new first second (next_piece f g same xs i within))

pub next_context : (places : List (Option (ℕ × Context))) (i : ℕ) (start out new : List ℕ) → i < length places →
    out ≡ start ++ flat_map context_place_words (take i places) → new ≡ out ++ context_seen_words (place_in (slice_get places i)) →
    new ≡ start ++ flat_map context_place_words (take (i + 1) places)
next_context = next_put context_place_words (λ o. context_seen_words (place_in o)) context_same

pub next_page : (places : List (Option (Key × Hit))) (i : ℕ) (start out new : List ℕ) → i < length places →
    out ≡ start ++ flat_map page_place_words (take i places) → new ≡ out ++ page_seen_words (place_in (slice_get places i)) →
    new ≡ start ++ flat_map page_place_words (take (i + 1) places)
next_page = next_put page_place_words (λ o. page_seen_words (place_in o)) page_same

pub next_device : (devices : List (ℕ × Device)) (n : ℕ) (start out new : List ℕ) → n < length devices →
    out ≡ start ++ flat_map own_words (take n devices) → new ≡ out ++ numbered_words (slice_get devices n) →
    new ≡ start ++ flat_map own_words (take (n + 1) devices)
next_device = next_put own_words numbered_words (λ own. refl)

pub next_message : (kept : List Message) (i : ℕ) (start out new : List ℕ) → i < length kept →
    out ≡ start ++ flat_map message_words (take i kept) → new ≡ out ++ message_seen_words (slice_get kept i) →
    new ≡ start ++ flat_map message_words (take (i + 1) kept)
next_message = next_put message_words message_seen_words (λ message. refl)

-- all of a list are put
pub put_all : {X : Type 0} (f : X → List ℕ) (xs : List X) (n : ℕ) (start new : List ℕ) → length xs ≤ n → new ≡ start ++ flat_map f (take n xs) →
    new ≡ start ++ flat_map f xs
put_all f xs n start new past are = are ∙ ap (λ l. start ++ flat_map f l) (take_all n xs past)

-- one more was taken
pub take_next : {X : Type 0} (f : X → List ℕ) (xs : List X) (x : X) (start mid new : List ℕ) → start ≡ flat_map f xs ++ mid → mid ≡ f x ++ new →
    start ≡ flat_map f (xs ++ x ∷ []) ++ new
take_next f xs x start mid new first second =
    first ∙ ap (λ (l : List ℕ). flat_map f xs ++ l) second ∙ sym (append_assoc (flat_map f xs) (f x) new)
    ∙ ap (λ (l : List ℕ). l ++ new) (flat_map_more f [] xs x)

-- one device more, whose id fits, whose disk is whole
pub fits_more : (devices : List (ℕ × Device)) (own : ℕ × Device) → EachFits devices → own.0 < device_id_end → EachFits (devices ++ own ∷ [])
fits_more [] own fit fits = (fits, tt)
fits_more (one ∷ more) own fit fits = (fit.0, fits_more more own fit.1 fits)

pub whole_more : (devices : List (ℕ × Device)) (own : ℕ × Device) → EachWhole devices → IsWhole own.1.disk → EachWhole (devices ++ own ∷ [])
whole_more [] own whole is = (is, tt)
whole_more (one ∷ more) own whole is = (whole.0, whole_more more own whole.1 is)

whole_next : (devices : List (ℕ × Device)) (n : ℕ) → n < length devices → EachWhole (take n devices) → IsWholeIf (slice_get devices n) → EachWhole (take (suc n) devices)
whole_next [] n within whole is = absurd (omega (arith, within))
whole_next (one ∷ more) zero within whole is = (is, tt)
whole_next (one ∷ more) (suc n) within whole is = (whole.0, whole_next more n (omega (arith, within)) whole.1 is)

pub whole_step : (devices : List (ℕ × Device)) (n : ℕ) → n < length devices → EachWhole (take n devices) → IsWholeIf (slice_get devices n) → EachWhole (take (n + 1) devices)
whole_step devices n within whole is =
    let step : n + 1 ≡ suc n = omega arith in
    rw step (whole_next devices n within whole is)

pub whole_all : (devices : List (ℕ × Device)) (n : ℕ) → length devices ≤ n → EachWhole (take n devices) → EachWhole devices
whole_all devices n past whole = subst EachWhole (take_all n devices past) whole

pub one_longer : {X : Type 0} (xs : List X) (x : X) (count : ℕ) → length xs ≡ count → length (xs ++ x ∷ []) ≡ count + 1
one_longer xs x count is = length_push xs x ∙ ap (λ (n : ℕ). n + 1) is
