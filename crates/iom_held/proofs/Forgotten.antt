-- Shelves from which a command takes entries, one shelf after the other.
use Rattle.std.proofs.Common.{◌≡◌, ◌∙◌, ◌+◌, ◌≤◌, ◌++◌, ℕ, zero, suc, List, [], ◌∷◌, length, Some, add-one, arith, refl, sym, ap, subst}
use Rattle.std.specs.Prelude.{slice_get, slice_set}
use Rattle.iom_choices.specs.Systems.{IsAmong}
use Rattle.iom_every.specs.declared.entry.Entry.{Entry}
use Rattle.iom_held.specs.Kept.{entries_in, entry_of, left_by}
use Rattle.iom_held.specs.Shelves.{Shelf, StandInPlace, entries_on, slot_of}
use Rattle.iom_held.specs.Tags.{tag_of}
use Rattle.iom_held.specs.declared.kept.Kept.{Kept}
use Rattle.iom_held.proofs.Left.{left_both, left_entry, left_none}
use Rattle.iom_held.proofs.Lists.{IsFrom, among_of, from_among}
use Rattle.iom_held.proofs.Places.{some_is}
use Rattle.iom_queue.specs.declared.command.Command.{Command}

-- the first n shelves have what is left, and the others are the same
abbrev pub LeftTo : ℕ → Command → ℕ → List Shelf → List Shelf → Type 0
LeftTo number command zero before after = after ≡ before
LeftTo number command (suc n) [] [] = Unit {0}
LeftTo number command (suc n) [] (new ∷ after) = ⊥
LeftTo number command (suc n) (old ∷ before) [] = ⊥
LeftTo number command (suc n) (old ∷ before) (new ∷ after) = (new.items ≡ left_by number (Some command) old.items) × LeftTo number command n before after

left_suc : (number : ℕ) (command : Command) (i : ℕ) (before after : List Shelf) (own new : Shelf) → LeftTo number command i before after → slice_get after i ≡ Some own →
    new.items ≡ left_by number (Some command) own.items → LeftTo number command (suc i) before (slice_set after i new)
left_suc number command zero before [] own new h is left = absurd (cc)
left_suc number command zero before (x ∷ after) own new h is left =
    subst (λ (before : List Shelf). LeftTo number command (suc zero) before (new ∷ after)) h
    (left ∙ ap (λ (own : Shelf). left_by number (Some command) own.items) (sym (some_is is)), refl)
left_suc number command (suc i) [] [] own new h is left = absurd (cc)
left_suc number command (suc i) [] (y ∷ after) own new h is left = absurd h
left_suc number command (suc i) (x ∷ before) [] own new h is left = absurd h
left_suc number command (suc i) (x ∷ before) (y ∷ after) own new h is left = (h.0, left_suc number command i before after own new h.1 is left)

pub left_step : (number : ℕ) (command : Command) (i : ℕ) (before after : List Shelf) (own new : Shelf) → LeftTo number command i before after → slice_get after i ≡ Some own →
    new.items ≡ left_by number (Some command) own.items → LeftTo number command (i + 1) before (slice_set after i new)
left_step number command i before after own new h is left =
    subst (λ (n : ℕ). LeftTo number command n before (slice_set after i new)) (sym (add-one i)) (left_suc number command i before after own new h is left)

pub left_all : (number : ℕ) (command : Command) (n : ℕ) (before after : List Shelf) → LeftTo number command n before after → length before ≤ n →
    entries_on after ≡ left_by number (Some command) (entries_on before)
left_all number command zero [] after h small = ap entries_on h ∙ sym (left_none number command)
left_all number command zero (x ∷ before) after h small = absurd (omega (arith, small))
left_all number command (suc n) [] [] h small = sym (left_none number command)
left_all number command (suc n) [] (y ∷ after) h small = absurd h
left_all number command (suc n) (x ∷ before) [] h small = absurd h
left_all number command (suc n) (x ∷ before) (y ∷ after) h small =
    ap (λ (xs : List Kept). xs ++ entries_on after) h.0
    ∙ (ap (λ (ys : List Kept). left_by number (Some command) x.items ++ ys) (left_all number command n before after h.1 (omega (arith, small)))
    ∙ sym (left_both number command x.items (entries_on before)))

record WasOn (before : List Shelf) (k : ℕ) (new : Shelf) : Type 0 where
  old : Shelf
  is : slice_get before k ≡ Some old
  among : (kept : Kept) → IsAmong new.items kept → IsAmong (entries_in old.items) kept.entry

was_on : (number : ℕ) (command : Command) (n : ℕ) (before after : List Shelf) (k : ℕ) (new : Shelf) → LeftTo number command n before after → slice_get after k ≡ Some new → WasOn before k new
was_on number command zero before after k new h is = record { old = new; is = ap (λ (s : List Shelf). slice_get s k) (sym h) ∙ is; among = λ kept a. among_of entry_of new.items kept a }
was_on number command (suc n) [] [] k new h is = absurd (cc)
was_on number command (suc n) [] (y ∷ after) k new h is = absurd h
was_on number command (suc n) (x ∷ before) [] k new h is = absurd h
was_on number command (suc n) (x ∷ before) (y ∷ after) zero new h is =
    subst (WasOn (x ∷ before) zero) (some_is is)
    (record { old = x; is = refl; among = λ kept a. left_entry number (Some command) x.items kept (subst (λ (xs : List Kept). IsAmong xs kept) h.0 a) })
was_on number command (suc n) (x ∷ before) (y ∷ after) (suc k) new h is =
    let w : WasOn before k new = was_on number command n before after k new h.1 is in record { old = w.old; is = w.is; among = w.among }

left_length : (number : ℕ) (command : Command) (n : ℕ) (before after : List Shelf) → LeftTo number command n before after → length after ≡ length before
left_length number command zero before after h = ap (λ (s : List Shelf). length s) h
left_length number command (suc n) [] [] h = refl
left_length number command (suc n) [] (y ∷ after) h = absurd h
left_length number command (suc n) (x ∷ before) [] h = absurd h
left_length number command (suc n) (x ∷ before) (y ∷ after) h = ap (λ (m : ℕ). suc m) (left_length number command n before after h.1)

pub left_in_place : (number : ℕ) (command : Command) (n : ℕ) (before after : List Shelf) → LeftTo number command n before after → StandInPlace before → StandInPlace after
left_in_place number command n before after h place = λ k new kept is among.
    let w : WasOn before k new = was_on number command n before after k new h is in
    let f : IsFrom entry_of w.old.items kept.entry = from_among entry_of w.old.items kept.entry (w.among kept among) in
    subst (λ (m : ℕ). slot_of m (tag_of kept.entry) ≡ k) (sym (left_length number command n before after h))
    (subst (λ (entry : Entry). slot_of (length before) (tag_of entry) ≡ k) f.is (place k w.old f.thing w.is f.among))
