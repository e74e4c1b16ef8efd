-- Shelves on which each entry stands in its place, and once, with a note whether a command may name one.
use Rattle.std.proofs.Common.{◌≡◌, ◌∙◌, ◌||◌, not, ℕ, Bool, true, false, List, [], ◌∷◌, Option, Some, None, map, refl, sym, ap, subst, inl, inr}
use Rattle.std.specs.List.{AllByRecursion}
use Rattle.std.specs.Option.{is_none}
use Rattle.std.specs.Prelude.{filter, is_some}
use Rattle.iom_choices.specs.Systems.{IsAmong}
use Rattle.iom_choices.proofs.Lists.{each_of, each_weaker, passed}
use Rattle.iom_every.specs.Every.{is_fence}
use Rattle.iom_every.specs.Making.{is_leaf_of_stage}
use Rattle.iom_every.specs.declared.entry.Entry.{Entry}
use Rattle.iom_held.specs.Kept.{AreSpared, HasNoneTwice, Renews, entries_in, entry_of, is_spared, kept_at, left_by, may_lend}
use Rattle.iom_held.specs.Shelves.{AreSound, Shelf, StandInPlace, entries_on}
use Rattle.iom_held.specs.declared.kept.Kept.{Kept}
use Rattle.iom_held.proofs.Each.{false_not}
use Rattle.iom_held.proofs.Left.{fence_leaves, left_once, test_once}
use Rattle.iom_queue.specs.declared.command.Command.{Command}

at_each : (P : Kept → Type 0) (all : List Kept) (kept : Kept) → AllByRecursion P all → IsAmong all kept → P kept
at_each P [] kept each h = absurd h
at_each P (one ∷ all) kept each (inl same) = subst P same each.0
at_each P (one ∷ all) kept each (inr h) = at_each P all kept each.1 h

-- the same entries elsewhere
pub sound_same : (named : Bool) (before after : List Shelf) → entries_on after ≡ entries_on before → StandInPlace after → AreSound named before → AreSound named after
sound_same named before after same place sound = record {
  in_place = place;
  once = subst (λ (all : List Kept). HasNoneTwice (entries_in all)) (sym same) sound.once;
  spared = λ none. subst AreSpared (sym same) (sound.spared none);
}

pub sound_none : (shelves : List Shelf) → entries_on shelves ≡ [] → StandInPlace shelves → AreSound false shelves
sound_none shelves none place = record {
  in_place = place;
  once = subst (λ (all : List Kept). HasNoneTwice (entries_in all)) (sym none) tt;
  spared = λ off. subst AreSpared (sym none) tt;
}

none_if : (unfenced : Option ℕ) → is_some unfenced ≡ false → is_none unfenced ≡ true
none_if None off = refl
none_if (Some number) off = absurd (cc)

-- one alone
pub sound_one : (kept : Kept) (named : Bool) (shelves : List Shelf) → named ≡ is_some kept.unfenced → entries_on shelves ≡ kept ∷ [] → StandInPlace shelves → AreSound named shelves
sound_one kept named shelves is only place = record {
  in_place = place;
  once = subst (λ (all : List Kept). HasNoneTwice (entries_in all)) (sym only) ((λ h. h), tt);
  spared = λ off. subst AreSpared (sym only) (none_if kept.unfenced (sym is ∙ off), tt);
}

-- some put in, with these numbers
put_spared : (number : ℕ) (unfenced : Option ℕ) (entries : List Entry) (kept : Kept) → is_some unfenced ≡ false → IsAmong (map (kept_at number unfenced) entries) kept → is_spared kept ≡ true
put_spared number unfenced [] kept off h = absurd h
put_spared number unfenced (entry ∷ entries) kept off (inl same) = ap is_spared (sym same) ∙ none_if unfenced off
put_spared number unfenced (entry ∷ entries) kept off (inr h) = put_spared number unfenced entries kept off h

neither : (a b : Bool) → (a || b) ≡ false → (a ≡ false) × (b ≡ false)
neither true b off = absurd (cc)
neither false b off = (refl, off)

pub sound_put : (named now : Bool) (before after : List Shelf) (held : List Kept) (number : ℕ) (unfenced : Option ℕ) (entries : List Entry) → AreSound named before → entries_on before ≡ held →
    Renews entry_of (map (kept_at number unfenced) entries) held (entries_on after) → StandInPlace after → now ≡ (named || is_some unfenced) → AreSound now after
sound_put named now before after held number unfenced entries sound same put place is =
    let once : HasNoneTwice (entries_in held) = subst (λ (all : List Kept). HasNoneTwice (entries_in all)) same sound.once in
    record {
      in_place = place;
      once = put.once once;
      spared = λ off.
          let both : (named ≡ false) × (is_some unfenced ≡ false) = neither named (is_some unfenced) (sym is ∙ off) in
          each_of (λ (kept : Kept). is_spared kept ≡ true) (entries_on after) (λ kept h. elim (put.each once kept h) [
            | inl new ↦ put_spared number unfenced entries kept both.1 new
            | inr old ↦ at_each (λ (kept : Kept). is_spared kept ≡ true) held kept (subst AreSpared same (sound.spared both.0)) old.0
          ]);
    }

-- those that may lend
pub sound_lenders : (named : Bool) (copies shelves : List Shelf) → entries_on copies ≡ filter may_lend (entries_on shelves) → StandInPlace copies → AreSound named shelves → AreSound true copies
sound_lenders named copies shelves are place sound = record {
  in_place = place;
  once = subst (λ (all : List Kept). HasNoneTwice (entries_in all)) (sym are) (test_once may_lend (entries_on shelves) sound.once);
  spared = λ off. absurd (false_not true off refl);
}

pub all_lend : (all : List Kept) → AreSpared all → AllByRecursion (λ (kept : Kept). may_lend kept ≡ true) all
all_lend all spared = each_weaker (λ (kept : Kept). is_spared kept ≡ true) (λ (kept : Kept). may_lend kept ≡ true) all
    (λ kept s. ap (λ (b : Bool). b || not (is_leaf_of_stage kept.entry)) s) spared

-- what a command leaves
pub sound_left : (named now : Bool) (before after : List Shelf) (held : List Kept) (number : ℕ) (command : Option Command) → AreSound named before → entries_on before ≡ held →
    entries_on after ≡ left_by number command held → StandInPlace after → (now ≡ false → AreSpared (left_by number command (entries_on before))) → AreSound now after
sound_left named now before after held number command sound same left place spared = record {
  in_place = place;
  once = subst (λ (all : List Kept). HasNoneTwice (entries_in all)) (sym left)
      (left_once number command held (subst (λ (all : List Kept). HasNoneTwice (entries_in all)) same sound.once));
  spared = λ off. subst AreSpared (sym left) (subst (λ (all : List Kept). AreSpared (left_by number command all)) same (spared off));
}

pub fence_spares : (number : ℕ) (command : Command) (kept : List Kept) → is_fence command ≡ true → AreSpared (left_by number (Some command) kept)
fence_spares number command kept is = subst AreSpared (sym (fence_leaves number command kept is))
    (each_of (λ (kept : Kept). is_spared kept ≡ true) (filter is_spared kept) (λ one h. (passed is_spared kept one h).passes))

pub not_true : (b : Bool) → not b ≡ false → b ≡ true
not_true true off = refl
not_true false off = absurd (cc)
