-- What is gathered of a step.
use Rattle.std.proofs.Common.{◌≡◌, ◌∙◌, ◌+◌, ◌<◌, ◌≤◌, ℕ, List, [], ◌∷◌, drop, length, map, Option, Some, sym, ap, subst, inl, inr}
use Rattle.std.proofs.lemmas.List.{drop_all, drop_more}
use Rattle.std.specs.Prelude.{OnOk, Result, Ok, Err, flat_map, get_or}
use Rattle.iom_bits.specs.Features.{Features}
use Rattle.iom_choices.specs.Systems.{IsAmong}
use Rattle.iom_choices.specs.Trees.{reads_in, ways_of}
use Rattle.iom_choices.proofs.Traces.{IsImage, among_mapped, image_of}
use Rattle.iom_core.specs.Access.{address_on}
use Rattle.iom_core.specs.Rows.{bare}
use Rattle.iom_core.specs.State.{State}
use Rattle.iom_core.specs.declared.access.Request.{Request}
use Rattle.iom_core.specs.declared.way.Way.{Way as Led}
use Rattle.iom_every.specs.Entries.{kept_as}
use Rattle.iom_every.specs.Trees.{tree_of}
use Rattle.iom_every.specs.Ways.{Goes}
use Rattle.iom_every.specs.declared.entry.Entry.{Entry}
use Rattle.iom_held.specs.Kept.{Renews, entries_in, entry_of, kept_of}
use Rattle.iom_held.specs.declared.kept.Kept.{Kept}
use Rattle.iom_judge.specs.Candidates.{goes_over}
use Rattle.iom_owed.specs.Alone.{leads_over}
use Rattle.iom_owed.specs.Notes.{read_by}
use Rattle.iom_owed.proofs.Followed.{renews_gathered}
use Rattle.iom_ways.specs.Ways.{AreAdded}
use Rattle.iom_ways.proofs.Gathering.{added_none, added_then}

pub on_any : {T E : Type 0} (r : Result T E) (P : Type 0) → P → OnOk r P
on_any (Ok x) P h = h
on_any (Err e) P h = tt

mapped_added : {X Y : Type 0} (f : X → Y) (news after : List X) (out : List Y) → AreAdded news [] after → AreAdded (map f after) [] out → AreAdded (map f news) [] out
mapped_added {X} {Y} f news after out added put y = (
  λ h. elim ((put y).0 h) [
    | inl none ↦ absurd none
    | inr there ↦
        let m : IsImage f after y = image_of f after y there in
        elim ((added m.source).0 m.among) [
          | inl none ↦ absurd none
          | inr new ↦ inr (subst (IsAmong (map f news)) m.is (among_mapped f news m.source new))
        ]
  ],
  λ h. elim h [
    | inl none ↦ absurd none
    | inr new ↦
        let m : IsImage f news y = image_of f news y new in
        (put y).1 (inr (subst (IsAmong (map f after)) m.is (among_mapped f after m.source ((added m.source).1 (inr m.among)))))
  ],
)

-- one place more
pub places_next : {X Y : Type 0} (f : X → Y) (all : List X) (whole start : List Y) (i : ℕ) (x : X) (before mid : List Y) → i < length all → x ≡ get_or all i x →
    ((after : List Y) → AreAdded (map f (drop i all)) before after → AreAdded whole start after) → AreAdded (f x ∷ []) before mid →
    (after : List Y) → AreAdded (map f (drop (i + 1) all)) mid after → AreAdded whole start after
places_next {X} {Y} f all whole start i x before mid inside is invariant put after rest =
    let this : f x ∷ map f (drop (i + 1) all) ≡ map f (drop i all) = sym (ap (map f) (drop_more all i x inside ∙ ap (λ (y : X). y ∷ drop (i + 1) all) (sym is))) in
    invariant after (subst (λ (news : List Y). AreAdded news before after) this (added_then (f x ∷ []) (map f (drop (i + 1) all)) before mid after put rest))

pub places_end : {X Y : Type 0} (f : X → Y) (all : List X) (whole start : List Y) (i : ℕ) (before : List Y) → length all ≤ i →
    ((after : List Y) → AreAdded (map f (drop i all)) before after → AreAdded whole start after) → AreAdded whole start before
places_end {X} {Y} f all whole start i before end invariant =
    invariant before (subst (λ (left : List X). AreAdded (map f left) before before) (sym (drop_all i all end)) (added_none before))

pub places_are : (state own : State) (held : List Entry) (asked : Option Request) (request : Request) (led : List Led) (places : List (Option Goes)) → state ≡ own → asked ≡ Some request →
    AreAdded (leads_over (bare state) request held) [] led → AreAdded (map (λ (way : Led). Some (address_on way request.iova)) led) [] places →
    AreAdded (goes_over (bare own) held asked) [] places
places_are state own held asked request led places same is added out =
    subst (λ (s : State). AreAdded (goes_over (bare s) held asked) [] places) same
    (subst (λ (asked : Option Request). AreAdded (goes_over (bare state) held asked) [] places) (sym is)
    (mapped_added (λ (way : Led). Some (address_on way request.iova)) (leads_over (bare state) request held) led places added out))

pub reads_are_put : (state own : State) (features : Features) (asked : Option Request) (gathered : List Entry) (before after : List Kept) → state ≡ own →
    features ≡ state.machine.registers.features → AreAdded (reads_in (ways_of tree_of (bare own) (entries_in before) asked)) [] gathered →
    Renews entry_of (map (kept_of 0) (flat_map (kept_as features) gathered)) before after →
    Renews entry_of (map (kept_of 0) (read_by (bare own) (entries_in before) asked)) before after
reads_are_put state own features asked gathered before after same offered added kept =
    let all : Renews entry_of (map (kept_of 0) (flat_map (kept_as own.machine.registers.features) gathered)) before after =
    subst (λ (features : Features). Renews entry_of (map (kept_of 0) (flat_map (kept_as features) gathered)) before after) (offered ∙ ap (λ (s : State). s.machine.registers.features) same) kept in
    renews_gathered 0 own.machine.registers.features (reads_in (ways_of tree_of (bare own) (entries_in before) asked)) gathered before after added all
