use Rattle.std.proofs.Common.{◌≡◌, ◌++◌, ◌+◌, ◌≤◌, ◌<◌, ◌∷◌, ◌⊎◌, ℕ, [], Some, arith, inl, inr}
use Rattle.std.specs.Prelude.{slice_get}
use Rattle.iom_choices.specs.Systems.{IsAmong}
use Rattle.iom_held.specs.Kept.{entries_in, entry_of}
use Rattle.iom_held.proofs.Places.{pushed, renews_at, renews_end}
use Rattle.iom_held.proofs.shelves.renew_on.Goals as goal

free : {A : Type 0} (len capacity : ℕ) → A ⊎ (len + 1 ≤ capacity) → (A → ⊥) → len < capacity
free len capacity (inl a) other = absurd (other a)
free len capacity (inr room) other = omega (arith, room)

pub returns-in-Some-clause-renewed : goal.returns-in-Some-clause-renewed
returns-in-Some-clause-renewed c =
    let found : slice_get (entries_in c.args.kept.now.items) c.in-Some.i ≡ Some c.args.new.now.entry = rw (← c.deref.ensures.value) c.in-Some.ensures.found in
    renews_at entry_of c.args.new.now c.args.kept.now.items c.in-Some.i found

pub returns-clause-renewed : goal.returns-clause-renewed
returns-clause-renewed c =
    let other : IsAmong (entries_in c.args.kept.now.items) c.args.new.now.entry → ⊥ = rw (← c.deref.ensures.value) c.in_default.ensures.none in
    let more : c.push.new.self.items ≡ c.args.kept.now.items ++ c.args.new.now ∷ [] =
    pushed _ _ _ _ c.push.ensures.items (c.push.ensures.succeeds (free _ _ c.requires.room other)) in
    rw more (renews_end entry_of c.args.new.now c.args.kept.now.items other)
