use Rattle.std.proofs.Common.{◌≡◌, ◌<◌, ◌+◌, ℕ, Some, length}
use Rattle.std.specs.Prelude.{slice_get}
use Rattle.iom_every.specs.declared.entry.Entry.{Entry}
use Rattle.iom_held.specs.Shelves.{HasRoom, HaveGrown}
use Rattle.iom_held.proofs.shelves.reserve_all.Given as goal

-- there is room for the entries so far
abbrev pub invariant-loop-i : goal.invariant-loop-i
invariant-loop-i l = record {
  grown : HaveGrown l.initial.shelves l.shelves;
  room : (j : ℕ) (entry : Entry) (more : ℕ) → j + more ≡ length l.entries → j < l.i → slice_get l.entries j ≡ Some entry → HasRoom l.shelves entry more;
}
