use Rattle.std.proofs.Common.{◌≡◌, ◌++◌, drop}
use Rattle.std.specs.Prelude.{flat_map}
use Rattle.iom_every.specs.Entries.{kept_as}
use Rattle.iom_owed.proofs.forms.put_forms.Given as goal

-- what is put in, and then the forms of what is left, is all
abbrev pub invariant-loop-entry : goal.invariant-loop-entry
invariant-loop-entry l =
    l.out.items ++ flat_map (kept_as l.features) (drop l.entry-index l.read) ≡ l.fn.out.items ++ flat_map (kept_as l.features) l.read
