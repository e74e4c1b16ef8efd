use Rattle.std.proofs.Common.{List, Ok, Err, Result, map, subst}
use Rattle.std.specs.Prelude.{OnErr}
use Rattle.iom_held.specs.Kept.{Renews, entry_of, kept_at}
use Rattle.iom_held.specs.Shelves.{entries_on}
use Rattle.iom_held.specs.declared.kept.Kept.{Kept}
use Rattle.iom_held.proofs.Standing.{grown_in_place, grown_same}
use Rattle.iom_held.proofs.shelves.renew_all.Goals as goal

told : {T E P : Type 0} (result : Result T E) → P → OnErr result P
told (Ok value) p = tt
told (Err error) p = p

pub returns-in_err-reserve_all-clause-in_place : goal.returns-in_err-reserve_all-clause-in_place
returns-in_err-reserve_all-clause-in_place c = grown_in_place c.args.shelves.now c.reserve_all.new.shelves c.reserve_all.ensures.grown c.requires.in_place

pub returns-in_err-reserve_all-clause-unchanged : goal.returns-in_err-reserve_all-clause-unchanged
returns-in_err-reserve_all-clause-unchanged c = told c.from_residual.result (grown_same c.args.shelves.now c.reserve_all.new.shelves c.reserve_all.ensures.grown)

pub renew_entries-requires-clause-in_place : goal.renew_entries-requires-clause-in_place
renew_entries-requires-clause-in_place c = grown_in_place c.args.shelves.now c.reserve_all.new.shelves c.reserve_all.ensures.grown c.requires.in_place

pub returns-clause-renewed : goal.returns-clause-renewed
returns-clause-renewed c =
    subst (λ (before : List Kept). Renews entry_of (map (kept_at c.args.number c.args.unfenced) c.args.entries.now) before (entries_on c.renew_entries.new.shelves))
    (grown_same c.args.shelves.now c.reserve_all.new.shelves c.reserve_all.ensures.grown) c.renew_entries.ensures.renewed
