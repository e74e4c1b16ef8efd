use Rattle.std.proofs.Common.{◌≡◌, subst}
use Rattle.iom_c.specs.Saves.{IsSavedAs}
use Rattle.iom_c.specs.declared.owned.Owned.{Owned}
use Rattle.iom_c.proofs.saving.rviommu_save.Goals as goal

pub returns-clause-bytes : goal.returns-clause-bytes
returns-clause-bytes g c =
    let own : c.deref.result.now ≡ g.own = cc in
    let is : IsSavedAs g.own c.in-Ok.bytes.items = subst (λ (o : Owned). IsSavedAs o c.in-Ok.bytes.items) own c.in-Ok.ensures.bytes in
    λ told. (c.in-Ok.bytes.items, is, rw c.deref-2.ensures.value at (c.put_bytes.ensures.room told), rw c.deref-2.ensures.value at c.put_bytes.ensures.count)

pub returns-clause-little : goal.returns-clause-little
returns-clause-little g c =
    let own : c.deref.result.now ≡ g.own = cc in
    let is : IsSavedAs g.own c.in-Ok.bytes.items = subst (λ (o : Owned). IsSavedAs o c.in-Ok.bytes.items) own c.in-Ok.ensures.bytes in
    λ told. (c.in-Ok.bytes.items, is, rw c.deref-2.ensures.value at (c.put_bytes.ensures.little told), rw c.deref-2.ensures.value at c.put_bytes.ensures.count)
