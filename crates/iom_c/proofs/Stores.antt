-- What others write leaves the holdings as they are.
use Rattle.std.proofs.Common.{◌≡◌, ◌∙◌, ℕ, List, [], ◌∷◌, ◌+◌, append-nil, None, refl, sym, ap, subst}
use Rattle.iom_mem.specs.Memory.{Memory}
use Rattle.iom_core.proofs.Stores.{played}
use Rattle.iom_core.specs.Others.{IsWritten, Wrote, stores_of}
use Rattle.iom_core.specs.Run.{end_of}
use Rattle.iom_core.specs.State.{State}
use Rattle.iom_core.specs.Table.{asked, executed, next, with_memory}
use Rattle.iom_core.specs.declared.step.Step.{Step}
use Rattle.iom_core.specs.declared.step.Step.TheVariants as step
use Rattle.iom_every.specs.Rows.{bare}
use Rattle.iom_owed.specs.Holdings.{HoldingsView, Keeps}
use Rattle.iom_owed.proofs.Followed.{adds_none, followed}
use Rattle.iom_owed.proofs.There.{none_missing}
use Rattle.iom_c.specs.Settling.{uncounted}

-- a store of the hart makes no access and executes no command
store_kept : (holdings : HoldingsView) (state start : State) (taken : List (Step × ℕ)) (addr size value number : ℕ) → Keeps [] holdings state start taken →
    Keeps [] holdings (next state (step.Store addr size value)).state start ((step.Store addr size value, number) ∷ taken)
unfolding asked executed
store_kept holdings state start taken addr size value number k =
    let stored : Step = step.Store addr size value in
    none_missing holdings (next state stored).state start ((stored, number) ∷ taken) (followed [] holdings holdings state start taken stored number None None refl refl (adds_none (bare state) number holdings) k)

stores_kept : (holdings : HoldingsView) (state start : State) (taken : List (Step × ℕ)) (addr : ℕ) (bytes : List ℕ) → Keeps [] holdings state start taken →
    Keeps [] holdings (end_of state (stores_of addr bytes)) start (uncounted (stores_of addr bytes) taken)
stores_kept holdings state start taken addr [] k = k
stores_kept holdings state start taken addr (byte ∷ bytes) k =
    stores_kept holdings (next state (step.Store addr 1 byte)).state start ((step.Store addr 1 byte, 0) ∷ taken) (addr + 1) bytes
    (store_kept holdings state start taken addr 1 byte 0 k)

pub others_kept : (holdings : HoldingsView) (state start : State) (taken : List (Step × ℕ)) (memory : Memory) → Keeps [] holdings state start taken →
    IsWritten state.machine.memory memory → Keeps [] holdings (with_memory state memory) start (uncounted (stores_of memory.base memory.bytes) taken)
others_kept holdings state start taken memory k written =
    let stores : List Step = stores_of memory.base memory.bytes in
    let ends : with_memory state memory ≡ end_of state stores =
    played state (Wrote memory ∷ []) (written, tt) ∙ ap (end_of state) (append-nil stores) in
    subst (λ (s : State). Keeps [] holdings s start (uncounted stores taken)) (sym ends) (stores_kept holdings state start taken memory.base memory.bytes k)
