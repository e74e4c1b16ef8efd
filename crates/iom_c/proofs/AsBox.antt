-- The handle and its parts own what a box at the same types owns.
use mir.Syntax.{impl, tnil, dnil}
use mathlib.Core.List.{[]}
use denote.Signature.{Slot, plain}
use Rattle.std_alloc.proofs.BoxSteps.Form.{Bx}
use Rattle.std_heap.specs.contracts.Global as Heap
use Rattle.std_heap.specs.contracts.GlobalAllocator.TheImpl.{ghosts, dict}
use Rattle.std_heap.proofs.Global.TheLaws as heap
use Rattle.iom_c.specs.contracts.owned.Owned as Owned
use Rattle.iom_c.proofs.owned.Owned.TheLaws as owned
use Rattle.iom_c.specs.contracts.trying.OwnedTrial as OwnedTrial
use Rattle.iom_c.proofs.trying.OwnedTrial.TheLaws as trial
use Rattle.iom_c.specs.contracts.judge_handle.JudgeHandle as JudgeHandle
use Rattle.iom_c.specs.contracts.parts.Parts as Parts
use Rattle.iom_c.specs.contracts.handle.Handle as Handle

abbrev pub E : Bx
E = record { row = Owned.the_row; laws = owned.the_row_laws; al = record { row = Heap.the_row; laws = heap.the_row_laws; g = ghosts; d = dict; drops = impl [] tnil dnil } }

abbrev pub Judge : Bx
Judge = record { row = OwnedTrial.the_row; laws = trial.the_row_laws; al = record { row = Heap.the_row; laws = heap.the_row_laws; g = ghosts; d = dict; drops = impl [] tnil dnil } }

abbrev pub FromParts : Slot 0
FromParts = plain (λ _. Parts.the_row Owned.the_row Heap.the_row ghosts)

abbrev pub FromHandle : Slot 0
FromHandle = plain (λ _. Handle.the_row)

abbrev pub FromHeap : Slot 0
FromHeap = plain (λ _. Heap.the_row)

abbrev pub FromJudgeParts : Slot 0
FromJudgeParts = plain (λ _. Parts.the_row OwnedTrial.the_row Heap.the_row ghosts)

abbrev pub FromJudge : Slot 0
FromJudge = plain (λ _. JudgeHandle.the_row)
