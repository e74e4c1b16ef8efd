-- A tree of look-ups is that of any state with this memory and these registers.
use Rattle.std.proofs.Common.{◌≡◌, ◌∙◌, Bool, List, [], Option, Some, None, Result, Ok, Err, if◌then◌else◌, refl, sym, ap}
use Rattle.std.specs.Prelude.{OnOk}
use Rattle.iom_bits.specs.Features.{Features}
use Rattle.iom_bits.specs.declared.causes.Cause.{Cause}
use Rattle.iom_mem.specs.Memory.{Memory}
use Rattle.iom_regs.specs.Table.{Registers}
use Rattle.iom_regs.specs.Views.{mode_of}
use Rattle.iom_regs.specs.declared.views.Mode.{Mode}
use Rattle.iom_regs.specs.declared.views.Mode.TheVariants as mode
use Rattle.iom_ddt.specs.Directory.{is_too_wide}
use Rattle.iom_ddt.specs.Formats.{context_format}
use Rattle.iom_ddt.specs.declared.context.Context.{Context}
use Rattle.iom_core.specs.Access.{machine_of}
use Rattle.iom_core.specs.State.{State, Machine}
use Rattle.iom_core.specs.declared.access.Request.{Request}
use Rattle.iom_every.specs.declared.entry.Entry.{Entry}
use Rattle.iom_every.specs.Trees.{Walk, entered_tree, located_tree, looking, tree_by, tree_of}
use Rattle.iom_every.specs.declared.uses.Entered.{Entered}
use Rattle.iom_every.specs.declared.uses.Entered.TheVariants.{AtLeaf, Below}
use Rattle.iom_every.specs.Uses.{ForDevice, device_use}
use Rattle.iom_every.specs.Ways.{depth_of, directory_reads, located_by}
use Rattle.iom_held.specs.declared.kept.Kept.{Kept}
use Rattle.iom_ways.specs.Asked.{Explores}
use Rattle.iom_ways.specs.Branches.{under_tree}
use Rattle.iom_ways.specs.declared.exploring.Explored.{Explored}
use Rattle.iom_ways.proofs.Looked.{same_tree}

-- the machine with nothing cached
abbrev pub seen : Machine → Machine
seen m = machine_of m.memory m.registers [] []

same_located : (m : Machine) (request : Request) (located : List Entry) (found : Result Context Cause) →
    located_tree (seen m) request located found ≡ located_tree m request located found
same_located m request located (Err why) = refl
same_located m request located (Ok context) = refl

same_entered : (m : Machine) (request : Request) (at : Option Entered) → entered_tree (seen m) request at ≡ entered_tree m request at
same_entered m request None = same_located m request (directory_reads m request.did None) (located_by m request.did None)
same_entered m request (Some (AtLeaf said)) = same_located m request (directory_reads m request.did (Some (AtLeaf said))) (located_by m request.did (Some (AtLeaf said)))
same_entered m request (Some (Below level word)) = same_located m request (directory_reads m request.did (Some (Below level word))) (located_by m request.did (Some (Below level word)))

-- what is behind a context that was found is behind the entry that it was found by
pub under_entered : (m : Machine) (request : Request) (at : Option Entered) (features : Features) (context : Context) (located : List Entry) (found : Result Context Cause) →
    features ≡ m.registers.features → located ≡ directory_reads m request.did at → found ≡ Ok context → found ≡ located_by m request.did at →
    under_tree m.memory features request context located ≡ entered_tree m request at
under_entered m request at features context located found offered read is by =
    ap (λ (f : Features). under_tree m.memory f request context located) offered
    ∙ ap (λ (l : List Entry). located_tree m request l (Ok context)) read
    ∙ ap (located_tree m request (directory_reads m request.did at)) (sym is ∙ by)

same_by : (mode : Mode) (m : Machine) (request : Request) → tree_by mode (seen m) request ≡ tree_by mode m request
same_by mode.Off m request = refl
same_by mode.Bare m request = refl
same_by (mode.Levels levels) m request =
    let each : entered_tree (seen m) request ≡ entered_tree m request = λ i at. same_entered m request at i in
    ap (λ (more : Option Entered → Walk). if is_too_wide (context_format m.registers.features) (depth_of m) request.did then more None
    else looking ForDevice (device_use (context_format m.registers.features) (depth_of m) request.did) more) each

pub tree_is : (state : State) (memory : Memory) (registers : Registers) (request : Request) →
    state.machine.memory ≡ memory → state.machine.registers ≡ registers →
    tree_by (mode_of registers) (machine_of memory registers [] []) request ≡ tree_of state request
unfolding tree_of
tree_is state memory registers request memory_is registers_are =
    sym (ap (λ (m : Memory). tree_by (mode_of registers) (machine_of m registers [] []) request) memory_is)
    ∙ sym (ap (λ (r : Registers). tree_by (mode_of r) (machine_of state.machine.memory r [] []) request) registers_are)
    ∙ same_by (mode_of state.machine.registers) state.machine request

-- the ways of a part of it are those of the whole, in this mode
pub over_state : {T E : Type 0} (result : Result T E) (asks : Bool) (held : List Kept) (state : State) (memory : Memory) (registers : Registers) (request : Request) (own : Mode) (before after : Explored) →
    state.machine.memory ≡ memory → state.machine.registers ≡ registers → mode_of registers ≡ own →
    OnOk result (Explores asks held (tree_by own (machine_of memory registers [] []) request) before after) →
    OnOk result (Explores asks held (tree_of state request) before after)
over_state result asks held state memory registers request own before after memory_is registers_are is done =
    same_tree result asks held (tree_by own (machine_of memory registers [] []) request) (tree_of state request) before after
    (sym (ap (λ (mode : Mode). tree_by mode (machine_of memory registers [] []) request) is) ∙ tree_is state memory registers request memory_is registers_are) done
