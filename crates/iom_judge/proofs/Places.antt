-- Where an access may go, and what it can read, over the walks whose reads are kept in each form.
use Rattle.std.proofs.Common.{◌≡◌, ◌∙◌, ◌++◌, List, [], ◌∷◌, map, Option, Some, None, refl, sym, ap}
use Rattle.std.proofs.lemmas.Grind.{flat_map-append}
use Rattle.std.proofs.lemmas.List.{map-append}
use Rattle.std.specs.Prelude.{filter, flat_map, ℕ}
use Rattle.iom_bits.specs.Features.{Features}
use Rattle.iom_choices.specs.Marked.{telling}
use Rattle.iom_choices.specs.Systems.{ModelWalk}
use Rattle.iom_choices.specs.Traces.{leds_of}
use Rattle.iom_choices.specs.Trees.{Ends, Looks, reads_at, reads_in, ways_of, ways_over}
use Rattle.iom_core.specs.Access.{address_on}
use Rattle.iom_core.specs.State.{State}
use Rattle.iom_core.specs.Table.{request_of_step}
use Rattle.iom_core.specs.declared.access.Request.{Request}
use Rattle.iom_core.specs.declared.step.Step.{Step}
use Rattle.iom_core.specs.declared.way.Way.{Way as Led}
use Rattle.iom_every.specs.Entries.{kept_as}
use Rattle.iom_every.specs.Every.{iommu, is_listed}
use Rattle.iom_every.specs.Trees.{Walk, every_tree, kept_tree, tree_of}
use Rattle.iom_every.specs.Ways.{Goes, kept_walk}
use Rattle.iom_every.specs.declared.entry.Entry.{Entry}
use Rattle.iom_judge.specs.Candidates.{goes_over}
use Rattle.iom_owed.specs.Notes.{read_by}
use Rattle.iom_ways.specs.Ways.{leads}

flat_mapped : {E X Y : Type 0} (f : E → List Y) (g : E → List X) (h : X → Y) → ((entry : E) → f entry ≡ map h (g entry)) → (entries : List E) → flat_map f entries ≡ map h (flat_map g entries)
flat_mapped f g h each [] = refl
flat_mapped f g h each (entry ∷ entries) = (λ n. each entry n ++ flat_mapped f g h each entries n) ∙ sym (map-append h (g entry) (flat_map g entries))

ways_kept : (features : Features) (iova : ℕ) (held : List Entry) (tree : Walk) → ways_over held (kept_tree features iova tree) ≡ map (kept_walk features iova) (ways_over held tree)
ways_kept features iova held (Ends way) = refl
ways_kept features iova held (Looks look fits more) =
    let kept : Entry → List (ModelWalk Entry Goes) = λ entry. ways_over held (kept_tree features iova (more (Some entry))) in
    let own : Entry → List (ModelWalk Entry Led) = λ entry. ways_over held (more (Some entry)) in
    (λ n. ways_kept features iova held (more None) n
    ++ flat_mapped kept own (kept_walk features iova) (λ entry. ways_kept features iova held (more (Some entry))) (filter (fits look) held) n)
    ∙ sym (map-append (kept_walk features iova) (ways_over held (more None)) (flat_map own (filter (fits look) held)))

goes_kept : (features : Features) (iova : ℕ) (ways : List (ModelWalk Entry Led)) →
    map (λ (way : ModelWalk Entry Goes). Some way.led) (map (kept_walk features iova) ways) ≡ map (λ (led : Led). Some (address_on led iova)) (leads ways)
goes_kept features iova [] = refl
goes_kept features iova (way ∷ ways) = ap (λ (rest : List (Option Goes)). Some (address_on way.led iova) ∷ rest) (goes_kept features iova ways)

reads_kept : (features : Features) (iova : ℕ) (ways : List (ModelWalk Entry Led)) → reads_in (map (kept_walk features iova) ways) ≡ flat_map (kept_as features) (reads_in ways)
reads_kept features iova [] = refl
reads_kept features iova (way ∷ ways) =
    ap (λ (rest : List Entry). flat_map (kept_as features) way.reads ++ rest) (reads_kept features iova ways) ∙ sym (flat_map-append (kept_as features) way.reads (reads_in ways))

pub goes_are : (state : State) (held : List Entry) (request : Option Request) → leds_of every_tree state held request ≡ goes_over state held request
goes_are state held None = refl
goes_are state held (Some request) =
    ap (λ (ways : List (ModelWalk Entry Goes)). map (λ (way : ModelWalk Entry Goes). Some way.led) ways) (ways_kept state.machine.registers.features request.iova held (tree_of state request))
    ∙ goes_kept state.machine.registers.features request.iova (ways_over held (tree_of state request))

own_reads : (state : State) (held : List Entry) (request : Option Request) → reads_in (ways_of every_tree state held request) ≡ read_by state held request
own_reads state held None = refl
own_reads state held (Some request) =
    ap (λ (ways : List (ModelWalk Entry Goes)). reads_in ways) (ways_kept state.machine.registers.features request.iova held (tree_of state request))
    ∙ reads_kept state.machine.registers.features request.iova (ways_over held (tree_of state request))

-- nothing is read ahead
pub reads_are : (state : State) (held : List Entry) (taken : Step) → reads_at (telling (iommu (is_listed []))) every_tree [] state held taken ≡ read_by state held (request_of_step state taken)
reads_are state held taken = own_reads state held (request_of_step state taken)
