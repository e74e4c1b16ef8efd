-- What is behind each look-up of a request's tree, if this entry or none is used there: RISC-V IOMMU Architecture 1.0, "Process to translate an
-- IOVA". These are parts of `tree_of`.
use Rattle.std.specs.Prelude.{ℕ, ◌++◌, ◌<◌, Bool, false, List, [], ◌∷◌, Option, Some, None, Result, IfSome, if◌then◌else◌}
use Rattle.iom_bits.specs.declared.causes.Kind.TheVariants.{Read}
use Rattle.iom_bits.specs.Features.{Features}
use Rattle.iom_mem.specs.Memory.{Memory}
use Rattle.iom_ddt.specs.Contexts.{is_bare}
use Rattle.iom_ddt.specs.Directory.{is_too_wide}
use Rattle.iom_ddt.specs.Formats.{context_format}
use Rattle.iom_ddt.specs.declared.context.Context.{Context}
use Rattle.iom_walk.specs.Path.{next_table, verdict_on}
use Rattle.iom_walk.specs.Shape.{is_in_width, levels}
use Rattle.iom_walk.specs.Verdict.{is_pointer}
use Rattle.iom_walk.specs.declared.outcome.Outcome.TheVariants as outcome
use Rattle.iom_walk.specs.declared.shape.Format.{Format}
use Rattle.iom_walk.specs.declared.shape.Shape.{Shape}
use Rattle.iom_nested.specs.Faults.{Failure}
use Rattle.iom_nested.specs.Files.{hit_by_file}
use Rattle.iom_nested.specs.Nested.{hit_by, reached_by}
use Rattle.iom_nested.specs.Stages.{format_of, second_shape_of}
use Rattle.iom_nested.specs.declared.translation.Reached.{Reached}
use Rattle.iom_core.specs.Access.{request_key}
use Rattle.iom_core.specs.State.{Machine}
use Rattle.iom_core.specs.declared.access.Request.{Request}
use Rattle.iom_core.specs.declared.way.Way.TheVariants.{Context as ByContext}
use Rattle.iom_core.specs.declared.way.Way.{Way as Led}
use Rattle.iom_choices.specs.Systems.{ModelWalk}
use Rattle.iom_choices.specs.Trees.{Ends, ways_over}
use Rattle.iom_every.specs.declared.entry.Entry.{Entry}
use Rattle.iom_every.specs.declared.entry.Held.{Held}
use Rattle.iom_every.specs.Stages.{file_found, file_reads, in_memory, second_outcome, second_reads}
use Rattle.iom_every.specs.declared.walks.MetBy.{MetBy}
use Rattle.iom_every.specs.Trees.{Walk, access_at, behind_tree, entered_tree, first_found, first_read, got_by, looking, met_tree, page_tree, path_tree, staged}
use Rattle.iom_every.specs.Uses.{ForDevice, ForPage, device_use, page_use}
use Rattle.iom_every.specs.Walks.{held_in, met}
use Rattle.iom_every.specs.Ways.{depth_of}

-- behind what the first stage reached and read: the access
abbrev pub behind_reached : Memory → Features → Request → Context → List Entry → List Entry → Result Reached Failure → Walk
behind_reached memory features request context located first reached =
    behind_tree memory features context request.kind reached (staged request context located first)

-- that of an interrupt file, or the second stage's
abbrev pub behind_at : Memory → Features → Request → Context → List Entry → List Entry → Bool → Reached → Walk
behind_at memory features request context located first is reached =
    access_at memory features context request.kind is reached (staged request context located first)

-- behind the look-up for an interrupt file's entry
abbrev pub behind_file : Memory → Request → Context → List Entry → List Entry → Reached → Option ℕ → Walk
behind_file memory request context located first reached used =
    staged request context located first (hit_by_file reached (file_found memory context reached.addr used)) (file_reads memory context reached.addr used)

-- behind the second stage's look-up for the access
abbrev pub behind_access : Memory → Features → Request → Context → List Entry → List Entry → Shape → Reached → Option Held → Walk
behind_access memory features request context located first shape reached used =
    staged request context located first (hit_by reached (second_outcome memory features context shape reached.addr request.kind used))
    (second_reads memory features context shape reached.addr used)

-- behind a whole path of the first stage
abbrev pub behind_path : Memory → Features → Request → Context → List Entry → Format → Option Held → List MetBy → Walk
behind_path memory features request context located format used path =
    behind_reached memory features request context located (first_read memory features context request.iova used path)
    (first_found format request.iova request.kind used path)

-- the rest of a path of the first stage, from a table on
abbrev pub rest_of_path : Memory → Features → Request → Context → List Entry → Format → Option Held → List MetBy → ℕ → ℕ → Walk
rest_of_path memory features request context located format used path table count =
    path_tree memory features context (second_shape_of context) format request.iova table count
    (λ rest. behind_path memory features request context located format used (path ++ rest))

-- the levels of an entry of the path, and of the one that is used for it, are among those of their tables
abbrev pub UsedFits : Option Shape → Option Held → Type 0
UsedFits None used = Unit {0}
UsedFits (Some shape) used = IfSome used (λ held. held.level < levels shape)

abbrev pub MetFits : Option Shape → MetBy → Type 0
MetFits second met = (met.entry.level < 5) × UsedFits second met.used

-- behind one more entry of that path
abbrev pub behind_met : Memory → Features → Request → Context → List Entry → Format → Option Held → List MetBy → MetBy → Walk
behind_met memory features request context located format used path met =
    if is_pointer (verdict_on format.rules Read met.entry)
    then path_tree memory features context (second_shape_of context) format request.iova (next_table met.entry) met.entry.level
    (λ rest. behind_path memory features request context located format used (path ++ (met ∷ rest)))
    else behind_path memory features request context located format used (path ++ (met ∷ []))

-- behind the second stage's look-up for the first stage's entry of a level, at this place
abbrev pub behind_entry : Memory → Features → Request → Context → List Entry → Format → Option Held → List MetBy → Shape → ℕ → ℕ → Option Held → Walk
behind_entry memory features request context located format used path shape place level behind =
    behind_met memory features request context located format used path
    (record { entry = record { level = level; place = place; got = got_by memory features context (Some shape) behind place }; used = behind })

-- behind the first stage's look-up
abbrev pub behind_used : Memory → Features → Request → Context → List Entry → Shape → Option Held → Walk
behind_used memory features request context located shape used =
    if is_in_width shape request.iova
    then met_tree memory features context (second_shape_of context) (format_of features shape) request.iova used
    (behind_path memory features request context located (format_of features shape) used)
    else behind_reached memory features request context located [] (reached_by request.iova outcome.Fault)

-- the entries of memory's own path of the first stage, as they may be kept
abbrev pub fresh_entries : Memory → Features → Request → Context → Shape → List Held
fresh_entries memory features request context shape =
    held_in false request.iova
    (met (λ (level : ℕ). got_by memory features context (second_shape_of context) None) (format_of features shape) context.ppn request.iova None)

-- the entries of memory's own path of the second stage for a guest-physical address, as they may be kept
abbrev pub second_entries : Memory → Features → Context → Shape → ℕ → List Held
second_entries memory features context shape address =
    held_in false address (met (in_memory memory) (format_of features shape) context.gppn address None)

-- below a context
abbrev pub under_tree : Memory → Features → Request → Context → List Entry → Walk
under_tree memory features request context located =
    if is_bare context then Ends (record { led = ByContext context; reads = located ++ [] })
    else looking ForPage (page_use (request_key request context)) (page_tree memory features request context located)

-- below a directory
abbrev pub directory_tree : Machine → Request → Walk
directory_tree m request =
    if is_too_wide (context_format m.registers.features) (depth_of m) request.did then entered_tree m request None
    else looking ForDevice (device_use (context_format m.registers.features) (depth_of m) request.did) (entered_tree m request)

-- the ways by each of these that gives a use to a look-up, one's behind the other's
abbrev pub by_use : {X : Type 0} → (X → List (ModelWalk Entry Led)) → Option X → List (ModelWalk Entry Led)
by_use own None = []
by_use own (Some x) = own x

abbrev pub each_use : {E X : Type 0} → (E → Option X) → (X → List (ModelWalk Entry Led)) → List E → List (ModelWalk Entry Led)
each_use fits own [] = []
each_use fits own (entry ∷ entries) = by_use own (fits entry) ++ each_use fits own entries

-- those behind a look-up
abbrev pub own_ways : {X : Type 0} → List Entry → (Option X → Walk) → X → List (ModelWalk Entry Led)
own_ways held more x = ways_over held (more (Some x))
