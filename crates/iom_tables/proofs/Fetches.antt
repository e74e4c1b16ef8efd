-- What the parts say of memory is what memory has.
use Rattle.std.proofs.Common.{◌≡◌, ◌%◌, ◌-◌, ◌++◌, ℕ, zero, suc, Bool, true, false, not, List, [], ◌∷◌, map, Option, Some, None, Result, Ok, Err, if◌then◌else◌, refl, sym, subst}
use Rattle.std.specs.Prelude.{All, flat_map}
use Rattle.std.proofs.lemmas.List.Elements.{All-nil, All-cons, All-head, All-tail, All-append, All-map}
use Rattle.iom_bits.specs.declared.causes.Cause.{Cause}
use Rattle.iom_bits.specs.declared.causes.Kind.{Kind}
use Rattle.iom_bits.specs.declared.causes.Kind.TheVariants.{Read}
use Rattle.iom_bits.specs.Features.{Features}
use Rattle.iom_mem.specs.Memory.{Memory, word}
use Rattle.iom_regs.specs.Table.{Registers}
use Rattle.iom_regs.specs.Views.{mode_of, root_of}
use Rattle.iom_regs.specs.declared.views.Mode.{Mode}
use Rattle.iom_regs.specs.declared.views.Mode.TheVariants as mode
use Rattle.iom_ddt.specs.Directory.{behind, entry_place, is_too_wide, leaf_place, levels_of, located, path_of, pointed_by}
use Rattle.iom_ddt.specs.Formats.{context_format, words_in}
use Rattle.iom_ddt.specs.declared.formats.ContextFormat.{ContextFormat}
use Rattle.iom_ddt.specs.Directory as directory
use Rattle.iom_ddt.specs.declared.context.Context.{Context}
use Rattle.iom_ddt.specs.declared.met.Met.{Met}
use Rattle.iom_ddt.specs.declared.met.Met.TheVariants as met
use Rattle.iom_walk.specs.Outcome.{outcome_of}
use Rattle.iom_walk.specs.declared.met.MetEntry.{MetEntry}
use Rattle.iom_walk.specs.Path.{entry_at, next_table, path_from, path_of as walk_path_of, verdict_on}
use Rattle.iom_walk.specs.Shape.{is_in_width, levels}
use Rattle.iom_walk.specs.Told.{path_told, path_entry}
use Rattle.iom_walk.specs.Verdict.{is_pointer}
use Rattle.iom_walk.specs.declared.listing.PathEntry.{PathEntry}
use Rattle.iom_walk.specs.declared.outcome.Outcome.{Outcome}
use Rattle.iom_walk.specs.declared.outcome.Outcome.TheVariants as outcome
use Rattle.iom_walk.specs.declared.shape.Shape.{Shape}
use Rattle.iom_walk.specs.declared.source.Got.{Got}
use Rattle.iom_walk.specs.declared.shape.Format.{Format}
use Rattle.iom_nested.specs.Faults.{Failure}
use Rattle.iom_nested.specs.Files.{is_of_file}
use Rattle.iom_nested.specs.Nested.{first_stage}
use Rattle.iom_nested.specs.Stages.{first_shape_of, format_of, got_behind, ram_got, second_shape_of, table_got, table_got_by}
use Rattle.iom_nested.specs.declared.translation.Reached.{Reached}
use Rattle.iom_core.specs.State.{Machine, device_id_end}
use Rattle.iom_core.specs.declared.access.Request.{Request}
use Rattle.iom_core.specs.Looking.{by_tables}
use Rattle.iom_tables.specs.Parts.{access_parts, address_by, directory_parts, entry_parts, file_part, first_by, first_parts, parts_by, parts_of, reached_parts, read_at, read_by, second_by, second_parts, stage_parts}
use Rattle.iom_tables.specs.Fetches.{IsGot, IsItem, IsRead}
use Rattle.iom_tables.specs.declared.part.Part.{Part}
use Rattle.iom_tables.specs.declared.part.Part.TheVariants as part
use Rattle.iom_tables.specs.declared.part.Wide.TheVariants as wide
use Rattle.iom_tables.proofs.Widths.{each_by_width}

-- the items of a path of the directory
behind_read : (format : ContextFormat) (memory : Memory) (got : Result ℕ Cause) (from : ℕ → List Met) → ((table : ℕ) → All (IsItem format memory) (from table)) →
    All (IsItem format memory) (behind got from)
behind_read format memory (Ok table) from each = each table
behind_read format memory (Err cause) from each = All-nil (IsItem format memory)

directory_read : (format : ContextFormat) (memory : Memory) (did level table : ℕ) → All (IsItem format memory) (directory.path_from format memory did level table)
directory_read format memory did zero table =
    All-cons (IsItem format memory) (met.Leaf (leaf_place format did table) (words_in format memory (leaf_place format did table))) [] refl (All-nil (IsItem format memory))
directory_read format memory did (suc level) table =
    let place : ℕ = entry_place format did (suc level) table in
    All-cons (IsItem format memory) (met.Entry place (word memory place)) (behind (pointed_by (word memory place)) (directory.path_from format memory did level))
    refl (behind_read format memory (pointed_by (word memory place)) (directory.path_from format memory did level) (directory_read format memory did level))

path_read : (memory : Memory) (registers : Registers) (did : ℕ) → All (IsItem (context_format registers.features) memory) (path_of memory registers did)
unfolding path_of
path_read memory registers did = elim (is_too_wide (context_format registers.features) (levels_of (mode_of registers)) did) as (λ wide. All (IsItem (context_format registers.features) memory)
    (if wide then [] else directory.path_from (context_format registers.features) memory did (levels_of (mode_of registers) - 1) (root_of registers))) [
      | true ↦ All-nil (IsItem (context_format registers.features) memory)
      | false ↦ directory_read (context_format registers.features) memory did (levels_of (mode_of registers) - 1) (root_of registers)
    ]

-- the entries of a walk, over any source of words
abbrev IsMet : (ℕ → Got) → PathEntry → Type 0
IsMet at entry = entry.got ≡ at entry.place

behind_pointer : {X : Type 0} (P : X → Type 0) (pointer : Bool) (rest : List X) → All P rest → All P (if pointer then rest else [])
behind_pointer P true rest each = each
behind_pointer P false rest each = All-nil P

walk_from_met : (at : ℕ → Got) (format : Format) (address : ℕ) (kind : Kind) (table count : ℕ) →
    All (λ entry. IsMet at (path_entry format.rules kind entry)) (path_from at format address table count)
unfolding path_from
walk_from_met at format address kind table zero = All-nil (λ entry. IsMet at (path_entry format.rules kind entry))
walk_from_met at format address kind table (suc count) =
    let P : MetEntry → Type 0 = λ entry. IsMet at (path_entry format.rules kind entry) in
    let entry : MetEntry = entry_at at format address table count in
    let pointer : Bool = is_pointer (verdict_on format.rules Read entry) in
    let rest : List MetEntry = path_from at format address (next_table entry) count in
    All-cons P entry (if pointer then rest else []) refl
    (behind_pointer P pointer rest (walk_from_met at format address kind (next_table entry) count))

walk_met : (at : ℕ → Got) (format : Format) (root address : ℕ) (kind : Kind) → All (IsMet at) (path_told at format root address kind)
unfolding path_told
walk_met at format root address kind =
    let path : List MetEntry = walk_path_of at format root address in
    elim (is_in_width format.shape address) as (λ wide. All (IsMet at) (if wide then map (path_entry format.rules kind) path else [])) [
      | true ↦ All-map (IsMet at) (path_entry format.rules kind) path (walk_from_met at format address kind root (levels format.shape))
      | false ↦ All-nil (IsMet at)
    ]

-- the second stage
second_by_read : (memory : Memory) (features : Features) (root : ℕ) (kind : Kind) (guest : ℕ) (shape : Option Shape) →
    All (IsRead (context_format features) memory) (second_by memory features root kind guest shape)
second_by_read memory features root kind guest None = All-nil (IsRead (context_format features) memory)
second_by_read memory features root kind guest (Some shape) =
    let path : List PathEntry = path_told (ram_got memory) (format_of features shape) root guest kind in
    each_by_width (IsRead (context_format features) memory) (is_in_width shape guest) (wide.Second guest) (map (part.Second guest) path) (λ is. tt)
    (All-map (IsRead (context_format features) memory) (part.Second guest) path (walk_met (ram_got memory) (format_of features shape) root guest kind))

second_read : (memory : Memory) (features : Features) (context : Context) (kind : Kind) (guest : ℕ) → All (IsRead (context_format features) memory) (second_parts memory features context kind guest)
unfolding second_parts
second_read memory features context kind guest = second_by_read memory features context.gppn kind guest (second_shape_of context)

-- an entry of the first
got_by : (memory : Memory) (place : ℕ) (end : Outcome) → IsGot memory (got_behind memory place end) (address_by place end)
got_by memory place (outcome.Leaf leaf) = refl
got_by memory place outcome.Outside = λ word is. cc
got_by memory place (outcome.Guest at) = λ word is. cc
got_by memory place outcome.Fault = λ word is. cc

got_of : (memory : Memory) (features : Features) (root place : ℕ) (shape : Option Shape) →
    IsGot memory (table_got_by memory features root shape place) (read_by memory features root place shape)
got_of memory features root place None = refl
got_of memory features root place (Some shape) = got_by memory place (outcome_of (ram_got memory) (format_of features shape) root place Read)

first_read : (memory : Memory) (features : Features) (context : Context) (entry : PathEntry) → IsMet (table_got memory features context) entry →
    IsGot memory entry.got (read_at memory features context entry.place)
unfolding read_at
first_read memory features context entry met =
    subst (λ read. IsGot memory read (read_by memory features context.gppn entry.place (second_shape_of context))) (sym met)
    (got_of memory features context.gppn entry.place (second_shape_of context))

entry_read : (memory : Memory) (features : Features) (context : Context) (entry : PathEntry) → IsMet (table_got memory features context) entry →
    All (IsRead (context_format features) memory) (entry_parts memory features context entry)
entry_read memory features context entry met =
    let first : Part = part.First entry (read_at memory features context entry.place) in
    All-append (IsRead (context_format features) memory) (second_parts memory features context Read entry.place) (first ∷ [])
    (second_read memory features context Read entry.place)
    (All-cons (IsRead (context_format features) memory) first [] (first_read memory features context entry met) (All-nil (IsRead (context_format features) memory)))

entries_read : (memory : Memory) (features : Features) (context : Context) (entries : List PathEntry) → All (IsMet (table_got memory features context)) entries →
    All (IsRead (context_format features) memory) (flat_map (entry_parts memory features context) entries)
entries_read memory features context [] each = All-nil (IsRead (context_format features) memory)
entries_read memory features context (entry ∷ more) each =
    All-append (IsRead (context_format features) memory) (entry_parts memory features context entry) (flat_map (entry_parts memory features context) more)
    (entry_read memory features context entry (All-head (IsMet (table_got memory features context)) entry more each))
    (entries_read memory features context more (All-tail (IsMet (table_got memory features context)) entry more each))

first_by_read : (memory : Memory) (features : Features) (context : Context) (iova : ℕ) (kind : Kind) (shape : Option Shape) →
    All (IsRead (context_format features) memory) (first_by memory features context iova kind shape)
first_by_read memory features context iova kind None = All-nil (IsRead (context_format features) memory)
first_by_read memory features context iova kind (Some shape) =
    let path : List PathEntry = path_told (table_got memory features context) (format_of features shape) context.ppn iova kind in
    each_by_width (IsRead (context_format features) memory) (is_in_width shape iova) (wide.First iova) (flat_map (entry_parts memory features context) path) (λ is. tt)
    (entries_read memory features context path (walk_met (table_got memory features context) (format_of features shape) context.ppn iova kind))

first_parts_read : (memory : Memory) (features : Features) (context : Context) (iova : ℕ) (kind : Kind) → All (IsRead (context_format features) memory) (first_parts memory features context iova kind)
unfolding first_parts
first_parts_read memory features context iova kind = first_by_read memory features context iova kind (first_shape_of context)

-- the access, and the whole
reached_read : (memory : Memory) (features : Features) (context : Context) (kind : Kind) (of_file : Bool) (guest : ℕ) →
    All (IsRead (context_format features) memory) (reached_parts memory features context kind of_file guest)
reached_read memory features context kind true guest =
    All-cons (IsRead (context_format features) memory) (file_part memory context.msi guest) [] refl (All-nil (IsRead (context_format features) memory))
reached_read memory features context kind false guest = second_read memory features context kind guest

access_read : (memory : Memory) (features : Features) (context : Context) (kind : Kind) (reached : Result Reached Failure) →
    All (IsRead (context_format features) memory) (access_parts memory features context kind reached)
access_read memory features context kind (Ok reached) =
    reached_read memory features context kind (is_of_file context.msi reached.addr) reached.addr
access_read memory features context kind (Err failure) = All-nil (IsRead (context_format features) memory)

pub stages_read : (memory : Memory) (features : Features) (iova : ℕ) (kind : Kind) (found : Result Context Cause) →
    All (IsRead (context_format features) memory) (stage_parts memory features iova kind found)
stages_read memory features iova kind (Ok context) =
    let reached : Result Reached Failure = first_stage memory features context iova kind (first_shape_of context) in
    All-append (IsRead (context_format features) memory) (first_parts memory features context iova kind) (access_parts memory features context kind reached)
    (first_parts_read memory features context iova kind) (access_read memory features context kind reached)
stages_read memory features iova kind (Err why) = All-nil (IsRead (context_format features) memory)

directory_parts_read : (m : Machine) (did : ℕ) → All (IsRead (context_format m.registers.features) m.memory) (directory_parts m did)
directory_parts_read m did =
    let items : List Met = path_of m.memory m.registers did in
    each_by_width (IsRead (context_format m.registers.features) m.memory) (not (is_too_wide (context_format m.registers.features) (levels_of (mode_of m.registers)) did)) (wide.Directory (did % device_id_end)) (map part.Directory items) (λ is. tt)
    (All-map (IsRead (context_format m.registers.features) m.memory) part.Directory items (path_read m.memory m.registers did))

by_mode_read : (mode : Mode) (m : Machine) (request : Request) → All (IsRead (context_format m.registers.features) m.memory) (parts_by mode m request)
by_mode_read mode.Off m request = All-nil (IsRead (context_format m.registers.features) m.memory)
by_mode_read mode.Bare m request = All-nil (IsRead (context_format m.registers.features) m.memory)
by_mode_read (mode.Levels levels) m request =
    let found : Result Context Cause = located m.memory m.registers request.did in
    All-append (IsRead (context_format m.registers.features) m.memory) (directory_parts m request.did) (stage_parts m.memory m.registers.features request.iova request.kind found)
    (directory_parts_read m request.did) (stages_read m.memory m.registers.features request.iova request.kind found)

pub each_read : (m : Machine) (request : Request) → All (IsRead (context_format m.registers.features) m.memory) (parts_of m request)
unfolding parts_of
each_read m request =
    let P : Part → Type 0 = IsRead (context_format m.registers.features) m.memory in
    let ddtp : Part = part.Ddtp (mode_of m.registers) (root_of m.registers) in
    let end : Part = part.End (by_tables m request) in
    let between : List Part = parts_by (mode_of m.registers) m request in
    All-cons P ddtp (between ++ end ∷ []) tt
    (All-append P between (end ∷ []) (by_mode_read (mode_of m.registers) m request) (All-cons P end [] tt (All-nil P)))

pub each_read_of : (m : Machine) (request : Request) (parts : List Part) → parts ≡ parts_of m request → All (IsRead (context_format m.registers.features) m.memory) parts
each_read_of m request parts are = subst (All (IsRead (context_format m.registers.features) m.memory)) (sym are) (each_read m request)
