-- Where a request is granted, nothing that is looked at refuses it.
use Rattle.std.proofs.Common.{◌≡◌, ◌≢◌, ◌+◌, ◌-◌, ◌*◌, ◌/◌, ◌%◌, ◌==◌, ◌++◌, ℕ, zero, suc, Bool, true, false, not, List, [], ◌∷◌, map, Option, Some, None, Result, Ok, Err, if◌then◌else◌, refl, sym, subst, inl, inr, rules}
use Rattle.std.specs.Prelude.{All, find, flat_map}
use Rattle.std.proofs.lemmas.List.Elements.{All-nil, All-cons, All-head, All-tail, All-append, All-map, All-weaker}
use Rattle.iom_bits.specs.declared.causes.Cause.{Cause}
use Rattle.iom_bits.specs.declared.causes.Cause.TheVariants.{TooWide}
use Rattle.iom_bits.specs.declared.causes.Kind.{Kind}
use Rattle.iom_bits.specs.declared.causes.Kind.TheVariants.{Read}
use Rattle.iom_bits.specs.Features.{Features}
use Rattle.iom_walk.specs.declared.rules.EntryRules.{EntryRules}
use Rattle.iom_mem.specs.Memory.{Memory, word}
use Rattle.iom_regs.specs.Table.{Registers}
use Rattle.iom_regs.specs.Views.{mode_of, root_of}
use Rattle.iom_regs.specs.declared.views.Mode.{Mode}
use Rattle.iom_regs.specs.declared.views.Mode.TheVariants as mode
use Rattle.iom_ddt.specs.Contexts.{is_bare}
use Rattle.iom_ddt.specs.Directory.{behind, decided_by, entry_place, is_too_wide, leaf_place, levels_of, located, path_of, pointed_by}
use Rattle.iom_ddt.specs.Formats.{context_format, words_in}
use Rattle.iom_ddt.specs.Directory as directory
use Rattle.iom_ddt.specs.declared.context.Context.{Context}
use Rattle.iom_ddt.specs.declared.met.Met.{Met}
use Rattle.iom_ddt.specs.declared.met.Met.TheVariants as met
use Rattle.iom_walk.specs.Outcome.{conclude, conclude_at, outcome_of, verdict_on_path}
use Rattle.iom_walk.specs.declared.met.MetEntry.{MetEntry}
use Rattle.iom_walk.specs.Path.{entry_at, next_table, path_from, path_of as walk_path_of, verdict_on}
use Rattle.iom_walk.specs.Shape.{is_in_width, levels, user_rules}
use Rattle.iom_walk.specs.Told.{path_told, path_entry}
use Rattle.iom_walk.specs.Verdict.{consequence, is_pointer, ruling_of, verdict_of, word_of}
use Rattle.iom_walk.specs.declared.entry.Ruling.{Ruling}
use Rattle.iom_walk.specs.declared.entry.Ruling.TheVariants as ruling
use Rattle.iom_walk.specs.declared.listing.PathEntry.{PathEntry}
use Rattle.iom_walk.specs.declared.outcome.Leaf.{Leaf}
use Rattle.iom_walk.specs.declared.outcome.Outcome.{Outcome}
use Rattle.iom_walk.specs.declared.outcome.Outcome.TheVariants as outcome
use Rattle.iom_walk.specs.declared.shape.Shape.{Shape}
use Rattle.iom_walk.specs.declared.source.Got.{Got}
use Rattle.iom_walk.specs.declared.source.Got.TheVariants as got
use Rattle.iom_walk.proofs.Entries.{pointer_for_each}
use Rattle.iom_walk.specs.declared.shape.Format.{Format}
use Rattle.iom_nested.specs.Faults.{Failure}
use Rattle.iom_nested.specs.Files.{entry_frame, file_place, file_ruling, file_word, hit_by_file, hit_ruled, is_of_file, word_ruling}
use Rattle.iom_nested.specs.Nested.{access_stage, behind_first, first_stage, hit_by, reached_by, second_stage, told_of, translation}
use Rattle.iom_nested.specs.Stages.{first_shape_of, format_of, got_behind, ram_got, second_shape_of, table_got, table_got_by}
use Rattle.iom_nested.specs.declared.files.FileRuling.{FileRuling}
use Rattle.iom_nested.specs.declared.files.FileRuling.TheVariants as file
use Rattle.iom_nested.specs.declared.translation.Fault.{Fault}
use Rattle.iom_nested.specs.declared.translation.Hit.{Hit}
use Rattle.iom_nested.specs.declared.translation.Reached.{Reached}
use Rattle.iom_core.specs.State.{Machine, device_id_end}
use Rattle.iom_core.specs.Access.{Under, context_look, led, led_by_context, led_by_mode, led_under, page_look, request_key, way_to}
use Rattle.iom_core.specs.declared.way.Way.TheVariants.{Context as ByContext}
use Rattle.iom_core.specs.declared.access.Request.{Request}
use Rattle.iom_tables.specs.Parts.{access_parts, directory_parts, entry_parts, file_part, first_by, first_parts, parts_by, parts_of, reached_parts, read_at, second_by, second_parts, stage_parts}
use Rattle.iom_core.specs.Looking.{by_tables, uncached}
use Rattle.iom_core.proofs.Uncached.{looked_none, used_uncached}
use Rattle.iom_tables.specs.Passing.{IsGranted, IsNoFault, Lets, Passes}
use Rattle.iom_tables.specs.declared.part.Part.{Part}
use Rattle.iom_tables.specs.declared.part.Part.TheVariants as part
use Rattle.iom_tables.specs.declared.part.Wide.TheVariants as wide
use Rattle.iom_tables.proofs.Widths.{each_by_width, not_false}

-- a verdict that points on or maps is that of such a row
let_pointer : (row : Ruling) (word : ℕ) → is_pointer (consequence row word) ≡ true → Lets row
let_pointer ruling.Pointer word is = inl refl
let_pointer ruling.Leaf word is = inr refl
let_pointer ruling.Outside word is = cc
let_pointer ruling.Guest word is = cc
let_pointer ruling.Invalid word is = cc
let_pointer ruling.WriteOnly word is = cc
let_pointer ruling.Reserved word is = cc
let_pointer ruling.ReservedInPointer word is = cc
let_pointer ruling.LastLevel word is = cc
let_pointer ruling.Misaligned word is = cc
let_pointer ruling.NotUser word is = cc
let_pointer ruling.NotReadable word is = cc
let_pointer ruling.NotWritable word is = cc
let_pointer ruling.NotAccessed word is = cc
let_pointer ruling.NotDirty word is = cc

let_leaf : (global : Bool) (address : ℕ) (entry : MetEntry) (row : Ruling) (word : ℕ) (leaf : Leaf) →
    conclude global address entry (consequence row word) ≡ outcome.Leaf leaf → Lets row
let_leaf global address entry ruling.Pointer word leaf is = inl refl
let_leaf global address entry ruling.Leaf word leaf is = inr refl
let_leaf global address entry ruling.Outside word leaf is = cc
let_leaf global address entry ruling.Guest word leaf is = cc
let_leaf global address entry ruling.Invalid word leaf is = cc
let_leaf global address entry ruling.WriteOnly word leaf is = cc
let_leaf global address entry ruling.Reserved word leaf is = cc
let_leaf global address entry ruling.ReservedInPointer word leaf is = cc
let_leaf global address entry ruling.LastLevel word leaf is = cc
let_leaf global address entry ruling.Misaligned word leaf is = cc
let_leaf global address entry ruling.NotUser word leaf is = cc
let_leaf global address entry ruling.NotReadable word leaf is = cc
let_leaf global address entry ruling.NotWritable word leaf is = cc
let_leaf global address entry ruling.NotAccessed word leaf is = cc
let_leaf global address entry ruling.NotDirty word leaf is = cc

-- an entry that was met and lets the walk on
record IsLet (at : ℕ → Got) (rules : EntryRules) (kind : Kind) (entry : PathEntry) : Type 0 where
  met : entry.got ≡ at entry.place
  judged : entry.ruling ≡ ruling_of rules kind entry.level entry.got
  lets : Lets entry.ruling

abbrev end_on : EntryRules → Kind → Bool → ℕ → List MetEntry → Outcome
end_on rules kind global address path = conclude_at rules kind global address (find (λ entry. not (is_pointer (verdict_on rules kind entry))) path)

one_more : (at : ℕ → Got) (rules : EntryRules) (kind : Kind) (global : Bool) (address : ℕ) (entry : MetEntry) (rest : List MetEntry) (leaf : Leaf) (pointer : Bool) →
    entry.got ≡ at entry.place → is_pointer (verdict_on rules kind entry) ≡ pointer →
    (end_on rules kind global address rest ≡ outcome.Leaf leaf → All (λ e. IsLet at rules kind (path_entry rules kind e)) rest) →
    end_on rules kind global address (entry ∷ (if pointer then rest else [])) ≡ outcome.Leaf leaf →
    All (λ e. IsLet at rules kind (path_entry rules kind e)) (entry ∷ (if pointer then rest else []))
unfolding verdict_of
one_more at rules kind global address entry rest leaf true met is more ends =
    let left : end_on rules kind global address rest ≡ outcome.Leaf leaf = rw is at ends in
    All-cons (λ e. IsLet at rules kind (path_entry rules kind e)) entry rest
    (record { met = met; judged = refl; lets = let_pointer (ruling_of rules kind entry.level entry.got) (word_of entry.got) is }) (more left)
one_more at rules kind global address entry rest leaf false met is more ends =
    let last : conclude global address entry (verdict_on rules kind entry) ≡ outcome.Leaf leaf = rw is at ends in
    All-cons (λ e. IsLet at rules kind (path_entry rules kind e)) entry []
    (record { met = met; judged = refl; lets = let_leaf global address entry (ruling_of rules kind entry.level entry.got) (word_of entry.got) leaf last })
    (All-nil (λ e. IsLet at rules kind (path_entry rules kind e)))

walk_from_lets : (at : ℕ → Got) (format : Format) (kind : Kind) (global : Bool) (address table count : ℕ) (leaf : Leaf) →
    end_on format.rules kind global address (path_from at format address table count) ≡ outcome.Leaf leaf →
    All (λ e. IsLet at format.rules kind (path_entry format.rules kind e)) (path_from at format address table count)
unfolding path_from
walk_from_lets at format kind global address table zero leaf ends = All-nil (λ e. IsLet at format.rules kind (path_entry format.rules kind e))
walk_from_lets at format kind global address table (suc count) leaf ends =
    let entry : MetEntry = entry_at at format address table count in
    one_more at format.rules kind global address entry (path_from at format address (next_table entry) count) leaf (is_pointer (verdict_on format.rules Read entry))
    refl (sym (pointer_for_each format.rules kind count entry.got)) (walk_from_lets at format kind global address (next_table entry) count leaf) ends

walk_lets : (at : ℕ → Got) (format : Format) (root address : ℕ) (kind : Kind) (leaf : Leaf) →
    outcome_of at format root address kind ≡ outcome.Leaf leaf → All (IsLet at format.rules kind) (path_told at format root address kind)
unfolding outcome_of verdict_on_path path_told
walk_lets at format root address kind leaf =
    let path : List MetEntry = walk_path_of at format root address in
    let told_path : List PathEntry = map (path_entry format.rules kind) path in
    elim (is_in_width format.shape address) as (λ wide. (if wide then verdict_on_path format.rules kind address path else outcome.Fault) ≡ outcome.Leaf leaf →
    All (IsLet at format.rules kind) (if wide then told_path else [])) [
      | true ↦ λ ends. All-map (IsLet at format.rules kind) (path_entry format.rules kind) path (walk_from_lets at format kind _ address root (levels format.shape) leaf ends)
      | false ↦ λ ends. All-nil (IsLet at format.rules kind)
    ]

-- what leads somewhere keeps the width rule
leaf_in_width : (at : ℕ → Got) (format : Format) (root address : ℕ) (kind : Kind) (leaf : Leaf) →
    outcome_of at format root address kind ≡ outcome.Leaf leaf → is_in_width format.shape address ≡ false → ⊥
unfolding outcome_of
leaf_in_width at format root address kind leaf ends wide =
    let other : outcome.Fault ≡ outcome.Leaf leaf = rw wide at ends in absurd (cc)

-- the directory
leaf_passes : (features : Features) (place : ℕ) (words : Option (List ℕ)) (context : Context) →
    directory.verdict_on features (met.Leaf place words ∷ []) ≡ Ok context → IsNoFault (decided_by features (met.Leaf place words))
unfolding directory.verdict_on
leaf_passes features place None context is = cc
leaf_passes features place (Some words) context is = rw is tt

fault_never : (cause : Cause) (context : Context) (found : Result Context Cause) → found ≡ Err cause → found ≡ Ok context → ⊥
fault_never cause context found is other = cc

entry_passes : (features : Features) (place : ℕ) (entry : Option ℕ) (pointed : Result ℕ Cause) (from : ℕ → List Met) (context : Context) → pointed_by entry ≡ pointed →
    ((table : ℕ) → directory.verdict_on features (from table) ≡ Ok context → All (λ item. IsNoFault (decided_by features item)) (from table)) →
    directory.verdict_on features (met.Entry place entry ∷ behind pointed from) ≡ Ok context →
    All (λ item. IsNoFault (decided_by features item)) (met.Entry place entry ∷ behind pointed from)
unfolding directory.verdict_on
entry_passes features place entry (Ok table) from context is more found =
    let left : directory.verdict_on features (from table) ≡ Ok context = rw is at found in
    All-cons (λ item. IsNoFault (decided_by features item)) (met.Entry place entry) (from table) (rw is tt) (more table left)
entry_passes features place entry (Err cause) from context is more found =
    absurd (fault_never cause context (directory.verdict_on features (met.Entry place entry ∷ [])) (rw is refl) found)

directory_from : (features : Features) (memory : Memory) (did level table : ℕ) (context : Context) →
    directory.verdict_on features (directory.path_from (context_format features) memory did level table) ≡ Ok context →
    All (λ item. IsNoFault (decided_by features item)) (directory.path_from (context_format features) memory did level table)
directory_from features memory did zero table context found =
    All-cons (λ item. IsNoFault (decided_by features item)) (met.Leaf (leaf_place (context_format features) did table) (words_in (context_format features) memory (leaf_place (context_format features) did table))) []
    (leaf_passes features (leaf_place (context_format features) did table) (words_in (context_format features) memory (leaf_place (context_format features) did table)) context found) (All-nil (λ item. IsNoFault (decided_by features item)))
directory_from features memory did (suc level) table context found =
    let place : ℕ = entry_place (context_format features) did (suc level) table in
    entry_passes features place (word memory place) (pointed_by (word memory place)) (directory.path_from (context_format features) memory did level) context refl
    (λ next. directory_from features memory did level next context) found

path_passes : (memory : Memory) (registers : Registers) (did : ℕ) (context : Context) → located memory registers did ≡ Ok context →
    All (Passes registers.features) (map part.Directory (path_of memory registers did))
unfolding located path_of
path_passes memory registers did context =
    let path : List Met = directory.path_from (context_format registers.features) memory did (levels_of (mode_of registers) - 1) (root_of registers) in
    elim (is_too_wide (context_format registers.features) (levels_of (mode_of registers)) did) as (λ wide. (if wide then Err TooWide else directory.verdict_on registers.features path) ≡ Ok context →
    All (Passes registers.features) (map part.Directory (if wide then [] else path))) [
      | true ↦ λ found. All-nil (Passes registers.features)
      | false ↦ λ found. All-map (Passes registers.features) part.Directory path
          (directory_from registers.features memory did (levels_of (mode_of registers) - 1) (root_of registers) context found)
    ]

-- a context that is found has an id that keeps the width rule
found_in_width : (memory : Memory) (registers : Registers) (did : ℕ) (context : Context) → located memory registers did ≡ Ok context →
    not (is_too_wide (context_format registers.features) (levels_of (mode_of registers)) did) ≡ false → ⊥
unfolding located
found_in_width memory registers did context found wide =
    let is : is_too_wide (context_format registers.features) (levels_of (mode_of registers)) did ≡ true = not_false _ wide in
    fault_never TooWide context (located memory registers did) (rw is refl) found

directory_passes : (m : Machine) (did : ℕ) (context : Context) → located m.memory m.registers did ≡ Ok context → All (Passes m.registers.features) (directory_parts m did)
directory_passes m did context found =
    each_by_width (Passes m.registers.features) (not (is_too_wide (context_format m.registers.features) (levels_of (mode_of m.registers)) did)) (wide.Directory (did % device_id_end))
    (map part.Directory (path_of m.memory m.registers did)) (found_in_width m.memory m.registers did context found)
    (path_passes m.memory m.registers did context found)

-- the second stage, where it leads an address
abbrev Leads : Memory → Features → ℕ → Kind → ℕ → Option Shape → Type 0
Leads memory features root kind guest None = Unit {0}
Leads memory features root kind guest (Some shape) = (leaf : Leaf) × (outcome_of (ram_got memory) (format_of features shape) root guest kind ≡ outcome.Leaf leaf)

second_by_passes : (memory : Memory) (features : Features) (root : ℕ) (kind : Kind) (guest : ℕ) (shape : Option Shape) → Leads memory features root kind guest shape →
    All (Passes features) (second_by memory features root kind guest shape)
second_by_passes memory features root kind guest None leads = All-nil (Passes features)
second_by_passes memory features root kind guest (Some shape) leads =
    let path : List PathEntry = path_told (ram_got memory) (format_of features shape) root guest kind in
    each_by_width (Passes features) (is_in_width shape guest) (wide.Second guest) (map (part.Second guest) path)
    (leaf_in_width (ram_got memory) (format_of features shape) root guest kind leads.0 leads.1)
    (All-map (Passes features) (part.Second guest) path
    (All-weaker (IsLet (ram_got memory) (user_rules features) kind) (λ entry. Lets entry.ruling) (λ entry is. is.lets) path
    (walk_lets (ram_got memory) (format_of features shape) root guest kind leads.0 leads.1)))

second_passes : (memory : Memory) (features : Features) (context : Context) (kind : Kind) (guest : ℕ) →
    Leads memory features context.gppn kind guest (second_shape_of context) → All (Passes features) (second_parts memory features context kind guest)
unfolding second_parts
second_passes memory features context kind guest leads = second_by_passes memory features context.gppn kind guest (second_shape_of context) leads

-- what wasn't read lets no walk on
outside_never : (rules : EntryRules) (kind : Kind) (level : ℕ) → ¬ Lets (ruling_of rules kind level got.Outside)
unfolding ruling_of
outside_never rules kind level lets = elim lets [ inl is ↦ cc | inr is ↦ cc ]

guest_never : (rules : EntryRules) (kind : Kind) (level : ℕ) → ¬ Lets (ruling_of rules kind level got.Guest)
unfolding ruling_of
guest_never rules kind level lets = elim lets [ inl is ↦ cc | inr is ↦ cc ]

entry_leads : (memory : Memory) (rules : EntryRules) (kind : Kind) (level place : ℕ) (end : Outcome) → Lets (ruling_of rules kind level (got_behind memory place end)) →
    (leaf : Leaf) × (end ≡ outcome.Leaf leaf)
entry_leads memory rules kind level place (outcome.Leaf leaf) lets = (leaf, refl)
entry_leads memory rules kind level place outcome.Outside lets = absurd (outside_never rules kind level lets)
entry_leads memory rules kind level place (outcome.Guest at) lets = absurd (guest_never rules kind level lets)
entry_leads memory rules kind level place outcome.Fault lets = absurd (guest_never rules kind level lets)

place_leads : (memory : Memory) (features : Features) (root : ℕ) (kind : Kind) (entry : PathEntry) (shape : Option Shape) →
    IsLet (table_got_by memory features root shape) (user_rules features) kind entry → Leads memory features root Read entry.place shape
place_leads memory features root kind entry None is = tt
place_leads memory features root kind entry (Some shape) is =
    entry_leads memory (user_rules features) kind entry.level entry.place (outcome_of (ram_got memory) (format_of features shape) root entry.place Read)
    (subst (λ got. Lets (ruling_of (user_rules features) kind entry.level got)) is.met (subst Lets is.judged is.lets))

-- the first stage
first_entry_passes : (memory : Memory) (features : Features) (context : Context) (kind : Kind) (entry : PathEntry) → IsLet (table_got memory features context) (user_rules features) kind entry →
    All (Passes features) (entry_parts memory features context entry)
first_entry_passes memory features context kind entry is =
    let first : Part = part.First entry (read_at memory features context entry.place) in
    All-append (Passes features) (second_parts memory features context Read entry.place) (first ∷ [])
    (second_passes memory features context Read entry.place (place_leads memory features context.gppn kind entry (second_shape_of context) is))
    (All-cons (Passes features) first [] is.lets (All-nil (Passes features)))

entries_pass : (memory : Memory) (features : Features) (context : Context) (kind : Kind) (entries : List PathEntry) →
    All (IsLet (table_got memory features context) (user_rules features) kind) entries → All (Passes features) (flat_map (entry_parts memory features context) entries)
entries_pass memory features context kind [] each = All-nil (Passes features)
entries_pass memory features context kind (entry ∷ more) each =
    All-append (Passes features) (entry_parts memory features context entry) (flat_map (entry_parts memory features context) more)
    (first_entry_passes memory features context kind entry (All-head (IsLet (table_got memory features context) (user_rules features) kind) entry more each))
    (entries_pass memory features context kind more (All-tail (IsLet (table_got memory features context) (user_rules features) kind) entry more each))

-- the access
access_leads : (memory : Memory) (root : ℕ) (kind : Kind) (reached : Reached) (end : Outcome) (hit : Hit) → hit_by reached end ≡ Ok hit →
    (leaf : Leaf) × (end ≡ outcome.Leaf leaf)
access_leads memory root kind reached (outcome.Leaf leaf) hit is = (leaf, refl)
access_leads memory root kind reached outcome.Outside hit is = cc
access_leads memory root kind reached (outcome.Guest place) hit is = cc
access_leads memory root kind reached outcome.Fault hit is = cc

access_by_leads : (memory : Memory) (features : Features) (context : Context) (kind : Kind) (reached : Reached) (shape : Option Shape) (hit : Hit) →
    second_stage memory features context kind shape reached ≡ Ok hit → Leads memory features context.gppn kind reached.addr shape
access_by_leads memory features context kind reached None hit is = tt
access_by_leads memory features context kind reached (Some shape) hit is =
    access_leads memory context.gppn kind reached (outcome_of (ram_got memory) (format_of features shape) context.gppn reached.addr kind) hit is

-- or the entry of an interrupt file
row_leads : (reached : Reached) (frame : ℕ) (row : FileRuling) (hit : Hit) → hit_ruled reached frame row ≡ Ok hit → row ≡ file.Leads
row_leads reached frame file.Leads hit is = refl
row_leads reached frame file.Outside hit is = cc
row_leads reached frame file.Invalid hit is = cc
row_leads reached frame file.Custom hit is = cc
row_leads reached frame file.BadMode hit is = cc
row_leads reached frame file.Resident hit is = cc
row_leads reached frame file.Reserved hit is = cc

word_leads : (reached : Reached) (word : Option ℕ) (hit : Hit) → hit_by_file reached word ≡ Ok hit → file_ruling word ≡ file.Leads
word_leads reached None hit is = cc
word_leads reached (Some word) hit is = row_leads reached (entry_frame word) (word_ruling word) hit is

access_passes : (memory : Memory) (features : Features) (context : Context) (kind : Kind) (of_file : Bool) (reached : Reached) (hit : Hit) →
    access_stage memory features context kind of_file reached ≡ Ok hit → All (Passes features) (reached_parts memory features context kind of_file reached.addr)
access_passes memory features context kind true reached hit is =
    All-cons (Passes features) (file_part memory context.msi reached.addr) []
    (word_leads reached (file_word memory (file_place context.msi reached.addr)) hit is) (All-nil (Passes features))
access_passes memory features context kind false reached hit is =
    second_passes memory features context kind reached.addr (access_by_leads memory features context kind reached (second_shape_of context) hit is)

-- both stages
end_passes : (memory : Memory) (features : Features) (context : Context) (iova : ℕ) (kind : Kind) (shape : Shape) (end : Outcome) (hit : Hit) →
    outcome_of (table_got memory features context) (format_of features shape) context.ppn iova kind ≡ end → behind_first memory features context kind (reached_by iova end) ≡ Ok hit →
    All (Passes features) (first_by memory features context iova kind (Some shape) ++ access_parts memory features context kind (reached_by iova end))
end_passes memory features context iova kind shape (outcome.Leaf leaf) hit is found =
    let path : List PathEntry = path_told (table_got memory features context) (format_of features shape) context.ppn iova kind in
    let reached : Reached = record { addr = leaf.frame * 4096 + iova % 4096; level = leaf.level; global = leaf.global; napot = leaf.napot } in
    All-append (Passes features) (first_by memory features context iova kind (Some shape)) (access_parts memory features context kind (Ok reached))
    (each_by_width (Passes features) (is_in_width shape iova) (wide.First iova) (flat_map (entry_parts memory features context) path)
    (leaf_in_width (table_got memory features context) (format_of features shape) context.ppn iova kind leaf is)
    (entries_pass memory features context kind path (walk_lets (table_got memory features context) (format_of features shape) context.ppn iova kind leaf is)))
    (access_passes memory features context kind (is_of_file context.msi reached.addr) reached hit found)
end_passes memory features context iova kind shape outcome.Outside hit is found = cc
end_passes memory features context iova kind shape (outcome.Guest place) hit is found = cc
end_passes memory features context iova kind shape outcome.Fault hit is found = cc

stages_by_pass : (memory : Memory) (features : Features) (context : Context) (iova : ℕ) (kind : Kind) (shape : Option Shape) (hit : Hit) →
    behind_first memory features context kind (first_stage memory features context iova kind shape) ≡ Ok hit →
    All (Passes features) (first_by memory features context iova kind shape ++ access_parts memory features context kind (first_stage memory features context iova kind shape))
stages_by_pass memory features context iova kind None hit found =
    access_passes memory features context kind (is_of_file context.msi iova) (record { addr = iova; level = 0; global = false; napot = false }) hit found
stages_by_pass memory features context iova kind (Some shape) hit found =
    end_passes memory features context iova kind shape (outcome_of (table_got memory features context) (format_of features shape) context.ppn iova kind) hit refl found

stages_pass : (memory : Memory) (features : Features) (context : Context) (iova : ℕ) (kind : Kind) (hit : Hit) →
    behind_first memory features context kind (first_stage memory features context iova kind (first_shape_of context)) ≡ Ok hit →
    All (Passes features) (stage_parts memory features iova kind (Ok context))
unfolding first_parts
stages_pass memory features context iova kind hit found = stages_by_pass memory features context iova kind (first_shape_of context) hit found

-- a context both of whose stages are Bare, with no MSI page table, hits the page itself
bare_stages_pass : (memory : Memory) (features : Features) (context : Context) (iova : ℕ) (kind : Kind) → is_bare context ≡ true →
    All (Passes features) (stage_parts memory features iova kind (Ok context))
bare_stages_pass memory features context iova kind bare =
    let first : (context.mode == 0) ≡ true = search rules in
    let second : (context.gmode == 0) ≡ true = search rules in
    let no_files : context.msi.flat ≡ false = search rules in
    stages_pass memory features context iova kind (record { frame = iova / 4096; level = 0; global = false; napot = false }) (rw (first, no_files, second) refl)

hit_of : (kind : Kind) (found : Result Hit Failure) (hit : Hit) → told_of kind found ≡ Ok hit → found ≡ Ok hit
hit_of kind (Ok found) hit is = cc
hit_of kind (Err failure) hit is = cc

translated_stages_pass : (memory : Memory) (features : Features) (context : Context) (iova : ℕ) (kind : Kind) (hit : Hit) → translation memory features context iova kind ≡ Ok hit →
    All (Passes features) (stage_parts memory features iova kind (Ok context))
unfolding translation
translated_stages_pass memory features context iova kind hit is = stages_pass memory features context iova kind hit (hit_of kind _ hit is)

-- below a context, by the way that is led
page_passes : (memory : Memory) (features : Features) (request : Request) (context : Context) (found : Result Hit Fault) →
    translation memory features context request.iova request.kind ≡ found → IsGranted (way_to context found) →
    All (Passes features) (stage_parts memory features request.iova request.kind (Ok context))
page_passes memory features request context (Ok hit) is granted = translated_stages_pass memory features context request.iova request.kind hit is
page_passes memory features request context (Err fault) is granted = absurd granted

-- by whether both stages are Bare, with no MSI page table
abbrev pub under_where : Bool → Memory → Features → Request → Context → Under
under_where bare memory features request context =
    if bare then record { way = ByContext context; page = None }
    else record { way = way_to context (page_look memory features [] request context).used; page = (page_look memory features [] request context).filled }

under_passes : (memory : Memory) (features : Features) (request : Request) (context : Context) (bare : Bool) → is_bare context ≡ bare →
    IsGranted (under_where bare memory features request context).way →
    All (Passes features) (stage_parts memory features request.iova request.kind (Ok context))
unfolding page_look
under_passes memory features request context true is granted = bare_stages_pass memory features context request.iova request.kind is
under_passes memory features request context false is granted =
    let told = translation memory features context request.iova request.kind in
    page_passes memory features request context told refl (subst (λ r. IsGranted (way_to context r)) (looked_none (request_key request context) told) granted)

pub context_passes : (memory : Memory) (features : Features) (request : Request) (context : Context) → IsGranted (led_under memory features [] request context).way →
    All (Passes features) (stage_parts memory features request.iova request.kind (Ok context))
context_passes memory features request context granted = under_passes memory features request context (is_bare context) refl granted

found_passes : (m : Machine) (request : Request) (found : Result Context Cause) → located m.memory m.registers request.did ≡ found →
    IsGranted (led_by_context (uncached m) request (context_look (uncached m) request.did).filled found).way →
    All (Passes m.registers.features) (directory_parts m request.did ++ stage_parts m.memory m.registers.features request.iova request.kind found)
found_passes m request (Ok context) is granted =
    All-append (Passes m.registers.features) (directory_parts m request.did) (stage_parts m.memory m.registers.features request.iova request.kind (Ok context))
    (directory_passes m request.did context is)
    (context_passes m.memory m.registers.features request context granted)
found_passes m request (Err why) is granted = absurd granted

mode_passes : (m : Machine) (request : Request) (own : Mode) → IsGranted ((led_by_mode own (uncached m) request).way) →
    (own ≢ mode.Off) × All (Passes m.registers.features) (parts_by own m request)
mode_passes m request mode.Off granted = absurd granted
mode_passes m request mode.Bare granted = (λ is. cc, All-nil (Passes m.registers.features))
mode_passes m request (mode.Levels levels) granted = (
  λ is. cc,
  found_passes m request (located m.memory m.registers request.did) refl
      (subst (λ r. IsGranted (led_by_context (uncached m) request (context_look (uncached m) request.did).filled r).way) (used_uncached m request.did) granted),
)

each_passes : (m : Machine) (request : Request) → IsGranted (by_tables m request) → All (Passes m.registers.features) (parts_of m request)
unfolding parts_of led
each_passes m request granted =
    let ddtp : Part = part.Ddtp (mode_of m.registers) (root_of m.registers) in
    let end : Part = part.End (by_tables m request) in
    let between : List Part = parts_by (mode_of m.registers) m request in
    let passed : (mode_of m.registers ≢ mode.Off) × All (Passes m.registers.features) between = mode_passes m request (mode_of m.registers) granted in
    All-cons (Passes m.registers.features) ddtp (between ++ end ∷ []) passed.0
    (All-append (Passes m.registers.features) between (end ∷ []) passed.1 (All-cons (Passes m.registers.features) end [] granted (All-nil (Passes m.registers.features))))

pub each_passes_of : (m : Machine) (request : Request) (parts : List Part) → parts ≡ parts_of m request →
    IsGranted (by_tables m request) → All (Passes m.registers.features) parts
each_passes_of m request parts are granted = subst (All (Passes m.registers.features)) (sym are) (each_passes m request granted)
