-- Where a request is denied, something that is looked at refuses it.
use Rattle.std.proofs.Common.{◌≡◌, ◌%◌, ◌≢◌, ◌-◌, ◌<◌, ◌⊎◌, ◌++◌, ℕ, zero, suc, Bool, true, false, not, List, [], ◌∷◌, map, length, Option, Some, None, Result, Ok, Err, if◌then◌else◌, refl, sym, ap, subst, inl, inr, arith}
use Rattle.std.specs.Prelude.{All, Any, find, flat_map}
use Rattle.std.proofs.lemmas.Grind.{common_steps}
use Rattle.std.proofs.lemmas.List.Elements.{All-head, All-tail}
use Rattle.iom_bits.specs.declared.causes.Cause.{Cause}
use Rattle.iom_bits.specs.declared.causes.Cause.TheVariants.{TooWide}
use Rattle.iom_bits.specs.declared.causes.Kind.{Kind}
use Rattle.iom_bits.specs.declared.causes.Kind.TheVariants.{Read}
use Rattle.iom_bits.specs.Features.{Features}
use Rattle.iom_walk.specs.declared.rules.EntryRules.{EntryRules}
use Rattle.iom_mem.specs.Memory.{Memory, word}
use Rattle.iom_regs.specs.Table.{Registers}
use Rattle.iom_regs.specs.Views.{mode_of, root_of}
use Rattle.iom_regs.specs.declared.views.Mode.{Mode}
use Rattle.iom_regs.specs.declared.views.Mode.TheVariants as mode
use Rattle.iom_ddt.specs.Contexts.{is_bare}
use Rattle.iom_ddt.specs.Directory.{behind, decided_by, entry_place, is_too_wide, leaf_place, levels_of, located, path_of, pointed_by}
use Rattle.iom_ddt.specs.Formats.{context_format, words_in}
use Rattle.iom_ddt.specs.Directory as directory
use Rattle.iom_ddt.specs.declared.context.Context.{Context}
use Rattle.iom_ddt.specs.declared.met.Met.{Met}
use Rattle.iom_ddt.specs.declared.met.Met.TheVariants as met
use Rattle.iom_walk.specs.Outcome.{conclude, conclude_at, leaf_of, outcome_of, verdict_on_path}
use Rattle.iom_walk.specs.declared.met.MetEntry.{MetEntry}
use Rattle.iom_walk.specs.Path.{entry_at, next_table, path_from, path_of as walk_path_of, verdict_on}
use Rattle.iom_walk.specs.Shape.{is_in_width, levels}
use Rattle.iom_walk.specs.Told.{path_told, path_entry}
use Rattle.iom_walk.specs.Verdict.{consequence, is_pointer, ruling_of, verdict_of, word_of}
use Rattle.iom_walk.specs.declared.entry.Ruling.{Ruling}
use Rattle.iom_walk.specs.declared.listing.PathEntry.{PathEntry}
use Rattle.iom_walk.specs.declared.outcome.Leaf.{Leaf}
use Rattle.iom_walk.specs.declared.outcome.Outcome.{Outcome}
use Rattle.iom_walk.specs.declared.outcome.Outcome.TheVariants as outcome
use Rattle.iom_walk.specs.declared.shape.Shape.{Shape}
use Rattle.iom_walk.specs.declared.source.Got.{Got}
use Rattle.iom_walk.proofs.Entries.{pointer_for_each}
use Rattle.iom_walk.specs.declared.shape.Format.{Format}
use Rattle.iom_nested.specs.Faults.{Failure}
use Rattle.iom_nested.specs.Files.{entry_frame, file_place, file_ruling, file_word, hit_by_file, hit_ruled, is_of_file, word_ruling}
use Rattle.iom_nested.specs.Nested.{access_stage, behind_first, first_stage, hit_by, reached_by, second_stage, told_of, translation}
use Rattle.iom_nested.specs.Stages.{first_shape_of, format_of, ram_got, second_shape_of, table_got}
use Rattle.iom_nested.specs.declared.files.FileRuling.{FileRuling}
use Rattle.iom_nested.specs.declared.files.FileRuling.TheVariants as file
use Rattle.iom_nested.specs.declared.translation.Fault.{Fault}
use Rattle.iom_nested.specs.declared.translation.Hit.{Hit}
use Rattle.iom_nested.specs.declared.translation.Reached.{Reached}
use Rattle.iom_core.specs.State.{Machine, device_id_end}
use Rattle.iom_core.specs.Access.{context_look, led, led_by_context, led_by_mode, led_under, page_look, request_key, way_to}
use Rattle.iom_core.specs.declared.access.Request.{Request}
use Rattle.iom_tables.specs.Parts.{access_parts, by_width, directory_parts, entry_parts, first_by, first_parts, parts_by, parts_of, reached_parts, read_at, second_by, second_parts, stage_parts}
use Rattle.iom_core.specs.Looking.{by_tables, uncached}
use Rattle.iom_tables.specs.Passing.{IsGranted, IsNoFault, Lets, Refuses}
use Rattle.iom_tables.specs.declared.part.Part.{Part}
use Rattle.iom_tables.specs.declared.part.Part.TheVariants as part
use Rattle.iom_tables.specs.declared.part.Wide.{Wide}
use Rattle.iom_tables.specs.declared.part.Wide.TheVariants as wide
use Rattle.iom_core.proofs.Uncached.{looked_none, used_uncached}
use Rattle.iom_tables.proofs.Bounds.{each_shape}
use Rattle.iom_tables.proofs.Passing.{under_where}
use Rattle.iom_tables.proofs.Widths.{IsWide, each_is_wide}

-- something in a list is so
abbrev Occurs : {X : Type 0} → (X → Type 0) → List X → Type 0
Occurs P [] = ⊥
Occurs P (x ∷ xs) = P x ⊎ Occurs P xs

in_first : {X : Type 0} (P : X → Type 0) (xs ys : List X) → Occurs P xs → Occurs P (xs ++ ys)
in_first P [] ys is = absurd is
in_first P (x ∷ xs) ys is = elim is [ inl here ↦ inl here | inr later ↦ inr (in_first P xs ys later) ]

in_second : {X : Type 0} (P : X → Type 0) (xs ys : List X) → Occurs P ys → Occurs P (xs ++ ys)
in_second P [] ys is = is
in_second P (x ∷ xs) ys is = inr (in_second P xs ys is)

in_mapped : {X Y : Type 0} (P : X → Type 0) (Q : Y → Type 0) (f : X → Y) → ((x : X) → P x → Q (f x)) → (xs : List X) → Occurs P xs → Occurs Q (map f xs)
in_mapped P Q f each [] is = absurd is
in_mapped P Q f each (x ∷ xs) is = elim is [ inl here ↦ inl (each x here) | inr later ↦ inr (in_mapped P Q f each xs later) ]

in_flat : {X Y : Type 0} (P : X → Type 0) (Q : Y → Type 0) (f : X → List Y) → ((x : X) → P x → Occurs Q (f x)) → (xs : List X) → Occurs P xs →
    Occurs Q (flat_map f xs)
in_flat P Q f each [] is = absurd is
in_flat P Q f each (x ∷ xs) is = elim is [
  | inl here ↦ in_first Q (f x) (flat_map f xs) (each x here)
  | inr later ↦ in_second Q (f x) (flat_map f xs) (in_flat P Q f each xs later)
]

any_of : {X : Type 0} (P : X → Type 0) (xs : List X) → Occurs P xs → Any P xs
any_of P [] is = absurd is
any_of P (x ∷ xs) is = elim is [
  | inl here ↦ (0, x, omega arith, refl, here)
  | inr later ↦
      let a = any_of P xs later in
      let low : a.0 < length xs = a.2 in
      (suc a.0, a.1, omega arith, a.3, a.4)
]

-- a part that refuses, where what is too wide does so by itself
abbrev Bars : Features → Part → Type 0
Bars features (part.Ddtp own root) = own ≡ mode.Off
Bars features (part.Directory met) = ¬ IsNoFault (decided_by features met)
Bars features (part.Wide what) = Unit {0}
Bars features (part.First entry addr) = ¬ Lets entry.ruling
Bars features (part.Second guest entry) = ¬ Lets entry.ruling
Bars features (part.File guest place word) = file_ruling word ≢ file.Leads
Bars features (part.End end) = ⊥

-- the width rule refuses, or one of the entries does
refused_by_width : (features : Features) (kept : Bool) (what : Wide) (entries : List Part) → (kept ≡ false) ⊎ Occurs (Bars features) entries → Occurs (Bars features) (by_width kept what entries)
refused_by_width features true what entries is = elim is [ inl wide ↦ absurd (cc) | inr some ↦ some ]
refused_by_width features false what entries is = inl tt

-- the directory
abbrev Faults : Features → Met → Type 0
Faults features item = ¬ IsNoFault (decided_by features item)

leaf_refuses : (features : Features) (place : ℕ) (words : Option (List ℕ)) (cause : Cause) →
    directory.verdict_on features (met.Leaf place words ∷ []) ≡ Err cause → Faults features (met.Leaf place words)
unfolding directory.verdict_on
leaf_refuses features place None cause is = λ never. never
leaf_refuses features place (Some words) cause is = rw is (λ never. never)

entry_refuses : (features : Features) (place : ℕ) (entry : Option ℕ) (pointed : Result ℕ Cause) (from : ℕ → List Met) (cause : Cause) → pointed_by entry ≡ pointed →
    ((table : ℕ) → directory.verdict_on features (from table) ≡ Err cause → Occurs (Faults features) (from table)) →
    directory.verdict_on features (met.Entry place entry ∷ behind pointed from) ≡ Err cause →
    Occurs (Faults features) (met.Entry place entry ∷ behind pointed from)
unfolding directory.verdict_on
entry_refuses features place entry (Ok table) from cause is more found =
    let left : directory.verdict_on features (from table) ≡ Err cause = rw is at found in inr (more table left)
entry_refuses features place entry (Err why) from cause is more found = inl (rw is (λ never. never))

directory_from : (features : Features) (memory : Memory) (did level table : ℕ) (cause : Cause) →
    directory.verdict_on features (directory.path_from (context_format features) memory did level table) ≡ Err cause → Occurs (Faults features) (directory.path_from (context_format features) memory did level table)
directory_from features memory did zero table cause found =
    inl (leaf_refuses features (leaf_place (context_format features) did table) (words_in (context_format features) memory (leaf_place (context_format features) did table)) cause found)
directory_from features memory did (suc level) table cause found =
    let place : ℕ = entry_place (context_format features) did (suc level) table in
    entry_refuses features place (word memory place) (pointed_by (word memory place)) (directory.path_from (context_format features) memory did level) cause refl
    (λ next. directory_from features memory did level next cause) found

path_refuses : (memory : Memory) (registers : Registers) (did : ℕ) (cause : Cause) → located memory registers did ≡ Err cause →
    (not (is_too_wide (context_format registers.features) (levels_of (mode_of registers)) did) ≡ false) ⊎ Occurs (Bars registers.features) (map part.Directory (path_of memory registers did))
unfolding located path_of
path_refuses memory registers did cause =
    let path : List Met = directory.path_from (context_format registers.features) memory did (levels_of (mode_of registers) - 1) (root_of registers) in
    let Goal : Bool → Type 0 = λ wide. is_too_wide (context_format registers.features) (levels_of (mode_of registers)) did ≡ wide → (if wide then Err TooWide else directory.verdict_on registers.features path) ≡ Err cause →
    (not (is_too_wide (context_format registers.features) (levels_of (mode_of registers)) did) ≡ false) ⊎ Occurs (Bars registers.features) (map part.Directory (if wide then [] else path)) in
    let by_cases : (wide : Bool) → Goal wide = λ wide. elim wide as Goal [
      | true ↦ λ is found. inl (ap not is)
      | false ↦ λ is found. inr (in_mapped (Faults registers.features) (Bars registers.features) part.Directory (λ item is. is) path
          (directory_from registers.features memory did (levels_of (mode_of registers) - 1) (root_of registers) cause found))
    ] in by_cases (is_too_wide (context_format registers.features) (levels_of (mode_of registers)) did) refl

directory_refuses : (m : Machine) (did : ℕ) (cause : Cause) → located m.memory m.registers did ≡ Err cause → Occurs (Bars m.registers.features) (directory_parts m did)
directory_refuses m did cause is =
    refused_by_width m.registers.features (not (is_too_wide (context_format m.registers.features) (levels_of (mode_of m.registers)) did)) (wide.Directory (did % device_id_end))
    (map part.Directory (path_of m.memory m.registers did)) (path_refuses m.memory m.registers did cause is)

-- a walk that doesn't end at a leaf
abbrev NoLeaf : Outcome → Type 0
NoLeaf end = (leaf : Leaf) → end ≢ outcome.Leaf leaf

abbrev end_on : EntryRules → Kind → Bool → ℕ → List MetEntry → Outcome
end_on rules kind global address path = conclude_at rules kind global address (find (λ entry. not (is_pointer (verdict_on rules kind entry))) path)

-- a row that neither points on nor maps
abbrev Stops : EntryRules → Kind → MetEntry → Type 0
Stops rules kind entry = ¬ Lets (ruling_of rules kind entry.level entry.got)

row_stops : (global : Bool) (address : ℕ) (entry : MetEntry) (row : Ruling) (word : ℕ) → is_pointer (consequence row word) ≡ false →
    NoLeaf (conclude global address entry (consequence row word)) → ¬ Lets row
row_stops global address entry row word points maps = λ lets. elim lets [
  | inl is ↦ let other : is_pointer (consequence row word) ≡ true = rw is refl in absurd (cc)
  | inr is ↦ maps (leaf_of global address entry.level word) (rw is refl)
]

-- there is no pointer in a last table
no_last_pointer : (rules : EntryRules) (kind : Kind) (got : Got) → is_pointer (verdict_of rules kind 0 got) ≡ false
unfolding verdict_of ruling_of
no_last_pointer rules kind got = grind (arith, common_steps)

end_stops : (rules : EntryRules) (kind : Kind) (global : Bool) (address : ℕ) (entry : MetEntry) (rest : List MetEntry) → is_pointer (verdict_on rules kind entry) ≡ false →
    NoLeaf (end_on rules kind global address (entry ∷ rest)) → Stops rules kind entry
unfolding verdict_of
end_stops rules kind global address entry rest points no_leaf =
    let last : NoLeaf (conclude global address entry (verdict_on rules kind entry)) = rw points at no_leaf in
    row_stops global address entry (ruling_of rules kind entry.level entry.got) (word_of entry.got) points last

goes_on : (rules : EntryRules) (kind : Kind) (global : Bool) (address : ℕ) (entry : MetEntry) (rest : List MetEntry) (pointer : Bool) → is_pointer (verdict_on rules kind entry) ≡ pointer →
    (NoLeaf (end_on rules kind global address rest) → Occurs (Stops rules kind) rest) →
    NoLeaf (end_on rules kind global address (entry ∷ (if pointer then rest else []))) → Occurs (Stops rules kind) (entry ∷ (if pointer then rest else []))
goes_on rules kind global address entry rest true is more no_leaf =
    let left : NoLeaf (end_on rules kind global address rest) = rw is at no_leaf in inr (more left)
goes_on rules kind global address entry rest false is more no_leaf = inl (end_stops rules kind global address entry [] is no_leaf)

walk_stops : (at : ℕ → Got) (format : Format) (kind : Kind) (global : Bool) (address table count : ℕ) →
    NoLeaf (end_on format.rules kind global address (path_from at format address table (suc count))) →
    Occurs (Stops format.rules kind) (path_from at format address table (suc count))
unfolding path_from
walk_stops at format kind global address table zero no_leaf =
    let entry : MetEntry = entry_at at format address table zero in
    inl (end_stops format.rules kind global address entry (if is_pointer (verdict_on format.rules Read entry) then path_from at format address (next_table entry) zero else [])
    (no_last_pointer format.rules kind entry.got) no_leaf)
walk_stops at format kind global address table (suc count) no_leaf =
    let entry : MetEntry = entry_at at format address table (suc count) in
    goes_on format.rules kind global address entry (path_from at format address (next_table entry) (suc count)) (is_pointer (verdict_on format.rules Read entry))
    (sym (pointer_for_each format.rules kind (suc count) entry.got)) (walk_stops at format kind global address (next_table entry) count) no_leaf

root_stops : (at : ℕ → Got) (format : Format) (kind : Kind) (global : Bool) (address root count : ℕ) → 0 < count →
    NoLeaf (end_on format.rules kind global address (path_from at format address root count)) → Occurs (Stops format.rules kind) (path_from at format address root count)
root_stops at format kind global address root zero some no_leaf = absurd (omega arith)
root_stops at format kind global address root (suc count) some no_leaf = walk_stops at format kind global address root count no_leaf

abbrev IsStop : PathEntry → Type 0
IsStop entry = ¬ Lets entry.ruling

outcome_stops : (at : ℕ → Got) (format : Format) (root address : ℕ) (kind : Kind) → NoLeaf (outcome_of at format root address kind) →
    (is_in_width format.shape address ≡ false) ⊎ Occurs IsStop (path_told at format root address kind)
unfolding outcome_of verdict_on_path path_told
outcome_stops at format root address kind =
    let path : List MetEntry = walk_path_of at format root address in
    let Goal : Bool → Type 0 = λ wide. is_in_width format.shape address ≡ wide → NoLeaf (if wide then verdict_on_path format.rules kind address path else outcome.Fault) →
    (is_in_width format.shape address ≡ false) ⊎ Occurs IsStop (if wide then map (path_entry format.rules kind) path else []) in
    let by_cases : (wide : Bool) → Goal wide = λ wide. elim wide as Goal [
      | true ↦ λ is no_leaf. inr (in_mapped (Stops format.rules kind) IsStop (path_entry format.rules kind) (λ entry is. is) path
          (root_stops at format kind _ address root (levels format.shape) (each_shape format.shape).least no_leaf))
      | false ↦ λ is no_leaf. inl is
    ] in by_cases (is_in_width format.shape address) refl

-- the second stage, where it leads an address nowhere
abbrev LeadsNot : Memory → Features → ℕ → Kind → ℕ → Option Shape → Type 0
LeadsNot memory features root kind guest None = ⊥
LeadsNot memory features root kind guest (Some shape) = NoLeaf (outcome_of (ram_got memory) (format_of features shape) root guest kind)

second_by_stops : (memory : Memory) (features : Features) (root : ℕ) (kind : Kind) (guest : ℕ) (shape : Option Shape) → LeadsNot memory features root kind guest shape →
    Occurs (Bars features) (second_by memory features root kind guest shape)
second_by_stops memory features root kind guest None never = absurd never
second_by_stops memory features root kind guest (Some shape) stops =
    let path : List PathEntry = path_told (ram_got memory) (format_of features shape) root guest kind in
    refused_by_width features (is_in_width shape guest) (wide.Second guest) (map (part.Second guest) path)
    (elim (outcome_stops (ram_got memory) (format_of features shape) root guest kind stops) [
      | inl beyond ↦ inl beyond
      | inr some ↦ inr (in_mapped IsStop (Bars features) (part.Second guest) (λ entry is. is) path some)
    ])

access_no_leaf : (reached : Reached) (end : Outcome) (failure : Failure) → hit_by reached end ≡ Err failure → NoLeaf end
access_no_leaf reached (outcome.Leaf leaf) failure is = absurd (cc)
access_no_leaf reached outcome.Outside failure is = λ leaf other. cc
access_no_leaf reached (outcome.Guest place) failure is = λ leaf other. cc
access_no_leaf reached outcome.Fault failure is = λ leaf other. cc

access_leads_not : (memory : Memory) (features : Features) (context : Context) (kind : Kind) (reached : Reached) (shape : Option Shape) (failure : Failure) →
    second_stage memory features context kind shape reached ≡ Err failure → LeadsNot memory features context.gppn kind reached.addr shape
access_leads_not memory features context kind reached None failure is = absurd (cc)
access_leads_not memory features context kind reached (Some shape) failure is =
    access_no_leaf reached (outcome_of (ram_got memory) (format_of features shape) context.gppn reached.addr kind) failure is

-- an entry of an interrupt file that leads nowhere
row_refuses : (reached : Reached) (frame : ℕ) (row : FileRuling) (failure : Failure) → hit_ruled reached frame row ≡ Err failure → row ≢ file.Leads
row_refuses reached frame file.Leads failure is = absurd (cc)
row_refuses reached frame file.Outside failure is = λ leads. cc
row_refuses reached frame file.Invalid failure is = λ leads. cc
row_refuses reached frame file.Custom failure is = λ leads. cc
row_refuses reached frame file.BadMode failure is = λ leads. cc
row_refuses reached frame file.Resident failure is = λ leads. cc
row_refuses reached frame file.Reserved failure is = λ leads. cc

word_refuses : (reached : Reached) (word : Option ℕ) (failure : Failure) → hit_by_file reached word ≡ Err failure → file_ruling word ≢ file.Leads
word_refuses reached None failure is = λ leads. cc
word_refuses reached (Some word) failure is = row_refuses reached (entry_frame word) (word_ruling word) failure is

access_stops : (memory : Memory) (features : Features) (context : Context) (kind : Kind) (of_file : Bool) (reached : Reached) (failure : Failure) →
    access_stage memory features context kind of_file reached ≡ Err failure →
    Occurs (Bars features) (reached_parts memory features context kind of_file reached.addr)
unfolding second_parts
access_stops memory features context kind true reached failure is =
    inl (word_refuses reached (file_word memory (file_place context.msi reached.addr)) failure is)
access_stops memory features context kind false reached failure is =
    second_by_stops memory features context.gppn kind reached.addr (second_shape_of context)
    (access_leads_not memory features context kind reached (second_shape_of context) failure is)

-- the first
first_no_leaf : (iova : ℕ) (end : Outcome) (failure : Failure) → reached_by iova end ≡ Err failure → NoLeaf end
first_no_leaf iova (outcome.Leaf leaf) failure is = absurd (cc)
first_no_leaf iova outcome.Outside failure is = λ leaf other. cc
first_no_leaf iova (outcome.Guest place) failure is = λ leaf other. cc
first_no_leaf iova outcome.Fault failure is = λ leaf other. cc

first_by_stops : (memory : Memory) (features : Features) (context : Context) (iova : ℕ) (kind : Kind) (shape : Option Shape) (failure : Failure) →
    first_stage memory features context iova kind shape ≡ Err failure → Occurs (Bars features) (first_by memory features context iova kind shape)
first_by_stops memory features context iova kind None failure is = absurd (cc)
first_by_stops memory features context iova kind (Some shape) failure is =
    let path : List PathEntry = path_told (table_got memory features context) (format_of features shape) context.ppn iova kind in
    refused_by_width features (is_in_width shape iova) (wide.First iova) (flat_map (entry_parts memory features context) path)
    (elim (outcome_stops (table_got memory features context) (format_of features shape) context.ppn iova kind
    (first_no_leaf iova (outcome_of (table_got memory features context) (format_of features shape) context.ppn iova kind) failure is)) [
      | inl beyond ↦ inl beyond
      | inr stops ↦ inr (in_flat IsStop (Bars features) (entry_parts memory features context)
          (λ entry is. in_second (Bars features) (second_parts memory features context Read entry.place) (part.First entry (read_at memory features context entry.place) ∷ []) (inl is))
          path stops)
    ])

-- both stages
stages_stop : (memory : Memory) (features : Features) (context : Context) (iova : ℕ) (kind : Kind) (reached : Result Reached Failure) (failure : Failure) →
    first_stage memory features context iova kind (first_shape_of context) ≡ reached → behind_first memory features context kind reached ≡ Err failure →
    Occurs (Bars features) (stage_parts memory features iova kind (Ok context))
unfolding first_parts
stages_stop memory features context iova kind (Ok reached) failure is found =
    let access : Result Reached Failure → List Part = access_parts memory features context kind in
    let first : Result Reached Failure = first_stage memory features context iova kind (first_shape_of context) in
    in_second (Bars features) (first_parts memory features context iova kind) (access first)
    (subst (λ r. Occurs (Bars features) (access r)) (sym is) (access_stops memory features context kind (is_of_file context.msi reached.addr) reached failure found))
stages_stop memory features context iova kind (Err why) failure is found =
    in_first (Bars features) (first_parts memory features context iova kind)
    (access_parts memory features context kind (first_stage memory features context iova kind (first_shape_of context)))
    (first_by_stops memory features context iova kind (first_shape_of context) why is)

failure_of : (kind : Kind) (found : Result Hit Failure) (fault : Fault) → told_of kind found ≡ Err fault → (failure : Failure) × (found ≡ Err failure)
failure_of kind (Ok hit) fault is = absurd (cc)
failure_of kind (Err failure) fault is = (failure, refl)

translated_stages_stop : (memory : Memory) (features : Features) (context : Context) (iova : ℕ) (kind : Kind) (fault : Fault) → translation memory features context iova kind ≡ Err fault →
    Occurs (Bars features) (stage_parts memory features iova kind (Ok context))
unfolding translation
translated_stages_stop memory features context iova kind fault is =
    let f = failure_of kind _ fault is in stages_stop memory features context iova kind _ f.0 refl f.1

-- below a context, by the way that is led
page_refuses : (memory : Memory) (features : Features) (request : Request) (context : Context) (found : Result Hit Fault) →
    translation memory features context request.iova request.kind ≡ found → (IsGranted (way_to context found) → ⊥) →
    Occurs (Bars features) (stage_parts memory features request.iova request.kind (Ok context))
page_refuses memory features request context (Ok hit) is denied = absurd (denied tt)
page_refuses memory features request context (Err fault) is denied = translated_stages_stop memory features context request.iova request.kind fault is

under_refuses : (memory : Memory) (features : Features) (request : Request) (context : Context) (bare : Bool) →
    (IsGranted (under_where bare memory features request context).way → ⊥) →
    Occurs (Bars features) (stage_parts memory features request.iova request.kind (Ok context))
unfolding page_look
under_refuses memory features request context true denied = absurd (denied tt)
under_refuses memory features request context false denied =
    let told = translation memory features context request.iova request.kind in
    page_refuses memory features request context told refl (subst (λ r. IsGranted (way_to context r) → ⊥) (looked_none (request_key request context) told) denied)

pub context_refuses : (memory : Memory) (features : Features) (request : Request) (context : Context) → (IsGranted (led_under memory features [] request context).way → ⊥) →
    Occurs (Bars features) (stage_parts memory features request.iova request.kind (Ok context))
context_refuses memory features request context denied = under_refuses memory features request context (is_bare context) denied

found_refuses : (m : Machine) (request : Request) (found : Result Context Cause) → located m.memory m.registers request.did ≡ found →
    (IsGranted (led_by_context (uncached m) request (context_look (uncached m) request.did).filled found).way → ⊥) →
    Occurs (Bars m.registers.features) (directory_parts m request.did ++ stage_parts m.memory m.registers.features request.iova request.kind found)
found_refuses m request (Ok context) is denied =
    in_second (Bars m.registers.features) (directory_parts m request.did) (stage_parts m.memory m.registers.features request.iova request.kind (Ok context))
    (context_refuses m.memory m.registers.features request context denied)
found_refuses m request (Err why) is denied =
    in_first (Bars m.registers.features) (directory_parts m request.did) (stage_parts m.memory m.registers.features request.iova request.kind (Err why))
    (directory_refuses m request.did why is)

mode_refuses : (m : Machine) (request : Request) (own : Mode) → (IsGranted ((led_by_mode own (uncached m) request).way) → ⊥) →
    (own ≡ mode.Off) ⊎ Occurs (Bars m.registers.features) (parts_by own m request)
mode_refuses m request mode.Off denied = inl refl
mode_refuses m request mode.Bare denied = absurd (denied tt)
mode_refuses m request (mode.Levels levels) denied =
    inr (found_refuses m request (located m.memory m.registers request.did) refl
    (subst (λ r. IsGranted (led_by_context (uncached m) request (context_look (uncached m) request.did).filled r).way → ⊥) (used_uncached m request.did) denied))

some_refuses : (m : Machine) (request : Request) → (IsGranted (by_tables m request) → ⊥) → Occurs (Bars m.registers.features) (parts_of m request)
unfolding parts_of led
some_refuses m request denied =
    let end : Part = part.End (by_tables m request) in
    let between : List Part = parts_by (mode_of m.registers) m request in
    elim (mode_refuses m request (mode_of m.registers) denied) [
      | inl off ↦ inl off
      | inr later ↦ inr (in_first (Bars m.registers.features) between (end ∷ []) later)
    ]

-- what is too wide breaks its rule
refuses : (m : Machine) (request : Request) (one : Part) → IsWide m request one → Bars m.registers.features one → Refuses m request one
refuses m request (part.Ddtp own root) wide is = is
refuses m request (part.Directory met) wide is = is
refuses m request (part.Wide what) wide is = wide
refuses m request (part.First entry addr) wide is = is
refuses m request (part.Second guest entry) wide is = is
refuses m request (part.File guest place word) wide is = is
refuses m request (part.End end) wide is = is

all_refuse : (m : Machine) (request : Request) (parts : List Part) → All (IsWide m request) parts → Occurs (Bars m.registers.features) parts → Occurs (Refuses m request) parts
all_refuse m request [] each is = absurd is
all_refuse m request (one ∷ more) each is = elim is [
  | inl here ↦ inl (refuses m request one (All-head (IsWide m request) one more each) here)
  | inr later ↦ inr (all_refuse m request more (All-tail (IsWide m request) one more each) later)
]

pub some_refuses_of : (m : Machine) (request : Request) (parts : List Part) → parts ≡ parts_of m request → (IsGranted (by_tables m request) → ⊥) →
    Any (Refuses m request) parts
some_refuses_of m request parts are denied =
    any_of (Refuses m request) parts
    (subst (Occurs (Refuses m request)) (sym are) (all_refuse m request (parts_of m request) (each_is_wide m request) (some_refuses m request denied)))
