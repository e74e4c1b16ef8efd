-- The numbers in the parts of a walk are within their bounds.
use Rattle.std.proofs.Common.{◌≡◌, ◌≢◌, ◌+◌, ◌-◌, ◌*◌, ◌/◌, ◌%◌, ◌^◌, ◌==◌, ◌&&◌, ◌<◌, ◌≤◌, ◌++◌, ◌∙◌, ℕ, zero, suc, Bool, true, false, not, List, [], ◌∷◌, map, Option, Some, None, Result, Ok, Err, if◌then◌else◌, refl, sym, ap, subst, arith, mod-eq_of_lt}
use Rattle.std.specs.Prelude.{All, IfOk, IfSome, find, flat_map}
use Rattle.std.proofs.lemmas.Bool.{eqb-true, false_from_ne_true}
use Rattle.std.proofs.lemmas.Nat.{mod_below, or_lt, pow_pos, shr_below, shr_split}
use Rattle.std.proofs.Math.Nat.{pow-le-pow_right}
use Rattle.std.proofs.lemmas.List.Elements.{All-nil, All-cons, All-head, All-tail, All-append, All-map, All-weaker}
use Rattle.iom_bits.specs.Bits.{field_of, has_bit}
use Rattle.iom_bits.specs.declared.causes.Cause.{Cause}
use Rattle.iom_bits.specs.declared.causes.Cause.TheVariants.{DirBad, DirInvalid}
use Rattle.iom_bits.specs.declared.causes.Kind.{Kind}
use Rattle.iom_bits.specs.declared.causes.Kind.TheVariants.{Read}
use Rattle.iom_bits.specs.Features.{Features}
use Rattle.iom_walk.specs.declared.rules.EntryRules.{EntryRules}
use Rattle.iom_mem.specs.Memory.{Memory, word}
use Rattle.iom_regs.specs.Sound.{IsSound}
use Rattle.iom_regs.specs.Table.{Registers}
use Rattle.iom_regs.specs.Views.{mode_of, root_of}
use Rattle.iom_regs.specs.declared.views.Mode.{Mode}
use Rattle.iom_regs.specs.declared.views.Mode.TheVariants as mode
use Rattle.iom_ddt.specs.Contexts.{IsMsiFitting, IsWellFormed}
use Rattle.iom_ddt.specs.Directory.{behind, entry_place, is_too_wide, leaf_place, levels_of, located, path_of, pointed_by}
use Rattle.iom_ddt.specs.Formats.{context_format, ddi, words_in}
use Rattle.iom_ddt.specs.declared.formats.ContextFormat.{ContextFormat}
use Rattle.iom_ddt.specs.declared.formats.ContextFormat.TheVariants.{Base, Extended}
use Rattle.iom_ddt.specs.Directory as directory
use Rattle.iom_ddt.specs.declared.context.Context.{Context}
use Rattle.iom_ddt.specs.declared.context.MsiTable.{MsiTable}
use Rattle.iom_ddt.specs.declared.met.Met.{Met}
use Rattle.iom_ddt.specs.declared.met.Met.TheVariants as met
use Rattle.iom_walk.specs.Outcome.{conclude, conclude_at, outcome_of, verdict_on_path}
use Rattle.iom_walk.specs.declared.met.MetEntry.{MetEntry}
use Rattle.iom_walk.specs.Path.{entry_at, next_table, path_from, path_of as walk_path_of, verdict_on}
use Rattle.iom_walk.specs.Shape.{are_all, index_of, index_width, is_in_width, levels, page_width, widening}
use Rattle.iom_walk.specs.Told.{path_told, path_entry}
use Rattle.iom_walk.specs.Verdict.{is_pointer, word_of}
use Rattle.iom_walk.specs.declared.entry.Verdict.{Verdict}
use Rattle.iom_walk.specs.declared.entry.Verdict.TheVariants as verdict
use Rattle.iom_walk.specs.declared.listing.PathEntry.{PathEntry}
use Rattle.iom_walk.specs.declared.outcome.Outcome.{Outcome}
use Rattle.iom_walk.specs.declared.outcome.Outcome.TheVariants as outcome
use Rattle.iom_walk.specs.declared.shape.Shape.{Shape}
use Rattle.iom_walk.specs.declared.shape.Shape.TheVariants.{Sv39}
use Rattle.iom_walk.specs.declared.source.Got.{Got}
use Rattle.iom_walk.proofs.Frames.{frame_fits}
use Rattle.iom_walk.specs.declared.shape.Format.{Format}
use Rattle.iom_nested.specs.Faults.{Failure}
use Rattle.iom_nested.specs.Files.{file_number, file_place, is_of_file, packed}
use Rattle.iom_nested.specs.Nested.{first_stage, reached_by}
use Rattle.iom_nested.specs.Stages.{first_shape_of, format_of, ram_got, second_shape_of, table_got}
use Rattle.iom_nested.specs.declared.translation.Reached.{Reached}
use Rattle.iom_core.specs.State.{Machine, device_id_end}
use Rattle.iom_core.specs.declared.access.Request.{Request}
use Rattle.iom_tables.specs.Bounds.{EntryFits, MetFits, ModeFits, PartFits}
use Rattle.iom_tables.specs.Parts.{access_parts, address_by, directory_parts, entry_parts, file_part, first_by, first_parts, parts_by, parts_of, reached_parts, read_at, read_by, second_by, second_parts, stage_parts}
use Rattle.iom_core.specs.Looking.{by_tables}
use Rattle.iom_tables.specs.declared.part.Part.{Part}
use Rattle.iom_tables.specs.declared.part.Part.TheVariants as part
use Rattle.iom_tables.specs.declared.part.Wide.TheVariants as wide
use Rattle.iom_tables.proofs.Widths.{each_by_width}

field_below : (word low width : ℕ) → field_of word low width < 2 ^ width
field_below word low width = mod_below (word / 2 ^ low) (2 ^ width) (pow_pos width)

-- the directory
ddi_below : (format : ContextFormat) (did level : ℕ) → ddi format did level < 512
ddi_below Base did zero = let low : field_of did 0 7 < 128 = field_below did 0 7 in omega arith
ddi_below Base did (suc zero) = field_below did 7 9
ddi_below Base did (suc (suc above)) = let low : field_of did 16 8 < 256 = field_below did 16 8 in omega arith
ddi_below Extended did zero = let low : field_of did 0 6 < 64 = field_below did 0 6 in omega arith
ddi_below Extended did (suc zero) = field_below did 6 9
ddi_below Extended did (suc (suc above)) = field_below did 15 9

leaf_place_fits : (format : ContextFormat) (did table : ℕ) → table < 2 ^ 44 → leaf_place format did table < 2 ^ 56
leaf_place_fits Base did table low = let index : ddi Base did 0 < 128 = field_below did 0 7 in omega arith
leaf_place_fits Extended did table low = let index : ddi Extended did 0 < 64 = field_below did 0 6 in omega arith

entry_place_fits : (format : ContextFormat) (did level table : ℕ) → table < 2 ^ 44 → entry_place format did level table < 2 ^ 56
entry_place_fits format did level table low = let index : ddi format did level < 512 = ddi_below format did level in omega arith

points_to : (invalid bad : Bool) (next table : ℕ) → (if invalid then Err DirInvalid else if bad then Err DirBad else Ok next) ≡ Ok table → next ≡ table
points_to true bad next table is = absurd (cc)
points_to false true next table is = absurd (cc)
points_to false false next table is = cc

pointed_fits : (entry : Option ℕ) (table : ℕ) → pointed_by entry ≡ Ok table → table < 2 ^ 44
pointed_fits None table is = absurd (cc)
pointed_fits (Some entry) table is =
    subst (λ n. n < 2 ^ 44)
    (points_to (not (has_bit entry 0)) (not (field_of entry 1 9 == 0 && field_of entry 54 10 == 0)) (field_of entry 10 44) table is)
    (field_below entry 10 44)

behind_fits : (got : Result ℕ Cause) (from : ℕ → List Met) → ((table : ℕ) → got ≡ Ok table → All MetFits (from table)) →
    All MetFits (behind got from)
behind_fits (Ok table) from each = each table refl
behind_fits (Err cause) from each = All-nil MetFits

directory_fits : (format : ContextFormat) (memory : Memory) (did level table : ℕ) → table < 2 ^ 44 → All MetFits (directory.path_from format memory did level table)
directory_fits format memory did zero table low =
    All-cons MetFits (met.Leaf (leaf_place format did table) (words_in format memory (leaf_place format did table))) [] (leaf_place_fits format did table low)
    (All-nil MetFits)
directory_fits format memory did (suc level) table low =
    let entry : Option ℕ = word memory (entry_place format did (suc level) table) in
    All-cons MetFits (met.Entry (entry_place format did (suc level) table) entry) (behind (pointed_by entry) (directory.path_from format memory did level))
    (entry_place_fits format did (suc level) table low)
    (behind_fits (pointed_by entry) (directory.path_from format memory did level)
    (λ next is. directory_fits format memory did level next (pointed_fits entry next is)))

path_fits : (memory : Memory) (registers : Registers) (did : ℕ) → All MetFits (path_of memory registers did)
unfolding path_of
path_fits memory registers did = elim (is_too_wide (context_format registers.features) (levels_of (mode_of registers)) did) as (λ wide. All MetFits
    (if wide then [] else directory.path_from (context_format registers.features) memory did (levels_of (mode_of registers) - 1) (root_of registers))) [
      | true ↦ All-nil MetFits
      | false ↦ directory_fits (context_format registers.features) memory did (levels_of (mode_of registers) - 1) (root_of registers) (field_below registers.acting 10 44)
    ]

-- where the entry of a root's table stands
abbrev RootFits : Shape → ℕ → Type 0
RootFits shape root = (address : ℕ) → root * 4096 + index_of shape address (levels shape - 1) * 8 < 2 ^ 56

-- below the root each index has nine bits
index_below : (shape : Shape) (address level : ℕ) → suc level < levels shape → index_of shape address level < 512
unfolding index_of
index_below shape address level low =
    let below : (level + 1 == levels shape) ≡ false = false_from_ne_true _ (λ is. let same : level + 1 ≡ levels shape = eqb-true _ _ is in omega arith) in
    rw below (field_below address (12 + 9 * level) 9)

abbrev Within : MetEntry → Type 0
Within entry = (entry.place < 2 ^ 56) × (entry.level < 5)

behind_pointer : (pointer : Bool) (rest : List MetEntry) → All Within rest → All Within (if pointer then rest else [])
behind_pointer true rest each = each
behind_pointer false rest each = All-nil Within

-- what holds of each shape: how many levels it has, and how wide its root is
pub record EachShape (shape : Shape) : Type 0 where
  pub few : levels shape ≤ 5
  pub least : 0 < levels shape
  pub root : 2 ^ index_width shape (levels shape - 1) ≡ 2 ^ (9 + widening shape)

pub each_shape : (shape : Shape) → EachShape shape
each_shape Sv39 = record { few = omega arith; least = omega arith; root = refl }
each_shape _ = record { few = omega arith; least = omega arith; root = refl }

root_index : (shape : Shape) (address : ℕ) → index_of shape address (levels shape - 1) < 2 ^ (9 + widening shape)
unfolding index_of
root_index shape address =
    subst (λ n. index_of shape address (levels shape - 1) < n) (each_shape shape).root
    (field_below address (12 + 9 * (levels shape - 1)) (index_width shape (levels shape - 1)))

-- an entry that stands within bounds, and those behind it
entry_within : (at : ℕ → Got) (format : Format) (address table count : ℕ) → suc count ≤ levels format.shape →
    table * 4096 + index_of format.shape address count * 8 < 2 ^ 56 → All Within (path_from at format address (next_table (entry_at at format address table count)) count) →
    All Within (path_from at format address table (suc count))
unfolding path_from
entry_within at format address table count some place more =
    let entry : MetEntry = entry_at at format address table count in
    let pointer : Bool = is_pointer (verdict_on format.rules Read entry) in
    let rest : List MetEntry = path_from at format address (next_table entry) count in
    let level : count < 5 = omega (arith, (each_shape format.shape).few) in
    All-cons Within entry (if pointer then rest else []) (place, level) (behind_pointer pointer rest more)

below_within : (at : ℕ → Got) (format : Format) (address table count : ℕ) → table < 2 ^ 44 → count < levels format.shape →
    All Within (path_from at format address table count)
unfolding path_from
below_within at format address table zero low some = All-nil Within
below_within at format address table (suc count) low some =
    let entry : MetEntry = entry_at at format address table count in
    let index : index_of format.shape address count < 512 = index_below format.shape address count some in
    let place : table * 4096 + index_of format.shape address count * 8 < 2 ^ 56 = omega arith in
    let within : suc count ≤ levels format.shape = omega arith in
    entry_within at format address table count within place
    (below_within at format address (next_table entry) count (field_below (word_of entry.got) 10 44) (omega arith))

root_within : (at : ℕ → Got) (format : Format) (address root count : ℕ) → count ≤ levels format.shape →
    root * 4096 + index_of format.shape address (count - 1) * 8 < 2 ^ 56 → All Within (path_from at format address root count)
unfolding path_from
root_within at format address root zero some place = All-nil Within
root_within at format address root (suc count) some place =
    let entry : MetEntry = entry_at at format address root count in
    let less : suc count - 1 ≡ count = omega arith in
    let stands : root * 4096 + index_of format.shape address count * 8 < 2 ^ 56 =
    subst (λ n. root * 4096 + index_of format.shape address n * 8 < 2 ^ 56) less place in
    entry_within at format address root count some stands
    (below_within at format address (next_table entry) count (field_below (word_of entry.got) 10 44) (omega arith))

walk_within : (at : ℕ → Got) (format : Format) (root address : ℕ) → RootFits format.shape root → All Within (walk_path_of at format root address)
walk_within at format root address rooted = root_within at format address root (levels format.shape) (omega arith) (rooted address)

-- the entries that are listed, of an address that keeps the width rule
abbrev IsTold : Shape → ℕ → PathEntry → Type 0
IsTold shape address entry = (is_in_width shape address ≡ true) × EntryFits entry

walk_fits : (at : ℕ → Got) (format : Format) (root address : ℕ) (kind : Kind) → RootFits format.shape root →
    All (IsTold format.shape address) (path_told at format root address kind)
unfolding path_told
walk_fits at format root address kind rooted =
    let path : List MetEntry = walk_path_of at format root address in
    let Goal : Bool → Type 0 = λ wide. is_in_width format.shape address ≡ wide → All (IsTold format.shape address) (if wide then map (path_entry format.rules kind) path else []) in
    let by_width : (wide : Bool) → Goal wide = λ wide. elim wide as Goal [
      | true ↦ λ is. All-map (IsTold format.shape address) (path_entry format.rules kind) path
          (All-weaker Within (λ entry. IsTold format.shape address (path_entry format.rules kind entry)) (λ entry within. (is, within)) path
          (walk_within at format root address rooted))
      | false ↦ λ is. All-nil (IsTold format.shape address)
    ] in by_width (is_in_width format.shape address) refl

-- the frame that a walk ends at
abbrev FrameFits : Outcome → Type 0
FrameFits (outcome.Leaf leaf) = leaf.frame < 2 ^ 44
FrameFits outcome.Outside = Unit {0}
FrameFits (outcome.Guest place) = Unit {0}
FrameFits outcome.Fault = Unit {0}

verdict_fits : (global : Bool) (address : ℕ) (entry : MetEntry) (says : Verdict) → entry.level < 5 → FrameFits (conclude global address entry says)
verdict_fits global address entry verdict.Outside level = tt
verdict_fits global address entry verdict.Guest level = tt
verdict_fits global address entry verdict.Fault level = tt
verdict_fits global address entry (verdict.Pointer word) level = tt
verdict_fits global address entry (verdict.Leaf word) level =
    frame_fits word address entry.level level

end_fits : (rules : EntryRules) (kind : Kind) (global : Bool) (address : ℕ) (path : List MetEntry) → All Within path →
    FrameFits (conclude_at rules kind global address (find (λ entry. not (is_pointer (verdict_on rules kind entry))) path))
end_fits rules kind global address [] each = tt
end_fits rules kind global address (entry ∷ more) each =
    let test : MetEntry → Bool = λ entry. not (is_pointer (verdict_on rules kind entry)) in
    elim (test entry) as (λ ends. FrameFits (conclude_at rules kind global address (if ends then Some entry else find test more))) [
      | true ↦ verdict_fits global address entry (verdict_on rules kind entry) (All-head Within entry more each).1
      | false ↦ end_fits rules kind global address more (All-tail Within entry more each)
    ]

outcome_fits : (at : ℕ → Got) (format : Format) (root address : ℕ) (kind : Kind) → RootFits format.shape root →
    FrameFits (outcome_of at format root address kind)
unfolding outcome_of verdict_on_path
outcome_fits at format root address kind rooted =
    let path : List MetEntry = walk_path_of at format root address in
    elim (is_in_width format.shape address) as (λ wide. FrameFits (if wide then verdict_on_path format.rules kind address path else outcome.Fault)) [
      | true ↦ end_fits format.rules kind _ address path (walk_within at format root address rooted)
      | false ↦ tt
    ]

abbrev FirstFits : Option Shape → ℕ → Type 0
FirstFits None root = Unit {0}
FirstFits (Some shape) root = RootFits shape root

first_root : (context : Context) (found : Option Shape) → first_shape_of context ≡ found → context.ppn < 2 ^ 44 → FirstFits found context.ppn
first_root context None is low = tt
first_root context (Some shape) is low = λ address.
    let plain : widening shape ≡ 0 = grind arith in
    let index : index_of shape address (levels shape - 1) < 2 ^ (9 + 0) =
    subst (λ n. index_of shape address (levels shape - 1) < 2 ^ (9 + n)) plain (root_index shape address) in omega arith

-- the second, whose root is aligned, and what it translates
record SecondFits (shape : Shape) (root : ℕ) : Type 0 where
  stands : RootFits shape root
  guest : (address : ℕ) → address < 2 ^ 64 → is_in_width shape address ≡ true → address < 2 ^ 59

abbrev StageFits : Option Shape → ℕ → Type 0
StageFits None root = Unit {0}
StageFits (Some shape) root = SecondFits shape root

-- an address of 64 bits whose high bits are 0
narrow : (address low width : ℕ) → address < 2 ^ (width + low) → (field_of address low width == 0) ≡ true → address < 2 ^ low
narrow address low width below none =
    let high : address / 2 ^ low < 2 ^ width = shr_below address width low below in
    let no_high : address / 2 ^ low ≡ 0 = sym (mod-eq_of_lt high) ∙ eqb-true _ _ none in
    let split : 0 * 2 ^ low + address % 2 ^ low ≡ address = ap (λ n. n * 2 ^ low + address % 2 ^ low) (sym no_high) ∙ shr_split address low in
    let offset : address % 2 ^ low < 2 ^ low = mod_below address (2 ^ low) (pow_pos low) in
    omega arith

aligned_stands : (root index : ℕ) → root < 2 ^ 44 → root % 4 ≡ 0 → index < 2048 → root * 4096 + index * 8 < 2 ^ 56
aligned_stands root index low aligned below = omega (arith, shr_split root 2)

guest_narrow : (shape : Shape) (address : ℕ) → widening shape ≡ 2 → address < 2 ^ 64 → is_in_width shape address ≡ true → address < 2 ^ 59
unfolding is_in_width
guest_narrow shape address wider below wide =
    let low : ℕ = 12 + page_width shape in
    let most : low ≤ 59 = omega (arith, (each_shape shape).few, wider) in
    let none : (field_of address low (64 - low) == 0) ≡ true =
    subst (λ n. are_all (n == 0 && has_bit address (12 + (page_width shape - 1))) address low ≡ true) wider wide in
    let all : 64 ≡ 64 - low + low = omega arith in
    let small : address < 2 ^ low = narrow address low (64 - low) (subst (λ n. address < 2 ^ n) all below) none in
    let power : 2 ^ low ≤ 2 ^ 59 = pow-le-pow_right (omega arith) most in
    omega (arith, small, power)

second_root : (context : Context) (found : Option Shape) → second_shape_of context ≡ found → IsWellFormed context → StageFits found context.gppn
second_root context None is well = tt
second_root context (Some shape) is well =
    let wider : widening shape ≡ 2 = grind arith in
    let staged : context.gmode ≢ 0 = λ bare. let none : second_shape_of context ≡ None = rw bare refl in cc in
    record {
      stands = λ address. aligned_stands context.gppn (index_of shape address (levels shape - 1)) well.second_root (well.second_root_aligned staged)
          (subst (λ n. index_of shape address (levels shape - 1) < 2 ^ (9 + n)) wider (root_index shape address));
      guest = λ address below wide. guest_narrow shape address wider below wide;
    }

-- the parts of the second stage
second_by_fits : (memory : Memory) (features : Features) (root : ℕ) (kind : Kind) (guest : ℕ) (shape : Option Shape) → StageFits shape root → guest < 2 ^ 64 →
    All PartFits (second_by memory features root kind guest shape)
second_by_fits memory features root kind guest None rooted below = All-nil PartFits
second_by_fits memory features root kind guest (Some shape) rooted below =
    let path : List PathEntry = path_told (ram_got memory) (format_of features shape) root guest kind in
    each_by_width PartFits (is_in_width shape guest) (wide.Second guest) (map (part.Second guest) path) (λ is. below)
    (All-map PartFits (part.Second guest) path
    (All-weaker (IsTold shape guest) (λ entry. PartFits (part.Second guest entry)) (λ entry is. (rooted.guest guest below is.0, is.1)) path
    (walk_fits (ram_got memory) (format_of features shape) root guest kind rooted.stands)))

second_fits : (memory : Memory) (features : Features) (context : Context) (kind : Kind) (guest : ℕ) → IsWellFormed context → guest < 2 ^ 64 →
    All PartFits (second_parts memory features context kind guest)
unfolding second_parts
second_fits memory features context kind guest well below =
    second_by_fits memory features context.gppn kind guest (second_shape_of context)
    (second_root context (second_shape_of context) refl well) below

-- those of an entry of the first
address_fits : (place : ℕ) (end : Outcome) → FrameFits end → IfSome (address_by place end) (λ addr. addr < 2 ^ 56)
address_fits place (outcome.Leaf leaf) frame = let offset : place % 4096 < 4096 = mod_below place 4096 (omega arith) in omega arith
address_fits place outcome.Outside frame = tt
address_fits place (outcome.Guest at) frame = tt
address_fits place outcome.Fault frame = tt

read_by_fits : (memory : Memory) (features : Features) (root place : ℕ) (shape : Option Shape) → StageFits shape root → place < 2 ^ 56 →
    IfSome (read_by memory features root place shape) (λ addr. addr < 2 ^ 56)
read_by_fits memory features root place None rooted below = below
read_by_fits memory features root place (Some shape) rooted below =
    address_fits place (outcome_of (ram_got memory) (format_of features shape) root place Read) (outcome_fits (ram_got memory) (format_of features shape) root place Read rooted.stands)

read_fits : (memory : Memory) (features : Features) (context : Context) (place : ℕ) → IsWellFormed context → place < 2 ^ 56 →
    IfSome (read_at memory features context place) (λ addr. addr < 2 ^ 56)
unfolding read_at
read_fits memory features context place well below =
    read_by_fits memory features context.gppn place (second_shape_of context)
    (second_root context (second_shape_of context) refl well) below

entry_fits : (memory : Memory) (features : Features) (context : Context) (entry : PathEntry) → IsWellFormed context → EntryFits entry →
    All PartFits (entry_parts memory features context entry)
entry_fits memory features context entry well fits =
    let first : Part = part.First entry (read_at memory features context entry.place) in
    let place : entry.place < 2 ^ 56 = fits.0 in
    All-append PartFits (second_parts memory features context Read entry.place) (first ∷ [])
    (second_fits memory features context Read entry.place well (omega arith))
    (All-cons PartFits first [] (fits, read_fits memory features context entry.place well place) (All-nil PartFits))

entries_fit : (memory : Memory) (features : Features) (context : Context) (entries : List PathEntry) → IsWellFormed context → All EntryFits entries →
    All PartFits (flat_map (entry_parts memory features context) entries)
entries_fit memory features context [] well each = All-nil PartFits
entries_fit memory features context (entry ∷ more) well each =
    All-append PartFits (entry_parts memory features context entry) (flat_map (entry_parts memory features context) more)
    (entry_fits memory features context entry well (All-head EntryFits entry more each))
    (entries_fit memory features context more well (All-tail EntryFits entry more each))

first_by_fits : (memory : Memory) (features : Features) (context : Context) (iova : ℕ) (kind : Kind) (shape : Option Shape) → IsWellFormed context →
    FirstFits shape context.ppn → iova < 2 ^ 64 → All PartFits (first_by memory features context iova kind shape)
first_by_fits memory features context iova kind None well rooted below = All-nil PartFits
first_by_fits memory features context iova kind (Some shape) well rooted below =
    let path : List PathEntry = path_told (table_got memory features context) (format_of features shape) context.ppn iova kind in
    each_by_width PartFits (is_in_width shape iova) (wide.First iova) (flat_map (entry_parts memory features context) path) (λ is. below)
    (entries_fit memory features context path well
    (All-weaker (IsTold shape iova) EntryFits (λ entry is. is.1) path (walk_fits (table_got memory features context) (format_of features shape) context.ppn iova kind rooted)))

first_parts_fit : (memory : Memory) (features : Features) (context : Context) (iova : ℕ) (kind : Kind) → IsWellFormed context → iova < 2 ^ 64 →
    All PartFits (first_parts memory features context iova kind)
unfolding first_parts
first_parts_fit memory features context iova kind well below =
    first_by_fits memory features context iova kind (first_shape_of context) well (first_root context (first_shape_of context) refl well.first_root) below

-- those of the access
reached_fits : (iova : ℕ) (end : Outcome) → FrameFits end → IfOk (reached_by iova end) (λ reached. reached.addr < 2 ^ 64)
reached_fits iova (outcome.Leaf leaf) frame = let offset : iova % 4096 < 4096 = mod_below iova 4096 (omega arith) in omega arith
reached_fits iova outcome.Outside frame = tt
reached_fits iova (outcome.Guest place) frame = tt
reached_fits iova outcome.Fault frame = tt

first_stage_fits : (memory : Memory) (features : Features) (context : Context) (iova : ℕ) (kind : Kind) (shape : Option Shape) → FirstFits shape context.ppn → iova < 2 ^ 64 →
    IfOk (first_stage memory features context iova kind shape) (λ reached. reached.addr < 2 ^ 64)
first_stage_fits memory features context iova kind None rooted below = below
first_stage_fits memory features context iova kind (Some shape) rooted below =
    reached_fits iova (outcome_of (table_got memory features context) (format_of features shape) context.ppn iova kind)
    (outcome_fits (table_got memory features context) (format_of features shape) context.ppn iova kind rooted)

packed_below : (count number mask : ℕ) → packed count number mask ≤ number
packed_below zero number mask = omega arith
packed_below (suc count) number mask =
    let above : packed count (number / 2) (mask / 2) ≤ number / 2 = packed_below count (number / 2) (mask / 2) in
    elim (mask % 2 == 1) as (λ one. (if one then 2 * packed count (number / 2) (mask / 2) + number % 2 else packed count (number / 2) (mask / 2)) ≤ number) [
      | true ↦ omega arith
      | false ↦ omega arith
    ]

file_place_fits : (msi : MsiTable) (guest : ℕ) → IsMsiFitting msi → guest < 2 ^ 64 → file_place msi guest < 2 ^ 56
file_place_fits msi guest fitting below =
    let number : file_number msi guest ≤ guest / 4096 = packed_below 52 (guest / 4096) msi.mask in
    let root : msi.ppn * 4096 < 2 ^ 56 = omega (arith, fitting.root) in
    let offset : file_number msi guest * 16 < 2 ^ 56 = omega arith in
    or_lt 56 (msi.ppn * 4096) (file_number msi guest * 16) root offset

reached_parts_fit : (memory : Memory) (features : Features) (context : Context) (kind : Kind) (of_file : Bool) (guest : ℕ) → IsWellFormed context →
    guest < 2 ^ 64 → All PartFits (reached_parts memory features context kind of_file guest)
reached_parts_fit memory features context kind true guest well below =
    All-cons PartFits (file_part memory context.msi guest) [] (below, file_place_fits context.msi guest well.msi below) (All-nil PartFits)
reached_parts_fit memory features context kind false guest well below = second_fits memory features context kind guest well below

access_fits : (memory : Memory) (features : Features) (context : Context) (kind : Kind) (reached : Result Reached Failure) → IsWellFormed context →
    IfOk reached (λ reached. reached.addr < 2 ^ 64) → All PartFits (access_parts memory features context kind reached)
access_fits memory features context kind (Ok reached) well below =
    reached_parts_fit memory features context kind (is_of_file context.msi reached.addr) reached.addr well below
access_fits memory features context kind (Err failure) well below = All-nil PartFits

-- and the whole
pub stages_fit : (memory : Memory) (features : Features) (iova : ℕ) (kind : Kind) (found : Result Context Cause) → IfOk found IsWellFormed → iova < 2 ^ 64 →
    All PartFits (stage_parts memory features iova kind found)
stages_fit memory features iova kind (Ok context) well below =
    let reached : Result Reached Failure = first_stage memory features context iova kind (first_shape_of context) in
    All-append PartFits (first_parts memory features context iova kind) (access_parts memory features context kind reached)
    (first_parts_fit memory features context iova kind well below)
    (access_fits memory features context kind reached well
    (first_stage_fits memory features context iova kind (first_shape_of context) (first_root context (first_shape_of context) refl well.first_root) below))
stages_fit memory features iova kind (Err why) well below = All-nil PartFits

directory_parts_fit : (m : Machine) (did : ℕ) → All PartFits (directory_parts m did)
directory_parts_fit m did =
    let items : List Met = path_of m.memory m.registers did in
    each_by_width PartFits (not (is_too_wide (context_format m.registers.features) (levels_of (mode_of m.registers)) did)) (wide.Directory (did % device_id_end)) (map part.Directory items) (λ is. mod_below did device_id_end (omega arith))
    (All-map PartFits part.Directory items (path_fits m.memory m.registers did))

pub mode_fits : (own : Mode) (m : Machine) (request : Request) →
    ((levels : ℕ) → own ≡ mode.Levels levels → All PartFits (stage_parts m.memory m.registers.features request.iova request.kind (located m.memory m.registers request.did))) →
    All PartFits (parts_by own m request)
mode_fits mode.Off m request each = All-nil PartFits
mode_fits mode.Bare m request each = All-nil PartFits
mode_fits (mode.Levels levels) m request each =
    let found : Result Context Cause = located m.memory m.registers request.did in
    All-append PartFits (directory_parts m request.did) (stage_parts m.memory m.registers.features request.iova request.kind found)
    (directory_parts_fit m request.did) (each levels refl)

levels_fit : (n : ℕ) → n ≤ 4 → ModeFits (if n == 0 then mode.Off else if n == 1 then mode.Bare else mode.Levels (n - 1))
levels_fit n few =
    let Goal : Bool → Type 0 = λ off. (n == 0) ≡ off → ModeFits (if off then mode.Off else if n == 1 then mode.Bare else mode.Levels (n - 1)) in
    let by_off : (off : Bool) → Goal off = λ off. elim off as Goal [
      | true ↦ λ is. tt
      | false ↦ λ is.
          let Rest : Bool → Type 0 = λ bare. (n == 1) ≡ bare → ModeFits (if bare then mode.Bare else mode.Levels (n - 1)) in
          let by_bare : (bare : Bool) → Rest bare = λ bare. elim bare as Rest [
            | true ↦ λ one. tt
            | false ↦ λ one. (grind arith, omega arith)
          ] in by_bare (n == 1) refl
    ] in by_off (n == 0) refl

pub each_fits : (m : Machine) (request : Request) (parts : List Part) → parts ≡ parts_of m request → IsSound m.registers →
    All PartFits (parts_by (mode_of m.registers) m request) → All PartFits parts
unfolding parts_of
each_fits m request parts are sound walk =
    let ddtp : Part = part.Ddtp (mode_of m.registers) (root_of m.registers) in
    let end : Part = part.End (by_tables m request) in
    let between : List Part = parts_by (mode_of m.registers) m request in
    subst (All PartFits) (sym are)
    (All-cons PartFits ddtp (between ++ end ∷ []) (levels_fit (field_of m.registers.acting 0 4) sound.acting_mode, field_below m.registers.acting 10 44)
    (All-append PartFits between (end ∷ []) walk (All-cons PartFits end [] tt (All-nil PartFits))))
