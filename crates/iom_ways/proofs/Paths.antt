-- The path of the first stage, entry by entry.
use Rattle.std.proofs.Common.{◌≡◌, ◌∙◌, ◌++◌, ◌+◌, ◌*◌, ◌<◌, ◌==◌, arith, ℕ, suc, Bool, true, false, List, [], ◌∷◌, Option, Some, None, if◌then◌else◌, refl, sym, ap, subst, append_assoc}
use Rattle.std.specs.Prelude.{All}
use Rattle.std.proofs.lemmas.List.{append-nil}
use Rattle.std.proofs.lemmas.List.Elements.{All-nil, All-cons, All-head, All-tail}
use Rattle.iom_bits.specs.declared.causes.Kind.TheVariants.{Read}
use Rattle.iom_bits.specs.Features.{Features}
use Rattle.iom_walk.specs.declared.rules.EntryRules.{EntryRules}
use Rattle.iom_mem.specs.Memory.{Memory}
use Rattle.iom_ddt.specs.declared.context.Context.{Context}
use Rattle.iom_walk.specs.Path.{entry_at, next_table, verdict_on}
use Rattle.iom_walk.specs.Shape.{index_of, levels, user_rules}
use Rattle.iom_walk.specs.Verdict.{is_pointer}
use Rattle.iom_walk.specs.declared.met.MetEntry.{MetEntry as Met}
use Rattle.iom_walk.specs.declared.shape.Format.{Format}
use Rattle.iom_walk.specs.declared.shape.Shape.{Shape}
use Rattle.iom_walk.specs.declared.source.Got.{Got}
use Rattle.iom_nested.specs.Stages.{format_of, ram_got, second_shape_of}
use Rattle.iom_core.specs.declared.access.Request.{Request}
use Rattle.iom_every.specs.declared.entry.Entry.{Entry}
use Rattle.iom_every.specs.declared.entry.Held.{Held}
use Rattle.iom_every.specs.declared.walks.MetBy.{MetBy}
use Rattle.iom_every.specs.Trees.{Walk, entries_of, got_by, looking, looking_behind, met_tree, path_tree}
use Rattle.iom_every.specs.Uses.{ForEntry, entry_use, second_fits}
use Rattle.iom_every.specs.Walks.{entry_of}
use Rattle.iom_ways.specs.Branches.{MetFits, behind_entry, behind_met, behind_path, rest_of_path}

-- the place of the entry of a level
abbrev pub place_of : Format → Request → ℕ → ℕ → ℕ
place_of format request table level = table * 4096 + index_of format.shape request.iova level * 8

-- one more entry, over this shape of the second stage
abbrev next_by : Memory → Features → Request → Context → List Entry → Format → Option Held → List MetBy → ℕ → ℕ → Option Shape → Walk
next_by memory features request context located format used path table level second =
    looking_behind context second level (place_of format request table level) (λ behind.
    behind_met memory features request context located format used path
    (record { entry = entry_at (got_by memory features context second behind) format request.iova table level; used = behind }))

next_is : (memory : Memory) (features : Features) (request : Request) (context : Context) (located : List Entry) (format : Format) (used : Option Held) (path : List MetBy) (table level : ℕ) →
    rest_of_path memory features request context located format used path table (suc level)
    ≡ next_by memory features request context located format used path table level (second_shape_of context)
next_is memory features request context located format used path table level = refl

pub looks_behind : (memory : Memory) (features : Features) (request : Request) (context : Context) (located : List Entry) (format : Format) (used : Option Held) (path : List MetBy) (table count level place : ℕ) (shape : Shape) →
    count ≡ suc level → place ≡ place_of format request table level → second_shape_of context ≡ Some shape →
    looking (ForEntry level) (entry_use context shape level place) (behind_entry memory features request context located format used path shape place level)
    ≡ rest_of_path memory features request context located format used path table count
looks_behind memory features request context located format used path table count level place shape counted placed is =
    ap (λ (p : ℕ). looking (ForEntry level) (entry_use context shape level p) (behind_entry memory features request context located format used path shape p level)) placed
    ∙ sym (ap (λ (second : Option Shape). next_by memory features request context located format used path table level second) is)
    ∙ sym (next_is memory features request context located format used path table level)
    ∙ sym (ap (λ (n : ℕ). rest_of_path memory features request context located format used path table n) counted)

pub reads_plainly : (memory : Memory) (features : Features) (request : Request) (context : Context) (located : List Entry) (format : Format) (used : Option Held) (path : List MetBy) (table count level place : ℕ) (got : Got) →
    count ≡ suc level → place ≡ place_of format request table level → got ≡ ram_got memory place → second_shape_of context ≡ None →
    behind_met memory features request context located format used path (record { entry = record { level = level; place = place; got = got }; used = None })
    ≡ rest_of_path memory features request context located format used path table count
reads_plainly memory features request context located format used path table count level place got counted placed read is =
    ap (λ (g : Got). behind_met memory features request context located format used path (record { entry = record { level = level; place = place; got = g }; used = None })) read
    ∙ ap (λ (p : ℕ). behind_met memory features request context located format used path (record { entry = record { level = level; place = p; got = ram_got memory p }; used = None })) placed
    ∙ sym (ap (λ (second : Option Shape). next_by memory features request context located format used path table level second) is)
    ∙ sym (next_is memory features request context located format used path table level)
    ∙ sym (ap (λ (n : ℕ). rest_of_path memory features request context located format used path table n) counted)

-- at the last level the path is whole
pub runs_out : (memory : Memory) (features : Features) (request : Request) (context : Context) (located : List Entry) (format : Format) (used : Option Held) (path : List MetBy) (table count : ℕ) →
    count ≡ 0 → behind_path memory features request context located format used path ≡ rest_of_path memory features request context located format used path table count
runs_out memory features request context located format used path table count none =
    ap (λ (whole : List MetBy). behind_path memory features request context located format used whole) (sym (append-nil path))
    ∙ sym (ap (λ (n : ℕ). rest_of_path memory features request context located format used path table n) none)

-- which entries may be used for it
pub own_level : (context : Context) (shape : Shape) (level place : ℕ) (entry : Entry) → second_fits context shape place entry ≡ entry_use context shape level place (ForEntry level) entry
own_level context shape level place entry =
    let same : (level == level) ≡ true = grind arith in rw same refl

-- behind a pointer, over the longer path
pub goes_on : (memory : Memory) (features : Features) (request : Request) (context : Context) (located : List Entry) (format : Format) (used : Option Held) (path longer : List MetBy) (met : MetBy) (table : ℕ) →
    longer ≡ path ++ met ∷ [] → is_pointer (verdict_on format.rules Read met.entry) ≡ true → table ≡ next_table met.entry →
    rest_of_path memory features request context located format used longer table met.entry.level
    ≡ behind_met memory features request context located format used path met
goes_on memory features request context located format used path longer met table longer_is pointer points =
    let more : (List MetBy → List MetBy) → Walk = λ joined.
    path_tree memory features context (second_shape_of context) format request.iova (next_table met.entry) met.entry.level
    (λ rest. behind_path memory features request context located format used (joined rest)) in
    let same : (λ (rest : List MetBy). path ++ met ∷ [] ++ rest) ≡ (λ (rest : List MetBy). path ++ (met ∷ rest)) = λ i rest. append_assoc path (met ∷ []) rest i in
    ap (λ (n : ℕ). rest_of_path memory features request context located format used longer n met.entry.level) points
    ∙ ap (λ (longer : List MetBy). rest_of_path memory features request context located format used longer (next_table met.entry) met.entry.level) longer_is
    ∙ ap more same
    ∙ sym (ap (λ (b : Bool). if b then more (λ (rest : List MetBy). path ++ (met ∷ rest))
    else behind_path memory features request context located format used (path ++ (met ∷ []))) pointer)

pub stops : (memory : Memory) (features : Features) (request : Request) (context : Context) (located : List Entry) (format : Format) (used : Option Held) (path longer : List MetBy) (met : MetBy) →
    longer ≡ path ++ met ∷ [] → is_pointer (verdict_on format.rules Read met.entry) ≡ false →
    behind_path memory features request context located format used longer ≡ behind_met memory features request context located format used path met
stops memory features request context located format used path longer met longer_is leaf =
    ap (λ (longer : List MetBy). behind_path memory features request context located format used longer) longer_is
    ∙ sym (ap (λ (b : Bool). if b then path_tree memory features context (second_shape_of context) format request.iova (next_table met.entry) met.entry.level
    (λ rest. behind_path memory features request context located format used (path ++ (met ∷ rest)))
    else behind_path memory features request context located format used (path ++ (met ∷ []))) leaf)

-- a path begins at the root, or behind the entry that is used
abbrev pub begins : Memory → Features → Request → Context → List Entry → Shape → Option Held → Walk
begins memory features request context located shape used =
    met_tree memory features context (second_shape_of context) (format_of features shape) request.iova used
    (behind_path memory features request context located (format_of features shape) used)

pub from_root : (memory : Memory) (features : Features) (request : Request) (context : Context) (located : List Entry) (shape : Shape) (used : Option Held) (count : ℕ) →
    used ≡ None → count ≡ levels shape →
    rest_of_path memory features request context located (format_of features shape) None [] context.ppn count ≡ begins memory features request context located shape used
from_root memory features request context located shape used count none all =
    ap (λ (n : ℕ). rest_of_path memory features request context located (format_of features shape) None [] context.ppn n) all
    ∙ sym (ap (λ (used : Option Held). begins memory features request context located shape used) none)

-- whether the used entry is a pointer
judged : (rules : EntryRules) (held : Held) (entry : Met) (found answer : Bool) → entry ≡ entry_of held → found ≡ is_pointer (verdict_on rules Read entry) → found ≡ answer →
    is_pointer (verdict_on rules Read (entry_of held)) ≡ answer
judged rules held entry found answer is judge answered =
    sym (ap (λ (e : Met). is_pointer (verdict_on rules Read e)) is) ∙ sym judge ∙ answered

pub from_leaf : (memory : Memory) (features : Features) (request : Request) (context : Context) (located : List Entry) (shape : Shape) (used : Option Held) (held : Held) (entry : Met) (found : Bool) →
    used ≡ Some held → entry ≡ entry_of held → found ≡ is_pointer (verdict_on (user_rules features) Read entry) → found ≡ false →
    behind_path memory features request context located (format_of features shape) used [] ≡ begins memory features request context located shape used
from_leaf memory features request context located shape used held entry found some is judge leaf =
    let on : Bool → Walk = λ b.
    if b then rest_of_path memory features request context located (format_of features shape) (Some held) [] (next_table (entry_of held)) held.level
    else behind_path memory features request context located (format_of features shape) (Some held) [] in
    ap (λ (used : Option Held). behind_path memory features request context located (format_of features shape) used []) some
    ∙ sym (ap on (judged (user_rules features) held entry found false is judge leaf))
    ∙ sym (ap (λ (used : Option Held). begins memory features request context located shape used) some)

pub from_pointer : (memory : Memory) (features : Features) (request : Request) (context : Context) (located : List Entry) (shape : Shape) (used : Option Held) (held : Held) (entry : Met) (found : Bool) (table : ℕ) →
    used ≡ Some held → entry ≡ entry_of held → found ≡ is_pointer (verdict_on (user_rules features) Read entry) → found ≡ true → table ≡ next_table entry →
    rest_of_path memory features request context located (format_of features shape) used [] table held.level ≡ begins memory features request context located shape used
from_pointer memory features request context located shape used held entry found table some is judge pointer next =
    let on : Bool → Walk = λ b.
    if b then rest_of_path memory features request context located (format_of features shape) (Some held) [] (next_table (entry_of held)) held.level
    else behind_path memory features request context located (format_of features shape) (Some held) [] in
    ap (λ (used : Option Held). rest_of_path memory features request context located (format_of features shape) used [] table held.level) some
    ∙ ap (λ (at : ℕ). rest_of_path memory features request context located (format_of features shape) (Some held) [] at held.level) (next ∙ ap next_table is)
    ∙ sym (ap on (judged (user_rules features) held entry found true is judge pointer))
    ∙ sym (ap (λ (used : Option Held). begins memory features request context located shape used) some)

levels_in : (second : Option Shape) (path : List MetBy) → All (MetFits second) path → All (λ (entry : Met). entry.level < 5) (entries_of path)
levels_in second [] fits = All-nil (λ (entry : Met). entry.level < 5)
levels_in second (met ∷ path) fits =
    All-cons (λ (entry : Met). entry.level < 5) met.entry (entries_of path) (All-head (MetFits second) met path fits).0
    (levels_in second path (All-tail (MetFits second) met path fits))

pub levels_of : (second : Option Shape) (path : List MetBy) (entries : List Met) → entries ≡ entries_of path → All (MetFits second) path →
    All (λ (entry : Met). entry.level < 5) entries
levels_of second path entries is fits = subst (All (λ (entry : Met). entry.level < 5)) (sym is) (levels_in second path fits)
