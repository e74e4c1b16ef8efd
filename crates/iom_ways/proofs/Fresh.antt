-- A walk of the first stage that enters at an entry which memory's own path has, as it would be kept now: each of its ways is one of memory's
-- branch, which reads no less.
use Rattle.std.proofs.Common.{◌≡◌, ◌∙◌, ◌||◌, ◌++◌, ℕ, zero, suc, Bool, true, false, not, List, [], ◌∷◌, map, Option, Some, None, Result, if◌then◌else◌, refl, sym, ap, subst, inl, inr, append_assoc}
use Rattle.std.specs.Prelude.{filter, flat_map, is_some}
use Rattle.std.specs.List.{AllByRecursion, find, list_any}
use Rattle.std.proofs.lemmas.List.{map-append}
use Rattle.std.proofs.lemmas.Grind.{flat_map-append}
use Rattle.iom_bits.specs.Bits.{has_bit}
use Rattle.iom_bits.specs.declared.causes.Kind.{Kind}
use Rattle.iom_bits.specs.declared.causes.Kind.TheVariants.{Read}
use Rattle.iom_bits.specs.Features.{Features}
use Rattle.iom_walk.specs.declared.rules.EntryRules.{EntryRules}
use Rattle.iom_mem.specs.Memory.{Memory}
use Rattle.iom_ddt.specs.declared.context.Context.{Context}
use Rattle.iom_walk.specs.Outcome.{conclude, conclude_at, verdict_on_path}
use Rattle.iom_walk.specs.Path.{entry_at, next_table, verdict_on}
use Rattle.iom_walk.specs.Shape.{is_in_width, levels}
use Rattle.iom_walk.specs.Verdict.{is_global, is_pointer, is_valid, ppn, verdict_of, word_of}
use Rattle.iom_walk.specs.declared.entry.Verdict.{Verdict}
use Rattle.iom_walk.specs.declared.entry.Verdict.TheVariants as verdict
use Rattle.iom_walk.specs.declared.met.MetEntry.{MetEntry as Met}
use Rattle.iom_walk.specs.declared.outcome.Outcome.{Outcome}
use Rattle.iom_walk.specs.declared.outcome.Outcome.TheVariants as outcome
use Rattle.iom_walk.specs.declared.shape.Format.{Format}
use Rattle.iom_walk.specs.declared.shape.Shape.{Shape}
use Rattle.iom_walk.specs.declared.source.Got.{Got}
use Rattle.iom_walk.specs.declared.source.Got.TheVariants as got
use Rattle.iom_walk.proofs.Entries.{pointer_for_each}
use Rattle.iom_nested.specs.Faults.{Failure}
use Rattle.iom_nested.specs.Nested.{reached_by}
use Rattle.iom_nested.specs.Stages.{format_of, got_behind, ram_got, second_shape_of, table_got_by}
use Rattle.iom_nested.specs.declared.translation.Reached.{Reached}
use Rattle.iom_cache.specs.Keys.{gscid_of}
use Rattle.iom_core.specs.declared.access.Request.{Request}
use Rattle.iom_core.specs.declared.way.Way.{Way as Led}
use Rattle.iom_choices.specs.Systems.{IsAmong, ModelWalk}
use Rattle.iom_choices.specs.Trees.{reads_in, ways_over}
use Rattle.iom_choices.proofs.Lists.{among-left, among-right, among_either}
use Rattle.iom_every.specs.declared.entry.Entry.{Entry}
use Rattle.iom_every.specs.declared.entry.Entry.TheVariants.{First as OfFirst, Second as OfSecond}
use Rattle.iom_every.specs.declared.entry.Held.{Held}
use Rattle.iom_every.specs.declared.walks.MetBy.{MetBy}
use Rattle.iom_every.specs.Trees.{Walk, entries_of, first_found, first_read, got_by, looking_behind, met_tree, path_tree, reads_behind}
use Rattle.iom_every.specs.Uses.{ForEntry, entry_use}
use Rattle.iom_every.specs.Walks.{global_by, held_in, kept_of, made_global, met, met_by, path_by}
use Rattle.iom_every.proofs.Midway.{behind_pointer, entering, word_alike}
use Rattle.iom_every.proofs.OneMemory.{kept_invalid, kept_valid}
use Rattle.iom_every.proofs.Walked.{outcome_is}
use Rattle.iom_every.specs.Stages.{in_memory, second_outcome, second_reads}
use Rattle.iom_held.proofs.Lists.{among_both}
use Rattle.iom_ways.specs.Branches.{behind_access, behind_entry, behind_path, behind_reached, behind_used, fresh_entries, second_entries}
use Rattle.iom_ways.specs.Ways.{Gathers, Has, leads}
use Rattle.iom_ways.specs.declared.ways.Ways.{Ways}
use Rattle.iom_ways.proofs.Gathering.{WayList, added_none}
use Rattle.iom_ways.proofs.Alike.{access_alike, entry_alike}
use Rattle.iom_ways.proofs.Beside.{AreBeside, Beside, Widens, beside_gathers, path_beside, reached_beside}

-- Whether a mapping is global.
global_twice : (one other : Bool) (end : Outcome) → global_by one (global_by other end) ≡ global_by (one || other) end
global_twice false other end = refl
global_twice true false end = refl
global_twice true true (outcome.Leaf leaf) = refl
global_twice true true outcome.Outside = refl
global_twice true true (outcome.Guest place) = refl
global_twice true true outcome.Fault = refl

made : (global : Bool) (address : ℕ) (entry : Met) (said : Verdict) → made_global (conclude global address entry said) ≡ conclude true address entry said
made global address entry verdict.Outside = refl
made global address entry verdict.Guest = refl
made global address entry verdict.Fault = refl
made global address entry (verdict.Pointer word) = refl
made global address entry (verdict.Leaf word) = refl

made_at : (rules : EntryRules) (kind : Kind) (global : Bool) (address : ℕ) (first : Option Met) → made_global (conclude_at rules kind global address first) ≡ conclude_at rules kind true address first
made_at rules kind global address None = refl
made_at rules kind global address (Some entry) = made global address entry (verdict_on rules kind entry)

-- behind a global entry it is global anyway
made_behind : (rules : EntryRules) (kind : Kind) (address : ℕ) (entry : Met) (path : List Met) → is_global (word_of entry.got) ≡ true →
    made_global (verdict_on_path rules kind address (entry ∷ path)) ≡ verdict_on_path rules kind address (entry ∷ path)
unfolding verdict_on_path
made_behind rules kind address entry path is =
    let any : Bool = list_any (λ (entry : Met). is_global (word_of entry.got)) path in
    let first : Option Met = find (λ (entry : Met). not (is_pointer (verdict_on rules kind entry))) (entry ∷ path) in
    let all : (is_global (word_of entry.got) || any) ≡ true = ap (λ (b : Bool). b || any) is in
    made_at rules kind (is_global (word_of entry.got) || any) address first ∙ sym (ap (λ (b : Bool). conclude_at rules kind b address first) all)

global_once : (above own : Bool) (end : Outcome) → (own ≡ true → made_global end ≡ end) → global_by (above || own) end ≡ global_by above end
global_once true own end h = refl
global_once false true end h = h refl
global_once false false end h = refl

or_none : (b : Bool) → (b || false) ≡ b
or_none true = refl
or_none false = refl

or_inside : (a b c : Bool) → ((a || b) || c) ≡ (a || (b || c))
or_inside true b c = refl
or_inside false b c = refl

-- an entry of a path is judged alike whether it is told with its place or not
head_alike : (rules : EntryRules) (kind : Kind) (address level place word : ℕ) (path : List Met) →
    verdict_on_path rules kind address (record { level = level; place = 0; got = got.Word word } ∷ path)
    ≡ verdict_on_path rules kind address (record { level = level; place = place; got = got.Word word } ∷ path)
unfolding verdict_on_path
head_alike rules kind address level place word path =
    let global : Bool = is_global word || list_any (λ (entry : Met). is_global (word_of entry.got)) path in
    let said : Verdict = verdict_of rules kind level (got.Word word) in
    let rest : Option Met = find (λ (entry : Met). not (is_pointer (verdict_on rules kind entry))) path in
    let own : Met = record { level = level; place = 0; got = got.Word word } in
    let there : Met = record { level = level; place = place; got = got.Word word } in
    elim (is_pointer said) as (λ (b : Bool). conclude_at rules kind global address (if not b then Some own else rest) ≡ conclude_at rules kind global address (if not b then Some there else rest)) [
      | true ↦ refl
      | false ↦ word_alike rules global address level place word kind
    ]

-- The entries that memory's path has met, all of them pointers.
abbrev pub ArePointers : EntryRules → List MetBy → Type 0
ArePointers rules path = AllByRecursion (λ (met : MetBy). is_pointer (verdict_on rules Read met.entry) ≡ true) path

abbrev pub any_global : List MetBy → Bool
any_global path = list_any (λ (entry : Met). is_global (word_of entry.got)) (entries_of path)

one_more : (rules : EntryRules) (before : List MetBy) (met : MetBy) → ArePointers rules before → is_pointer (verdict_on rules Read met.entry) ≡ true → ArePointers rules (before ++ met ∷ [])
one_more rules [] met all is = (is, tt)
one_more rules (other ∷ before) met all is = (all.0, one_more rules before met all.1 is)

any_more : (before : List MetBy) (met : MetBy) → any_global (before ++ met ∷ []) ≡ (any_global before || is_global (word_of met.entry.got))
any_more [] met = or_none (is_global (word_of met.entry.got))
any_more (other ∷ before) met =
    ap (λ (b : Bool). is_global (word_of other.entry.got) || b) (any_more before met)
    ∙ sym (or_inside (is_global (word_of other.entry.got)) (any_global before) (is_global (word_of met.entry.got)))

-- the end behind them
ends_behind : (rules : EntryRules) (kind : Kind) (address : ℕ) (before rest : List MetBy) → ArePointers rules before →
    verdict_on_path rules kind address (entries_of (before ++ rest)) ≡ global_by (any_global before) (verdict_on_path rules kind address (entries_of rest))
ends_behind rules kind address [] rest all = refl
ends_behind rules kind address (met ∷ before) rest all =
    sym (behind_pointer rules kind address met.entry (entries_of (before ++ rest)) (sym (pointer_for_each rules kind met.entry.level met.entry.got) ∙ all.0))
    ∙ ap (λ (end : Outcome). global_by (is_global (word_of met.entry.got)) end) (ends_behind rules kind address before rest all.1)
    ∙ global_twice (is_global (word_of met.entry.got)) (any_global before) (verdict_on_path rules kind address (entries_of rest))

-- what is kept behind an entry is kept of the whole path
kept_behind : (features : Features) (global : Bool) (address : ℕ) (entry : Met) (path : List Met) (held : Held) →
    IsAmong (held_in (global || is_global (word_of entry.got)) address path) held → IsAmong (held_in global address (entry ∷ path)) held
kept_behind features global address entry path held h =
    let by_valid : (b : Bool) → is_valid (word_of entry.got) ≡ b → IsAmong (held_in global address (entry ∷ path)) held = λ b.
    elim b as (λ (b : Bool). is_valid (word_of entry.got) ≡ b → IsAmong (held_in global address (entry ∷ path)) held) [
      | true ↦ λ is. subst (λ (all : List Held). IsAmong all held) (sym (kept_valid features global address entry path is)) (inr h)
      | false ↦ λ is. subst (λ (all : List Held). IsAmong all held) (sym (kept_invalid features global address entry path is)) h
    ] in by_valid (is_valid (word_of entry.got)) refl

all_behind : (features : Features) (global : Bool) (address : ℕ) (before rest : List MetBy) (held : Held) →
    IsAmong (held_in (global || any_global before) address (entries_of rest)) held → IsAmong (held_in global address (entries_of (before ++ rest))) held
all_behind features global address [] rest held h = subst (λ (b : Bool). IsAmong (held_in b address (entries_of rest)) held) (or_none global) h
all_behind features global address (met ∷ before) rest held h =
    kept_behind features global address met.entry (entries_of (before ++ rest)) held
    (all_behind features (global || is_global (word_of met.entry.got)) address before rest held
    (subst (λ (b : Bool). IsAmong (held_in b address (entries_of rest)) held)
    (sym (or_inside global (is_global (word_of met.entry.got)) (any_global before))) h))

read_behind : {X Y : Type 0} (by : X → List Y) (before rest : List X) (met : X) (y : Y) → IsAmong (flat_map by rest) y → IsAmong (flat_map by (before ++ (met ∷ rest))) y
read_behind by [] rest met y h = among-right (by met) (flat_map by rest) y h
read_behind by (other ∷ before) rest met y h = among-right (by other) (flat_map by (before ++ (met ∷ rest))) y (read_behind by before rest met y h)

none_set : has_bit 0 0 ≡ false
unfolding has_bit
none_set = refl

no_word : is_valid 0 ≡ true → ⊥
no_word valid = let none : false ≡ true = sym none_set ∙ valid in (cc)

-- The entry of a level, behind those, at which the other walk enters.
module _ (held : List Entry) (memory : Memory) (features : Features) (request : Request) (context : Context) (located : List Entry) (format : Format) where
  abbrev pub ByMemory : List MetBy → Walk
  ByMemory path = behind_path memory features request context located format None path

  abbrev pub kept_at : List MetBy → ℕ → ℕ → ℕ → Held
  kept_at before level place word =
      kept_of (any_global before || is_global word) request.iova (record { level = level; place = place; got = got.Word word })

  module _ (before : List MetBy) (all : ArePointers format.rules before) (level place word : ℕ) where
    abbrev pub here : Met
    here = record { level = level; place = place; got = got.Word word }

    abbrev pub met_here : MetBy
    met_here = record { entry = here; used = None }

    found_alike : (rest : List MetBy) →
        first_found format request.iova request.kind None (before ++ (met_here ∷ rest)) ≡ first_found format request.iova request.kind (Some (kept_at before level place word)) rest
    found_alike rest =
        let end : Outcome = verdict_on_path format.rules request.kind request.iova (here ∷ entries_of rest) in
        ap (λ (end : Outcome). reached_by request.iova end)
        (ends_behind format.rules request.kind request.iova before (met_here ∷ rest) all
        ∙ sym (global_once (any_global before) (is_global word) end (λ is. made_behind format.rules request.kind request.iova here (entries_of rest) is))
        ∙ ap (λ (end : Outcome). global_by (any_global before || is_global word) end) (sym (head_alike format.rules request.kind request.iova level place word (entries_of rest))))

    read_alike : (rest : List MetBy) →
        Widens [] (first_read memory features context request.iova None (before ++ (met_here ∷ rest))) (first_read memory features context request.iova (Some (kept_at before level place word)) rest)
    read_alike rest =
        let whole : List MetBy = before ++ (met_here ∷ rest) in
        let tag : Held → Entry = OfFirst (gscid_of context) context.pscid in
        let by : MetBy → List Entry = reads_behind memory features context (second_shape_of context) in
        let plain : List Held = held_in false request.iova (entries_of whole) in
        let own : List Held = held_in (any_global before || is_global word) request.iova (entries_of rest) in
        let kept : (h : Held) → IsAmong own h → IsAmong plain h = λ h among.
        all_behind features false request.iova before (met_here ∷ rest) h (kept_behind features (any_global before) request.iova here (entries_of rest) h among) in
        record {
          within = λ entry h. inl (elim (among_either (map tag own) (flat_map by rest) entry h) [
            | inl first ↦ among-left (map tag plain) (flat_map by whole) entry (among_both tag own plain kept entry first)
            | inr second ↦ among-right (map tag plain) (flat_map by whole) entry (read_behind by before rest met_here entry second)
          ]);
          extra = λ entry h. absurd h;
        }

    path_alike : (rest : List MetBy) →
        AreBeside held [] (ByMemory (before ++ (met_here ∷ rest))) (behind_path memory features request context located format (Some (kept_at before level place word)) rest)
    path_alike rest =
        let whole : List MetBy = before ++ (met_here ∷ rest) in
        let other : Option Held = Some (kept_at before level place word) in
        subst (λ (found : Result Reached Failure). AreBeside held [] (ByMemory whole) (behind_reached memory features request context located (first_read memory features context request.iova other rest) found)) (found_alike rest)
        (reached_beside held [] memory features request context located (first_read memory features context request.iova None whole) (first_read memory features context request.iova other rest)
        (first_found format request.iova request.kind None whole) (read_alike rest))

    here_alike :
        AreBeside held []
        (if is_pointer (verdict_on format.rules Read here)
        then path_tree memory features context (second_shape_of context) format request.iova (next_table here) level (λ rest. ByMemory (before ++ (met_here ∷ rest)))
        else ByMemory (before ++ (met_here ∷ [])))
        (met_tree memory features context (second_shape_of context) format request.iova (Some (kept_at before level place word))
        (behind_path memory features request context located format (Some (kept_at before level place word))))
    here_alike =
        let plain : List MetBy → Walk = λ rest. ByMemory (before ++ (met_here ∷ rest)) in
        let other : List MetBy → Walk = behind_path memory features request context located format (Some (kept_at before level place word)) in
        let on : Bool → (List MetBy → Walk) → Walk = λ b tree.
        if b then path_tree memory features context (second_shape_of context) format request.iova (next_table here) level tree else tree [] in
        elim (is_pointer (verdict_on format.rules Read here)) as (λ (b : Bool). AreBeside held [] (on b plain) (on b other)) [
          | true ↦ path_beside held [] memory features request context (second_shape_of context) format (next_table here) level plain other path_alike
          | false ↦ path_alike []
        ]

  -- memory's branch of a look-up is among all
  looked_none : (second : Option Shape) (level place : ℕ) (tree : Option Held → Walk) (other : Walk) → AreBeside held [] (tree None) other →
      AreBeside held [] (looking_behind context second level place tree) other
  looked_none None level place tree other h = h
  looked_none (Some shape) level place tree other h =
      let plain : WayList = ways_over held (tree None) in
      let uses : WayList = flat_map (λ (entry : Entry). ways_over held (tree (entry_use context shape level place (ForEntry level) entry)))
      (filter (λ (entry : Entry). is_some (entry_use context shape level place (ForEntry level) entry)) held) in
      record {
        within = record {
          led = λ led a. subst (λ (all : List Led). IsAmong all led) (sym (map-append (λ (way : ModelWalk Entry Led). way.led) plain uses))
              (among-left (leads plain) (leads uses) led (h.within.led led a));
          reads = λ entry a. elim (h.within.reads entry a) [
            | inl known ↦ inl (subst (λ (all : List Entry). IsAmong all entry) (sym (flat_map-append (λ (way : ModelWalk Entry Led). way.reads) plain uses))
                (among-left (reads_in plain) (reads_in uses) entry known))
            | inr none ↦ absurd none
          ];
        };
        extra = λ entry none. absurd none;
      }

  abbrev pub at_none : ℕ → ℕ → Got
  at_none level = got_by memory features context (second_shape_of context) None

  abbrev pub Entering : Held → Walk
  Entering kept = met_tree memory features context (second_shape_of context) format request.iova (Some kept) (behind_path memory features request context located format (Some kept))

  abbrev pub Rest : List MetBy → ℕ → ℕ → Walk
  Rest before table count = path_tree memory features context (second_shape_of context) format request.iova table count (λ rest. ByMemory (before ++ rest))

  abbrev pub Behind : List MetBy → Met → Bool → Walk
  Behind before entry pointer =
      if pointer then path_tree memory features context (second_shape_of context) format request.iova (next_table entry) entry.level (λ rest. ByMemory (before ++ (record { entry = entry; used = None } ∷ rest)))
      else ByMemory (before ++ (record { entry = entry; used = None } ∷ []))

  -- a valid entry, as it is kept
  own_alike : (before : List MetBy) → ArePointers format.rules before → (level place : ℕ) (read : Got) → is_valid (word_of read) ≡ true →
      AreBeside held [] (Behind before (record { level = level; place = place; got = read }) (is_pointer (verdict_on format.rules Read (record { level = level; place = place; got = read }))))
      (Entering (kept_of (any_global before || is_global (word_of read)) request.iova (record { level = level; place = place; got = read })))
  own_alike before all level place (got.Word word) valid = here_alike before all level place word
  own_alike before all level place got.Outside valid = absurd (no_word valid)
  own_alike before all level place got.Guest valid = absurd (no_word valid)

  path_entered : (count table : ℕ) (before : List MetBy) → ArePointers format.rules before → (kept : Held) →
      IsAmong (held_in (any_global before) request.iova (path_by at_none format request.iova table count)) kept → AreBeside held [] (Rest before table count) (Entering kept)
  unfolding held_in path_by
  path_entered zero table before all kept among = absurd among
  path_entered (suc count) table before all kept among =
      let entry : Met = entry_at (at_none count) format request.iova table count in
      let met_one : MetBy = record { entry = entry; used = None } in
      let global : Bool = any_global before || is_global (word_of entry.got) in
      let more : List Met = path_by at_none format request.iova (next_table entry) count in
      let rest : Bool → List Met = λ p. if p then more else [] in
      let other : Walk = Entering kept in
      let by_pointer : (p : Bool) → is_pointer (verdict_on format.rules Read entry) ≡ p → IsAmong (held_in global request.iova (rest p)) kept → AreBeside held [] (Behind before entry p) other = λ p.
      elim p as (λ (p : Bool). is_pointer (verdict_on format.rules Read entry) ≡ p → IsAmong (held_in global request.iova (rest p)) kept → AreBeside held [] (Behind before entry p) other) [
        | true ↦ λ is h.
            let joined : (λ (path : List MetBy). ByMemory ((before ++ met_one ∷ []) ++ path)) ≡ (λ (path : List MetBy). ByMemory (before ++ (met_one ∷ path))) =
            λ i path. ByMemory (append_assoc before (met_one ∷ []) path i) in
            subst (λ (tree : List MetBy → Walk). AreBeside held [] (path_tree memory features context (second_shape_of context) format request.iova (next_table entry) count tree) other) joined
            (path_entered count (next_table entry) (before ++ met_one ∷ []) (one_more format.rules before met_one all is) kept
            (subst (λ (b : Bool). IsAmong (held_in b request.iova more) kept) (sym (any_more before met_one)) h))
        | false ↦ λ is h. absurd h
      ] in
      let later : IsAmong (held_in global request.iova (rest (is_pointer (verdict_on format.rules Read entry)))) kept →
      AreBeside held [] (Behind before entry (is_pointer (verdict_on format.rules Read entry))) other = by_pointer (is_pointer (verdict_on format.rules Read entry)) refl in
      let own : Held = kept_of global request.iova entry in
      let by_valid : (b : Bool) → is_valid (word_of entry.got) ≡ b →
      IsAmong (if b then own ∷ held_in global request.iova (rest (is_pointer (verdict_on format.rules Read entry))) else held_in global request.iova (rest (is_pointer (verdict_on format.rules Read entry)))) kept →
      AreBeside held [] (Behind before entry (is_pointer (verdict_on format.rules Read entry))) other = λ b.
      elim b as (λ (b : Bool). is_valid (word_of entry.got) ≡ b →
      IsAmong (if b then own ∷ held_in global request.iova (rest (is_pointer (verdict_on format.rules Read entry))) else held_in global request.iova (rest (is_pointer (verdict_on format.rules Read entry)))) kept →
      AreBeside held [] (Behind before entry (is_pointer (verdict_on format.rules Read entry))) other) [
        | true ↦ λ is h. elim h [
          | inl same ↦ subst (λ (kept : Held). AreBeside held [] (Behind before entry (is_pointer (verdict_on format.rules Read entry))) (Entering kept)) same
              (own_alike before all count entry.place entry.got is)
          | inr there ↦ later there
        ]
        | false ↦ λ is h. later h
      ] in
      looked_none (second_shape_of context) count (entry_at (ram_got memory) format request.iova table count).place
      (λ (used : Option Held).
      let met_other : MetBy = record { entry = entry_at (got_by memory features context (second_shape_of context) used) format request.iova table count; used = used } in
      if is_pointer (verdict_on format.rules Read met_other.entry)
      then path_tree memory features context (second_shape_of context) format request.iova (next_table met_other.entry) count (λ (path : List MetBy). ByMemory (before ++ (met_other ∷ path)))
      else ByMemory (before ++ (met_other ∷ [])))
      other (by_valid (is_valid (word_of entry.got)) refl among)

pub fresh_alike : (held : List Entry) (memory : Memory) (features : Features) (request : Request) (context : Context) (located : List Entry) (shape : Shape) (kept : Held) →
    IsAmong (fresh_entries memory features request context shape) kept →
    AreBeside held [] (behind_used memory features request context located shape None) (behind_used memory features request context located shape (Some kept))
unfolding met held_in
fresh_alike held memory features request context located shape kept among =
    let format : Format = format_of features shape in
    let path : List Met = path_by (λ (level : ℕ). got_by memory features context (second_shape_of context) None) format request.iova context.ppn (levels shape) in
    let wide : Walk = behind_reached memory features request context located [] (reached_by request.iova outcome.Fault) in
    let tree : Option Held → Walk = λ used. met_tree memory features context (second_shape_of context) format request.iova used (behind_path memory features request context located format used) in
    let by_width : (b : Bool) → IsAmong (held_in false request.iova (if b then path else [])) kept → AreBeside held [] (if b then tree None else wide) (if b then tree (Some kept) else wide) = λ b.
    elim b as (λ (b : Bool). IsAmong (held_in false request.iova (if b then path else [])) kept → AreBeside held [] (if b then tree None else wide) (if b then tree (Some kept) else wide)) [
      | true ↦ λ h. path_entered held memory features request context located format (levels shape) context.ppn [] tt kept h
      | false ↦ λ h. absurd h
    ] in by_width (is_in_width shape request.iova) among

-- so all its ways are there
pub fresh_gathers : (held : List Entry) (memory : Memory) (features : Features) (request : Request) (context : Context) (located : List Entry) (shape : Shape) (kept : Held) (at : Ways) →
    IsAmong (fresh_entries memory features request context shape) kept → Has (ways_over held (behind_used memory features request context located shape None)) at →
    Gathers (ways_over held (behind_used memory features request context located shape (Some kept))) at at
fresh_gathers held memory features request context located shape kept at among has =
    beside_gathers [] (ways_over held (behind_used memory features request context located shape None)) (ways_over held (behind_used memory features request context located shape (Some kept))) at at
    (fresh_alike held memory features request context located shape kept among) has refl (added_none at.reads.items)

-- the tables of the first stage, read by memory alone
pub own_tables : (memory : Memory) (features : Features) (context : Context) (second : Option Shape) →
    table_got_by memory features context.gppn second ≡ got_by memory features context second None
own_tables memory features context None = refl
own_tables memory features context (Some shape) = λ i addr.
    got_behind memory addr (sym (outcome_is (in_memory memory) (ram_got memory) (λ level place. refl) (format_of features shape) context.gppn addr Read) i)

-- what a walk of the second stage reads behind an entry that the path has
own_reads : (at : ℕ → ℕ → Got) (features : Features) (format : Format) (address level place : ℕ) (above : Bool) (read : Got) → is_valid (word_of read) ≡ true → (held : Held) →
    IsAmong (held_in (above || is_global (word_of read)) address
    (met_by at format 0 address (Some (kept_of (above || is_global (word_of read)) address (record { level = level; place = place; got = read }))))) held →
    IsAmong (held_in (above || is_global (word_of read)) address
    (if is_pointer (verdict_on format.rules Read (record { level = level; place = place; got = read })) then path_by at format address (ppn (word_of read)) level else [])) held
own_reads at features format address level place above (got.Word word) valid held h = h
own_reads at features format address level place above got.Outside valid held h = absurd (no_word valid)
own_reads at features format address level place above got.Guest valid held h = absurd (no_word valid)

reads_entered : (at : ℕ → ℕ → Got) (features : Features) (format : Format) (address count table : ℕ) (above : Bool) (kept held : Held) →
    IsAmong (held_in above address (path_by at format address table count)) kept → IsAmong (held_in kept.global address (met_by at format 0 address (Some kept))) held →
    IsAmong (held_in above address (path_by at format address table count)) held
unfolding held_in path_by
reads_entered at features format address zero table above kept held among h = absurd among
reads_entered at features format address (suc count) table above kept held among h =
    let entry : Met = entry_at (at count) format address table count in
    let global : Bool = above || is_global (word_of entry.got) in
    let more : List Met = path_by at format address (next_table entry) count in
    let rest : Bool → List Met = λ p. if p then more else [] in
    let pointer : Bool = is_pointer (verdict_on format.rules Read entry) in
    let own : Held = kept_of global address entry in
    let by_pointer : (p : Bool) → IsAmong (held_in global address (rest p)) kept → IsAmong (held_in global address (rest p)) held = λ p.
    elim p as (λ (p : Bool). IsAmong (held_in global address (rest p)) kept → IsAmong (held_in global address (rest p)) held) [
      | true ↦ λ there. reads_entered at features format address count (next_table entry) global kept held there h
      | false ↦ λ there. absurd there
    ] in
    let by_valid : (b : Bool) → is_valid (word_of entry.got) ≡ b →
    IsAmong (if b then own ∷ held_in global address (rest pointer) else held_in global address (rest pointer)) kept → IsAmong (held_in global address (rest pointer)) held = λ b.
    elim b as (λ (b : Bool). is_valid (word_of entry.got) ≡ b →
    IsAmong (if b then own ∷ held_in global address (rest pointer) else held_in global address (rest pointer)) kept → IsAmong (held_in global address (rest pointer)) held) [
      | true ↦ λ is a. elim a [
        | inl same ↦ own_reads at features format address count entry.place above entry.got is held
            (subst (λ (k : Held). IsAmong (held_in k.global address (met_by at format 0 address (Some k))) held) (sym same) h)
        | inr there ↦ by_pointer pointer there
      ]
      | false ↦ λ is a. by_pointer pointer a
    ] in kept_behind features above address entry (rest pointer) held (by_valid (is_valid (word_of entry.got)) refl among)

module _ (memory : Memory) (features : Features) (context : Context) (shape : Shape) (address : ℕ) (kept : Held) (among : IsAmong (second_entries memory features context shape address) kept) where
  pub same_outcome : (kind : Kind) → second_outcome memory features context shape address kind None ≡ second_outcome memory features context shape address kind (Some kept)
  same_outcome kind = sym (entering (in_memory memory) (format_of features shape) context.gppn address kind kept among).1

  held_within : (held : Held) → IsAmong (held_in kept.global address (met (in_memory memory) (format_of features shape) context.gppn address (Some kept))) held →
      IsAmong (second_entries memory features context shape address) held
  unfolding met held_in
  held_within held h =
      let format : Format = format_of features shape in
      let path : List Met = path_by (in_memory memory) format address context.gppn (levels shape) in
      let after : List Met = met_by (in_memory memory) format context.gppn address (Some kept) in
      let Goal : Bool → Type 0 = λ b. IsAmong (held_in false address (if b then path else [])) kept →
      IsAmong (held_in kept.global address (if b then after else [])) held → IsAmong (held_in false address (if b then path else [])) held in
      let by_width : (b : Bool) → Goal b = λ b. elim b as Goal [
        | true ↦ λ a h. reads_entered (in_memory memory) features format address (levels shape) context.gppn false kept held a h
        | false ↦ λ a h. absurd a
      ] in by_width (is_in_width shape address) among h

  pub reads_within : (entry : Entry) → IsAmong (second_reads memory features context shape address (Some kept)) entry → IsAmong (second_reads memory features context shape address None) entry
  reads_within entry h =
      among_both (OfSecond context.gscid) (held_in kept.global address (met (in_memory memory) (format_of features shape) context.gppn address (Some kept)))
      (second_entries memory features context shape address) held_within entry h

-- so a use that reads no more than memory's branch adds nothing
pub nothing_added : (more own : List Entry) (ways others : WayList) (at : Ways) → Beside more ways others → Beside own ways ways → ((entry : Entry) → IsAmong more entry → IsAmong own entry) →
    Has ways at → Gathers others at at
nothing_added more own ways others at beside plain within has =
    beside_gathers [] ways others at at (record {
      within = record {
        led = beside.within.led;
        reads = λ entry h. elim (beside.within.reads entry h) [
          | inl known ↦ inl known
          | inr read ↦ inl (plain.extra entry (within entry read))
        ];
      };
      extra = λ entry none. absurd none;
    }) has refl (added_none at.reads.items)

pub access_gathers : (held : List Entry) (memory : Memory) (features : Features) (request : Request) (context : Context) (located first : List Entry) (shape : Shape) (reached : Reached) (kept : Held) (at : Ways) →
    IsAmong (second_entries memory features context shape reached.addr) kept →
    Has (ways_over held (behind_access memory features request context located first shape reached None)) at →
    Gathers (ways_over held (behind_access memory features request context located first shape reached (Some kept))) at at
access_gathers held memory features request context located first shape reached kept at among has =
    nothing_added (second_reads memory features context shape reached.addr (Some kept)) (second_reads memory features context shape reached.addr None)
    (ways_over held (behind_access memory features request context located first shape reached None)) (ways_over held (behind_access memory features request context located first shape reached (Some kept))) at
    (access_alike held memory features request context located first shape reached (Some kept) (same_outcome memory features context shape reached.addr kept among request.kind))
    (access_alike held memory features request context located first shape reached None refl)
    (reads_within memory features context shape reached.addr kept among) has

pub entry_gathers : (held : List Entry) (memory : Memory) (features : Features) (request : Request) (context : Context) (located : List Entry) (format : Format) (used : Option Held) (path : List MetBy) (shape : Shape) (place level : ℕ) (kept : Held) (at : Ways) →
    second_shape_of context ≡ Some shape → IsAmong (second_entries memory features context shape place) kept →
    Has (ways_over held (behind_entry memory features request context located format used path shape place level None)) at →
    Gathers (ways_over held (behind_entry memory features request context located format used path shape place level (Some kept))) at at
entry_gathers held memory features request context located format used path shape place level kept at is among has =
    nothing_added (second_reads memory features context shape place (Some kept)) (second_reads memory features context shape place None)
    (ways_over held (behind_entry memory features request context located format used path shape place level None)) (ways_over held (behind_entry memory features request context located format used path shape place level (Some kept))) at
    (entry_alike held memory features request context located format used path shape place level (Some kept) is
    (ap (got_behind memory place) (same_outcome memory features context shape place kept among Read)))
    (entry_alike held memory features request context located format used path shape place level None is refl)
    (reads_within memory features context shape place kept among) has
