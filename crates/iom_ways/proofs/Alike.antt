-- Which uses make no difference: by what they give the walk, the entry of the first stage, the end of the second or the context.
use Rattle.std.proofs.Common.{◌≡◌, ◌++◌, ℕ, Bool, true, false, List, [], ◌∷◌, map, Option, Some, None, Result, Ok, Err, if◌then◌else◌, refl, ap, subst}
use Rattle.std.specs.Prelude.{flat_map}
use Rattle.iom_bits.specs.declared.causes.Cause.{Cause}
use Rattle.iom_bits.specs.declared.causes.Kind.TheVariants.{Read}
use Rattle.iom_bits.specs.Features.{Features}
use Rattle.iom_mem.specs.Memory.{Memory}
use Rattle.iom_ddt.specs.Contexts.{is_bare}
use Rattle.iom_ddt.specs.declared.context.Context.{Context}
use Rattle.iom_walk.specs.Outcome.{verdict_on_path}
use Rattle.iom_walk.specs.Path.{next_table, verdict_on}
use Rattle.iom_walk.specs.Verdict.{is_pointer}
use Rattle.iom_walk.specs.declared.met.MetEntry.{MetEntry as Met}
use Rattle.iom_walk.specs.declared.outcome.Outcome.{Outcome}
use Rattle.iom_walk.specs.declared.shape.Format.{Format}
use Rattle.iom_walk.specs.declared.shape.Shape.{Shape}
use Rattle.iom_walk.specs.declared.source.Got.{Got}
use Rattle.iom_nested.specs.Faults.{Failure}
use Rattle.iom_nested.specs.Nested.{hit_by, reached_by, told_of}
use Rattle.iom_nested.specs.Stages.{second_shape_of}
use Rattle.iom_nested.specs.declared.translation.Hit.{Hit}
use Rattle.iom_nested.specs.declared.translation.Reached.{Reached}
use Rattle.iom_cache.specs.Keys.{gscid_of}
use Rattle.iom_choices.specs.Trees.{Ends}
use Rattle.iom_core.specs.Access.{plain, request_key, way_to}
use Rattle.iom_core.specs.State.{Machine}
use Rattle.iom_core.specs.declared.access.Request.{Request}
use Rattle.iom_core.specs.declared.way.Way.TheVariants.{Context as ByContext, Denied}
use Rattle.iom_every.specs.Stages.{second_outcome, second_reads}
use Rattle.iom_every.specs.Trees.{Walk, entered_tree, entries_of, first_found, got_by, located_tree, looking, page_tree, path_tree, reads_behind, staged}
use Rattle.iom_every.specs.Uses.{ForPage, page_use}
use Rattle.iom_every.specs.Walks.{global_by, held_in, is_global_use, with_used}
use Rattle.iom_every.specs.Ways.{directory_reads, located_by, whole_of}
use Rattle.iom_every.specs.declared.entry.Entry.{Entry}
use Rattle.iom_every.specs.declared.entry.Entry.TheVariants.{First as OfFirst}
use Rattle.iom_every.specs.declared.entry.Held.{Held}
use Rattle.iom_every.specs.declared.uses.Entered.{Entered}
use Rattle.iom_every.specs.declared.walks.MetBy.{MetBy}
use Rattle.iom_ways.specs.Branches.{behind_access, behind_entry, behind_met, behind_path, behind_reached}
use Rattle.iom_ways.proofs.Beside.{AreBeside, Widens, ends_beside, looked_beside, page_beside, path_beside, reached_beside, widens_left, widens_own, widens_right}

-- The second stage ends as by memory.
access_ends : (held : List Entry) (memory : Memory) (features : Features) (request : Request) (context : Context) (located first second wider : List Entry) (found : Result Hit Failure) →
    AreBeside held wider (staged request context located first found second) (staged request context located first found wider)
access_ends held memory features request context located first second wider found =
    let whole : List Entry = whole_of request context (told_of request.kind found) in
    ends_beside wider (located ++ ((first ++ second) ++ whole)) (located ++ ((first ++ wider) ++ whole)) (way_to context (told_of request.kind found))
    (widens_right wider located ((first ++ second) ++ whole) ((first ++ wider) ++ whole)
    (widens_left wider (first ++ second) (first ++ wider) whole (widens_right wider first second wider (widens_own wider second))))

pub access_alike : (held : List Entry) (memory : Memory) (features : Features) (request : Request) (context : Context) (located first : List Entry) (shape : Shape) (reached : Reached) (used : Option Held) →
    second_outcome memory features context shape reached.addr request.kind None ≡ second_outcome memory features context shape reached.addr request.kind used →
    AreBeside held (second_reads memory features context shape reached.addr used)
    (behind_access memory features request context located first shape reached None) (behind_access memory features request context located first shape reached used)
access_alike held memory features request context located first shape reached used same =
    let second : List Entry = second_reads memory features context shape reached.addr None in
    let wider : List Entry = second_reads memory features context shape reached.addr used in
    let plain_end : Outcome = second_outcome memory features context shape reached.addr request.kind None in
    subst (λ (end : Outcome). AreBeside held wider (staged request context located first (hit_by reached plain_end) second) (staged request context located first (hit_by reached end) wider)) same
    (access_ends held memory features request context located first second wider (hit_by reached plain_end))

-- The first stage reads the same entry.
abbrev pub met_with : Met → Option Held → MetBy
met_with entry used = record { entry = entry; used = used }

module _ (held : List Entry) (memory : Memory) (features : Features) (request : Request) (context : Context) where
  same_entries : (path rest : List MetBy) (entry : Met) (u v : Option Held) → entries_of (path ++ (met_with entry u ∷ rest)) ≡ entries_of (path ++ (met_with entry v ∷ rest))
  same_entries [] rest entry u v = refl
  same_entries (met ∷ path) rest entry u v = ap (λ (entries : List Met). met.entry ∷ entries) (same_entries path rest entry u v)

  more_behind : (path rest : List MetBy) (entry : Met) (u v : Option Held) →
      Widens (reads_behind memory features context (second_shape_of context) (met_with entry v))
      (flat_map (reads_behind memory features context (second_shape_of context)) (path ++ (met_with entry u ∷ rest)))
      (flat_map (reads_behind memory features context (second_shape_of context)) (path ++ (met_with entry v ∷ rest)))
  more_behind [] rest entry u v =
      let by : MetBy → List Entry = reads_behind memory features context (second_shape_of context) in
      widens_left (by (met_with entry v)) (by (met_with entry u)) (by (met_with entry v)) (flat_map by rest) (widens_own (by (met_with entry v)) (by (met_with entry u)))
  more_behind (met ∷ path) rest entry u v =
      let by : MetBy → List Entry = reads_behind memory features context (second_shape_of context) in
      widens_right (by (met_with entry v)) (by met) (flat_map by (path ++ (met_with entry u ∷ rest))) (flat_map by (path ++ (met_with entry v ∷ rest))) (more_behind path rest entry u v)

  path_alike : (located : List Entry) (format : Format) (used : Option Held) (path rest : List MetBy) (entry : Met) (u v : Option Held) →
      AreBeside held (reads_behind memory features context (second_shape_of context) (met_with entry v))
      (behind_path memory features request context located format used (path ++ (met_with entry u ∷ rest)))
      (behind_path memory features request context located format used (path ++ (met_with entry v ∷ rest)))
  path_alike located format used path rest entry u v =
      let by : MetBy → List Entry = reads_behind memory features context (second_shape_of context) in
      let one : List MetBy = path ++ (met_with entry u ∷ rest) in
      let other : List MetBy = path ++ (met_with entry v ∷ rest) in
      let own : List Met → List Entry = λ entries. map (OfFirst (gscid_of context) context.pscid) (held_in (is_global_use used) request.iova entries) in
      let found : List Met → Walk = λ entries.
      behind_reached memory features request context located (own entries ++ flat_map by other)
      (reached_by request.iova (global_by (is_global_use used) (verdict_on_path format.rules request.kind request.iova (with_used used entries)))) in
      let same : entries_of one ≡ entries_of other = same_entries path rest entry u v in
      subst (λ (tree : Walk). AreBeside held (by (met_with entry v)) (behind_path memory features request context located format used one) tree) (ap found same)
      (reached_beside held (by (met_with entry v)) memory features request context located (own (entries_of one) ++ flat_map by one) (own (entries_of one) ++ flat_map by other)
      (first_found format request.iova request.kind used one)
      (widens_right (by (met_with entry v)) (own (entries_of one)) (flat_map by one) (flat_map by other) (more_behind path rest entry u v)))

  met_alike : (located : List Entry) (format : Format) (used : Option Held) (path : List MetBy) (entry : Met) (u v : Option Held) →
      AreBeside held (reads_behind memory features context (second_shape_of context) (met_with entry v))
      (behind_met memory features request context located format used path (met_with entry u))
      (behind_met memory features request context located format used path (met_with entry v))
  met_alike located format used path entry u v =
      let more : List Entry = reads_behind memory features context (second_shape_of context) (met_with entry v) in
      let rest_by : Option Held → List MetBy → Walk = λ w rest. behind_path memory features request context located format used (path ++ (met_with entry w ∷ rest)) in
      let on : Bool → Option Held → Walk = λ b w.
      if b then path_tree memory features context (second_shape_of context) format request.iova (next_table entry) entry.level (rest_by w) else rest_by w [] in
      elim (is_pointer (verdict_on format.rules Read entry)) as (λ (b : Bool). AreBeside held more (on b u) (on b v)) [
        | true ↦ path_beside held more memory features request context (second_shape_of context) format (next_table entry) entry.level (rest_by u) (rest_by v)
            (λ rest. path_alike located format used path rest entry u v)
        | false ↦ path_alike located format used path [] entry u v
      ]

pub entry_alike : (held : List Entry) (memory : Memory) (features : Features) (request : Request) (context : Context) (located : List Entry) (format : Format) (used : Option Held) (path : List MetBy) (shape : Shape) (place level : ℕ) (behind : Option Held) →
    second_shape_of context ≡ Some shape → got_by memory features context (Some shape) None place ≡ got_by memory features context (Some shape) behind place →
    AreBeside held (second_reads memory features context shape place behind)
    (behind_entry memory features request context located format used path shape place level None)
    (behind_entry memory features request context located format used path shape place level behind)
entry_alike held memory features request context located format used path shape place level behind is same =
    let entry_by : Got → Met = λ got. record { level = level; place = place; got = got } in
    let plain_got : Got = got_by memory features context (Some shape) None place in
    let tree : Got → Option Held → Walk = λ got w. behind_met memory features request context located format used path (met_with (entry_by got) w) in
    let read : Option Shape → List Entry = λ second. reads_behind memory features context second (met_with (entry_by plain_got) behind) in
    subst (λ (got : Got). AreBeside held (read (Some shape)) (tree plain_got None) (tree got behind)) same
    (subst (λ (second : Option Shape). AreBeside held (read second) (tree plain_got None) (tree plain_got behind)) is
    (met_alike held memory features request context located format used path (entry_by plain_got) None behind))

-- The directory leads to the same context.
located_alike : (held : List Entry) (m : Machine) (request : Request) (located wider : List Entry) (found : Result Context Cause) →
    AreBeside held wider (located_tree m request located found) (located_tree m request wider found)
located_alike held m request located wider (Err why) = ends_beside wider located wider (Denied (plain why)) (widens_own wider located)
located_alike held m request located wider (Ok context) =
    let on : Bool → List Entry → Walk = λ b read.
    if b then Ends (record { led = ByContext context; reads = read ++ [] })
    else looking ForPage (page_use (request_key request context)) (page_tree m.memory m.registers.features request context read) in
    elim (is_bare context) as (λ (b : Bool). AreBeside held wider (on b located) (on b wider)) [
      | true ↦ ends_beside wider (located ++ []) (wider ++ []) (ByContext context) (widens_left wider located wider [] (widens_own wider located))
      | false ↦ looked_beside held wider ForPage (page_use (request_key request context)) (page_tree m.memory m.registers.features request context located)
          (page_tree m.memory m.registers.features request context wider) (λ (hit : Option Hit). page_beside held wider m.memory m.registers.features request context located hit)
    ]

pub device_alike : (held : List Entry) (m : Machine) (request : Request) (at : Option Entered) → located_by m request.did None ≡ located_by m request.did at →
    AreBeside held (directory_reads m request.did at) (entered_tree m request None) (entered_tree m request at)
device_alike held m request at same =
    let plain_found : Result Context Cause = located_by m request.did None in
    let wider : List Entry = directory_reads m request.did at in
    subst (λ (found : Result Context Cause). AreBeside held wider (entered_tree m request None) (located_tree m request wider found)) same
    (located_alike held m request (directory_reads m request.did None) wider plain_found)
