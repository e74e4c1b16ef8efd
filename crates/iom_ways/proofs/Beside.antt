-- A use of an entry that makes no difference: the walk goes on as by memory, and only reads other entries.
use Rattle.std.proofs.Common.{◌≡◌, ◌⊎◌, ◌++◌, ℕ, zero, suc, Bool, true, false, List, [], ◌∷◌, Option, Some, None, Result, Ok, Err, if◌then◌else◌, sym, subst, inl, inr}
use Rattle.std.proofs.lemmas.List.{map-append}
use Rattle.std.proofs.lemmas.Grind.{flat_map-append}
use Rattle.iom_bits.specs.declared.causes.Kind.TheVariants.{Read}
use Rattle.iom_bits.specs.Features.{Features}
use Rattle.iom_mem.specs.Memory.{Memory}
use Rattle.iom_ddt.specs.declared.context.Context.{Context}
use Rattle.iom_walk.specs.Path.{entry_at, next_table, verdict_on}
use Rattle.iom_walk.specs.Shape.{is_in_width, levels}
use Rattle.iom_walk.specs.Verdict.{is_pointer}
use Rattle.iom_walk.specs.declared.outcome.Outcome.TheVariants as outcome
use Rattle.iom_walk.specs.declared.shape.Format.{Format}
use Rattle.iom_walk.specs.declared.shape.Shape.{Shape}
use Rattle.iom_nested.specs.Faults.{Failure}
use Rattle.iom_nested.specs.Files.{hit_by_file, is_of_file}
use Rattle.iom_nested.specs.Nested.{first_stage, hit_by, reached_by, second_stage, told_of}
use Rattle.iom_nested.specs.Stages.{first_shape_of, format_of, ram_got, second_shape_of}
use Rattle.iom_nested.specs.declared.translation.Hit.{Hit}
use Rattle.iom_nested.specs.declared.translation.Reached.{Reached}
use Rattle.iom_choices.specs.Systems.{ModelWalk, IsAmong}
use Rattle.iom_choices.specs.Trees.{reads_in, ways_over}
use Rattle.iom_choices.proofs.Lists.{among-left, among-right, among_either}
use Rattle.iom_core.specs.Access.{way_to}
use Rattle.iom_core.specs.declared.access.Request.{Request}
use Rattle.iom_core.specs.declared.way.Way.{Way as Led}
use Rattle.iom_every.specs.Stages.{file_found, file_reads, second_outcome, second_reads}
use Rattle.iom_every.specs.Trees.{Walk, access_at, access_tree, behind_tree, first_found, first_read, first_tree, got_by, looking, looking_behind, met_tree, page_tree, path_tree, staged}
use Rattle.iom_every.specs.Uses.{ForAccess, ForEntry, ForFirst, Look, access_use, entry_use, file_use, first_use}
use Rattle.iom_every.specs.Walks.{entry_of}
use Rattle.iom_every.specs.Ways.{whole_of}
use Rattle.iom_every.specs.declared.entry.Entry.{Entry}
use Rattle.iom_every.specs.declared.entry.Held.{Held}
use Rattle.iom_every.specs.declared.walks.MetBy.{MetBy}
use Rattle.iom_ways.specs.Branches.{behind_reached, by_use, each_use, own_ways}
use Rattle.iom_ways.specs.Ways.{AreAdded, Gathers, Has, leads}
use Rattle.iom_ways.specs.declared.ways.Ways.{Ways}
use Rattle.iom_ways.proofs.Gathering.{WayList, looked}

-- other ways lead nowhere else, and read these entries at most besides
pub record Within (more : List Entry) (ways others : WayList) : Type 0 where
  pub led : (led : Led) → IsAmong (leads others) led → IsAmong (leads ways) led
  pub reads : (entry : Entry) → IsAmong (reads_in others) entry → IsAmong (reads_in ways) entry ⊎ IsAmong more entry

-- and they read them all
pub record Beside (more : List Entry) (ways others : WayList) : Type 0 where
  pub within : Within more ways others
  pub extra : (entry : Entry) → IsAmong more entry → IsAmong (reads_in others) entry

-- where the first are there, what they read besides is all that they add
pub beside_gathers : (more : List Entry) (ways others : WayList) (before after : Ways) → Beside more ways others → Has ways before →
    before.led.items ≡ after.led.items → AreAdded more before.reads.items after.reads.items → Gathers others before after
beside_gathers more ways others before after beside has same added = record {
  led = λ led. (
    λ h. inl (subst (λ (all : List Led). IsAmong all led) (sym same) h),
    λ h. subst (λ (all : List Led). IsAmong all led) same (elim h [
      | inl old ↦ old
      | inr new ↦ has.led led (beside.within.led led new)
    ]),
  );
  reads = λ entry. (
    λ h. elim ((added entry).0 h) [
      | inl old ↦ inl old
      | inr new ↦ inr (beside.extra entry new)
    ],
    λ h. elim h [
      | inl old ↦ (added entry).1 (inl old)
      | inr new ↦ elim (beside.within.reads entry new) [
        | inl known ↦ (added entry).1 (inl (has.reads entry known))
        | inr other ↦ (added entry).1 (inr other)
      ]
    ],
  );
}

-- a list that has some entries besides, all of them
pub record Widens (more xs ys : List Entry) : Type 0 where
  pub within : (entry : Entry) → IsAmong ys entry → IsAmong xs entry ⊎ IsAmong more entry
  pub extra : (entry : Entry) → IsAmong more entry → IsAmong ys entry

pub widens_own : (more xs : List Entry) → Widens more xs more
widens_own more xs = record { within = λ entry h. inr h; extra = λ entry h. h }

pub widens_left : (more xs ys zs : List Entry) → Widens more xs ys → Widens more (xs ++ zs) (ys ++ zs)
widens_left more xs ys zs w = record {
  within = λ entry h. elim (among_either ys zs entry h) [
    | inl first ↦ elim (w.within entry first) [
      | inl known ↦ inl (among-left xs zs entry known)
      | inr other ↦ inr other
    ]
    | inr second ↦ inl (among-right xs zs entry second)
  ];
  extra = λ entry h. among-left ys zs entry (w.extra entry h);
}

pub widens_right : (more zs xs ys : List Entry) → Widens more xs ys → Widens more (zs ++ xs) (zs ++ ys)
widens_right more zs xs ys w = record {
  within = λ entry h. elim (among_either zs ys entry h) [
    | inl first ↦ inl (among-left zs xs entry first)
    | inr second ↦ elim (w.within entry second) [
      | inl known ↦ inl (among-right zs xs entry known)
      | inr other ↦ inr other
    ]
  ];
  extra = λ entry h. among-right zs ys entry (w.extra entry h);
}

pub ends_beside : (more xs ys : List Entry) (led : Led) → Widens more xs ys → Beside more (record { led = led; reads = xs } ∷ []) (record { led = led; reads = ys } ∷ [])
ends_beside more xs ys led w =
    let all : Widens more (xs ++ []) (ys ++ []) = widens_left more xs ys [] w in record {
      within = record { led = λ led h. h; reads = all.within };
      extra = all.extra;
    }

within_none : (more : List Entry) → Within more [] []
within_none more = record { led = λ led h. h; reads = λ entry h. inl h }

within_both : (more : List Entry) (ws xs ys zs : WayList) → Within more ws xs → Within more ys zs → Within more (ws ++ ys) (xs ++ zs)
within_both more ws xs ys zs one other =
    let led_of : ModelWalk Entry Led → Led = λ (way : ModelWalk Entry Led). way.led in
    let reads_of : ModelWalk Entry Led → List Entry = λ (way : ModelWalk Entry Led). way.reads in record {
      led = λ led h. subst (λ (all : List Led). IsAmong all led) (sym (map-append led_of ws ys))
          (elim (among_either (leads xs) (leads zs) led (subst (λ (all : List Led). IsAmong all led) (map-append led_of xs zs) h)) [
            | inl first ↦ among-left (leads ws) (leads ys) led (one.led led first)
            | inr second ↦ among-right (leads ws) (leads ys) led (other.led led second)
          ]);
      reads = λ entry h. subst (λ (all : List Entry). IsAmong all entry ⊎ IsAmong more entry) (sym (flat_map-append reads_of ws ys))
          (elim (among_either (reads_in xs) (reads_in zs) entry (subst (λ (all : List Entry). IsAmong all entry) (flat_map-append reads_of xs zs) h)) [
            | inl first ↦ elim (one.reads entry first) [
              | inl known ↦ inl (among-left (reads_in ws) (reads_in ys) entry known)
              | inr read ↦ inr read
            ]
            | inr second ↦ elim (other.reads entry second) [
              | inl known ↦ inl (among-right (reads_in ws) (reads_in ys) entry known)
              | inr read ↦ inr read
            ]
          ]);
    }

uses_within : {Y : Type 0} (more : List Entry) (own other : Y → WayList) → ((y : Y) → Within more (own y) (other y)) → (used : Option Y) →
    Within more (by_use own used) (by_use other used)
uses_within more own other each None = within_none more
uses_within more own other each (Some y) = each y

each_within : {Y : Type 0} (more : List Entry) (fits : Entry → Option Y) (own other : Y → WayList) → ((y : Y) → Within more (own y) (other y)) → (entries : List Entry) →
    Within more (each_use fits own entries) (each_use fits other entries)
each_within more fits own other each [] = within_none more
each_within more fits own other each (entry ∷ entries) =
    within_both more (by_use own (fits entry)) (by_use other (fits entry)) (each_use fits own entries) (each_use fits other entries)
    (uses_within more own other each (fits entry)) (each_within more fits own other each entries)

module _ (held more : List Entry) where
  abbrev pub AreBeside : Walk → Walk → Type 0
  AreBeside tree other = Beside more (ways_over held tree) (ways_over held other)

  -- the reads of the other branch of memory are among all of its reads
  looked_all : {Y : Type 0} (look : Look) (fits : Look → Entry → Option Y) (tree other : Option Y → Walk) → ((used : Option Y) → AreBeside (tree used) (other used)) →
      Beside more (ways_over held (tree None) ++ each_use (fits look) (own_ways held tree) held) (ways_over held (other None) ++ each_use (fits look) (own_ways held other) held)
  looked_all {Y} look fits tree other each = record {
    within = within_both more (ways_over held (tree None)) (ways_over held (other None)) (each_use (fits look) (own_ways held tree) held) (each_use (fits look) (own_ways held other) held)
        (each None).within
        (each_within more (fits look) (own_ways held tree) (own_ways held other) (λ (y : Y). (each (Some y)).within) held);
    extra = λ entry h. subst (λ (all : List Entry). IsAmong all entry)
        (sym (flat_map-append (λ (way : ModelWalk Entry Led). way.reads) (ways_over held (other None)) (each_use (fits look) (own_ways held other) held)))
        (among-left (reads_in (ways_over held (other None))) (reads_in (each_use (fits look) (own_ways held other) held)) entry ((each None).extra entry h));
  }

  pub looked_beside : {Y : Type 0} (look : Look) (fits : Look → Entry → Option Y) (tree other : Option Y → Walk) → ((used : Option Y) → AreBeside (tree used) (other used)) →
      AreBeside (looking look fits tree) (looking look fits other)
  looked_beside look fits tree other each =
      subst (λ (ways : WayList). Beside more ways (ways_over held (looking look fits other))) (looked held look fits tree)
      (subst (λ (ways : WayList). Beside more (ways_over held (tree None) ++ each_use (fits look) (own_ways held tree) held) ways) (looked held look fits other)
      (looked_all look fits tree other each))

module _ (held more : List Entry) (memory : Memory) (features : Features) (request : Request) (context : Context) where
  access_beside : (second : Option Shape) (reached : Reached) (tree other : Result Hit Failure → List Entry → Walk) →
      ((found : Result Hit Failure) (read : List Entry) → AreBeside held more (tree found read) (other found read)) →
      AreBeside held more (access_tree memory features context request.kind second reached tree) (access_tree memory features context request.kind second reached other)
  access_beside None reached tree other each = each (second_stage memory features context request.kind None reached) []
  access_beside (Some shape) reached tree other each =
      looked_beside held more ForAccess (access_use context shape reached.addr)
      (λ (used : Option Held). tree (hit_by reached (second_outcome memory features context shape reached.addr request.kind used)) (second_reads memory features context shape reached.addr used))
      (λ (used : Option Held). other (hit_by reached (second_outcome memory features context shape reached.addr request.kind used)) (second_reads memory features context shape reached.addr used))
      (λ (used : Option Held). each (hit_by reached (second_outcome memory features context shape reached.addr request.kind used)) (second_reads memory features context shape reached.addr used))

  at_beside : (is : Bool) (reached : Reached) (tree other : Result Hit Failure → List Entry → Walk) →
      ((found : Result Hit Failure) (second : List Entry) → AreBeside held more (tree found second) (other found second)) →
      AreBeside held more (access_at memory features context request.kind is reached tree) (access_at memory features context request.kind is reached other)
  at_beside true reached tree other each =
      looked_beside held more ForAccess (file_use context reached.addr)
      (λ (used : Option ℕ). tree (hit_by_file reached (file_found memory context reached.addr used)) (file_reads memory context reached.addr used))
      (λ (used : Option ℕ). other (hit_by_file reached (file_found memory context reached.addr used)) (file_reads memory context reached.addr used))
      (λ (used : Option ℕ). each (hit_by_file reached (file_found memory context reached.addr used)) (file_reads memory context reached.addr used))
  at_beside false reached tree other each = access_beside (second_shape_of context) reached tree other each

  pub reached_tree_beside : (reached : Result Reached Failure) (tree other : Result Hit Failure → List Entry → Walk) →
      ((found : Result Hit Failure) (second : List Entry) → AreBeside held more (tree found second) (other found second)) →
      AreBeside held more (behind_tree memory features context request.kind reached tree) (behind_tree memory features context request.kind reached other)
  reached_tree_beside (Ok reached) tree other each = at_beside (is_of_file context.msi reached.addr) reached tree other each
  reached_tree_beside (Err failure) tree other each = each (Err failure) []

  behind_beside : (second : Option Shape) (level place : ℕ) (tree other : Option Held → Walk) → ((used : Option Held) → AreBeside held more (tree used) (other used)) →
      AreBeside held more (looking_behind context second level place tree) (looking_behind context second level place other)
  behind_beside None level place tree other each = each None
  behind_beside (Some shape) level place tree other each = looked_beside held more (ForEntry level) (entry_use context shape level place) tree other each

  pub path_beside : (second : Option Shape) (format : Format) (table count : ℕ) (tree other : List MetBy → Walk) → ((path : List MetBy) → AreBeside held more (tree path) (other path)) →
      AreBeside held more (path_tree memory features context second format request.iova table count tree) (path_tree memory features context second format request.iova table count other)
  path_beside second format table zero tree other each = each []
  path_beside second format table (suc count) tree other each =
      let met : Option Held → MetBy = λ used. record { entry = entry_at (got_by memory features context second used) format request.iova table count; used = used } in
      let on : Bool → (List MetBy → Walk) → Option Held → Walk = λ b tree used.
      if b then path_tree memory features context second format request.iova (next_table (met used).entry) count (λ (path : List MetBy). tree (met used ∷ path)) else tree (met used ∷ []) in
      let by_test : (used : Option Held) (b : Bool) → AreBeside held more (on b tree used) (on b other used) = λ used b. elim b as (λ (b : Bool). AreBeside held more (on b tree used) (on b other used)) [
        | true ↦ path_beside second format (next_table (met used).entry) count (λ (path : List MetBy). tree (met used ∷ path)) (λ (path : List MetBy). other (met used ∷ path)) (λ path. each (met used ∷ path))
        | false ↦ each (met used ∷ [])
      ] in
      behind_beside second count (entry_at (ram_got memory) format request.iova table count).place
      (λ (used : Option Held). on (is_pointer (verdict_on format.rules Read (met used).entry)) tree used)
      (λ (used : Option Held). on (is_pointer (verdict_on format.rules Read (met used).entry)) other used)
      (λ (used : Option Held). by_test used (is_pointer (verdict_on format.rules Read (met used).entry)))

  met_beside : (second : Option Shape) (format : Format) (used : Option Held) (tree other : List MetBy → Walk) → ((path : List MetBy) → AreBeside held more (tree path) (other path)) →
      AreBeside held more (met_tree memory features context second format request.iova used tree) (met_tree memory features context second format request.iova used other)
  met_beside second format None tree other each = path_beside second format context.ppn (levels format.shape) tree other each
  met_beside second format (Some own) tree other each =
      let on : Bool → (List MetBy → Walk) → Walk = λ b tree.
      if b then path_tree memory features context second format request.iova (next_table (entry_of own)) own.level tree else tree [] in
      elim (is_pointer (verdict_on format.rules Read (entry_of own))) as (λ (b : Bool). AreBeside held more (on b tree) (on b other)) [
        | true ↦ path_beside second format (next_table (entry_of own)) own.level tree other each
        | false ↦ each []
      ]

  first_beside : (shape : Option Shape) (tree other : Result Reached Failure → List Entry → Walk) →
      ((reached : Result Reached Failure) (read : List Entry) → AreBeside held more (tree reached read) (other reached read)) →
      AreBeside held more (first_tree memory features context request.iova request.kind shape tree) (first_tree memory features context request.iova request.kind shape other)
  first_beside None tree other each = each (first_stage memory features context request.iova request.kind None) []
  first_beside (Some shape) tree other each =
      let by_path : (Result Reached Failure → List Entry → Walk) → Option Held → List MetBy → Walk = λ tree used path.
      tree (first_found (format_of features shape) request.iova request.kind used path) (first_read memory features context request.iova used path) in
      let on : Bool → (Result Reached Failure → List Entry → Walk) → Option Held → Walk = λ b tree used.
      if b then met_tree memory features context (second_shape_of context) (format_of features shape) request.iova used (by_path tree used)
      else tree (reached_by request.iova outcome.Fault) [] in
      looked_beside held more ForFirst (first_use context shape request.iova) (on (is_in_width shape request.iova) tree) (on (is_in_width shape request.iova) other) (λ (used : Option Held).
      elim (is_in_width shape request.iova) as (λ (b : Bool). AreBeside held more (on b tree used) (on b other used)) [
        | true ↦ met_beside (second_shape_of context) (format_of features shape) used (by_path tree used) (by_path other used) (λ path.
            each (first_found (format_of features shape) request.iova request.kind used path) (first_read memory features context request.iova used path))
        | false ↦ each (reached_by request.iova outcome.Fault) []
      ])

  -- other entries of the directory were read
  pub page_beside : (located : List Entry) (hit : Option Hit) →
      AreBeside held more (page_tree memory features request context located hit) (page_tree memory features request context more hit)
  page_beside located (Some hit) =
      ends_beside more (located ++ []) (more ++ []) (way_to context (Ok hit)) (widens_left more located more [] (widens_own more located))
  page_beside located None =
      first_beside (first_shape_of context) (λ reached first. behind_reached memory features request context located first reached) (λ reached first. behind_reached memory features request context more first reached) (λ reached first.
      reached_tree_beside reached (staged request context located first) (staged request context more first) (λ found second.
      let rest : List Entry = (first ++ second) ++ whole_of request context (told_of request.kind found) in
      ends_beside more (located ++ rest) (more ++ rest) (way_to context (told_of request.kind found)) (widens_left more located more rest (widens_own more located))))

  -- the first stage read other entries
  pub reached_beside : (located first wider : List Entry) (reached : Result Reached Failure) → Widens more first wider →
      AreBeside held more (behind_reached memory features request context located first reached) (behind_reached memory features request context located wider reached)
  reached_beside located first wider reached w =
      reached_tree_beside reached (staged request context located first) (staged request context located wider) (λ found second.
      let whole : List Entry = whole_of request context (told_of request.kind found) in
      ends_beside more (located ++ ((first ++ second) ++ whole)) (located ++ ((wider ++ second) ++ whole)) (way_to context (told_of request.kind found))
      (widens_right more located ((first ++ second) ++ whole) ((wider ++ second) ++ whole)
      (widens_left more (first ++ second) (wider ++ second) whole (widens_left more first wider second w))))
