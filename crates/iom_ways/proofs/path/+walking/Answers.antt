use Rattle.std.proofs.Common.{◌≡◌, ◌∙◌, ◌-◌, Bool, List, [], Some, arith, refl, subst, suc, sym}
use Rattle.std.specs.Prelude.{is_some}
use Rattle.iom_choices.specs.Systems.{IsAmong}
use Rattle.iom_every.specs.declared.entry.Entry.{Entry}
use Rattle.iom_every.specs.declared.entry.Held.{Held}
use Rattle.iom_every.specs.Uses.{ForEntry, entry_use}
use Rattle.iom_held.specs.Kept.{entries_in}
use Rattle.iom_held.specs.declared.kept.Kept.{Kept}
use Rattle.iom_ways.specs.Asked.{Collects}
use Rattle.iom_ways.specs.Branches.{behind_entry, own_ways}
use Rattle.iom_ways.proofs.Paths.{goes_on, looks_behind, own_level, reads_plainly, runs_out}
use Rattle.iom_ways.proofs.Alike.{entry_alike}
use Rattle.iom_ways.proofs.Beside.{beside_gathers}
use Rattle.iom_ways.proofs.Fresh.{entry_gathers}
use Rattle.iom_ways.proofs.Gathering.{added_same, ended, has_still, passed, turned}
use Rattle.iom_ways.proofs.Looked.{looked, of_some, only_ways, same_tree}
use Rattle.iom_ways.proofs.path.+walking.Goals as goal

pub put_behind-returns : goal.put_behind-returns
put_behind-returns g t c =
    let under = c.args.under.now in
    let found = of_some _ _ _ c.in-Some.is c.in_ok-entries.ensures.followed in
    looked c.put_each.result under.asks under.held.now c.in-Some.entries.items c.deref.result.now (ForEntry c.args.level) (entry_use under.context c.args.shape c.args.level c.args.place)
    (behind_entry (g.M.Region.memory under.ram.now) under.features under.request under.context under.located.now c.args.format.now c.args.used c.args.path.now c.args.shape c.args.place c.args.level)
    c.args.out.now c.put_read.new.out c.followed.new.out c.put_each.new.out (
      found.0,
      found.1,
      subst (λ (passes : Entry → Bool). Collects under.held.now passes [] c.in-Some.entries.items) (λ i entry. is_some (own_level under.context c.args.shape c.args.level c.args.place entry i)) found.2,
    )
    c.deref.ensures.value c.in_ok-put_read.ensures c.put_each.ensures

pub put_each-loop-kept-preserved-in_default : goal.put_each-loop-kept-preserved-in_default
put_each-loop-kept-preserved-in_default g t c =
    let fits = λ (kept : Kept). entry_use c.args.under.now.context c.args.shape c.args.level c.args.place (ForEntry c.args.level) kept.entry in
    let more = behind_entry (g.M.Region.memory c.args.under.now.ram.now) c.args.under.now.features c.args.under.now.request c.args.under.now.context c.args.under.now.located.now c.args.format.now c.args.used c.args.path.now c.args.shape c.args.place c.args.level in
    record {
      left = passed fits (own_ways (entries_in c.args.under.now.held.now) more) c.args.entries.now _ _ c.kept-item.result _ _ _ c.loop-kept.invariant.left c.loop-kept-test.true c.kept-item.is
          (c.second_use.ensures.given ∙ own_level c.args.under.now.context c.args.shape c.args.level c.args.place c.kept-item.result.entry) c.in_default.is;
      has = c.loop-kept.invariant.has;
    }

pub put_each-loop-kept-preserved : goal.put_each-loop-kept-preserved
put_each-loop-kept-preserved g t c =
    let fits = λ (kept : Kept). entry_use c.args.under.now.context c.args.shape c.args.level c.args.place (ForEntry c.args.level) kept.entry in
    let more = behind_entry (g.M.Region.memory c.args.under.now.ram.now) c.args.under.now.features c.args.under.now.request c.args.under.now.context c.args.under.now.located.now c.args.format.now c.args.used c.args.path.now c.args.shape c.args.place c.args.level in
    record {
      left = turned fits (own_ways (entries_in c.args.under.now.held.now) more) c.args.entries.now _ _ c.kept-item.result _ _ _ _ _ c.loop-kept.invariant.left c.loop-kept-test.true c.kept-item.is
          (c.second_use.ensures.given ∙ own_level c.args.under.now.context c.args.shape c.args.level c.args.place c.kept-item.result.entry) c.in-Some.is (c.in_ok-put_other.ensures.ways c.requires.follows);
      has = has_still _ _ _ _ c.loop-kept.invariant.has (c.in_ok-put_other.ensures.ways c.requires.follows);
    }

pub put_each-returns : goal.put_each-returns
put_each-returns g t c =
    let fits = λ (kept : Kept). entry_use c.args.under.now.context c.args.shape c.args.level c.args.place (ForEntry c.args.level) kept.entry in
    let more = behind_entry (g.M.Region.memory c.args.under.now.ram.now) c.args.under.now.features c.args.under.now.request c.args.under.now.context c.args.under.now.located.now c.args.format.now c.args.used c.args.path.now c.args.shape c.args.place c.args.level in
    ended fits (own_ways (entries_in c.args.under.now.held.now) more) c.args.entries.now _ _ _ _ c.loop-kept.invariant.left c.loop-kept-test.false

pub put_met-returns-then-is_pointer : goal.put_met-returns-then-is_pointer
put_met-returns-then-is_pointer g t c =
    same_tree c.put_path.result c.args.under.now.asks c.args.under.now.held.now _ _ _ _
    (goes_on (g.M.Region.memory c.args.under.now.ram.now) c.args.under.now.features c.args.under.now.request c.args.under.now.context c.args.under.now.located.now c.args.format.now c.args.used c.args.path.now _ c.args.met _ (c.deref.ensures.0 ∙ c.path_with-longer.ensures.path) (sym c.is_pointer.ensures ∙ c.if-is_pointer.true) c.next_table.ensures.table)
    c.put_path.ensures

pub put_path-returns-in-Some : goal.put_path-returns-in-Some
put_path-returns-in-Some g t c =
    let more : c.args.count ≡ suc (c.args.count - 1) = omega arith in
    same_tree c.put_behind.result c.args.under.now.asks c.args.under.now.held.now _ _ _ _
    (looks_behind (g.M.Region.memory c.args.under.now.ram.now) c.args.under.now.features c.args.under.now.request c.args.under.now.context c.args.under.now.located.now c.args.format.now c.args.used c.args.path.now c.args.table c.args.count (c.args.count - 1) _ _ more c.place_in-place.ensures.place (sym c.second_shape.ensures ∙ c.in-Some.is))
    c.put_behind.ensures

pub put_path-returns-in-None : goal.put_path-returns-in-None
put_path-returns-in-None g t c =
    let more : c.args.count ≡ suc (c.args.count - 1) = omega arith in
    same_tree c.put_met.result c.args.under.now.asks c.args.under.now.held.now _ _ _ _
    (reads_plainly (g.M.Region.memory c.args.under.now.ram.now) c.args.under.now.features c.args.under.now.request c.args.under.now.context c.args.under.now.located.now c.args.format.now c.args.used c.args.path.now c.args.table c.args.count (c.args.count - 1) _ _ more c.place_in-place.ensures.place c.word-got.ensures (sym c.second_shape.ensures ∙ c.in-None.is))
    c.put_met.ensures

pub put_path-returns-then-count-eq0 : goal.put_path-returns-then-count-eq0
put_path-returns-then-count-eq0 g t c =
    same_tree c.put_found.result c.args.under.now.asks c.args.under.now.held.now _ _ _ _
    (runs_out (g.M.Region.memory c.args.under.now.ram.now) c.args.under.now.features c.args.under.now.request c.args.under.now.context c.args.under.now.located.now c.args.format.now c.args.used c.args.path.now c.args.table c.args.count c.if-count-eq0.true)
    c.put_found.ensures

pub put_other-returns-then-is_same_got : goal.put_other-returns-then-is_same_got
put_other-returns-then-is_same_got g t c =
    only_ways c.args.under.now.asks c.args.under.now.held.now _ _ _ c.requires.follows
    (beside_gathers _ _ _ _ _
    (entry_alike (entries_in c.args.under.now.held.now) (g.M.Region.memory c.args.under.now.ram.now) c.args.under.now.features c.args.under.now.request c.args.under.now.context c.args.under.now.located.now c.args.format.now c.args.used c.args.path.now c.args.shape c.args.place c.args.level (Some c.args.behind) c.requires.shape
    (sym c.requires.plain ∙ sym (c.is_same_got.ensures.0 c.if-is_same_got.true) ∙ c.got_by-got.ensures))
    c.requires.there refl
    (added_same _ _ _ _ (c.deref-then-is_same_got.ensures.0 ∙ c.second_reads-second.ensures.read) c.in_ok-put_entries.ensures))

pub put_other-returns-then-has_held : goal.put_other-returns-then-has_held
put_other-returns-then-has_held g t c =
    only_ways c.args.under.now.asks c.args.under.now.held.now _ _ _ c.requires.follows
    (entry_gathers (entries_in c.args.under.now.held.now) (g.M.Region.memory c.args.under.now.ram.now) c.args.under.now.features c.args.under.now.request c.args.under.now.context c.args.under.now.located.now c.args.format.now c.args.used c.args.path.now c.args.shape c.args.place c.args.level c.args.behind c.args.out.now.ways
    c.requires.shape
    (subst (λ (all : List Held). IsAmong all c.args.behind) (c.deref.ensures.0 ∙ c.requires.fresh) (c.has_held.ensures c.if-has_held.true)) c.requires.there)
