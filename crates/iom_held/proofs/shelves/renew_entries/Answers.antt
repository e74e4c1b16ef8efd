use Rattle.std.proofs.Common.{◌≡◌, ◌∙◌, ◌+◌, ◌-◌, ◌++◌, ◌∷◌, [], ℕ, List, arith, map, take, ap, sym, subst}
use Rattle.std.proofs.lemmas.List.{take_more}
use Rattle.iom_every.specs.declared.entry.Entry.{Entry}
use Rattle.iom_held.specs.Kept.{Renews, entry_of, kept_at}
use Rattle.iom_held.specs.declared.kept.Kept.{Kept}
use Rattle.iom_held.specs.Shelves.{entries_on}
use Rattle.iom_held.proofs.Places.{renews_same, renews_then}
use Rattle.iom_held.proofs.Standing.{last_first}
use Rattle.iom_held.proofs.shelves.renew_entries.Goals as goal

pub loop-i-preserved : goal.loop-i-preserved
loop-i-preserved c =
    let entries : List Entry = c.args.entries.now in
    let entry : Entry = c.index-entries-i.result in
    let again : c.loop-i.i - 1 + 1 ≡ c.loop-i.i = omega (arith, c.loop-i-test.true) in
    let split : take c.loop-i.i entries ≡ take (c.loop-i.i - 1) entries ++ entry ∷ [] =
    ap (λ (n : ℕ). take n entries) (sym again) ∙ take_more entries (c.loop-i.i - 1) c.index-entries-i.result (omega (arith, c.loop-i-test.true, c.loop-i.invariant.within))
    ∙ ap (λ (own : Entry). take (c.loop-i.i - 1) entries ++ own ∷ []) (sym c.index-entries-i.is) in record {
      some = omega (arith, c.loop-i.invariant.some, c.renew.auto.shelves);
      within = omega (arith, c.loop-i.invariant.within);
      in_place = c.renew.ensures.in_place;
      room = λ j other more is some at. c.renew.ensures.room other more
          (c.loop-i.invariant.room j other (more + 1) (omega (arith, is, c.loop-i-test.true)) (omega arith) at);
      rest = λ after h. c.loop-i.invariant.rest after (renews_same entry_of (kept_at c.args.number c.args.unfenced entry ∷ map (kept_at c.args.number c.args.unfenced) (take (c.loop-i.i - 1) entries))
          (map (kept_at c.args.number c.args.unfenced) (take c.loop-i.i entries)) (entries_on c.loop-i.shelves) after
          (last_first (kept_at c.args.number c.args.unfenced) (take (c.loop-i.i - 1) entries) (take c.loop-i.i entries) entry split)
          (renews_then entry_of (kept_at c.args.number c.args.unfenced entry) (map (kept_at c.args.number c.args.unfenced) (take (c.loop-i.i - 1) entries)) (entries_on c.loop-i.shelves)
          (entries_on c.renew.new.shelves) after
          (subst (λ (new : Kept). Renews entry_of (new ∷ []) (entries_on c.loop-i.shelves) (entries_on c.renew.new.shelves)) c.kept_at.ensures c.renew.ensures.renewed) h));
    }
