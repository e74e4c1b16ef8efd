use Rattle.std.proofs.Common.{◌∙◌, sym, arith}
use Rattle.iom_walk.proofs.Entries.{no_pointer}
use Rattle.iom_walk.proofs.Noted as notes
use Rattle.iom_walk.proofs.Walks.{is_met, runs_out, stops, turns}
use Rattle.iom_walk.proofs.walking.walk_from.Goals as goal

pub returns-in_default : goal.returns-in_default
returns-in_default g c =
    let met = is_met _ _ _ _ _ _ _ _ _ c.loop-level-test.true c.place_in-place.ensures.place c.word-got.ensures c.judged_by-ruling.ensures in
    let last = no_pointer _ _ c.verdict_by.ensures c.in_default.not-Pointer in
    record {
      outcome = stops _ _ _ _ _ _ _ _ _ _ _ _ c.loop-level.invariant.left met last c.end_at.ensures.end;
      leaf = c.end_at.ensures.leaf _ (omega (arith, c.loop-level-test.true, c.loop-level.auto.level, c.requires.count));
      noted = notes.stops _ _ _ _ _ _ _ _ _ _ _ _ _ c.loop-level.invariant.unnoted met last c.note.ensures;
    }

pub loop-level-preserved : goal.loop-level-preserved
loop-level-preserved g c =
    let met = is_met _ _ _ _ _ _ _ _ _ c.loop-level-test.true c.place_in-place.ensures.place c.word-got.ensures c.judged_by-ruling.ensures in
    record {
      table_fits = c.ppn_of-table.ensures.fits;
      left = turns _ _ _ _ _ _ _ _ _ _ _ _ _ _ c.loop-level.invariant.left met (sym c.in-Pointer.is ∙ c.verdict_by.ensures) c.has_bit-global.ensures c.ppn_of-table.ensures.value;
      unnoted = notes.turns _ _ _ _ _ _ _ _ _ _ _ _ _ _ _ c.loop-level.invariant.unnoted met (sym c.in-Pointer.is ∙ c.verdict_by.ensures) c.ppn_of-table.ensures.value c.note.ensures;
    }

pub returns-clause-outcome : goal.returns-clause-outcome
returns-clause-outcome g c = runs_out _ _ _ _ _ _ _ _ c.loop-level.invariant.left c.loop-level-test.false

pub returns-clause-noted : goal.returns-clause-noted
returns-clause-noted g c = notes.runs_out _ _ _ _ _ _ _ _ _ c.loop-level.invariant.unnoted c.loop-level-test.false
