use Rattle.std.proofs.Common.{◌∙◌, refl, sym, arith}
use Rattle.std.proofs.lemmas.Result.{err_from_is_err_and}
use Rattle.iom_ddt.proofs.Paths.{ends, goes_on, stops}
use Rattle.iom_ddt.proofs.directory.locate_from.Goals as goal

pub loop-level-init : goal.loop-level-init
loop-level-init g c = record {
  table_fits = c.requires.table;
  some = c.requires.some;
  left = record { verdict = refl; end = λ found end. end; noted = refl };
}

pub loop-level-preserved : goal.loop-level-preserved
loop-level-preserved g c = record {
  table_fits = grind arith;
  some = omega (arith, c.loop-level-test.true);
  left = goes_on _ _ _ _ _ _ _ _ _ _ _ _ c.loop-level.invariant.left _ _ (omega (arith, c.loop-level-test.true)) c.entry_place-place.ensures c.word-word.ensures
      (sym c.pointed_by.ensures.entry ∙ c.in_ok-table.was) c.note.ensures;
}

pub returns-in_err-table : goal.returns-in_err-table
returns-in_err-table g c =
    let p = err_from_is_err_and c.from_residual.result c.from_residual.ensures.1 in
    let found = stops _ _ _ _ _ _ _ _ _ _ _ _ c.loop-level.invariant.left _ _ (omega (arith, c.loop-level-test.true)) c.entry_place-place.ensures c.word-word.ensures
    (sym c.pointed_by.ensures.entry ∙ c.in_err-table.was) c.note.ensures in
    rw (p.1, p.2) (record { verdict = found.verdict; meaning = found.end; noted = found.noted })

pub returns : goal.returns
returns g c =
    let found = ends _ _ _ _ _ _ _ _ _ _ _ _ c.loop-level.invariant.left _ _ _ (omega (arith, c.loop-level-test.false)) c.leaf_place-place.ensures
    c.words_in-words.ensures refl c.context_in.ensures.verdict c.context_in.ensures.meaning c.note-2.ensures in
    record { verdict = found.verdict; meaning = found.end; noted = found.noted }
