use Rattle.std.proofs.Common.{◌∙◌, ap, sym, arith}
use Rattle.std.proofs.lemmas.Result.{err_from_is_err_and}
use Rattle.std.proofs.lemmas.List.{nil_from_length}
use Rattle.std.proofs.lemmas.Bool.{eqb-true}
use Rattle.iom_asm.specs.Assembly.{ended}
use Rattle.iom_asm.specs.Drafts.{found_seen}
use Rattle.iom_asm.proofs.Going.{goes_on, stops, all_done, still_good}
use Rattle.iom_asm.proofs.assembling.described.Goals as goal

pub returns-in_err-draft-clause-made : goal.returns-in_err-draft-clause-made
returns-in_err-draft-clause-made c =
    let p = err_from_is_err_and c.from_residual.result c.from_residual.ensures.1 in
    rw (p.1, p.2) (λ other. stops _ _ _ _ _ _ _ c.cut.ensures.lines (c.in_err-draft.ensures other) c.loop-rest.invariant.so_far)

pub loop-rest-preserved : goal.loop-rest-preserved
loop-rest-preserved c = record {
  so_far = goes_on _ _ _ _ _ _ _ c.cut.ensures.lines c.in_ok-draft.ensures c.loop-rest.invariant.so_far;
  few = omega (arith, c.loop-rest.invariant.few, c.cut.ensures.shorter);
  good = still_good _ c.loop-rest.draft c.in_ok-draft.draft _ c.loop-rest.invariant.good c.in_ok-draft.ensures;
}

pub returns-in-Some-clause-made : goal.returns-in-Some-clause-made
returns-in-Some-clause-made c =
    all_done _ _ _ _ (nil_from_length _ (eqb-true _ _ (sym c.loop-rest-test.ensures))) c.loop-rest.invariant.so_far
    ∙ ap (λ draft. ended (found_seen draft)) c.in-Some.is

pub returns-in-None-clause-made : goal.returns-in-None-clause-made
returns-in-None-clause-made c other =
    all_done _ _ _ _ (nil_from_length _ (eqb-true _ _ (sym c.loop-rest-test.ensures))) c.loop-rest.invariant.so_far
    ∙ ap (λ draft. ended (found_seen draft)) c.in-None.is
