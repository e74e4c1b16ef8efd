use Rattle.std.proofs.Common.{◌-◌, ◌∙◌, refl, sym, arith}
use Rattle.std.proofs.lemmas.Result.{err_from_is_err_and}
use Rattle.iom_pdt.proofs.Ways.{no_page, no_table}
use Rattle.iom_pdt.proofs.locating.locate.Goals as goal

pub returns-in_err-page : goal.returns-in_err-page
returns-in_err-page g c =
    let p = err_from_is_err_and c.from_residual.result c.from_residual.ensures.1 in
    rw (p.1, p.2) (no_page _ _ _ _ _ _ _ _ (sym c.is_too_wide.ensures ∙ c.if-is_too_wide.false) c.loop-level.invariant.1 (sym c.page_of.ensures ∙ c.in_err-page.was))

pub returns-in_err-table : goal.returns-in_err-table
returns-in_err-table g c =
    let p = err_from_is_err_and c.from_residual-in_err-table.result c.from_residual-in_err-table.ensures.1 in
    rw (p.1, p.2) (no_table _ _ _ _ _ (c.loop-level.level - 1) _ _ _ (sym c.is_too_wide.ensures ∙ c.if-is_too_wide.false) c.loop-level.invariant.1
    (omega (arith, c.loop-level-test.true)) (sym c.page_of.ensures ∙ c.in_ok-page.was)
    (rw (sym c.get.ensures.value, sym c.pdi.ensures.part, sym c.word.ensures) (sym c.pointed_by.ensures ∙ c.in_err-table.was)))

pub returns-in_err-page-2 : goal.returns-in_err-page-2
returns-in_err-page-2 g c =
    let p = err_from_is_err_and c.from_residual-in_err-page-2.result c.from_residual-in_err-page-2.ensures.1 in
    rw (p.1, p.2) (no_page _ _ _ _ _ _ _ _ (sym c.is_too_wide.ensures ∙ c.if-is_too_wide.false) c.loop-level.invariant.1 (sym c.page_of-2.ensures ∙ c.in_err-page-2.was))
