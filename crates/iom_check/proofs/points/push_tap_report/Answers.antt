use Rattle.std.proofs.Common.{◌++◌, ◌∙◌, ap, codes}
use Rattle.iom_check.specs.Reporting.{quoted, tap_report}
use Rattle.iom_check.specs.declared.pages.Quoting.TheVariants as quoting
use Rattle.iom_check.proofs.Pieces.{three}
use Rattle.iom_check.proofs.points.push_tap_report.Goals as goal

pub returns-clause-text : goal.returns-clause-text
unfolding tap_report
returns-clause-text c =
    let out = c.args.out.now.items in
    let text = c.as_slice.result.now in
    c.push-2.ensures.text
    ∙ ap (λ l. l ++ codes "\"\n  ...\n") (c.push_quoted.ensures.text ∙ ap (λ l. l ++ quoted quoting.Yaml text) c.push.ensures.text)
    ∙ three out (codes "  ---\n  message: \"") (quoted quoting.Yaml text) (codes "\"\n  ...\n")
    ∙ ap (λ t. out ++ (codes "  ---\n  message: \"" ++ quoted quoting.Yaml t ++ codes "\"\n  ...\n")) (c.as_slice.ensures.value ∙ c.headed.ensures.text)
