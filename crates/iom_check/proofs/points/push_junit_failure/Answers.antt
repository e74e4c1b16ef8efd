use Rattle.std.proofs.Common.{◌++◌, ◌∙◌, ap, codes}
use Rattle.iom_check.specs.Reporting.{junit_failure, quoted}
use Rattle.iom_check.specs.declared.pages.Quoting.TheVariants as quoting
use Rattle.iom_check.proofs.Pieces.{three}
use Rattle.iom_check.proofs.points.push_junit_failure.Goals as goal

pub returns-clause-text : goal.returns-clause-text
unfolding junit_failure
returns-clause-text c =
    c.push-2.ensures.text
    ∙ ap (λ l. l ++ codes "\"/></testcase>\n") (c.push_quoted.ensures.text ∙ ap (λ l. l ++ quoted quoting.Xml c.args.message.now) c.push.ensures.text)
    ∙ three c.args.out.now.items (codes "><failure message=\"") (quoted quoting.Xml c.args.message.now) (codes "\"/></testcase>\n")
