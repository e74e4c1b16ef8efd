use Rattle.std.proofs.Common.{◌∙◌, ◌++◌, Option, sym, ap}
use Rattle.iom_core.specs.declared.witness.Source.{Source}
use Rattle.iom_ddt.specs.declared.context.Context.{Context}
use Rattle.iom_explain.specs.Accesses.{caches_by}
use Rattle.iom_explain.proofs.Pieces.{five}
use Rattle.iom_explain.proofs.accesses.put_caches.Goals as goal

pub returns-in-Some-clause-text : goal.returns-in-Some-clause-text
returns-in-Some-clause-text c =
    five _ _ _ _ _ _ _ _ _ _ _ c.put.ensures.text c.put_context.ensures.text
    (rw (c.is_found.ensures, c.walk_of.ensures) at c.put_page.ensures.text)
    (rw (c.is_led.ensures, c.address.ensures) at c.put_addr.ensures.text) c.put-in-Some.ensures.text
    ∙ ap (λ (o : Option (Source × Context)). c.args.out.now.items ++ caches_by c.args.marks.now o c.args.seen.now c.args.line c.args.iova c.args.used)
    (sym c.in-Some.is)
