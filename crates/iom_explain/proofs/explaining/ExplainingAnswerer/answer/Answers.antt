use Rattle.iom_tool.specs.Script.{Again, Does, Named, Plain, Stores, stores_at}
use Rattle.iom_tool.specs.Parsed.{line_as, step_of}
use Rattle.iom_explain.proofs.Telling.{heard, others, unheard}
use Rattle.iom_explain.proofs.explaining.ExplainingAnswerer.answer.Goals as goal

pub returns-then-self-clause-next : goal.returns-then-self-clause-next
returns-then-self-clause-next g c = unheard c.args.line.now _ c.if-self.true

pub returns-in-Does-clause-next : goal.returns-in-Does-clause-next
returns-in-Does-clause-next g c =
    heard c.args.line.now c.first_bytes-line.result.now _ _ c.tell_one.result c.saturating_add-self.result (Plain (Does c.in-Does.step))
    c.first_bytes-line.ensures.bytes c.if-self.false c.saturating_add-self.ensures c.tell_one.ensures.number c.in-Does.ensures.line
    c.tell_one.ensures.ok

pub returns-in-Named-clause-next : goal.returns-in-Named-clause-next
returns-in-Named-clause-next g c =
    heard c.args.line.now c.first_bytes-line.result.now _ _ c.tell_one-in-Named.result c.saturating_add-self.result (Named c.in-Named.step)
    c.first_bytes-line.ensures.bytes c.if-self.false c.saturating_add-self.ensures c.tell_one-in-Named.ensures.number c.in-Named.ensures.line
    c.tell_one-in-Named.ensures.ok

pub returns-in-Again-clause-next : goal.returns-in-Again-clause-next
returns-in-Again-clause-next g c =
    heard c.args.line.now c.first_bytes-line.result.now _ _ c.tell_run.result c.saturating_add-self.result
    (Again (step_of c.in-Again.actor) c.in-Again.most) c.first_bytes-line.ensures.bytes c.if-self.false c.saturating_add-self.ensures
    c.tell_run.ensures.number c.in-Again.ensures.line c.tell_run.ensures.ok

pub returns-in-Put-clause-next : goal.returns-in-Put-clause-next
returns-in-Put-clause-next g c =
    heard c.args.line.now c.first_bytes-line.result.now _ _ c.tell_put.result c.saturating_add-self.result
    (Stores (stores_at c.in-Put.addr c.in-Put.words.items)) c.first_bytes-line.ensures.bytes c.if-self.false c.saturating_add-self.ensures
    c.tell_put.ensures.number c.in-Put.ensures.line (rw c.as_slice.ensures.value at c.tell_put.ensures.ok)

pub returns-in_default-clause-next : goal.returns-in_default-clause-next
returns-in_default-clause-next g c =
    heard c.args.line.now c.first_bytes-line.result.now _ _ c.tell_other.result c.saturating_add-self.result (line_as c.said.result)
    c.first_bytes-line.ensures.bytes c.if-self.false c.saturating_add-self.ensures c.tell_other.ensures.number c.said.ensures.line
    (others c.tell_other.result _ _ _ c.said.result _ _ _ _ c.in_default.not-Does c.in_default.not-Named c.in_default.not-Again
    c.in_default.not-Put c.tell_other.ensures.ok)
