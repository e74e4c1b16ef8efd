use Rattle.iom_include.specs.Faults.{IsFault}
use Rattle.iom_include.proofs.Lefts.{if_done, plain_ready}
use Rattle.iom_include.proofs.Refusals.{memory_fault}
use Rattle.iom_include.proofs.including.push_ready.Goals as goal

pub returns-in-None-clause-ok : goal.returns-in-None-clause-ok
returns-in-None-clause-ok g c =
    if_done c.push_whole.result c.push_whole.ensures.ok
    (plain_ready (g.T.Texts.known c.args.source.now.texts.now) c.args.at.name.now c.args.line.now c.args.whole.now c.args.out.now.text.items
    c.push_whole.new.out.text.items c.in-None.ensures c.requires)

pub returns-in-None-clause-fault : goal.returns-in-None-clause-fault
returns-in-None-clause-fault g c =
    let texts = c.args.source.now.texts.now in
    memory_fault (IsFault (g.T.Texts.known texts) (g.T.Texts.gives texts) (g.T.Texts.lacks texts) c.args.at.name.now c.args.line.now)
    c.push_whole.result c.push_whole.ensures.fault tt
