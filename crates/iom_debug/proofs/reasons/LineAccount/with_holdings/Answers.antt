use Rattle.iom_debug.proofs.reasons.LineAccount.with_holdings.Goals as goal

pub returns-clause-keeps : goal.returns-clause-keeps
returns-clause-keeps c = c.new-2.ensures.keeps c.args.platform.now
