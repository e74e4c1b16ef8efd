use Rattle.iom_judge.specs.Candidates.{IsListed, IsVerdict}
use Rattle.iom_traces.proofs.Each.{if_each}
use Rattle.iom_traces.proofs.rulings.follow.Goals as goal

pub returns-clause-followed : goal.returns-clause-followed
returns-clause-followed c =
    if_each c.args.judge.now (λ start traces verdict. IsVerdict start traces (c.args.step.now, c.args.seen.now) verdict c.args.judge.now c.follow_listing.new.self) c.follow_listing.result
    c.follow_listing.ensures.judged

pub returns-clause-could : goal.returns-clause-could
returns-clause-could c =
    if_each c.args.judge.now (λ start traces verdict. IsListed start traces c.args.step.now verdict c.follow_listing.new.allowed.items) c.follow_listing.result c.follow_listing.ensures.listed
