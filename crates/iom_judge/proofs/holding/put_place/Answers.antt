use Rattle.iom_ways.proofs.Gathering.{added_end}
use Rattle.iom_judge.proofs.holding.put_place.Goals as goal

pub returns-in_ok-push : goal.returns-in_ok-push
returns-in_ok-push c = added_end c.args.place c.args.places.now.items c.push.new.self.items c.in_ok-push.ensures.items
