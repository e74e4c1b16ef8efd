use Rattle.iom_play.proofs.Plays.{plays}
use Rattle.iom_play.proofs.play.Goals as goal

pub returns-clause-played : goal.returns-clause-played
returns-clause-played g c = plays c.args.image.now _ _ _ _ _ _ _ _ c.in_ok-platform.ensures.exact c.in-Ok.ensures c.run_watched-ended.ensures.ends
