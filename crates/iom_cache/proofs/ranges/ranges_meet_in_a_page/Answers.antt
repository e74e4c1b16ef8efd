use Rattle.iom_cache.proofs.Meeting.{meet_in_pages}
use Rattle.iom_cache.proofs.ranges.ranges_meet_in_a_page.Goals as goal

pub returns : goal.returns
returns c = meet_in_pages
