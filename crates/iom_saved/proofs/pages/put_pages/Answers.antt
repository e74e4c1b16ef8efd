use Rattle.std.proofs.Common.{◌<◌, length, arith}
use Rattle.iom_cache.specs.Places.{place_in}
use Rattle.iom_saved.specs.Kept.{IsPagePlace}
use Rattle.iom_saved.specs.Seen.{IsPageSeen}
use Rattle.iom_saved.proofs.Pieces.{next_page}
use Rattle.iom_saved.proofs.Taken.{each_step, seen_page}
use Rattle.iom_saved.proofs.pages.put_pages.Goals as goal

pub loop-i-preserved : goal.loop-i-preserved
loop-i-preserved c =
    let within : c.loop-i.i < length c.args.cache.now = omega (arith, c.len.ensures.count, c.len-i-end.ensures.count) in
    record {
      put = next_page c.args.cache.now c.loop-i.i c.push.new.self.items c.loop-i.out.items c.put_place.new.out.items within c.loop-i.invariant.put
          (rw c.place.ensures.place at c.in_ok-put_place.ensures.words);
      kept = each_step IsPagePlace (λ o. IsPageSeen (place_in o)) seen_page c.args.cache.now c.loop-i.i within c.loop-i.invariant.kept
          (rw c.place.ensures.place at c.in_ok-put_place.ensures.kept);
    }
