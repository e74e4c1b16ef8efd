use Rattle.std.proofs.Common.{◌<◌, length, arith}
use Rattle.iom_cache.specs.Places.{place_in}
use Rattle.iom_saved.specs.Kept.{IsContextPlace}
use Rattle.iom_saved.specs.Seen.{IsContextSeen}
use Rattle.iom_saved.proofs.Pieces.{next_context}
use Rattle.iom_saved.proofs.Taken.{each_step, seen_context}
use Rattle.iom_saved.proofs.contexts.put_contexts.Goals as goal

pub loop-i-preserved : goal.loop-i-preserved
loop-i-preserved c =
    let within : c.loop-i.i < length c.args.cache.now = omega (arith, c.len.ensures.count, c.len-i-end.ensures.count) in
    record {
      put = next_context c.args.cache.now c.loop-i.i c.push.new.self.items c.loop-i.out.items c.put_place.new.out.items within c.loop-i.invariant.put
          (rw c.place.ensures.place at c.in_ok-put_place.ensures.words);
      kept = each_step IsContextPlace (λ o. IsContextSeen (place_in o)) seen_context c.args.cache.now c.loop-i.i within c.loop-i.invariant.kept
          (rw c.place.ensures.place at c.in_ok-put_place.ensures.kept);
    }
