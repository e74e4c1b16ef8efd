use Rattle.std.proofs.Common.{◌≡◌, ◌<◌, length, get_or, take, None, arith}
use Rattle.std.proofs.lemmas.Grind.{common_steps}
use Rattle.std.proofs.lemmas.List.{length-take-le, take_more}
use Rattle.iom_cache.proofs.index.Index.of.Goals as goal

pub loop-at-preserved : goal.loop-at-preserved
loop-at-preserved c =
    let l = c.loop-at in
    let places = c.args.places.now in
    let inside : l.at < length places = grind (arith, common_steps) in
    let count : length (take l.at places) ≡ l.at = length-take-le l.at places (omega arith) in
    let read : get_or places l.at None ≡ c.index-places-at.result = grind (arith, common_steps) in
    rw (take_more places l.at None inside, read) (c.append.ensures (take l.at places) count l.invariant)
