use Rattle.std.proofs.Common.{◌<◌, ◌≤◌, ◌∙◌, ap, length, sym, arith}
use Rattle.iom_saved.specs.Kept.{IsOwn}
use Rattle.iom_saved.proofs.Taken.{goes_on, went_all, went_on}
use Rattle.iom_saved.specs.Boards.{own_words}
use Rattle.iom_saved.proofs.Pieces.{fits_more, one_longer, take_next, whole_more}
use Rattle.std.proofs.lemmas.Result.{err_from_is_err_and}
use Rattle.iom_saved.proofs.boards.take_devices.Goals as goal

pub loop-preserved : goal.loop-preserved
loop-preserved c =
    let items = c.in_ok-push.ensures.items in
    record {
      read = rw items (take_next own_words c.loop.devices.items c.in_ok-own.own _ _ _ c.loop.invariant.read c.in_ok-own.ensures.words);
      count = ap length items ∙ one_longer c.loop.devices.items c.in_ok-own.own _ c.loop.invariant.count;
      fit = rw items (fits_more c.loop.devices.items c.in_ok-own.own c.loop.invariant.fit c.in_ok-own.ensures.fits);
      whole = rw items (whole_more c.loop.devices.items c.in_ok-own.own c.loop.invariant.whole c.in_ok-own.ensures.whole);
      went = λ devices rest are size each.
          let fewer : length c.loop.devices.items < length devices = omega (arith, c.loop.invariant.count, size, c.loop-test.true) in
          let next = goes_on own_words IsOwn devices c.loop.devices.items rest c.loop.words (c.loop.invariant.went devices rest are size each) fewer in
          let own = c.in_ok-own.ensures.taken next.one _ next.left next.is in
          went_on own_words IsOwn devices c.loop.devices.items _ c.in_ok-own.own rest c.loop.words _ next own.0 own.1 items;
    }

pub returns-in_err-own-clause-taken : goal.returns-in_err-own-clause-taken
returns-in_err-own-clause-taken c = λ devices rest are each.
    let count = c.in-Some.ensures.taken (length devices) _ are in
    let fewer : length c.loop.devices.items < length devices = omega (arith, c.loop.invariant.count, count.0, c.loop-test.true) in
    let next = goes_on own_words IsOwn devices c.loop.devices.items rest c.loop.words (c.loop.invariant.went devices rest count.1 (sym count.0) each) fewer in
    let p = err_from_is_err_and c.from_residual.result c.from_residual.ensures.1 in rw (p.1, p.2) (c.in_err-own.ensures.taken next.one _ next.left next.is)

pub returns-clause-taken : goal.returns-clause-taken
returns-clause-taken c = λ devices rest are each.
    let count = c.in-Some.ensures.taken (length devices) _ are in
    let past : length devices ≤ length c.loop.devices.items = omega (arith, c.loop.invariant.count, count.0, c.loop-test.false) in
    went_all own_words IsOwn devices c.loop.devices.items rest c.loop.words (c.loop.invariant.went devices rest count.1 (sym count.0) each) past
