use Rattle.std.proofs.Common.{◌<◌, ◌≤◌, ◌∙◌, ap, length, sym, arith}
use Rattle.iom_saved.specs.Caches.{context_place_words}
use Rattle.iom_saved.specs.Kept.{IsContextPlace}
use Rattle.iom_saved.proofs.Pieces.{one_longer, take_next}
use Rattle.iom_saved.proofs.Taken.{goes_on, went_all, went_on}
use Rattle.iom_saved.proofs.contexts.take_contexts.Goals as goal

pub loop-preserved : goal.loop-preserved
loop-preserved c =
    let items = c.if-not-append.ensures.appended in
    record {
      read = rw items (take_next context_place_words c.loop.cache c.in-Some-take_place.place _ _ _ c.loop.invariant.read c.in-Some-take_place.ensures.words);
      count = ap length items ∙ one_longer c.loop.cache c.in-Some-take_place.place _ c.loop.invariant.count;
      went = λ places rest are size each.
          let fewer : length c.loop.cache < length places = omega (arith, c.loop.invariant.count, size, c.loop-test.true) in
          let next = goes_on context_place_words IsContextPlace places c.loop.cache rest c.loop.words (c.loop.invariant.went places rest are size each) fewer in
          let place = c.in-Some-take_place.ensures.taken next.one _ next.left next.is in
          went_on context_place_words IsContextPlace places c.loop.cache _ c.in-Some-take_place.place rest c.loop.words _ next place.0 place.1 items;
    }

pub returns-in_default-take_place-clause-taken : goal.returns-in_default-take_place-clause-taken
returns-in_default-take_place-clause-taken c = λ places rest are is.
    let count = c.in-Some.ensures.taken (length places) _ are in
    let fewer : length c.loop.cache < length places = omega (arith, c.loop.invariant.count, count.0, c.loop-test.true) in
    let next = goes_on context_place_words IsContextPlace places c.loop.cache rest c.loop.words (c.loop.invariant.went places rest count.1 (sym count.0) is.each) fewer in
    absurd (c.in_default-take_place.ensures.taken next.one _ next.left next.is)

pub returns-clause-taken : goal.returns-clause-taken
returns-clause-taken c = λ places rest are is.
    let count = c.in-Some.ensures.taken (length places) _ are in
    let past : length places ≤ length c.loop.cache = omega (arith, c.loop.invariant.count, count.0, c.loop-test.false) in
    went_all context_place_words IsContextPlace places c.loop.cache rest c.loop.words (c.loop.invariant.went places rest count.1 (sym count.0) is.each) past
