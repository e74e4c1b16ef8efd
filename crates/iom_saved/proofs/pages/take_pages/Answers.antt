use Rattle.std.proofs.Common.{◌≡◌, ◌<◌, ◌≤◌, ◌∙◌, true, ap, length, subst, sym, arith}
use Rattle.iom_cache.specs.Index.{AreApart}
use Rattle.iom_cache.specs.Keys.{same_key}
use Rattle.iom_cache.specs.Places.{may_follow}
use Rattle.iom_cache.proofs.Apart.{may_stand}
use Rattle.iom_saved.specs.Caches.{page_place_words}
use Rattle.iom_saved.specs.Kept.{IsPagePlace}
use Rattle.iom_saved.proofs.Pieces.{one_longer, take_next}
use Rattle.iom_saved.proofs.Taken.{goes_on, went_all, went_on}
use Rattle.iom_saved.proofs.pages.take_pages.Goals as goal

pub loop-preserved : goal.loop-preserved
loop-preserved c =
    let items = c.if-not-append.ensures.appended in
    record {
      read = rw items (take_next page_place_words c.loop.cache c.in-Some-take_place.place _ _ _ c.loop.invariant.read c.in-Some-take_place.ensures.words);
      count = ap length items ∙ one_longer c.loop.cache c.in-Some-take_place.place _ c.loop.invariant.count;
      went = λ places rest are size each.
          let fewer : length c.loop.cache < length places = omega (arith, c.loop.invariant.count, size, c.loop-test.true) in
          let next = goes_on page_place_words IsPagePlace places c.loop.cache rest c.loop.words (c.loop.invariant.went places rest are size each) fewer in
          let place = c.in-Some-take_place.ensures.taken next.one _ next.left next.is in
          went_on page_place_words IsPagePlace places c.loop.cache _ c.in-Some-take_place.place rest c.loop.words _ next place.0 place.1 items;
    }

pub returns-in_default-take_place-clause-taken : goal.returns-in_default-take_place-clause-taken
returns-in_default-take_place-clause-taken c = λ places rest are is.
    let count = c.in-Some.ensures.taken (length places) _ are in
    let fewer : length c.loop.cache < length places = omega (arith, c.loop.invariant.count, count.0, c.loop-test.true) in
    let next = goes_on page_place_words IsPagePlace places c.loop.cache rest c.loop.words (c.loop.invariant.went places rest count.1 (sym count.0) is.each) fewer in
    absurd (c.in_default-take_place.ensures.taken next.one _ next.left next.is)

pub returns-clause-taken : goal.returns-clause-taken
returns-clause-taken c = λ places rest are is.
    let count = c.in-Some.ensures.taken (length places) _ are in
    let past : length places ≤ length c.loop.cache = omega (arith, c.loop.invariant.count, count.0, c.loop-test.false) in
    went_all page_place_words IsPagePlace places c.loop.cache rest c.loop.words (c.loop.invariant.went places rest count.1 (sym count.0) is.each) past

pub returns-then-not-append-clause-taken : goal.returns-then-not-append-clause-taken
returns-then-not-append-clause-taken c = λ places rest are is.
    let count = c.in-Some.ensures.taken (length places) _ are in
    let fewer : length c.loop.cache < length places = omega (arith, c.loop.invariant.count, count.0, c.loop-test.true) in
    let next = goes_on page_place_words IsPagePlace places c.loop.cache rest c.loop.words (c.loop.invariant.went places rest count.1 (sym count.0) is.each) fewer in
    let place = c.in-Some-take_place.ensures.taken next.one _ next.left next.is in
    let room : length c.loop.cache < 64 = omega (arith, fewer, is.few) in
    let may : may_follow same_key 64 c.loop.cache c.in-Some-take_place.place ≡ true =
    ap (λ p. may_follow same_key 64 c.loop.cache p) place.0 ∙ may_stand c.loop.cache next.more next.one (subst AreApart next.whole is.apart) room in
    let was = c.if-not-append.true in
    let is_so = c.append.ensures.may in absurd (cc)
