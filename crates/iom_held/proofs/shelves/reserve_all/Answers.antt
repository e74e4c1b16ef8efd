use Rattle.std.proofs.Common.{length, arith, refl}
use Rattle.std.proofs.lemmas.Option.{slice_get_read}
use Rattle.iom_held.proofs.Standing.{grown_none, grown_then, grown_room, room_next}
use Rattle.iom_held.proofs.shelves.reserve_all.Goals as goal

pub loop-i-init : goal.loop-i-init
loop-i-init c = record { grown = grown_none c.args.shelves.now; room = λ j entry more is below at. absurd (omega (arith, below)) }

pub returns-in_err-reserve-clause-grown : goal.returns-in_err-reserve-clause-grown
returns-in_err-reserve-clause-grown c = grown_then _ _ _ c.loop-i.invariant.grown c.reserve.ensures.grown

pub loop-i-preserved : goal.loop-i-preserved
loop-i-preserved c = record {
  grown = grown_then _ _ _ c.loop-i.invariant.grown c.reserve.ensures.grown;
  room = room_next c.reserve.new.shelves c.args.entries.now c.loop-i.i (length c.args.entries.now) c.index-entries-i.result
      (slice_get_read c.args.entries.now (length c.args.entries.now) c.loop-i.i c.index-entries-i.result refl c.loop-i-test.true c.index-entries-i.is)
      c.in_ok-reserve.ensures.room
      c.loop-i-test.true
      (λ j entry more is below at. grown_room c.loop-i.shelves c.reserve.new.shelves c.reserve.ensures.grown entry more (c.loop-i.invariant.room j entry more is below at));
}

pub returns-clause-room : goal.returns-clause-room
returns-clause-room c = λ j entry more is some at. c.loop-i.invariant.room j entry more is (omega (arith, is, some, c.loop-i-test.false)) at
