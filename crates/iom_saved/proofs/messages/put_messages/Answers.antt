use Rattle.std.proofs.Common.{◌<◌, ◌≤◌, ◌∷◌, [], length, arith}
use Rattle.std.specs.List.{flat_map}
use Rattle.iom_saved.specs.Kept.{IsMessage, IsMessageSeen}
use Rattle.iom_saved.specs.Messages.{message_words, window_words}
use Rattle.iom_saved.proofs.Lists.{put_three}
use Rattle.iom_saved.proofs.Pieces.{next_message, put_all}
use Rattle.iom_saved.proofs.Taken.{each_all, each_step}
use Rattle.iom_saved.proofs.messages.put_messages.Goals as goal

pub loop-i-preserved : goal.loop-i-preserved
loop-i-preserved c =
    let within : c.loop-i.i < length c.args.messages.now.kept = omega (arith, c.len.ensures.count, c.len-i-end.ensures.count) in
    record {
      put = next_message c.args.messages.now.kept c.loop-i.i _ _ _ within c.loop-i.invariant.put c.in_ok-put_message.ensures.words;
      kept = each_step IsMessage IsMessageSeen (λ message is. is) c.args.messages.now.kept c.loop-i.i within c.loop-i.invariant.kept
          c.in_ok-put_message.ensures.kept;
    }

pub returns-clause-words : goal.returns-clause-words
returns-clause-words c =
    let m = c.args.messages.now in
    let past : length m.kept ≤ c.loop-i.i = omega (arith, c.len-i-end.ensures.count, c.loop-i-test.false) in
    put_three _ _ _ _ (window_words m.window) (m.sent ∷ length m.kept ∷ []) (flat_map message_words m.kept)
    (rw c.window.ensures at c.in_ok-put_window.ensures) (rw (c.sent.ensures, c.len.ensures.count) at c.in_ok-extend_from_slice.ensures.items)
    (put_all message_words m.kept c.loop-i.i _ _ past c.loop-i.invariant.put)

pub returns-clause-kept : goal.returns-clause-kept
returns-clause-kept c =
    let m = c.args.messages.now in
    let past : length m.kept ≤ c.loop-i.i = omega (arith, c.len-i-end.ensures.count, c.loop-i-test.false) in
    record {
      sent = omega (arith, c.sent.ensures, c.sent.type_inv);
      few = omega (arith, c.len.ensures.count, c.len.ensures.within);
      each = each_all IsMessage m.kept c.loop-i.i past c.loop-i.invariant.kept;
    }
