use Rattle.std.proofs.Common.{◌≡◌, ◌<◌, ◌≤◌, ◌++◌, ◌∙◌, ◌∷◌, ℕ, List, true, ap, length, sym, arith}
use Rattle.std.specs.Prelude.{nat_lt}
use Rattle.std.specs.List.{flat_map}
use Rattle.iom_messages.specs.Messages.{Messages}
use Rattle.iom_saved.specs.Kept.{IsMessage}
use Rattle.iom_saved.specs.Messages.{kept_words, message_words, window_words}
use Rattle.iom_saved.proofs.Lists.{split_two, take_two}
use Rattle.iom_saved.proofs.Pieces.{one_longer, take_next}
use Rattle.iom_saved.proofs.Taken.{goes_on, messages_same, went_all, went_on}
use Rattle.iom_saved.proofs.messages.take_messages.Goals as goal

pub loop-preserved : goal.loop-preserved
loop-preserved c =
    let items = c.if-not-append.ensures.appended in
    record {
      window = rw items c.loop.invariant.window;
      sent = rw items c.loop.invariant.sent;
      read = rw items (take_next message_words c.loop.messages.kept c.in-Some-take_message.message _ _ _ c.loop.invariant.read c.in-Some-take_message.ensures.words);
      count = rw items (one_longer c.loop.messages.kept c.in-Some-take_message.message _ c.loop.invariant.count);
      went = λ kept rest are size each.
          let fewer : length c.loop.messages.kept < length kept = omega (arith, c.loop.invariant.count, size, c.loop-test.true) in
          let next = goes_on message_words IsMessage kept c.loop.messages.kept rest c.loop.words (c.loop.invariant.went kept rest are size each) fewer in
          let message = c.in-Some-take_message.ensures.taken next.one _ next.left next.is in
          went_on message_words IsMessage kept c.loop.messages.kept _ c.in-Some-take_message.message rest c.loop.words _ next message.0 message.1
          (ap (λ (m : Messages). m.kept) items);
    }

pub returns-clause-words : goal.returns-clause-words
returns-clause-words c =
    let made : c.loop.messages.window ≡ c.in-Some.window =
    c.loop.invariant.window ∙ ap (λ (m : Messages). m.window) c.in_ok-messages.ensures in
    let sent : c.loop.messages.sent ≡ c.in-Some-two.sent = c.loop.invariant.sent ∙ ap (λ (m : Messages). m.sent) c.in_ok-messages.ensures in
    let count : length c.loop.messages.kept ≡ c.in-Some-two.count = omega (arith, c.loop.invariant.count, c.loop-test.false, c.loop.auto) in
    rw (made, sent, count) (take_two _ _ _ (window_words c.in-Some.window) (c.in-Some-two.sent ∷ c.in-Some-two.count ∷ flat_map message_words c.loop.messages.kept)
    c.in-Some.ensures.words (c.in-Some-two.ensures.words ∙ ap (λ (l : List ℕ). c.in-Some-two.sent ∷ c.in-Some-two.count ∷ l) c.loop.invariant.read))

pub returns-in_default-two-clause-taken : goal.returns-in_default-two-clause-taken
returns-in_default-two-clause-taken c = λ m rest are is.
    let window = c.in-Some.ensures.taken m.window _ (split_two _ (window_words m.window) (m.sent ∷ kept_words m.kept) rest are) in
    absurd (c.in_default-two.ensures.taken m.sent (length m.kept) (flat_map message_words m.kept ++ rest) window.1)

pub returns-in_default-take_message-clause-taken : goal.returns-in_default-take_message-clause-taken
returns-in_default-take_message-clause-taken c = λ m rest are is.
    let window = c.in-Some.ensures.taken m.window _ (split_two _ (window_words m.window) (m.sent ∷ kept_words m.kept) rest are) in
    let two = c.in-Some-two.ensures.taken m.sent (length m.kept) (flat_map message_words m.kept ++ rest) window.1 in
    let fewer : length c.loop.messages.kept < length m.kept = omega (arith, c.loop.invariant.count, two.1, c.loop-test.true) in
    let next = goes_on message_words IsMessage m.kept c.loop.messages.kept rest c.loop.words (c.loop.invariant.went m.kept rest two.2 (sym two.1) is.each) fewer in
    absurd (c.in_default-take_message.ensures.taken next.one _ next.left next.is)

pub returns-then-not-append-clause-taken : goal.returns-then-not-append-clause-taken
returns-then-not-append-clause-taken c = λ m rest are is.
    let window = c.in-Some.ensures.taken m.window _ (split_two _ (window_words m.window) (m.sent ∷ kept_words m.kept) rest are) in
    let two = c.in-Some-two.ensures.taken m.sent (length m.kept) (flat_map message_words m.kept ++ rest) window.1 in
    let room : length c.loop.messages.kept < 16 = omega (arith, c.loop.invariant.count, two.1, is.few, c.loop-test.true) in
    let may : nat_lt (length c.loop.messages.kept) 16 ≡ true = grind arith in
    let was = c.if-not-append.true in
    let is_so = c.append.ensures.room in absurd (cc)

pub returns-clause-taken : goal.returns-clause-taken
returns-clause-taken c = λ m rest are is.
    let window = c.in-Some.ensures.taken m.window _ (split_two _ (window_words m.window) (m.sent ∷ kept_words m.kept) rest are) in
    let two = c.in-Some-two.ensures.taken m.sent (length m.kept) (flat_map message_words m.kept ++ rest) window.1 in
    let past : length m.kept ≤ length c.loop.messages.kept = omega (arith, c.loop.invariant.count, two.1, c.loop-test.false) in
    let kept = went_all message_words IsMessage m.kept c.loop.messages.kept rest c.loop.words
    (c.loop.invariant.went m.kept rest two.2 (sym two.1) is.each) past in
    let made : c.loop.messages.window ≡ m.window =
    c.loop.invariant.window ∙ ap (λ (n : Messages). n.window) c.in_ok-messages.ensures ∙ window.0 in
    let sent : c.loop.messages.sent ≡ m.sent = c.loop.invariant.sent ∙ ap (λ (n : Messages). n.sent) c.in_ok-messages.ensures ∙ two.0 in
    (messages_same c.loop.messages m made sent kept.0, kept.1)
