use Rattle.std.proofs.Common.{◌<◌, length, take, ◌∙◌, refl, arith}
use Rattle.std.proofs.lemmas.List.{length-take-le}
use Rattle.std.proofs.lemmas.Result.{err_from_is_err_and}
use Rattle.iom_reader.specs.Answering.{progress}
use Rattle.iom_reader.proofs.Runs.{run_begins, run_stops, runs_flushed, flush_stops, run_ends, piece_ends, runs_on, end_is_no_read, piece_is_no_read, end_flushed, piece_stops_elsewhere}
use Rattle.iom_reader.proofs.reading.answer_all.Goals as goal

pub loop-turn-init : goal.loop-turn-init
loop-turn-init g c = record {
  runs = run_begins g.A.Answerer.answering c.requires.lawful _ _ _ _ _ c.new-rest.ensures.line c.new-rest.ensures.lines c.new-rest.ensures.bytes;
  can_read = c.requires.can_read;
  can_write = c.requires.can_write;
  same_reader = refl;
  same_writer = refl;
  names = refl;
}

pub returns-then-not-flush-clause-ends : goal.returns-then-not-flush-clause-ends
returns-then-not-flush-clause-ends g c =
    flush_stops g.A.Answerer.answering _ _ _ _ _ _ _ _ (runs_flushed g.A.Answerer.answering c.requires.lawful _ _ _ _ _ _ _ _ _ c.loop-turn.invariant.runs c.flush.ensures.bytes)

pub returns-in_default-clause-ends : goal.returns-in_default-clause-ends
returns-in_default-clause-ends g c =
    let h = runs_flushed g.A.Answerer.answering c.requires.lawful _ _ _ _ _ _ _ _ _ c.loop-turn.invariant.runs c.flush.ensures.bytes in
    run_stops g.A.Answerer.answering _ _ _ _ _ _ _ _ _ h c.in_default.ensures.bytes

pub returns-in_default-clause-read_told : goal.returns-in_default-clause-read_told
returns-in_default-clause-read_told g c = c.in_default.ensures.failed

pub returns-in_default-clause-write_told : goal.returns-in_default-clause-write_told
returns-in_default-clause-write_told g c = c.if-not-flush.ensures.failed

pub returns-then-count-eq0-clause-ends : goal.returns-then-count-eq0-clause-ends
returns-then-count-eq0-clause-ends g c =
    let h = runs_flushed g.A.Answerer.answering c.requires.lawful _ _ _ _ _ _ _ _ _ c.loop-turn.invariant.runs c.flush.ensures.bytes in
    let room : 0 < length c.read.new.piece = omega arith in
    run_ends g.A.Answerer.answering _ _ _ _ _ _ _ _ _ _ _ c.finish.result h c.in-Some.ensures.bytes
    (length-take-le c.in-Some.count c.read.new.piece c.in-Some.ensures.bound ∙ c.if-count-eq0.true)
    (c.in-Some.ensures.end c.if-count-eq0.true room) (c.finish.ensures.fed _ h.text h.fed)

pub returns-then-count-eq0-clause-read_told : goal.returns-then-count-eq0-clause-read_told
returns-then-count-eq0-clause-read_told g c =
    let h = runs_flushed g.A.Answerer.answering c.requires.lawful _ _ _ _ _ _ _ _ _ c.loop-turn.invariant.runs c.flush.ensures.bytes in
    c.in-Some.ensures.failed ∙ end_is_no_read g.A.Answerer.answering _ _ h.text c.finish.result (c.finish.ensures.fed _ h.text h.fed)

pub returns-in_err-feed-clause-ends : goal.returns-in_err-feed-clause-ends
returns-in_err-feed-clause-ends g c =
    let h = runs_flushed g.A.Answerer.answering c.requires.lawful _ _ _ _ _ _ _ _ _ c.loop-turn.invariant.runs c.flush.ensures.bytes in
    let p = err_from_is_err_and c.from_residual.result c.from_residual.ensures.1 in
    rw (p.1, p.2) (
    piece_ends g.A.Answerer.answering _ _ _ _ _ _ _ c.feed.new.self.line.items _ _ _ c.feed.new.self.lines c.feed.new.self.bytes _ c.in_err-feed.field-0.0
    h c.in-Some.ensures.bytes (c.in_err-feed.ensures.fed _ h.text h.fed))

pub returns-in_err-feed-clause-read_told : goal.returns-in_err-feed-clause-read_told
returns-in_err-feed-clause-read_told g c =
    let h = runs_flushed g.A.Answerer.answering c.requires.lawful _ _ _ _ _ _ _ _ _ c.loop-turn.invariant.runs c.flush.ensures.bytes in
    let p = err_from_is_err_and c.from_residual.result c.from_residual.ensures.1 in
    rw (p.1, p.2) (
    c.in-Some.ensures.failed
    ∙ piece_is_no_read g.A.Answerer.answering (progress (g.W.Write.contents c.args.writer.now.inner.now) (g.A.Answerer.state c.args.answerer.now))
    (progress (g.W.Write.contents c.feed.new.writer.inner.now) (g.A.Answerer.state c.feed.new.answerer))
    c.feed.new.self.line.items c.feed.new.self.lines c.feed.new.self.bytes h.text (take c.in-Some.count c.read.new.piece) c.in_err-feed.field-0.0
    (c.in_err-feed.ensures.fed _ h.text h.fed))

pub returns-then-count-eq0-clause-flushed : goal.returns-then-count-eq0-clause-flushed
returns-then-count-eq0-clause-flushed g c =
    let h = runs_flushed g.A.Answerer.answering c.requires.lawful _ _ _ _ _ _ _ _ _ c.loop-turn.invariant.runs c.flush.ensures.bytes in
    end_flushed g.A.Answerer.answering _ _ h.text _ c.finish.result (c.finish.ensures.fed _ h.text h.fed) c.finish.ensures.flushed

pub returns-in_err-feed-clause-flushed : goal.returns-in_err-feed-clause-flushed
returns-in_err-feed-clause-flushed g c =
    let h = runs_flushed g.A.Answerer.answering c.requires.lawful _ _ _ _ _ _ _ _ _ c.loop-turn.invariant.runs c.flush.ensures.bytes in
    let p = err_from_is_err_and c.from_residual.result c.from_residual.ensures.1 in
    rw (p.1, p.2) (
    piece_stops_elsewhere g.A.Answerer.answering (progress (g.W.Write.contents c.args.writer.now.inner.now) (g.A.Answerer.state c.args.answerer.now))
    (progress (g.W.Write.contents c.feed.new.writer.inner.now) (g.A.Answerer.state c.feed.new.answerer))
    c.feed.new.self.line.items c.feed.new.self.lines c.feed.new.self.bytes h.text (take c.in-Some.count c.read.new.piece) c.in_err-feed.field-0.0
    _ (c.in_err-feed.ensures.fed _ h.text h.fed))

pub loop-turn-preserved : goal.loop-turn-preserved
loop-turn-preserved g c =
    let h = runs_flushed g.A.Answerer.answering c.requires.lawful _ _ _ _ _ _ _ _ _ c.loop-turn.invariant.runs c.flush.ensures.bytes in
    let some : 0 < length (take c.in-Some.count c.read.new.piece) =
    omega (arith, length-take-le c.in-Some.count c.read.new.piece c.in-Some.ensures.bound, c.if-count-eq0.false) in
    record {
      runs = runs_on g.A.Answerer.answering _ _ _ _ _ _ _ _ _ _ _ _ _ _ h c.in-Some.ensures.bytes some (c.in_ok-feed.ensures.fed _ h.text h.fed);
      can_read = c.in-Some.ensures.failed;
      can_write = c.in_ok-feed.ensures.told;
      same_reader = c.in-Some.ensures.same_reader ∙ c.loop-turn.invariant.same_reader;
      same_writer = c.in_ok-feed.ensures.same_writer ∙ c.flush.ensures.same_writer ∙ c.loop-turn.invariant.same_writer;
      names = c.in_ok-feed.ensures.names ∙ c.loop-turn.invariant.names;
    }
