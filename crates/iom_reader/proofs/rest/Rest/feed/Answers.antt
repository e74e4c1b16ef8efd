use Rattle.std.proofs.Common.{◌≡◌, ◌∙◌, ◌++◌, refl, ◌+◌, ◌<◌, ◌≤◌, ◌^◌, length, take, drop, sym, ap}
use Rattle.std.proofs.lemmas.List.{take_rest, take-append-drop}
use Rattle.std.proofs.lemmas.Result.{err_from_is_err_and}
use Rattle.iom_reader.proofs.Feeding.{counted, all_kept, fed_as, part_fits, part_left, part_fills, part_whole, bytes_now, past_end, fault_of_lines, lines_left, rest_kept, bytes_left}
use Rattle.iom_reader.proofs.rest.Rest.feed.Goals as goal
use Rattle.iom_reader.proofs.rest.Rest.feed.Goals.{else-done-taken-via-then-done-taken+else-self-ge-MOST_LINES, else-done-taken-via-else-done-taken}

pub returns-in_err-done-clause-fed : goal.returns-in_err-done-clause-fed
returns-in_err-done-clause-fed g c start text h =
    let piece = c.args.piece.now in
    let count = c.min.result in
    let short : length text + length (take count piece) ≤ 2 ^ 26 =
    part_fits text piece count _ _ c.min.ensures c.saturating_sub-room.ensures h.counts_bytes h.within.bytes in
    let p = err_from_is_err_and c.from_residual.result c.from_residual.ensures.1 in
    rw (p.1, p.2) (
    fault_of_lines g.A.Answerer.answering _ _ c.lines_done.new.self.line.items c.lines_done.new.self.line.items c.lines_done.new.self.lines c.lines_done.new.self.lines c.lines_done.new.self.bytes text piece (take count piece) (drop count piece) c.in_err-done.field-0.0 (sym (take-append-drop count piece))
    (c.in_err-done.ensures.fed start text (counted g.A.Answerer.answering _ _ _ _ _ _ h) short))

pub returns-then-self-ge-MOST_LINES-clause-fed : goal.returns-then-self-ge-MOST_LINES-clause-fed
returns-then-self-ge-MOST_LINES-clause-fed g c start text h =
    let piece = c.args.piece.now in
    let count = c.min.result in
    let short : length text + length (take count piece) ≤ 2 ^ 26 =
    part_fits text piece count _ _ c.min.ensures c.saturating_sub-room.ensures h.counts_bytes h.within.bytes in
    lines_left g.A.Answerer.answering _ _ _ _ text piece (take count piece) (drop count piece) c.in_ok-done.done
    (c.in_ok-done.ensures.fed start text (counted g.A.Answerer.answering _ _ _ _ _ _ h) short)
    (sym (take-append-drop count piece)) c.if-done-taken.true c.if-self-ge-MOST_LINES.true

pub returns-then-taken-piece-clause-fed : goal.returns-then-taken-piece-clause-fed
returns-then-taken-piece-clause-fed g c start text h =
    let piece = c.args.piece.now in
    let count = c.min.result in
    let short : length text + length (take count piece) ≤ 2 ^ 26 =
    part_fits text piece count _ _ c.min.ensures c.saturating_sub-room.ensures h.counts_bytes h.within.bytes in
    let few : c.in_ok-done.done < length (take count piece) → c.lines_done.new.self.lines < 2 ^ 20 =
    elim c.else-done-taken.branch [
      | else-done-taken-via-then-done-taken+else-self-ge-MOST_LINES w ↦ λ _. w.if-self-ge-MOST_LINES.false
      | else-done-taken-via-else-done-taken w ↦ λ inside. past_end _ _ _ _ w.if-done-taken.false inside
    ] in
    bytes_left g.A.Answerer.answering _ _ _ _ _ text piece (take count piece) (drop count piece)
    (rest_kept g.A.Answerer.answering _ _ _ c.keep.new.self.line.items _ text (take count piece) c.in_ok-done.done
    (c.in_ok-done.ensures.fed start text (counted g.A.Answerer.answering _ _ _ _ _ _ h) short) short few (c.keep.ensures.line ∙ ap (λ l. take 513 (c.lines_done.new.self.line.items ++ l)) (take_rest (take count piece) c.in_ok-done.done)))
    (sym (take-append-drop count piece)) (part_left piece count c.if-taken-piece.true)
    (part_fills text piece count _ _ c.min.ensures c.saturating_sub-room.ensures h.counts_bytes h.within.bytes c.if-taken-piece.true)

pub returns-clause-fed : goal.returns-clause-fed
returns-clause-fed g c start text h =
    let piece = c.args.piece.now in
    let count = c.min.result in
    let short : length text + length (take count piece) ≤ 2 ^ 26 =
    part_fits text piece count _ _ c.min.ensures c.saturating_sub-room.ensures h.counts_bytes h.within.bytes in
    let few : c.in_ok-done.done < length (take count piece) → c.lines_done.new.self.lines < 2 ^ 20 =
    elim c.else-done-taken.branch [
      | else-done-taken-via-then-done-taken+else-self-ge-MOST_LINES w ↦ λ _. w.if-self-ge-MOST_LINES.false
      | else-done-taken-via-else-done-taken w ↦ λ inside. past_end _ _ _ _ w.if-done-taken.false inside
    ] in
    let whole : take count piece ≡ piece = part_whole piece count c.if-taken-piece.false in
    let kept = rest_kept g.A.Answerer.answering _ _ _ c.keep.new.self.line.items _ text (take count piece) c.in_ok-done.done
    (c.in_ok-done.ensures.fed start text (counted g.A.Answerer.answering _ _ _ _ _ _ h) short) short few (c.keep.ensures.line ∙ ap (λ l. take 513 (c.lines_done.new.self.line.items ++ l)) (take_rest (take count piece) c.in_ok-done.done)) in
    fed_as g.A.Answerer.answering _ _ _ _ _ _ _ _ refl c.keep.ensures.lines
    (all_kept g.A.Answerer.answering _ _ _ _ _ text (take count piece) piece whole
    (bytes_now text piece (take count piece) _ _ whole (c.keep.ensures.bytes ∙ c.lines_done.ensures.bytes) h.counts_bytes) kept)
