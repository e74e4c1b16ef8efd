use Rattle.std.proofs.Common.{◌≡◌, ◌+◌, ◌++◌, ◌∷◌, ℕ, List, length, drop, drop-drop, ap, ◌∙◌, arith}
use Rattle.std.proofs.lemmas.List.{take_rest}
use Rattle.std.proofs.lemmas.Grind.{common_steps}
use Rattle.iom_reader.specs.Lines.{ended_lines, lines_of}
use Rattle.iom_include.proofs.Lefts.{line_stands}
use Rattle.iom_include.proofs.including.push_all.Goals as goal

pub loop-first-preserved : goal.loop-first-preserved
loop-first-preserved g c =
    let script = c.args.script.now in
    let first = c.in-Some.first.now in
    let after : c.in-Some.field-0-1.now ≡ drop (c.loop-first.done + length first + 1) script =
    (rw take_rest at c.in-Some.ensures.after) ∙ drop-drop (length first + 1) c.loop-first.done script
    ∙ ap (λ n. drop n script) {x = c.loop-first.done + (length first + 1)} {y = c.loop-first.done + length first + 1} (omega arith) in
    let cut : (more : List ℕ) → lines_of (drop c.loop-first.done script ++ more)
    ≡ first ∷ lines_of (drop (c.loop-first.done + length first + 1) script ++ more) =
    λ more. rw (← after) (rw take_rest at c.in-Some.ensures.lines more) in
    record {
      inside = grind (arith, common_steps);
      kept = line_stands (g.T.Texts.known c.args.source.now.texts.now) c.args.name.now c.args.out.now.text.items c.loop-first.out.text.items
          c.push_ready.new.out.text.items first script (drop c.loop-first.done script) (drop (c.loop-first.done + length first + 1) script)
          c.in_default-push_ready.ensures.ok c.in_default-push_ready.ensures.plain cut c.loop-first.invariant.kept;
    }

pub returns-in-Err-clause-fault : goal.returns-in-Err-clause-fault
returns-in-Err-clause-fault g c =
    (c.in-Some.first.now, ended_lines c.in-Some.field-0-1.now, rw take_rest at c.in-Some.ensures.ended, c.in-Err.ensures.fault)
