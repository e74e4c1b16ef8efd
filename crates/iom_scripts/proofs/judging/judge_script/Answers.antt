use Rattle.std.proofs.Common.{◌∙◌, ap}
use Rattle.iom_traces.specs.Drives.{begun as trace_begun, tried_by}
use Rattle.iom_scripts.proofs.Begins.{begins_judge}
use Rattle.iom_scripts.proofs.judging.judge_script.Goals as goal

pub returns-clause-judged : goal.returns-clause-judged
returns-clause-judged g c = record {
  start = tried_by c.new-trial.result;
  begins = begins_judge c.args.image.now c.args.rules c.args.hides _ c.args.points (tried_by c.new-trial.result) _ _ c.in_ok-platform.ensures.exact c.in-Ok.ensures
      (c.new-trial.ensures ∙ ap (trace_begun c.in-Ok.judge c.args.hides) c.new-2.ensures.score);
  ends = rw (c.new-script.ensures.remaining, c.new-marked.ensures, c.folder_name-own.ensures) at c.judge_lines.ensures;
}
