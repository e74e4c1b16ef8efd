use Rattle.std.proofs.Common.{refl}
use Rattle.std.specs.Option.{option_map}
use Rattle.iom_debug.specs.Invalidations.{invalidation_text}
use Rattle.iom_debug.specs.Marks.{named_at}
use Rattle.iom_owed.specs.Settled.{read_number}
use Rattle.iom_check.proofs.Named.{both_named, named_if, told_at}
use Rattle.iom_check.proofs.checking.Checking.put_owed.Goals as goal

pub returns-clause-told : goal.returns-clause-told
returns-clause-told c =
    let marks = c.args.self.now.debugger.marks in
    let last = c.args.self.now.debugger.reasons.now.last_invalidation in
    let found = c.args.owed.now.unsettled in
    let read = read_number found.serving in
    record {
      report = record {
        owed = c.args.owed.now;
        made_in = c.name_of-line.result.items;
        read_in = option_map (named_at marks) read;
        behind = invalidation_text (named_at marks) last found.serving;
      };
      is = refl;
      named = (c.name_of-line.ensures.named, named_if marks read, told_at marks last found);
      said = rw (c.as_slice.ensures.value, c.as_slice-elsewhere.ensures.value, c.put_elsewhere_at.ensures.text, c.last_invalidation-last.ensures, both_named marks last found c.args.owed.now.made.request.iova, c.clear.ensures, c.clear-2.ensures) at c.owe.ensures.text;
      left = rw (c.as_slice.ensures.value, c.as_slice-elsewhere.ensures.value, c.put_elsewhere_at.ensures.text, c.last_invalidation-last.ensures, both_named marks last found c.args.owed.now.made.request.iova, c.clear.ensures) at c.owe.ensures.score;
    }
