use Rattle.std.proofs.Common.{rules}
use Rattle.iom_debug.proofs.Marked.{kept_before, newest_is, none_marked}
use Rattle.iom_debug.proofs.marks.mark_for.Goals as goal

pub returns-then-newest-number : goal.returns-then-newest-number
returns-then-newest-number c =
    newest_is c.in-Some.older.now c.in-Some.newest.now c.args.number c.loop-newest.rest.now c.args.marks.now (search rules) (search rules)
    c.loop-newest.invariant

pub loop-newest-preserved : goal.loop-newest-preserved
loop-newest-preserved c =
    kept_before c.in-Some.older.now c.in-Some.newest.now c.args.number c.loop-newest.rest.now c.args.marks.now (search rules) (search rules)
    c.loop-newest.invariant

pub returns : goal.returns
returns c = none_marked c.args.number c.loop-newest.rest.now c.args.marks.now (search rules) c.loop-newest.invariant
