use Rattle.iom_c.proofs.Taken.{head_saved}
use Rattle.iom_c.proofs.restoring.restored.Goals as goal

pub returns-in_err-judge-clause-taken : goal.returns-in_err-judge-clause-taken
returns-in_err-judge-clause-taken c = λ own is running.
    let none = head_saved own c.args.bytes.now is in
    let some = c.in_err-judge.ensures in absurd (cc)
