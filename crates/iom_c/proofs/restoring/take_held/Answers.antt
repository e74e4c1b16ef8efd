use Rattle.std.proofs.Common.{arith}
use Rattle.iom_c.proofs.Taken.{begins, lent_next, own_next}
use Rattle.iom_c.proofs.restoring.take_held.Goals.{in_default-via-in-Some+in_default, in_default-via-in_default}
use Rattle.iom_c.proofs.restoring.take_held.Goals as goal

pub returns-in-Some-eq0-clause-taken : goal.returns-in-Some-eq0-clause-taken
returns-in-Some-eq0-clause-taken c = λ held rest are memory board.
    own_next held _ _ rest _ c.in-Some-eq0.ensures.words c.in-Some-eq0.field-0-test are memory board (λ m b. c.take_own.ensures.taken m b rest)

pub returns-in-Some-eq1-clause-taken : goal.returns-in-Some-eq1-clause-taken
returns-in-Some-eq1-clause-taken c = λ held rest are memory board.
    lent_next held _ _ rest _ c.in-Some-eq1.ensures.words c.in-Some-eq1.field-0-test are memory board (λ lent. c.take_lent.ensures.taken lent rest)

pub returns-in_default-clause-taken : goal.returns-in_default-clause-taken
returns-in_default-clause-taken c = λ held rest are memory board.
    let b = begins held _ rest are in
    absurd (elim c.in_default.branch as (λ _. ⊥) [
      | in_default-via-in-Some+in_default w ↦
          let first = w.in_default.ensures.taken b.first b.left b.are in
          omega (arith, first.0, b.one, w.in_default.field-0-test.0.1, w.in_default.field-0-test.1)
      | in_default-via-in_default w ↦ rw w.in_default.is at (c.next.ensures.taken b.first b.left b.are)
    ])
