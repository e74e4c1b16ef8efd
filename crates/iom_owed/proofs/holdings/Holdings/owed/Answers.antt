use Rattle.std.proofs.Common.{◌≡◌, ◌≤◌, ◌++◌, List, ◌∷◌, [], drop, length, subst}
use Rattle.std.specs.Prelude.{slice_get}
use Rattle.std.proofs.lemmas.List.{drop_all}
use Rattle.iom_owed.specs.Newest.{steps_of}
use Rattle.iom_owed.specs.Settled.{IsOwedAt}
use Rattle.iom_owed.specs.declared.noting.Made.{Made}
use Rattle.iom_owed.specs.declared.settling.Owed.{Owed}
use Rattle.iom_owed.proofs.Judged.{IsOwedBut, looked_owed, looked_settled, owed_all}
use Rattle.iom_owed.proofs.holdings.Holdings.owed.Goals as goal
use Rattle.iom_owed.proofs.holdings.Holdings.owed.Goals.{in-Some+in_ok-push, in_default}

pub loop-i-preserved : goal.loop-i-preserved
loop-i-preserved g c = λ ahead start taken k.
    let requests : List Made = c.args.self.now.requests in
    let before : List Owed = c.loop-i.owed.items in
    let so_far : IsOwedBut ahead c.args.self.now start (steps_of taken) (drop c.loop-i.i requests) before = c.loop-i.invariant ahead start taken k in
    let judged : IsOwedAt ahead c.args.self.now start (steps_of taken) (slice_get requests c.loop-i.i) c.in_ok-each.field-0 = c.in_ok-each.ensures ahead start taken k in
    elim c.match-branch-2.branch [
      | in-Some+in_ok-push w ↦
          let more : c.match-branch-2.owed.items ≡ before ++ w.in-Some.each ∷ [] = rw w.owed-is w.in_ok-push.ensures.items in
          rw more (looked_owed ahead c.args.self.now start (steps_of taken) c.loop-i.i before so_far w.in-Some.each
          (subst (IsOwedAt ahead c.args.self.now start (steps_of taken) (slice_get requests c.loop-i.i)) w.in-Some.is judged))
      | in_default w ↦
          rw w.owed-is (looked_settled ahead c.args.self.now start (steps_of taken) c.loop-i.i before so_far
          (subst (IsOwedAt ahead c.args.self.now start (steps_of taken) (slice_get requests c.loop-i.i)) w.in_default.is judged))
    ]

pub returns : goal.returns
returns g c = λ ahead start taken k.
    let past : length c.args.self.now.requests ≤ c.loop-i.i = rw (← c.request_count-i-end.ensures) c.loop-i-test.false in
    owed_all ahead c.args.self.now start (steps_of taken) c.loop-i.owed.items
    (subst (λ (rest : List Made). IsOwedBut ahead c.args.self.now start (steps_of taken) rest c.loop-i.owed.items) (drop_all c.loop-i.i c.args.self.now.requests past)
    (c.loop-i.invariant ahead start taken k))
