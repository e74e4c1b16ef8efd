use Rattle.std.proofs.Common.{List, subst, sym}
use Rattle.iom_choices.specs.Systems.{IsAmong}
use Rattle.iom_held.specs.Kept.{HasNoneTwice}
use Rattle.iom_judge.specs.declared.possible.Possible.{Possible}
use Rattle.iom_judge.proofs.Each.{none_twice_push}
use Rattle.iom_judge.proofs.possible.put_answer.Goals as goal

pub returns-in_ok-push-clause-once : goal.returns-in_ok-push-clause-once
returns-in_ok-push-clause-once c =
    let new : Possible = record { answer = c.args.answer; goes = c.args.goes } in
    subst (λ (all : List Possible). HasNoneTwice all) (sym c.in_ok-push.ensures.items)
    (none_twice_push c.args.all.now.items new c.requires
    (λ h. c.if-not-has_answer.ensures.apart (subst (λ (all : List Possible). IsAmong all new) (sym c.deref.ensures.value) h)))
