use Rattle.std.proofs.Common.{◌∙◌, List, reverse, sym, ap, subst}
use Rattle.std.proofs.lemmas.List.{reverse-reverse}
use Rattle.iom_choices.specs.Carried.{plain_steps}
use Rattle.iom_choices.specs.Choices.{steps_of}
use Rattle.iom_core.specs.Run.{answers}
use Rattle.iom_core.specs.declared.step.Step.{Step}
use Rattle.iom_every.specs.Every.{platform}
use Rattle.iom_every.specs.Rows.{bare}
use Rattle.iom_choices.specs.Models.{end_of, replies_in, run_of}
use Rattle.iom_choices.specs.Pauses.{taken}
use Rattle.iom_owed.specs.Settled.{IsEachSettled}
use Rattle.iom_check.specs.Scripts.{newest_first, script_steps}
use Rattle.iom_check.proofs.Ended.{lines_are, passes, unowed}
use Rattle.iom_check.proofs.Scripts.{each_settled, end_reached}
use Rattle.iom_check.proofs.law.scripts_without_failures_are_settled.Goals as goal

pub returns-clause-whole : goal.returns-clause-whole
returns-clause-whole c = λ ahead start unread left held holds tally done begins none wants. passes ahead start unread left held holds tally done begins none wants

pub returns-clause-lines : goal.returns-clause-lines
returns-clause-lines c = λ ahead start unread left held holds tally done begins none. lines_are ahead start unread left held holds tally done begins none

pub returns-clause-unowed : goal.returns-clause-unowed
returns-clause-unowed c = λ ahead start unread left held holds tally done begins none. unowed ahead start unread left held holds tally done begins none

pub returns-clause-settled : goal.returns-clause-settled
returns-clause-settled c = λ ahead start end lines text h. each_settled ahead start lines text end h

pub returns-clause-state : goal.returns-clause-state
returns-clause-state c = λ ahead start end lines text chosen h is.
    let first = start.desk.state in
    let settled : IsEachSettled ahead first (steps_of chosen) = subst (IsEachSettled ahead first) (sym is) (each_settled ahead start lines text end h) in
    c.settled_steps_are_answered_alike.ensures.state ahead first chosen h.begins.uncached settled
    ∙ ap (λ (steps : List Step). bare (end_of platform first steps)) is
    ∙ ap bare (sym (end_reached ahead start lines text end h))

pub returns-clause-answers : goal.returns-clause-answers
returns-clause-answers c = λ ahead start end lines text chosen h is.
    let first = start.desk.state in
    let settled : IsEachSettled ahead first (steps_of chosen) = subst (IsEachSettled ahead first) (sym is) (each_settled ahead start lines text end h) in
    c.settled_steps_are_answered_alike.ensures.answers ahead first chosen h.begins.uncached settled
    ∙ ap (replies_in (run_of platform first).tells) is
    ∙ c.runs_are_this_models.ensures.answers first (newest_first start lines)
    ∙ ap (λ (steps : List Step). reverse (answers first steps)) (reverse-reverse (script_steps start lines))

pub returns-clause-carried : goal.returns-clause-carried
returns-clause-carried c = λ ahead start end lines text chosen h is.
    let first = start.desk.state in
    let settled : IsEachSettled ahead first (plain_steps (steps_of chosen)) = subst (IsEachSettled ahead first) (sym is) (each_settled ahead start lines text end h) in
    c.settled_steps_are_answered_alike.ensures.carried ahead first chosen h.begins.uncached settled
    ∙ ap (replies_in (run_of platform first).tells) is
    ∙ c.runs_are_this_models.ensures.answers first (newest_first start lines)
    ∙ ap (λ (steps : List Step). reverse (answers first steps)) (reverse-reverse (script_steps start lines))

pub returns-clause-ahead : goal.returns-clause-ahead
returns-clause-ahead c = λ ahead start end lines text chosen h is.
    let first = start.desk.state in
    let settled : IsEachSettled ahead first (taken (steps_of chosen)) = subst (IsEachSettled ahead first) (sym is) (each_settled ahead start lines text end h) in
    c.settled_steps_are_answered_alike.ensures.ahead_answers ahead first chosen h.begins.uncached settled
