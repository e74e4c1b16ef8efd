use Rattle.std.proofs.Common.{◌∙◌, refl}
use Rattle.iom_saved.specs.Histories.{number_words}
use Rattle.iom_saved.proofs.Lists.{split_two, take_three}
use Rattle.iom_saved.proofs.histories.take_history.Goals as goal

pub returns-clause-words : goal.returns-clause-words
returns-clause-words c =
    rw c.in_ok-history.ensures.history
    (take_three _ _ _ _ (number_words c.in_ok-contexts.contexts.now) (number_words c.in_ok-walks.walks.now)
    (number_words c.in_ok-walk_contexts.walk_contexts.now) c.in_ok-contexts.ensures.words c.in_ok-walks.ensures.words
    c.in_ok-walk_contexts.ensures.words)

pub returns-clause-taken : goal.returns-clause-taken
returns-clause-taken c = λ h rest are is.
    let one = c.in_ok-contexts.ensures.taken h.contexts _ (split_two _ (number_words h.contexts) _ rest are) in
    let two = c.in_ok-walks.ensures.taken h.walks _ (split_two _ (number_words h.walks) (number_words h.walk_contexts) rest one.1) in
    let three = c.in_ok-walk_contexts.ensures.taken h.walk_contexts rest two.1 in
    (c.in_ok-history.ensures.history ∙ rw (one.0, two.0, three.0) refl, three.1)
