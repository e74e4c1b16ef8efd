use Rattle.iom_choices.proofs.Between.{ahead_outlasts, behind_fence, held_outlasting, held_together, no_more, none_more, settled_paused, step_held, step_outlasts}
use Rattle.iom_choices.proofs.laws.pauses_add_what_is_read_ahead.Goals as goal

pub returns-clause-fence : goal.returns-clause-fence
returns-clause-fence g c = λ sys commands at last steps entry is h. behind_fence sys commands at last steps entry is h

pub returns-clause-outlasting : goal.returns-clause-outlasting
returns-clause-outlasting g c = λ sys commands at steps entry o. held_outlasting sys commands at steps entry o

pub returns-clause-held : goal.returns-clause-held
returns-clause-held g c = λ sys commands at last steps entry off had. step_held sys commands at last steps entry off had

pub returns-clause-outlasts : goal.returns-clause-outlasts
returns-clause-outlasts g c = λ sys commands at last steps entry off had. step_outlasts sys commands at last steps entry off had

pub returns-clause-ahead : goal.returns-clause-ahead
returns-clause-ahead g c = λ sys commands at steps entry read. ahead_outlasts sys commands at steps entry read

pub returns-clause-none : goal.returns-clause-none
returns-clause-none g c = λ sys commands at held closed entry h. none_more sys commands at held closed h.count entry h.may

pub returns-clause-all : goal.returns-clause-all
returns-clause-all g c = λ sys commands at last steps held outlasting have entry. (
  λ h. (no_more sys commands at h.count last steps held outlasting have).held entry h.may,
  λ o. (no_more sys commands at o.count last steps held outlasting have).out entry o.may,
)

pub returns-clause-settled : goal.returns-clause-settled
returns-clause-settled g c = λ sys commands at steps request settled. settled_paused sys commands at steps request settled

pub returns-clause-used : goal.returns-clause-used
returns-clause-used g c = λ sys commands at steps source each. held_together sys commands at steps source each
