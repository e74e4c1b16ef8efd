use Rattle.std.proofs.Common.{◌∷◌}
use Rattle.iom_choices.proofs.Outlasting.{held_behind_fence, held_by, held_on, outlasted, outlasting_held, outlasts, settled_numbered, settled_plain}
use Rattle.iom_choices.proofs.laws.fences_leave_what_outlasts.Goals as goal

pub returns-clause-fence : goal.returns-clause-fence
returns-clause-fence g c = λ sys commands at last steps entry is.
    (held_behind_fence sys commands at last steps entry is, outlasting_held sys commands at (last ∷ steps) entry)

pub returns-clause-held : goal.returns-clause-held
returns-clause-held g c = λ sys commands at last steps entry off. (held_by sys commands at last steps entry, held_on sys commands at last steps entry off)

pub returns-clause-outlasts : goal.returns-clause-outlasts
returns-clause-outlasts g c = λ sys commands at last steps entry. (outlasted sys commands at last steps entry, outlasts sys commands at last steps entry)

pub returns-clause-settled : goal.returns-clause-settled
returns-clause-settled g c = λ sys commands at steps request. (settled_plain sys commands at steps request, settled_numbered sys commands at steps request)
