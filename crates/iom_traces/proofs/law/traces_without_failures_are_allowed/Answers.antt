use Rattle.iom_traces.proofs.Shown.{all_shown, none_shows, passes_all}
use Rattle.iom_traces.proofs.law.traces_without_failures_are_allowed.Goals as goal

pub returns-clause-allowed : goal.returns-clause-allowed
returns-clause-allowed c = λ start most begin end lines text enough are h. all_shown start most enough lines begin text end are h

pub returns-clause-whole : goal.returns-clause-whole
returns-clause-whole c = λ begin unread left held holds tally done over none. passes_all begin unread left held holds tally done over none

pub returns-clause-refused : goal.returns-clause-refused
returns-clause-refused c = λ start most traces hides place before after taken line said one enough are is. none_shows start most enough traces hides place before after taken line said one are is
