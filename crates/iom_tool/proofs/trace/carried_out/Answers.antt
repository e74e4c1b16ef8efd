use Rattle.iom_tool.proofs.trace.carried_out.Goals as goal

pub returns-clause-same : goal.returns-clause-same
returns-clause-same c = λ none. absurd (cc none)

pub returns-then-not-put_step_of-clause-step : goal.returns-then-not-put_step_of-clause-step
returns-then-not-put_step_of-clause-step c = λ is. absurd (cc is)

pub returns-then-not-put_step_of-clause-answer : goal.returns-then-not-put_step_of-clause-answer
returns-then-not-put_step_of-clause-answer c = λ is. absurd (cc is)

pub returns-then-not-put_step_of-clause-state : goal.returns-then-not-put_step_of-clause-state
returns-then-not-put_step_of-clause-state c = λ is. absurd (cc is)

pub returns-then-not-put_step_of-clause-told : goal.returns-then-not-put_step_of-clause-told
returns-then-not-put_step_of-clause-told c = λ is. absurd (cc is)
