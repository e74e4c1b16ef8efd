-- Steps that leave a candidate as it is.
use Rattle.std.specs.Prelude.{◌≡◌, List, None}
use Rattle.std.specs.List.{AllByRecursion}
use Rattle.iom_core.specs.Rows.{row}
use Rattle.iom_core.specs.State.{State}
use Rattle.iom_core.specs.Table.{executed, request_of_step}
use Rattle.iom_core.specs.declared.step.Step.{Step}
use Rattle.iom_judge.specs.Candidates.{CandidateView}

-- it makes no access, executes no command, and changes nothing
pub record IsIdle (taken : Step) (platform : State) : Type 0 where
  pub asks : request_of_step platform taken ≡ None
  pub executes : executed platform taken ≡ None
  pub leaves : (row platform taken None).state ≡ platform

abbrev pub EachIdle : Step → List CandidateView → Type 0
EachIdle taken candidates = AllByRecursion (λ (candidate : CandidateView). IsIdle taken candidate.platform) candidates
