-- Where a script begins: on the platform that an image starts, with no step taken yet.
use Rattle.std.specs.Prelude.{ℕ, ◌≡◌, Bool, true, false, List, [], ◌∷◌, Option, None, Ok, IsSomeAnd}
use Rattle.iom_core.specs.State.{State}
use Rattle.iom_core.specs.declared.access.Request.{Request}
use Rattle.iom_account.specs.Account.{Accounts}
use Rattle.iom_image.specs.Image.{Image}
use Rattle.iom_image.specs.Loading.{state_from}
use Rattle.iom_image.specs.Reading.{image_of}
use Rattle.iom_owed.specs.Holdings.{Keeps}
use Rattle.iom_debug.specs.Marks.{no_marks}
use Rattle.iom_debug.specs.Reasons.{LineAccountView}
use Rattle.iom_debug.specs.Settling.{SettlingView}
use Rattle.iom_debug.specs.Summary.{counts_of}
use Rattle.iom_debug.specs.Taking.{Desk}
use Rattle.iom_debug.specs.Telling.{Debugged}
use Rattle.iom_check.specs.Checking.{Checked}
use Rattle.iom_debug.specs.Places.{own}
use Rattle.iom_check.specs.Scores.{begun}
use Rattle.iom_check.specs.Scripts.{BeginsSettled}
use Rattle.iom_check.specs.declared.rules.Rules.{Rules}
use Rattle.iom_judge.specs.Candidates.{AreCandidates}
use Rattle.iom_traces.specs.Drives.{begun as trace_begun}
use Rattle.iom_traces.specs.Trials.{Tried}
use Rattle.iom_explain.specs.Explaining.{Progressed}
use Rattle.iom_explain.specs.declared.only.Only.{Only}

-- Whether what any IOMMU may hold is followed, which may read these requests ahead; no step was taken yet. Where there are such requests, memory
-- may have been refused for them.
abbrev pub BeginsSettling : List Request → Bool → State → Option SettlingView → Type 0
BeginsSettling ahead false state settling = settling ≡ None
BeginsSettling ahead true state settling =
    IsSomeAnd settling (λ s. (s.is_lost ≡ false → Keeps ahead s.holdings state state []) × (s.last ≡ None) × (s.unsettled ≡ None) × (ahead ≡ [] → s.is_lost ≡ false))

pub record BeginsAccount (ahead : List Request) (follows : Bool) (state : State) (reasons : LineAccountView) : Type 0 where
  pub account : Accounts reasons.account state state [] []
  pub empty : reasons.account.reasons ≡ []
  pub stale : reasons.stale ≡ None
  pub fence : reasons.has_fence ≡ false
  pub invalidation : reasons.last_invalidation ≡ None
  pub settling : BeginsSettling ahead follows state reasons.settling

pub record BeginsOn (image : List ℕ) (ahead : List Request) (follows : Bool) (desk : Desk) : Type 0 where
  pub found : Image
  pub read : image_of image ≡ Ok found
  pub state : desk.state ≡ state_from found
  pub trace : desk.trace ≡ []
  pub reasons : BeginsAccount ahead follows desk.state desk.reasons
  pub names : desk.names ≡ []
  pub marks : desk.marks ≡ no_marks

-- a script of `check`; if settledness is judged, nothing is cached yet
pub record BeginsCheck (image : List ℕ) (ahead : List Request) (rules : Rules) (name : Option (List ℕ)) (points : ℕ) (start : Checked) : Type 0 where
  pub desk : BeginsOn image ahead rules.fails_if_unsettled start.desk
  pub number : start.number ≡ 0
  pub place : start.place ≡ own 0
  pub score : start.score ≡ begun rules name points
  pub settled : rules.fails_if_unsettled ≡ true → BeginsSettled ahead start

-- one of `debug`
pub record BeginsDebug (image : List ℕ) (tells_slips : Bool) (start : Debugged) : Type 0 where
  pub desk : BeginsOn image [] true start.desk
  pub number : start.number ≡ 0
  pub slips : start.tells_slips ≡ tells_slips

-- one of `explain`
pub record BeginsExplain (image : List ℕ) (only : Option Only) (tells_settled : Bool) (start : Progressed) : Type 0 where
  pub desk : BeginsOn image [] tells_settled start.told.desk
  pub counts : start.told.counts ≡ counts_of []
  pub only_these : start.told.only ≡ only
  pub number : start.number ≡ 0
  pub memory : start.is_short ≡ false

-- a trace: the IOMMU in the platform that the image starts holds nothing yet
pub record BeginsJudge (image : List ℕ) (rules : Rules) (hides : Bool) (name : Option (List ℕ)) (points : ℕ) (start : Tried) : Type 0 where
  pub found : Image
  pub read : image_of image ≡ Ok found
  pub candidates : AreCandidates (state_from found) ([] ∷ []) start.judged.candidates
  pub is : start ≡ trace_begun start.judged.candidates hides (begun rules name points)
