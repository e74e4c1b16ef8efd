-- What is written for a script on an image. `unread` is what stands for the script, with the texts that it includes: None if that isn't known.
use Rattle.std.specs.Prelude.{ℕ, Bool, List, Option, Result}
use Rattle.iom_core.specs.declared.access.Request.{Request}
use Rattle.iom_debug.specs.Telling.{Debugged}
use Rattle.iom_check.specs.Checking.{Checked}
use Rattle.iom_check.specs.declared.rules.Rules.{Rules}
use Rattle.iom_check.specs.declared.rules.Tally.{Tally}
use Rattle.iom_explain.specs.Explaining.{Progressed}
use Rattle.iom_explain.specs.declared.only.Only.{Only}
use Rattle.iom_scripts.specs.declared.fault.ScriptFault.{ScriptFault}
use Rattle.iom_scripts.specs.Beginning.{BeginsCheck, BeginsDebug, BeginsExplain, BeginsJudge}
use Rattle.iom_scripts.specs.Ending.{EndsCheck, EndsDebug, EndsExplain, EndsJudge}
use Rattle.iom_traces.specs.Trials.{Tried}

pub record ChecksScript (image : List ℕ) (ahead : List Request) (rules : Rules) (name : Option (List ℕ)) (points : ℕ) (unread held holds : Option (List ℕ)) (tally : Tally)
    (ended : Result (Unit {0}) ScriptFault) : Type 0 where
  pub start : Checked
  pub begins : BeginsCheck image ahead rules name points start
  pub ends : EndsCheck start unread held holds tally ended

pub record DebugsScript (image : List ℕ) (tells_slips : Bool) (unread held holds : Option (List ℕ)) (ended : Result (Unit {0}) ScriptFault) : Type 0 where
  pub start : Debugged
  pub begins : BeginsDebug image tells_slips start
  pub ends : EndsDebug start unread held holds ended

pub record ExplainsScript (image : List ℕ) (only : Option Only) (tells_settled : Bool) (unread held holds : Option (List ℕ))
    (ended : Result (Unit {0}) ScriptFault) : Type 0 where
  pub start : Progressed
  pub begins : BeginsExplain image only tells_settled start
  pub ends : EndsExplain start unread held holds ended

pub record JudgesScript (image : List ℕ) (rules : Rules) (hides : Bool) (name : Option (List ℕ)) (points : ℕ) (unread held holds : Option (List ℕ)) (tally : Tally)
    (ended : Result (Unit {0}) ScriptFault) : Type 0 where
  pub start : Tried
  pub begins : BeginsJudge image rules hides name points start
  pub ends : EndsJudge start unread held holds tally ended
