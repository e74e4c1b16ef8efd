-- What the line `free` is answered.
use Rattle.std.proofs.Common.{◌≡◌, ℕ, Bool, true, false, List, Option, Some, None, if◌then◌else◌, subst}
use Rattle.std.specs.Option.{option_map}
use Rattle.iom_core.specs.State.{State}
use Rattle.iom_core.specs.declared.access.Request.{Request}
use Rattle.iom_core.specs.declared.step.Step.{Step}
use Rattle.iom_held.specs.declared.naming.Naming.{Naming}
use Rattle.iom_owed.specs.Holdings.{HoldingsView, Keeps}
use Rattle.iom_owed.specs.Naming.{AreNaming}
use Rattle.iom_owed.specs.Newest.{steps_of}
use Rattle.iom_debug.specs.Freeing.{IsFreeAnswer, IsFreeAt, free_text, known_holdings}
use Rattle.iom_debug.specs.Marks.{MarksView}
use Rattle.iom_debug.specs.Owing.{unknown_text}
use Rattle.iom_debug.specs.Settling.{SettlingView, line_begun}

pub free_told : (marks : MarksView) (settling : Option SettlingView) (held : HoldingsView) (addr len : ℕ) (found : Option Naming) (answer : List ℕ) →
    Some held ≡ known_holdings settling → answer ≡ free_text marks found →
    ((ahead : List Request) (state start : State) (taken : List (Step × ℕ)) → Keeps ahead held state start taken → AreNaming ahead held start (steps_of taken) addr len found) →
    (state : State) → IsFreeAnswer marks settling state addr len answer
free_told marks settling held addr len found answer known is naming state =
    subst (λ (k : Option HoldingsView). IsFreeAt marks settling k state addr len answer) known (found, is, λ ahead. naming ahead state)

pub unknown_told : (marks : MarksView) (settling : Option SettlingView) (addr len : ℕ) (answer : List ℕ) → None ≡ known_holdings settling → answer ≡ unknown_text settling →
    (state : State) → IsFreeAnswer marks settling state addr len answer
unknown_told marks settling addr len answer unknown is state =
    subst (λ (k : Option HoldingsView). IsFreeAt marks settling k state addr len answer) unknown is

-- the answer is the same when a line has begun
pub free_before : (marks : MarksView) (settling : Option SettlingView) (state : State) (addr len : ℕ) (answer : List ℕ) →
    IsFreeAnswer marks (option_map line_begun settling) state addr len answer → IsFreeAnswer marks settling state addr len answer
free_before marks None state addr len answer h = h
free_before marks (Some settling) state addr len answer h = by settling.is_lost h where
  by : (lost : Bool) → IsFreeAt marks (Some (line_begun settling)) (if lost then None else Some settling.holdings) state addr len answer →
      IsFreeAt marks (Some settling) (if lost then None else Some settling.holdings) state addr len answer
  by true h = h
  by false h = h
