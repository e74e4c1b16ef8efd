-- The way of the tables for the access of the last step, and what led it.
use Rattle.std.proofs.Common.{◌≡◌, ◌∙◌, ℕ, Option, Some, None, ap, refl}
use Rattle.std.specs.Prelude.{IsSomeAnd}
use Rattle.std.specs.Option.{option_and_then, option_map}
use Rattle.iom_core.specs.State.{State}
use Rattle.iom_core.specs.Looking.{noticed, nothing_seen}
use Rattle.iom_core.specs.Table.{Asking, asked, request_in, request_of_step, told_by_step}
use Rattle.iom_core.specs.declared.access.Request.{Request}
use Rattle.iom_core.specs.declared.looking.Lookup.{Lookup}
use Rattle.iom_core.specs.declared.step.Step.{Step}
use Rattle.iom_core.specs.declared.way.Way.{Way}
use Rattle.iom_account.specs.Account.{IsReasonOf, stale_in}
use Rattle.iom_account.specs.declared.reason.Reason.{Reason}
use Rattle.iom_account.specs.Following.{HistoryView}
use Rattle.iom_debug.specs.Reasons.{tables_of}
use Rattle.iom_debug.specs.Stale.{filler_for, led_as, led_by}
use Rattle.iom_debug.specs.declared.stale.Led.{Led}

pub tables_newest : (state : State) (step : Step) (number : ℕ) (newest : Option Reason) (found : Option Way) →
    IsSomeAnd newest (IsReasonOf state step number) → found ≡ option_and_then tables_of newest → found ≡ stale_in state (request_of_step state step)
tables_newest state step number (Some reason) found is at = at ∙ is.stale
tables_newest state step number None found is at = absurd is

led_asked : (history : HistoryView) (state : State) (asking : Option Asking) →
    led_as (option_map request_in asking) (told_by_step noticed nothing_seen state.machine asking)
    (filler_for history state.machine (option_map request_in asking))
    ≡ led_by history state (option_map request_in asking)
led_asked history state None = refl
led_asked history state (Some asking) = refl

pub led_before : (history : HistoryView) (state : State) (step : Step) (request : Option Request) (seen : Lookup) (line : ℕ) (found : Option Led) →
    request ≡ request_of_step state step → seen ≡ told_by_step noticed nothing_seen state.machine (asked state step) →
    line ≡ filler_for history state.machine request → found ≡ led_as request seen line → found ≡ led_by history state (request_of_step state step)
led_before history state step request seen line found asks is line_is found_is =
    found_is ∙ ap (λ (s : Lookup). led_as request s line) is
    ∙ ap (led_as request (told_by_step noticed nothing_seen state.machine (asked state step))) line_is
    ∙ ap (λ (r : Option Request). led_as r (told_by_step noticed nothing_seen state.machine (asked state step)) (filler_for history state.machine r)) asks
    ∙ led_asked history state (asked state step)
