-- What the line `owed` is answered.
use Rattle.std.proofs.Common.{◌≡◌, ◌≢◌, ℕ, Bool, true, false, List, Option, Some, None, inl, inr, refl, sym, subst}
use Rattle.std.specs.Option.{option_map}
use Rattle.std.specs.Prelude.{IfOk, IfSome, Result, Ok, Err}
use Rattle.std.specs.Result.{result_ok}
use Rattle.iom_core.specs.State.{State}
use Rattle.iom_core.specs.declared.access.Request.{Request}
use Rattle.iom_core.specs.declared.step.Step.{Step}
use Rattle.iom_owed.specs.Holdings.{Keeps}
use Rattle.iom_owed.specs.Newest.{steps_of}
use Rattle.iom_owed.specs.Settled.{AreOwed}
use Rattle.iom_owed.specs.declared.settling.Owed.{Owed}
use Rattle.iom_tool.specs.declared.language.Inquiry.{Inquiry}
use Rattle.iom_tool.specs.declared.language.Inquiry.TheVariants as inquiry
use Rattle.iom_debug.specs.Answers.{IsInquired}
use Rattle.iom_debug.specs.Marks.{MarksView}
use Rattle.iom_debug.specs.Owing.{NamesFirst, NamesOwed, first_request, owed_text, unknown_text}
use Rattle.iom_debug.specs.Reasons.{LineAccountView, begun}
use Rattle.iom_debug.specs.Settling.{AreOwedBy, SettlingView, is_lost_in, line_begun}
use Rattle.iom_debug.specs.declared.invalidations.Invalidation.{Invalidation}
use Rattle.iom_debug.proofs.Freed.{free_before}

pub unknown_named : (marks : MarksView) (last : Option Invalidation) (settling : Option SettlingView) (state : State) (answer : List ℕ) (first : Option Request) →
    answer ≡ unknown_text settling → first ≡ None → NamesFirst marks last settling state answer first
unknown_named marks last None state answer first is none = (is, none)
unknown_named marks last (Some settling) state answer first is none = inl (is, none)

pub owed_named : (marks : MarksView) (last : Option Invalidation) (settling : Option SettlingView) (state : State) (owed : List Owed) (answer : List ℕ) (first : Option Request) →
    settling ≢ None → is_lost_in settling ≡ false → AreOwedBy settling state owed → answer ≡ owed_text marks last owed → first ≡ first_request owed →
    NamesFirst marks last settling state answer first
owed_named marks last None state owed answer first kept known are is named = absurd (kept refl)
owed_named marks last (Some settling) state owed answer first kept known are is named = inr (known, owed, is, named, are)

-- what is owed of a result is owed of its value, where there is one
pub owed_ok : {V E : Type 0} (result : Result V E) (P : V → Type 0) → IfOk result P → IfSome (result_ok result) P
owed_ok (Ok value) P h = h
owed_ok (Err why) P h = tt

pub owed_by : {V : Type 0} (items : V → List Owed) (settling : Option SettlingView) (some : SettlingView) (state : State) (owed : Option V) → settling ≡ Some some →
    ((ahead : List Request) (start : State) (taken : List (Step × ℕ)) → Keeps ahead some.holdings state start taken →
    IfSome owed (λ each. AreOwed ahead some.holdings start (steps_of taken) (items each))) → IfSome owed (λ each. AreOwedBy settling state (items each))
owed_by items settling some state None is h = tt
owed_by items settling some state (Some owed) is h = subst (λ (own : Option SettlingView). AreOwedBy own state (items owed)) (sym is) h

-- what is owed is the same when a line has begun
first_before : (marks : MarksView) (last : Option Invalidation) (settling : Option SettlingView) (state : State) (answer : List ℕ) (first : Option Request) →
    NamesFirst marks last (option_map line_begun settling) state answer first → NamesFirst marks last settling state answer first
first_before marks last None state answer first h = h
first_before marks last (Some settling) state answer first h = h

pub named_before : (asks : Bool) (marks : MarksView) (last : Option Invalidation) (settling : Option SettlingView) (state : State) (answer : List ℕ) (first : Option Request) →
    NamesOwed asks marks last (option_map line_begun settling) state answer first → NamesOwed asks marks last settling state answer first
named_before false marks last settling state answer first h = h
named_before true marks last settling state answer first h = first_before marks last settling state answer first h

-- and so is any answer to a question
pub inquired_before : (marks : MarksView) (state : State) (reasons : LineAccountView) (asked : Inquiry) (answer : List ℕ) →
    IsInquired marks state (begun reasons) asked answer → IsInquired marks state reasons asked answer
inquired_before marks state reasons (inquiry.Stale request) answer h = h
inquired_before marks state reasons (inquiry.StaleContext i) answer h = h
inquired_before marks state reasons (inquiry.StalePage i) answer h = h
inquired_before marks state reasons (inquiry.Why i) answer h = h
inquired_before marks state reasons (inquiry.ContextOrigin i) answer h = h
inquired_before marks state reasons (inquiry.PageOrigin i) answer h = h
inquired_before marks state reasons (inquiry.Walk request i) answer h = h
inquired_before marks state reasons (inquiry.Queue which) answer h = h
inquired_before marks state reasons inquiry.Vectors answer h = h
inquired_before marks state reasons (inquiry.Dump addr count) answer h = h
inquired_before marks state reasons (inquiry.Disk dev at count) answer h = h
inquired_before marks state reasons (inquiry.Device dev) answer h = h
inquired_before marks state reasons inquiry.Owed answer h = (h.0, first_before marks reasons.last_invalidation reasons.settling state answer h.0 h.1)
inquired_before marks state reasons (inquiry.Free addr len) answer h = free_before marks reasons.settling state addr len answer h
inquired_before marks state reasons (inquiry.Ahead did iova len) answer h = h
