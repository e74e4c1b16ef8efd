-- What is told of lines.
use Rattle.std.proofs.Common.{◌≡◌, ◌∙◌, ◌++◌, ◌∷◌, [], ℕ, Bool, List, Option, Some, None, true, false, Result, Ok, Err, OnOk, ◌+◌, ◌==◌, ◌||◌, length, take, is_some, refl, sym, subst, ap, append-nil, codes}
use Rattle.std.proofs.lemmas.Bool.{false≢true}
use Rattle.std.specs.Result.{is_err}
use Rattle.arrayvec.specs.ArrayVec.{ArrayVec}
use Rattle.std.specs.declared.alloc.AllocError.{AllocError}
use Rattle.std.specs.Io.KnownBytes.{Appends}
use Rattle.std.proofs.KnownBytes.{Appends-nil, Appends-trans}
use Rattle.iom_core.specs.State.{State}
use Rattle.iom_core.specs.Table.{next, request_of_step}
use Rattle.iom_core.specs.Looking.{is_cached, seen_in}
use Rattle.iom_core.specs.declared.access.Request.{Request}
use Rattle.iom_core.specs.declared.looking.Lookup.{Lookup}
use Rattle.iom_core.specs.declared.step.Step.{Step}
use Rattle.iom_core.specs.declared.step.Answer.{Answer}
use Rattle.iom_core.specs.declared.way.Way.{Way}
use Rattle.iom_tables.specs.Stale.{stale_way}
use Rattle.iom_account.specs.Following.{HistoryView}
use Rattle.iom_account.specs.declared.origin.NumberedWarrant.{NumberedWarrant}
use Rattle.iom_reader.specs.Answering.{Progress, AnswersNext, IsAnswering}
use Rattle.iom_reader.specs.declared.fault.RunFault.{RunFault}
use Rattle.iom_reader.specs.Running.{Ends}
use Rattle.iom_reader.proofs.Feeding.{none_kept}
use Rattle.iom_reader.proofs.Chains.{spoken, lawful as by_lines_lawful}
use Rattle.iom_tool.specs.Script.{DebugLine, Stores, stores_at}
use Rattle.iom_names.specs.Reading.{line_with}
use Rattle.iom_tool.specs.Parsed.{line_as}
use Rattle.iom_tool.specs.declared.language.Actor.{Actor}
use Rattle.iom_tool.specs.declared.language.Line.{Line}
use Rattle.iom_tool.specs.declared.language.Line.TheVariants as own
use Rattle.iom_debug.specs.Telling.{IsAnswer, Leaves, slip_with}
use Rattle.iom_tool.specs.Texts.{entry_text, text_of}
use Rattle.iom_debug.specs.Marks.{numbered_at, place_of}
use Rattle.iom_debug.specs.Places.{PlaceView, number_named}
use Rattle.iom_debug.specs.Reasons.{newest_origin, stale_in}
use Rattle.iom_debug.specs.Settling.{is_lost_in, last_unsettled_in}
use Rattle.iom_debug.specs.Stale.{filler, kept_by, led_by, stale_access}
use Rattle.iom_debug.specs.declared.stale.Led.{Led}
use Rattle.iom_debug.specs.declared.settling.UnsettledAccess.{UnsettledAccess}
use Rattle.iom_debug.specs.declared.stale.StaleAccess.{StaleAccess}
use Rattle.iom_explain.specs.Accesses.{asks_text, caches_by, stale_text, unsettled_text, warrant_text}
use Rattle.iom_explain.specs.Walking.{walk_text}
use Rattle.iom_debug.specs.Summary.{Counts, counts_of, up_to_64_bits}
use Rattle.iom_debug.specs.Taking.{Desk, Took, last_answer, taken}
use Rattle.iom_debug.specs.declared.summary.AccessOutcome.{AccessOutcome}
use Rattle.iom_explain.specs.Explaining.{Explained, ExplainSays, IsExplained, LineTold, OtherTold, Progressed, RunTold, StepTold, StepsTold, access_by, access_text, by_explain, denied_for, explaining, if_told, is_step_told, is_told, line_told, outcomes_by, step_told, summary_text}
use Rattle.iom_explain.specs.declared.only.Only.{Only}

pub lawful : IsAnswering by_explain
lawful =
    let l = by_lines_lawful explaining in
    record {
      none = l.none;
      flushed = l.flushed;
      cut = l.cut;
      half_cut = λ start now lines line h. tt;
    }

pub whole : (unread left : Option (List ℕ)) (old new : Progress Progressed) (holds : Option (List ℕ)) →
    Ends by_explain unread left old new (Ok tt) → new.console.is_short ≡ false →
    Appends new.written holds (summary_text new.console.told) → IsExplained old.console unread left old.written holds
whole unread left old new holds h memory wrote = record {
  script = h.text;
  took = h.took;
  all = h.all;
  within = h.within;
  text = h.answered.text;
  end = new.console;
  said = h.answered.said;
  memory = memory;
  written = Appends-trans _ _ _ _ _ h.answered.written wrote;
}

-- what is held is known where no memory was refused
pub known : (short lost : Bool) → (short || lost) ≡ false → lost ≡ false
known false lost is = is
known true lost is = absurd (cc is)

-- a step with its answer, and below it what is told of its access
pub step_is : (before : Explained) (number : ℕ) (step : Step) (request : Option Request) (answer : Answer) (entry below page : List ℕ) (told : Bool)
    (used : Option NumberedWarrant) (unsettled : Option UnsettledAccess) (after : Desk) (counts : Counts) (only : Option Only) →
    Took before.desk step number after → is_lost_in after.reasons.settling ≡ false → unsettled ≡ last_unsettled_in after.reasons.settling →
    request ≡ request_of_step before.desk.state step → answer ≡ (next before.desk.state step).answer →
    entry ≡ entry_text (Some (record { step = step; answer = answer })) → used ≡ newest_origin after.reasons.account →
    below ≡ access_by before.desk step request used unsettled →
    told ≡ is_step_told before.only (outcomes_by before.desk number step request unsettled) →
    page ≡ if_told told ((numbered_at before.desk.marks number ++ codes ": " ++ entry ++ 10 ∷ []) ++ below) →
    ((earlier : List AccessOutcome) → before.counts ≡ counts_of earlier → counts ≡ counts_of (earlier ++ outcomes_by before.desk number step request unsettled)) →
    only ≡ before.only → StepTold before number step page (record { desk = after; counts = counts; only = only })
step_is before number step request answer entry below page told used unsettled after counts only took known unsettled_is asked answered entry_is
    used_is below_is told_is page_is counted same =
    let last = last_unsettled_in after.reasons.settling in
    let outcomes : outcomes_by before.desk number step request unsettled
    ≡ outcomes_by before.desk number step (request_of_step before.desk.state step) last =
    ap (λ (r : Option Request). outcomes_by before.desk number step r unsettled) asked
    ∙ ap (outcomes_by before.desk number step (request_of_step before.desk.state step)) unsettled_is in
    let whole : (numbered_at before.desk.marks number ++ codes ": " ++ entry ++ 10 ∷ []) ++ below
    ≡ step_told before.desk number step (newest_origin after.reasons.account) last =
    ap (λ (e : List ℕ). (numbered_at before.desk.marks number ++ codes ": " ++ e ++ 10 ∷ []) ++ below)
    (entry_is ∙ ap (λ (a : Answer). entry_text (Some (record { step = step; answer = a }))) answered)
    ∙ ap (λ (b : List ℕ). (numbered_at before.desk.marks number ++ codes ": "
    ++ entry_text (Some (record { step = step; answer = (next before.desk.state step).answer })) ++ 10 ∷ []) ++ b)
    (below_is ∙ ap (λ (r : Option Request). access_by before.desk step r used unsettled) asked
    ∙ ap (λ (u : Option NumberedWarrant). access_by before.desk step (request_of_step before.desk.state step) u unsettled) used_is
    ∙ ap (access_by before.desk step (request_of_step before.desk.state step) (newest_origin after.reasons.account)) unsettled_is) in
    let kept : told ≡ is_step_told before.only (outcomes_by before.desk number step (request_of_step before.desk.state step) last) =
    told_is ∙ ap (is_step_told before.only) outcomes in
    record {
      took = took;
      known = known;
      text = page_is ∙ ap (if_told told) whole
          ∙ ap (λ (b : Bool). if_told b (step_told before.desk number step (newest_origin after.reasons.account) last)) kept;
      counts = λ earlier is. counted earlier is ∙ ap (λ (os : List AccessOutcome). counts_of (earlier ++ os)) outcomes;
      same = same;
    }

access_is : (now : Desk) (step : Step) (request : Request) (seen : Lookup) (line : ℕ) (used : Option NumberedWarrant) (stale : Option StaleAccess)
    (unsettled : Option UnsettledAccess) (asks walk : List ℕ) → asks ≡ asks_text now.state step → seen ≡ seen_in now.state.machine request →
    line ≡ filler now.reasons.account.history now.state.machine request.did → walk ≡ walk_text seen now.state.machine request →
    stale ≡ stale_access now.reasons.account.history now.state (Some request) used →
    asks ++ caches_by now.marks seen.context seen line request.iova used ++ walk ++ warrant_text now.marks used ++ stale_text now.marks stale
    ++ unsettled_text now.marks now.reasons.last_invalidation unsettled
    ≡ access_text now step request (seen_in now.state.machine request) used unsettled
access_is now step request seen line used stale unsettled asks walk asks_is seen_is line_is walk_is stale_is =
    rw (asks_is, walk_is, stale_is, line_is, seen_is) refl

-- an access is kept where the tables lead it another way
some_kept : (led : Led) (used : Option NumberedWarrant) (tables : Option Way) → is_some (kept_by (Some led) used tables) ≡ is_some tables
some_kept led used None = refl
some_kept led used (Some way) = refl

outcome_is : (now : Desk) (number : ℕ) (step : Step) (request : Request) (seen : Lookup) (denied : Option ℕ) (used : Option NumberedWarrant)
    (stale : Option StaleAccess) (unsettled : Option UnsettledAccess) → denied ≡ denied_for (next now.state step).answer → seen ≡ seen_in now.state.machine request →
    stale ≡ stale_access now.reasons.account.history now.state (Some request) used →
    record { number = number; denied = denied; is_cached = is_cached seen; is_stale = is_some stale; is_unsettled = is_some unsettled } ∷ []
    ≡ outcomes_by now number step (Some request) unsettled
outcome_is now number step request seen denied used stale unsettled denied_is seen_is stale_is =
    let some : is_some stale ≡ is_some (stale_way now.state.machine request) =
    ap (λ (s : Option StaleAccess). is_some s) stale_is ∙ some_kept (record {
      request = request;
      seen = seen_in now.state.machine request;
      line = filler now.reasons.account.history now.state.machine request.did;
    }) used (stale_way now.state.machine request) in
    rw (denied_is, some, seen_is) refl

on_ok : {A : Type 0} (result : Result (Unit {0}) AllocError) → is_err result ≡ false → OnOk result A → A
on_ok (Ok done) is holds = holds
on_ok (Err f) is holds = absurd (cc is)

-- what leads the access of a step that asks something
record LeadsIt (history : HistoryView) (state : State) (asked : Option Request) (led : Led) : Type 0 where
  pub request : Some led.request ≡ asked
  pub seen : led.seen ≡ seen_in state.machine led.request
  pub line : led.line ≡ filler history state.machine led.request.did

leads_it : (history : HistoryView) (state : State) (asked : Option Request) (led : Led) → Some led ≡ led_by history state asked →
    LeadsIt history state asked led
leads_it history state None led is = absurd (cc is)
leads_it history state (Some request) led is =
    let same : led ≡ record { request = request; seen = seen_in state.machine request; line = filler history state.machine request.did } = cc is in
    subst (λ (l : Led). LeadsIt history state (Some request) l) (sym same) (record { request = refl; seen = refl; line = refl })

leads_none : (history : HistoryView) (state : State) (asked : Option Request) (found : Option Led) → found ≡ led_by history state asked →
    ((led : Led) → found ≡ Some led → ⊥) → None ≡ asked
leads_none history state None found is other = refl
leads_none history state (Some request) found is other = absurd (other _ is)

-- a step that made no access
pub unaccessed : (before : Explained) (number : ℕ) (step : Step) (found : Option Led) (answer : Answer) (entry page : List ℕ) (after : Desk)
    (counts : Counts) (only : Option Only) → Took before.desk step number after → is_lost_in after.reasons.settling ≡ false →
    found ≡ led_by before.desk.reasons.account.history before.desk.state (request_of_step before.desk.state step) →
    ((led : Led) → found ≡ Some led → ⊥) → answer ≡ (next before.desk.state step).answer →
    entry ≡ entry_text (Some (record { step = step; answer = answer })) →
    page ≡ if_told (is_told before.only false false false) (numbered_at before.desk.marks number ++ codes ": " ++ entry ++ 10 ∷ []) → counts ≡ before.counts →
    only ≡ before.only → StepTold before number step page (record { desk = after; counts = counts; only = only })
unaccessed before number step found answer entry page after counts only took known is other answered entry_is page_is counted same =
    step_is before number step None answer entry [] page _ _ _ after counts only took known refl (leads_none before.desk.reasons.account.history before.desk.state (request_of_step before.desk.state step) found is other) answered entry_is refl refl
    refl (page_is ∙ ap (if_told (is_told before.only false false false)) (sym (append-nil (numbered_at before.desk.marks number ++ codes ": " ++ entry ++ 10 ∷ []))))
    (λ earlier is. counted ∙ is ∙ ap counts_of (sym (append-nil earlier))) same

-- a step that made an access, by what leads that
pub accessed : (before : Explained) (number : ℕ) (step : Step) (led : Led) (denied : Option ℕ) (used : Option NumberedWarrant)
    (stale : Option StaleAccess) (unsettled : Option UnsettledAccess) (answer : Answer) (asks walk entry page : List ℕ) (after : Desk)
    (counts : Counts) (only : Option Only) (result : Result (Unit {0}) AllocError) → Took before.desk step number after →
    is_lost_in after.reasons.settling ≡ false → unsettled ≡ last_unsettled_in after.reasons.settling →
    Some led ≡ led_by before.desk.reasons.account.history before.desk.state (request_of_step before.desk.state step) →
    answer ≡ (next before.desk.state step).answer → entry ≡ entry_text (Some (record { step = step; answer = answer })) →
    used ≡ newest_origin after.reasons.account → asks ≡ asks_text before.desk.state step →
    walk ≡ walk_text led.seen before.desk.state.machine led.request → stale ≡ stale_in before.desk.reasons before.desk.state step after.reasons →
    denied ≡ denied_for answer → is_err result ≡ false →
    OnOk result ((earlier : List AccessOutcome) → before.counts ≡ counts_of earlier → counts ≡ counts_of (earlier
    ++ record {
      number = number;
      denied = denied;
      is_cached = is_cached led.seen;
      is_stale = is_some stale;
      is_unsettled = is_some unsettled;
    } ∷ [])) →
    page ≡ if_told (is_told before.only (is_some denied) (is_some stale) (is_some unsettled)) ((numbered_at before.desk.marks number ++ codes ": " ++ entry ++ 10 ∷ [])
    ++ (asks ++ caches_by before.desk.marks led.seen.context led.seen led.line led.request.iova used ++ walk ++ warrant_text before.desk.marks used
    ++ stale_text before.desk.marks stale ++ unsettled_text before.desk.marks before.desk.reasons.last_invalidation unsettled)) →
    only ≡ before.only → StepTold before number step page (record { desk = after; counts = counts; only = only })
accessed before number step led denied used stale unsettled answer asks walk entry page after counts only result took known unsettled_is led_is answered entry_is used_is asks_is
    walk_is stale_is denied_is well counted page_is same =
    let leads = leads_it before.desk.reasons.account.history before.desk.state (request_of_step before.desk.state step) led led_is in
    let kept : stale ≡ stale_access before.desk.reasons.account.history before.desk.state (Some led.request) used =
    stale_is ∙ ap (λ (r : Option Request). stale_access before.desk.reasons.account.history before.desk.state r (newest_origin after.reasons.account))
    (sym leads.request)
    ∙ ap (λ (u : Option NumberedWarrant). stale_access before.desk.reasons.account.history before.desk.state (Some led.request) u) (sym used_is) in
    let outcome = outcome_is before.desk number step led.request led.seen denied used stale unsettled (denied_is ∙ ap denied_for answered) leads.seen kept in
    step_is before number step (Some led.request) answer entry _ page _ used unsettled after counts only took known unsettled_is leads.request answered entry_is used_is
    (access_is before.desk step led.request led.seen led.line used stale unsettled asks walk asks_is leads.seen leads.line walk_is kept)
    (ap (is_step_told before.only) outcome) page_is
    (λ earlier is. on_ok result well counted earlier is ∙ ap (λ (os : List AccessOutcome). counts_of (earlier ++ os)) outcome) same

-- what was written is told of a line; of a refused memory nothing is known
abbrev pub Wrote : Result (Unit {0}) RunFault → Option (List ℕ) → Option (List ℕ) → Bool → (List ℕ → Type 0) → Type 0
Wrote result held holds short Told = OnOk result ((said : List ℕ) × Appends held holds said × (short ≡ false → Told said))

pub line_after : (result : Result (Unit {0}) RunFault) (a b c : Option (List ℕ)) (short : Bool) (before after : Explained) (number : ℕ)
    (line : List ℕ) (steps : List Step) (answer reply : List ℕ) (here : PlaceView) → here ≡ place_of before.desk.marks number →
    ((said : List ℕ) × Appends a b said × (short ≡ false → StepsTold before number (taken before.desk.state steps) said after × (reply ≡ answer))) →
    Wrote result b c short (λ said. said ≡ line_told before.only (number_named here) line reply []) →
    Wrote result a c short (λ said. RunTold before number line steps answer said after)
line_after (Ok done) a b c short before after number line steps answer reply here at s w = (
  s.0 ++ w.0,
  Appends-trans _ _ _ _ _ s.1 w.1,
  λ m. (
    s.0,
    (s.2 m).0,
    ap (λ l. s.0 ++ l) (w.2 m ∙ ap (λ (p : PlaceView). line_told before.only (number_named p) line reply []) at
        ∙ ap (λ a. line_told before.only (numbered_at before.desk.marks number) line a []) (s.2 m).1),
  ),
)
line_after (Err f) a b c short before after number line steps answer reply here at s w = tt

pub line_other : (result : Result (Unit {0}) RunFault) (b c : Option (List ℕ)) (short : Bool) (before after : Explained) (number : ℕ)
    (line reply slip : List ℕ) (here : PlaceView) → here ≡ place_of before.desk.marks number → Leaves before.desk line number after.desk → (short ≡ false → after.desk.marks.is_lost ≡ false) → after.counts ≡ before.counts → after.only ≡ before.only →
    IsAnswer before.desk line reply → slip ≡ slip_with before.desk.names line →
    Wrote result b c short (λ said. said ≡ line_told before.only (number_named here) line reply slip) →
    Wrote result b c short (λ said. OtherTold before number line said after)
line_other (Ok done) b c short before after number line reply slip here at leaves known same alike reply_is slip_is w = (
  w.0,
  w.1,
  λ m. (
    leaves,
    known m,
    same,
    alike,
    (
      reply,
      reply_is,
      w.2 m ∙ ap (λ (p : PlaceView). line_told before.only (number_named p) line reply slip) at
          ∙ ap (line_told before.only (numbered_at before.desk.marks number) line reply) slip_is,
    ),
  ),
)
line_other (Err f) b c short before after number line reply slip here at leaves known same alike reply_is slip_is w = tt

-- nothing is told of a line after memory was refused
pub unheard : (line : List ℕ) (now : Progress Progressed) → now.console.is_short ≡ true → AnswersNext by_explain line now now (Ok tt)
unheard line now short =
    spoken explaining line [] now now (record {
      short = λ is. is;
      number = λ other. absurd (cc (short, other));
      told = λ other. absurd (cc (short, other));
    }) (Appends-nil now.written)

pub heard : (line cut : List ℕ) (old new : Progress Progressed) (result : Result (Unit {0}) RunFault) (number : ℕ) (own : DebugLine) →
    cut ≡ take 513 line → old.console.is_short ≡ false → number ≡ up_to_64_bits (old.console.number + 1) → new.console.number ≡ number →
    own ≡ line_with old.console.told.desk.names cut → Wrote result old.written new.written new.console.is_short (λ said. LineTold old.console.told number cut own said new.console.told) →
    AnswersNext by_explain line old new result
heard line cut old new (Ok done) number own is long counted same own_is w =
    let told : new.console.is_short ≡ false → LineTold old.console.told new.console.number cut (line_with old.console.told.desk.names cut) w.0 new.console.told =
    λ m. subst (λ n. LineTold old.console.told n cut (line_with old.console.told.desk.names cut) w.0 new.console.told) (sym same)
    (subst (λ (l : DebugLine). LineTold old.console.told number cut l w.0 new.console.told) own_is (w.2 m)) in
    spoken explaining line w.0 old new (subst (λ l. ExplainSays old.console l w.0 new.console) is (record {
      short = λ other. absurd (cc (long, other));
      number = λ m. same ∙ counted;
      told = told;
    })) w.1
heard line cut old new (Err f) number own is long counted same own_is w = λ start lines h. tt

other_told : (line : Line) (before after : Explained) (number : ℕ) (cut said : List ℕ) → ((step : Step) → line ≡ own.Does step → ⊥) →
    ((step : Step) → line ≡ own.Named step → ⊥) → ((actor : Actor) (most : ℕ) → line ≡ own.Again actor most → ⊥) →
    ((addr : ℕ) (words : ArrayVec ℕ) → line ≡ own.Put addr words → ⊥) → OtherTold before number cut said after →
    LineTold before number cut (line_as line) said after
other_told own.Blank before after number cut said no_step no_name no_run no_put told = told
other_told own.Bad before after number cut said no_step no_name no_run no_put told = told
other_told (own.Does step) before after number cut said no_step no_name no_run no_put told = absurd (no_step step refl)
other_told (own.Named step) before after number cut said no_step no_name no_run no_put told = absurd (no_name step refl)
other_told (own.Asks question) before after number cut said no_step no_name no_run no_put told = told
other_told (own.Inquires inquiry) before after number cut said no_step no_name no_run no_put told = told
other_told (own.Again actor most) before after number cut said no_step no_name no_run no_put told = absurd (no_run actor most refl)
other_told (own.Put addr words) before after number cut said no_step no_name no_run no_put told = absurd (no_put addr words refl)

pub others : (result : Result (Unit {0}) RunFault) (a b : Option (List ℕ)) (short : Bool) (line : Line) (before after : Explained) (number : ℕ)
    (cut : List ℕ) → ((step : Step) → line ≡ own.Does step → ⊥) → ((step : Step) → line ≡ own.Named step → ⊥) →
    ((actor : Actor) (most : ℕ) → line ≡ own.Again actor most → ⊥) → ((addr : ℕ) (words : ArrayVec ℕ) → line ≡ own.Put addr words → ⊥) →
    Wrote result a b short (λ said. OtherTold before number cut said after) →
    Wrote result a b short (λ said. LineTold before number cut (line_as line) said after)
others (Ok done) a b short line before after number cut no_step no_name no_run no_put w =
    (w.0, w.1, λ m. other_told line before after number cut w.0 no_step no_name no_run no_put (w.2 m))
others (Err f) a b short line before after number cut no_step no_name no_run no_put w = tt

-- a line that stores nothing, and one that stores some words
pub no_store : (result : Result (Unit {0}) RunFault) (a b : Option (List ℕ)) (short : Bool) (addr : ℕ) (words : List ℕ) (before after : Explained)
    (number : ℕ) (cut : List ℕ) → true ≡ (length words == 0) → Wrote result a b short (λ said. OtherTold before number cut said after) →
    Wrote result a b short (λ said. LineTold before number cut (Stores (stores_at addr words)) said after)
no_store result a b short addr words before after number cut none w =
    subst (λ (ws : List ℕ). Wrote result a b short (λ said. LineTold before number cut (Stores (stores_at addr ws)) said after))
    (sym (none_kept words none).1) w

pub some_stores : (result : Result (Unit {0}) RunFault) (a b : Option (List ℕ)) (short : Bool) (addr : ℕ) (words : List ℕ)
    (before after : Explained) (number : ℕ) (cut : List ℕ) → false ≡ (length words == 0) →
    Wrote result a b short (λ said. RunTold before number cut (stores_at addr words)
    (text_of (last_answer before.desk.state (stores_at addr words))) said after) →
    Wrote result a b short (λ said. LineTold before number cut (Stores (stores_at addr words)) said after)
some_stores result a b short addr [] before after number cut some w = absurd (false≢true some)
some_stores result a b short addr (word ∷ words) before after number cut some w = w

pub four_written : (result : Result (Unit {0}) RunFault) (a b c d e : Option (List ℕ)) (s t u v : List ℕ) → Appends a b s → Appends b c t →
    Appends c d u → OnOk result (Appends d e v) → OnOk result (Appends a e (s ++ t ++ u ++ v))
four_written (Ok done) a b c d e s t u v first second third fourth =
    Appends-trans _ _ _ _ _ (Appends-trans _ _ _ _ _ (Appends-trans _ _ _ _ _ first second) third) fourth
four_written (Err f) a b c d e s t u v first second third fourth = tt

pub two_written : (result : Result (Unit {0}) RunFault) (a b c : Option (List ℕ)) (s t : List ℕ) → Appends a b s → OnOk result (Appends b c t) →
    OnOk result (Appends a c (s ++ t))
two_written (Ok done) a b c s t first second = Appends-trans _ _ _ _ _ first second
two_written (Err f) a b c s t first second = tt
