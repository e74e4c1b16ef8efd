-- What a step that makes a request leaves in the caches, and what its notes are.
use Rattle.std.proofs.Common.{◌≡◌, ◌∙◌, ℕ, Bool, Option, Some, None, Ok, refl, sym, ap, subst}
use Rattle.std.specs.Prelude.{is_some}
use Rattle.std.specs.Option.{option_map}
use Rattle.iom_bits.specs.declared.causes.Cause.{Cause}
use Rattle.iom_ddt.specs.Directory.{located}
use Rattle.iom_ddt.specs.declared.context.Context.{Context}
use Rattle.iom_nested.specs.Nested.{translation}
use Rattle.iom_nested.specs.declared.translation.Hit.{Hit}
use Rattle.iom_queue.specs.declared.command.Command.{Command}
use Rattle.iom_cache.specs.Drops.{drops_context, drops_page}
use Rattle.iom_cache.specs.Keys.{same_did, same_key}
use Rattle.iom_cache.specs.Origins.{stamped_by}
use Rattle.iom_cache.specs.Places.{Look, emptied_by, filled_by, find}
use Rattle.iom_cache.specs.declared.key.Key.{Key}
use Rattle.iom_cache.proofs.Same.{same_did_exact, same_did_itself, same_key_exact, same_key_itself}
use Rattle.iom_core.specs.Access.{Led, context_look, context_told, led, page_look, page_told, request_key, source_of, witness_after}
use Rattle.iom_core.specs.Looking.{is_context_read, is_page_read, is_read, is_read_context, nothing_seen, noticed, seen_in}
use Rattle.iom_core.specs.declared.way.Way.{Way}
use Rattle.iom_core.specs.declared.way.Way.TheVariants.{Register as ByRegister, Context as ByContext, Walked, Denied}
use Rattle.iom_core.specs.State.{Machine, State, context_room, page_room}
use Rattle.iom_core.specs.Table.{Asking, asked, executed, next, request_in, request_of_step, told_by_step}
use Rattle.iom_core.specs.Warrants.{context_filled, page_filled}
use Rattle.iom_core.specs.declared.access.Request.{Request}
use Rattle.iom_core.specs.declared.looking.Lookup.{Lookup}
use Rattle.iom_core.specs.declared.step.Step.{Step}
use Rattle.iom_core.specs.declared.witness.Event.{Event}
use Rattle.iom_core.specs.declared.witness.Event.TheVariants as event
use Rattle.iom_core.specs.declared.witness.Source.TheVariants as source
use Rattle.iom_core.specs.declared.step.Step.TheVariants as step
use Rattle.iom_core.proofs.Filled.{found_after}
use Rattle.iom_core.proofs.Moments.{next-contexts, next-pages}
use Rattle.iom_core.proofs.Ways.{WasOff, WasByRegister, WasNowhere, WasByContext, WasWalked, WasFault, context_refused, context_used-cached, how_led, look_of_context, page_refused}
use Rattle.iom_account.specs.Beside.{beside}
use Rattle.iom_account.specs.Following.{HistoryView, context_noted, noted, noted_reading, noted_so, walk_noted}
use Rattle.iom_account.specs.Reads.{nothing_read, read_noticed, reads_of}
use Rattle.iom_account.specs.declared.reads.Reads.{Reads}

-- such a step executes no command
no_command : (state : State) (taken : Step) (request : Request) → request_of_step state taken ≡ Some request → executed state taken ≡ None
unfolding executed asked
no_command state (step.Load addr size) request is = refl
no_command state (step.Store addr size value) request is = refl
no_command state (step.RegRead off size) request is = refl
no_command state (step.RegWrite off size value) request is = refl
no_command state step.Command request is = absurd (cc)
no_command state (step.Settle register) request is = absurd (cc)
no_command state (step.DmaRead did iova len) request is = refl
no_command state (step.DmaWrite did iova bytes) request is = refl
no_command state (step.Translate did iova kind) request is = refl
no_command state (step.DevRead dev off size) request is = refl
no_command state (step.DevWrite dev off size value) request is = refl
no_command state (step.Device dev) request is = refl

pub accessed_contexts : (state : State) (taken : Step) (request : Request) → request_of_step state taken ≡ Some request →
    (next state taken).state.machine.contexts ≡ filled_by context_room (led state.machine request).context state.machine.contexts
accessed_contexts state taken request is =
    next-contexts state taken
    ∙ ap (λ (c : Option Command). emptied_by drops_context c (filled_by context_room (context_filled state (request_of_step state taken)) state.machine.contexts))
    (no_command state taken request is)
    ∙ ap (λ (r : Option Request). filled_by context_room (context_filled state r) state.machine.contexts) is

pub accessed_pages : (state : State) (taken : Step) (request : Request) → request_of_step state taken ≡ Some request →
    (next state taken).state.machine.pages ≡ filled_by page_room (led state.machine request).page state.machine.pages
accessed_pages state taken request is =
    next-pages state taken
    ∙ ap (λ (c : Option Command). emptied_by drops_page c (filled_by page_room (page_filled state (request_of_step state taken)) state.machine.pages))
    (no_command state taken request is)
    ∙ ap (λ (r : Option Request). filled_by page_room (page_filled state r) state.machine.pages) is

-- what is used is found after it
pub found_context : (m : Machine) (request : Request) (context : Context) → (context_look m request.did).used ≡ Ok context →
    (context_look m request.did).filled ≡ (led m request).context →
    find (same_did request.did) (filled_by context_room (led m request).context m.contexts) ≡ Some context
found_context m request context used filled =
    let cached : context_look m request.did ≡ look_of_context m request.did = context_used-cached m request.did context used in
    subst (λ (f : Option (ℕ × Context)). find (same_did request.did) (filled_by context_room f m.contexts) ≡ Some context)
    (sym (ap (λ (l : Look ℕ Context Cause). l.filled) cached) ∙ filled)
    (found_after same_did same_did_exact same_did_itself context_room request.did m.contexts (located m.memory m.registers request.did) context
    (sym (ap (λ (l : Look ℕ Context Cause). l.used) cached) ∙ used))

found_by_look : (m : Machine) (request : Request) (context : Context) (hit : Hit) → (page_look m.memory m.registers.features m.pages request context).used ≡ Ok hit →
    find (same_key (request_key request context)) (filled_by page_room (page_look m.memory m.registers.features m.pages request context).filled m.pages) ≡ Some hit
unfolding page_look
found_by_look m request context hit used =
    found_after same_key same_key_exact same_key_itself page_room (request_key request context) m.pages
    (translation m.memory m.registers.features context request.iova request.kind) hit used

pub found_page : (m : Machine) (request : Request) (context : Context) (hit : Hit) → (led m request).way ≡ Walked context hit →
    find (same_key (request_key request context)) (filled_by page_room (led m request).page m.pages) ≡ Some hit
found_page m request context hit is =
    let way : Led → Way = λ l. l.way in
    elim (how_led m request) [
      | WasOff e ↦ let other = sym (ap way e) ∙ is in absurd (cc)
      | WasByRegister bare e ↦ let other = sym (ap way e) ∙ is in absurd (cc)
      | WasNowhere why used e ↦ let other = sym (ap way e) ∙ is in absurd (cc)
      | WasByContext own used bare e ↦ let other = sym (ap way e) ∙ is in absurd (cc)
      | WasWalked own found used staged page e ↦
          let same : Walked own found ≡ Walked context hit = sym (ap way e) ∙ is in
          let one : own ≡ context = cc in
          let there : found ≡ hit = cc in
          subst (λ (f : Option (Key × Hit)). find (same_key (request_key request context)) (filled_by page_room f m.pages) ≡ Some hit)
          (sym (ap (λ (l : Led). l.page) e))
          (subst (λ (c : Context). find (same_key (request_key request c)) (filled_by page_room (page_look m.memory m.registers.features m.pages request own).filled m.pages) ≡ Some hit) one
          (found_by_look m request own found page ∙ ap (λ (h : Hit). Some h) there))
      | WasFault own fault used staged page e ↦ let other = sym (ap way e) ∙ is in absurd (cc)
    ]

-- the context that a way leads by
abbrev pub leading : Way → Option Context
leading ByRegister = None
leading (ByContext context) = Some context
leading (Walked context hit) = Some context
leading (Denied denial) = None

pub found_led : (m : Machine) (request : Request) (context : Context) → leading (led m request).way ≡ Some context →
    find (same_did request.did) (filled_by context_room (led m request).context m.contexts) ≡ Some context
found_led m request context is =
    let by : Led → Option Context = λ l. leading l.way in
    let used_by : (own : Context) → (context_look m request.did).used ≡ Ok own → Some own ≡ Some context →
    (context_look m request.did).filled ≡ (led m request).context →
    find (same_did request.did) (filled_by context_room (led m request).context m.contexts) ≡ Some context =
    λ own used same filled. let one : own ≡ context = cc in
    found_context m request context (used ∙ ap (λ (c : Context). Ok c) one) filled in
    elim (how_led m request) [
      | WasOff e ↦ let other = sym (ap by e) ∙ is in absurd (cc)
      | WasByRegister bare e ↦ let other = sym (ap by e) ∙ is in absurd (cc)
      | WasNowhere why used e ↦ let other = sym (ap by e) ∙ is in absurd (cc)
      | WasByContext own used bare e ↦ used_by own used (sym (ap by e) ∙ is) (sym (ap (λ (l : Led). l.context) e))
      | WasWalked own found used staged page e ↦ used_by own used (sym (ap by e) ∙ is) (sym (ap (λ (l : Led). l.context) e))
      | WasFault own fault used staged page e ↦ let other = sym (ap by e) ∙ is in absurd (cc)
    ]

-- What an access is reported to have read is what it fills.
context_read : (context : Context) (fill : Option (ℕ × Context)) → is_read_context (Some (source_of fill, context)) ≡ is_some fill
context_read context None = refl
context_read context (Some entry) = refl

seen_context : (m : Machine) (request : Request) → is_context_read (seen_in m request) ≡ is_some (led m request).context
seen_context m request =
    let P : Led → Type 0 = λ l. is_context_read (witness_after noticed nothing_seen request l) ≡ is_some l.context in
    elim (how_led m request) [
      | WasOff e ↦ subst P (sym e) refl
      | WasByRegister bare e ↦ subst P (sym e) refl
      | WasNowhere why used e ↦ subst P (sym e) (sym (ap is_some (context_refused m request.did why used)))
      | WasByContext own used bare e ↦ subst P (sym e) (context_read own (context_look m request.did).filled)
      | WasWalked own hit used staged page e ↦ subst P (sym e) (context_read own (context_look m request.did).filled)
      | WasFault own fault used staged page e ↦ subst P (sym e) (context_read own (context_look m request.did).filled)
    ]

page_read : (fill : Option (Key × Hit)) → is_read (Some (source_of fill)) ≡ is_some fill
page_read None = refl
page_read (Some entry) = refl

seen_page : (m : Machine) (request : Request) → is_page_read (seen_in m request) ≡ is_some (led m request).page
seen_page m request =
    let P : Led → Type 0 = λ l. is_page_read (witness_after noticed nothing_seen request l) ≡ is_some l.page in
    elim (how_led m request) [
      | WasOff e ↦ subst P (sym e) refl
      | WasByRegister bare e ↦ subst P (sym e) refl
      | WasNowhere why used e ↦ subst P (sym e) refl
      | WasByContext own used bare e ↦ subst P (sym e) refl
      | WasWalked own hit used staged page e ↦ subst P (sym e) (page_read (page_look m.memory m.registers.features m.pages request own).filled)
      | WasFault own fault used staged page e ↦ subst P (sym e) (sym (ap is_some (page_refused m request own fault page)))
    ]

-- the notes of a step, by what it is reported to have read
by_fills : (context : Option (ℕ × Context)) (page : Option (Key × Hit)) (after : State) (request : Request) (number : ℕ) (history : HistoryView) →
    walk_noted (is_some page) number
    (beside (same_did request.did) after.machine.contexts (context_noted (is_some context) number history).contexts number)
    (context_noted (is_some context) number history)
    ≡ record {
      contexts = stamped_by context_room number context history.contexts;
      walks = stamped_by page_room number page history.walks;
      walk_contexts = stamped_by page_room
          (beside (same_did request.did) after.machine.contexts (stamped_by context_room number context history.contexts) number) page history.walk_contexts;
    }
by_fills None None after request number history = refl
by_fills None (Some page) after request number history = refl
by_fills (Some context) None after request number history = refl
by_fills (Some context) (Some page) after request number history = refl

pub noted_is : (before after : State) (asking : Option Asking) (seen : Lookup) (number : ℕ) (history : HistoryView) →
    seen ≡ told_by_step noticed nothing_seen before.machine asking →
    noted_so after (option_map request_in asking) seen number history ≡ noted before after (option_map request_in asking) number history
noted_is before after None seen number history is = refl
noted_is before after (Some asking) seen number history is =
    let request = request_in asking in
    let m = before.machine in
    let at : Bool → Bool → HistoryView = λ context page. walk_noted page number
    (beside (same_did request.did) after.machine.contexts (context_noted context number history).contexts number)
    (context_noted context number history) in
    ap (λ (s : Lookup). noted_so after (Some request) s number history) is
    ∙ ap (λ (b : Bool). at b (is_page_read (seen_in m request))) (seen_context m request)
    ∙ ap (at (is_some (led m request).context)) (seen_page m request)
    ∙ by_fills (led m request).context (led m request).page after request number history

-- The reads of a step can be kept without its other events: each event adds to them what it adds to the whole.
read_alike : (seen : Lookup) (told : Event) → reads_of (noticed seen told) ≡ read_noticed (reads_of seen) told
read_alike seen (event.Context source.Found did context) = refl
read_alike seen (event.Context source.Read did context) = refl
read_alike seen (event.Page from key hit) = refl
read_alike seen (event.Way way) = refl

context_alike : (seen : Lookup) (did : ℕ) (by : Option Context) (fill : Option (ℕ × Context)) →
    reads_of (context_told noticed seen did by fill) ≡ context_told read_noticed (reads_of seen) did by fill
context_alike seen did None fill = refl
context_alike seen did (Some context) fill = read_alike seen (event.Context (source_of fill) did context)

page_alike : (seen : Lookup) (request : Request) (way : Way) (fill : Option (Key × Hit)) →
    reads_of (page_told noticed seen request way fill) ≡ page_told read_noticed (reads_of seen) request way fill
page_alike seen request ByRegister fill = refl
page_alike seen request (ByContext context) fill = refl
page_alike seen request (Walked context hit) fill = read_alike seen (event.Page (source_of fill) (request_key request context) hit)
page_alike seen request (Denied denial) fill = refl

led_alike : (request : Request) (l : Led) → reads_of (witness_after noticed nothing_seen request l) ≡ witness_after read_noticed nothing_read request l
led_alike request l =
    let context = context_told noticed nothing_seen request.did l.by l.context in
    read_alike (page_told noticed context request l.way l.page) (event.Way l.way)
    ∙ page_alike context request l.way l.page
    ∙ ap (λ (r : Reads). page_told read_noticed r request l.way l.page) (context_alike nothing_seen request.did l.by l.context)

reads_alike : (m : Machine) (asking : Option Asking) →
    reads_of (told_by_step noticed nothing_seen m asking) ≡ told_by_step read_noticed nothing_read m asking
reads_alike m None = refl
reads_alike m (Some asking) = led_alike (request_in asking) (led m (request_in asking))

pub noted_by_reads : (before after : State) (taken : Step) (request : Option Request) (reads : Reads) (number : ℕ) (history new : HistoryView) →
    request ≡ request_of_step before taken → reads ≡ told_by_step read_noticed nothing_read before.machine (asked before taken) →
    new ≡ noted_reading after request reads number history → new ≡ noted before after (request_of_step before taken) number history
noted_by_reads before after taken request reads number history new own is kept =
    kept ∙ ap (λ (r : Option Request). noted_reading after r reads number history) own
    ∙ ap (λ (r : Reads). noted_reading after (request_of_step before taken) r number history) (is ∙ sym (reads_alike before.machine (asked before taken)))
    ∙ noted_is before after (asked before taken) (told_by_step noticed nothing_seen before.machine (asked before taken)) number history refl
