-- What the way of a request says of the look-ups behind it.
use Rattle.std.proofs.Common.{◌≡◌, ◌∙◌, ℕ, Bool, true, false, Option, Some, None, Result, Ok, Err, if◌then◌else◌, refl, sym, ap, subst}
use Rattle.std.specs.Prelude.{IfSome}
use Rattle.iom_bits.specs.declared.causes.Cause.{Cause}
use Rattle.iom_bits.specs.declared.causes.Cause.TheVariants as cause
use Rattle.iom_regs.specs.Views.{mode_of}
use Rattle.iom_regs.specs.declared.views.Mode.{Mode}
use Rattle.iom_regs.specs.declared.views.Mode.TheVariants.{Off, Bare, Levels}
use Rattle.iom_ddt.specs.Contexts.{is_bare}
use Rattle.iom_ddt.specs.Directory.{is_too_wide, levels_of, located}
use Rattle.iom_ddt.specs.Formats.{context_format}
use Rattle.iom_ddt.specs.declared.context.Context.{Context}
use Rattle.iom_nested.specs.Nested.{translation}
use Rattle.iom_nested.specs.declared.translation.Fault.{Fault}
use Rattle.iom_nested.specs.declared.translation.Hit.{Hit}
use Rattle.iom_cache.specs.Keys.{same_key, same_did}
use Rattle.iom_cache.specs.Places.{find, Look, look}
use Rattle.iom_cache.specs.declared.key.Key.{Key}
use Rattle.iom_cache.proofs.Origins.{look-unused}
use Rattle.iom_core.specs.State.{Machine}
use Rattle.iom_core.specs.Access.{Led, Under, context_look, led, live_context, led_by_context, led_by_mode, page_look, request_key, plain, refused, translating, way_to}
use Rattle.iom_core.specs.declared.way.Way.TheVariants.{Register as ByRegister, Context as ByContext, Walked, Denied}
use Rattle.iom_core.specs.declared.access.Request.{Request}
use Rattle.iom_core.proofs.Wide.{too_wide_located}

-- The look-up of a context is one of the cache, for an id that isn't too wide; for one that is it uses and fills nothing.
abbrev pub look_of_context : Machine → ℕ → Look ℕ Context Cause
look_of_context m did = look did (find (same_did did) m.contexts) (located m.memory m.registers did)

-- either nothing is used or filled, or the look-up is the cache's
pub data ContextLook (m : Machine) (did : ℕ) : Type 0 where
  Wide : context_look m did ≡ record { used = Err cause.TooWide; filled = None } → ContextLook m did
  Cached : context_look m did ≡ look_of_context m did → ContextLook m did

context_looked : (m : Machine) (did : ℕ) → ContextLook m did
unfolding context_look
context_looked m did =
    let Goal : Bool → Type 0 = λ b. is_too_wide (context_format m.registers.features) (levels_of (mode_of m.registers)) did ≡ b → ContextLook m did in
    let by_width : (b : Bool) → Goal b = λ b. elim b as Goal [
      | true ↦ λ wide. Wide (rw (wide, too_wide_located m.memory m.registers did wide) refl)
      | false ↦ λ narrow. Cached (rw narrow refl)
    ] in by_width (is_too_wide (context_format m.registers.features) (levels_of (mode_of m.registers)) did) refl

pub context_look-unused : (m : Machine) (did : ℕ) → IfSome ((context_look m did).filled) (λ entry. find (same_did entry.0) m.contexts ≡ None)
context_look-unused m did =
    let P : Look ℕ Context Cause → Type 0 = λ l. IfSome (l.filled) (λ entry. find (same_did entry.0) m.contexts ≡ None) in
    elim (context_looked m did) [
      | Wide is ↦ subst P (sym is) tt
      | Cached is ↦ subst P (sym is) (look-unused same_did did m.contexts (located m.memory m.registers did))
    ]

-- a context that is used was looked up in the cache
pub context_used-cached : (m : Machine) (did : ℕ) (context : Context) → (context_look m did).used ≡ Ok context → context_look m did ≡ look_of_context m did
context_used-cached m did context used = elim (context_looked m did) [
  | Wide is ↦ let e : (context_look m did).used ≡ Err cause.TooWide = ap (λ (l : Look ℕ Context Cause). l.used) is in absurd (cc)
  | Cached is ↦ is
]

-- The cases of a request's way.
pub data HowLed (m : Machine) (request : Request) : Type 0 where
  WasOff : led m request ≡ refused cause.Off None → HowLed m request
  WasByRegister : mode_of m.registers ≡ Bare → led m request ≡ record { way = ByRegister; by = None; context = None; page = None } → HowLed m request
  WasNowhere : (why : Cause) → (context_look m request.did).used ≡ Err why →
      led m request ≡ record { way = Denied (plain why); by = None; context = (context_look m request.did).filled; page = None } → HowLed m request
  WasByContext : (context : Context) → (context_look m request.did).used ≡ Ok context → is_bare context ≡ true →
      led m request ≡ record { way = ByContext context; by = Some context; context = (context_look m request.did).filled; page = None } → HowLed m request
  WasWalked : (context : Context) (hit : Hit) → (context_look m request.did).used ≡ Ok context → is_bare context ≡ false →
      (page_look m.memory m.registers.features m.pages request context).used ≡ Ok hit →
      led m request ≡ record { way = Walked context hit; by = Some context; context = (context_look m request.did).filled; page = (page_look m.memory m.registers.features m.pages request context).filled } →
      HowLed m request
  WasFault : (context : Context) (fault : Fault) → (context_look m request.did).used ≡ Ok context → is_bare context ≡ false →
      (page_look m.memory m.registers.features m.pages request context).used ≡ Err fault →
      led m request ≡ record { way = Denied (translating context fault); by = Some context; context = (context_look m request.did).filled; page = (page_look m.memory m.registers.features m.pages request context).filled } →
      HowLed m request

-- by a context, below which the request is led so
abbrev led_above : Context → Option (ℕ × Context) → Under → Led
led_above context fill under = record { way = under.way; by = Some context; context = fill; page = under.page }

by_page : (m : Machine) (request : Request) (context : Context) → (context_look m request.did).used ≡ Ok context → is_bare context ≡ false →
    led m request ≡ led_above context (context_look m request.did).filled (record {
      way = way_to context (page_look m.memory m.registers.features m.pages request context).used;
      page = (page_look m.memory m.registers.features m.pages request context).filled;
    }) →
    HowLed m request
by_page m request context used bare is =
    let fill = (context_look m request.did).filled in
    let page = (page_look m.memory m.registers.features m.pages request context).filled in
    let by : Result Hit Fault → Led = λ r. led_above context fill (record { way = way_to context r; page = page }) in
    let Goal : Result Hit Fault → Type 0 = λ r. (page_look m.memory m.registers.features m.pages request context).used ≡ r → HowLed m request in
    let by_used : (r : Result Hit Fault) → Goal r = λ r. elim r as Goal [
      | Ok hit ↦ λ e. WasWalked context hit used bare e (is ∙ ap by e)
      | Err fault ↦ λ e. WasFault context fault used bare e (is ∙ ap by e)
    ] in by_used (page_look m.memory m.registers.features m.pages request context).used refl

by_bareness : (m : Machine) (request : Request) (context : Context) → (context_look m request.did).used ≡ Ok context →
    led m request ≡ led_by_context m request (context_look m request.did).filled (Ok context) → HowLed m request
by_bareness m request context used is =
    let fill = (context_look m request.did).filled in
    let look = page_look m.memory m.registers.features m.pages request context in
    let split : Bool → Led = λ b. led_above context fill
    (if b then record { way = ByContext context; page = None } else record { way = way_to context look.used; page = look.filled }) in
    let Goal : Bool → Type 0 = λ b. is_bare context ≡ b → HowLed m request in
    let by_bare : (b : Bool) → Goal b = λ b. elim b as Goal [
      | true ↦ λ bare. WasByContext context used bare (is ∙ ap split bare)
      | false ↦ λ bare. by_page m request context used bare (is ∙ ap split bare)
    ] in by_bare (is_bare context) refl

by_context : (m : Machine) (request : Request) →
    led m request ≡ led_by_context m request (context_look m request.did).filled (context_look m request.did).used → HowLed m request
by_context m request is =
    let fill = (context_look m request.did).filled in
    let Goal : Result Context Cause → Type 0 = λ r. (context_look m request.did).used ≡ r → HowLed m request in
    let by_used : (r : Result Context Cause) → Goal r = λ r. elim r as Goal [
      | Ok context ↦ λ e. by_bareness m request context e (is ∙ ap (led_by_context m request fill) e)
      | Err why ↦ λ e. WasNowhere why e (is ∙ ap (led_by_context m request fill) e)
    ] in by_used (context_look m request.did).used refl

pub how_led : (m : Machine) (request : Request) → HowLed m request
unfolding led
how_led m request =
    let Goal : Mode → Type 0 = λ k. mode_of m.registers ≡ k → HowLed m request in
    let by_mode : (k : Mode) → Goal k = λ k. elim k as Goal [
      | Off ↦ λ is. WasOff (ap (λ (k : Mode). led_by_mode k m request) is)
      | Bare ↦ λ is. WasByRegister is (ap (λ (k : Mode). led_by_mode k m request) is)
      | Levels levels ↦ λ is. by_context m request (ap (λ (k : Mode). led_by_mode k m request) is)
    ] in by_mode (mode_of m.registers) refl

-- what is filled was not found
page_look-unused : (m : Machine) (request : Request) (context : Context) →
    IfSome ((page_look m.memory m.registers.features m.pages request context).filled) (λ entry. find (same_key entry.0) m.pages ≡ None)
unfolding page_look
page_look-unused m request context =
    look-unused same_key (request_key request context) m.pages (translation m.memory m.registers.features context request.iova request.kind)

pub led_context-unused : (m : Machine) (request : Request) → IfSome ((led m request).context) (λ entry. find (same_did entry.0) m.contexts ≡ None)
led_context-unused m request =
    let P : Led → Type 0 = λ l. IfSome (l.context) (λ entry. find (same_did entry.0) m.contexts ≡ None) in
    elim (how_led m request) [
      | WasOff is ↦ subst P (sym is) tt
      | WasByRegister bare is ↦ subst P (sym is) tt
      | WasNowhere why used is ↦ subst P (sym is) (context_look-unused m request.did)
      | WasByContext context used bare is ↦ subst P (sym is) (context_look-unused m request.did)
      | WasWalked context hit used bare page is ↦ subst P (sym is) (context_look-unused m request.did)
      | WasFault context fault used bare page is ↦ subst P (sym is) (context_look-unused m request.did)
    ]

pub led_page-unused : (m : Machine) (request : Request) → IfSome ((led m request).page) (λ entry. find (same_key entry.0) m.pages ≡ None)
led_page-unused m request =
    let P : Led → Type 0 = λ l. IfSome (l.page) (λ entry. find (same_key entry.0) m.pages ≡ None) in
    elim (how_led m request) [
      | WasOff is ↦ subst P (sym is) tt
      | WasByRegister bare is ↦ subst P (sym is) tt
      | WasNowhere why used is ↦ subst P (sym is) tt
      | WasByContext context used bare is ↦ subst P (sym is) tt
      | WasWalked context hit used bare page is ↦ subst P (sym is) (page_look-unused m request context)
      | WasFault context fault used bare page is ↦ subst P (sym is) (page_look-unused m request context)
    ]

-- What a look-up fills: its key, with what the source says.
look_filled : {K V E : Type 0} → (key : K) (held : Option V) (told : Result V E) (own : K) (value : V) →
    (look key held told).filled ≡ Some (own, value) → (own ≡ key) × (told ≡ Ok value)
look_filled key (Some v) told own value e = absurd (cc)
look_filled {K} {V} {E} key None (Ok v) own value e =
    let pair : (own, value) ≡ (key, v) = cc in (ap (λ (p : K × V). p.0) pair, ap (λ (v : V). Ok v) (sym (ap (λ (p : K × V). p.1) pair)))
look_filled key None (Err why) own value e = absurd (cc)

-- a context that a request fills is what the directory has for its device's id
pub record FilledContext (m : Machine) (request : Request) (did : ℕ) (context : Context) : Type 0 where
  pub own : did ≡ request.did
  pub located : located m.memory m.registers did ≡ Ok context

context_look-filled : (m : Machine) (request : Request) (did : ℕ) (context : Context) → (context_look m request.did).filled ≡ Some (did, context) →
    FilledContext m request did context
context_look-filled m request did context filled = elim (context_looked m request.did) [
  | Wide is ↦ let e : (context_look m request.did).filled ≡ None = ap (λ (l : Look ℕ Context Cause). l.filled) is in absurd (cc)
  | Cached is ↦
      let e : (look_of_context m request.did).filled ≡ Some (did, context) = sym (ap (λ (l : Look ℕ Context Cause). l.filled) is) ∙ filled in
      let f = look_filled request.did (find (same_did request.did) m.contexts) (located m.memory m.registers request.did) did context e in
      record { own = f.0; located = subst (λ (d : ℕ). located m.memory m.registers d ≡ Ok context) (sym f.0) f.1 }
]

pub filled_context : (m : Machine) (request : Request) (did : ℕ) (context : Context) → (led m request).context ≡ Some (did, context) →
    FilledContext m request did context
filled_context m request did context filled =
    let by_look : (led m request).context ≡ (context_look m request.did).filled → FilledContext m request did context =
    λ e. context_look-filled m request did context (sym e ∙ filled) in
    let none : (led m request).context ≡ None → FilledContext m request did context = λ e. absurd (cc) in
    let P : Led → Option (ℕ × Context) = λ l. l.context in
    elim (how_led m request) [
      | WasOff is ↦ none (ap P is)
      | WasByRegister bare is ↦ none (ap P is)
      | WasNowhere why used is ↦ by_look (ap P is)
      | WasByContext c used bare is ↦ by_look (ap P is)
      | WasWalked c hit used bare page is ↦ by_look (ap P is)
      | WasFault c fault used bare page is ↦ by_look (ap P is)
    ]

-- a page that a request fills is where the stages of the context used lead it
pub record FilledPage (m : Machine) (request : Request) (key : Key) (hit : Hit) : Type 0 where
  pub context : Context
  pub used : (context_look m request.did).used ≡ Ok context
  pub filled : (context_look m request.did).filled ≡ (led m request).context
  pub own : key ≡ request_key request context
  pub translated : translation m.memory m.registers.features context request.iova request.kind ≡ Ok hit

page_look-filled : (m : Machine) (request : Request) (context : Context) (key : Key) (hit : Hit) → (page_look m.memory m.registers.features m.pages request context).filled ≡ Some (key, hit) →
    (key ≡ request_key request context) × (translation m.memory m.registers.features context request.iova request.kind ≡ Ok hit)
unfolding page_look
page_look-filled m request context key hit filled =
    look_filled (request_key request context) (find (same_key (request_key request context)) m.pages)
    (translation m.memory m.registers.features context request.iova request.kind) key hit filled

pub filled_page : (m : Machine) (request : Request) (key : Key) (hit : Hit) → (led m request).page ≡ Some (key, hit) → FilledPage m request key hit
filled_page m request key hit filled =
    let none : (led m request).page ≡ None → FilledPage m request key hit = λ e. absurd (cc) in
    let P : Led → Option (Key × Hit) = λ l. l.page in
    let by_look : (context : Context) → (context_look m request.did).used ≡ Ok context → (led m request).context ≡ (context_look m request.did).filled →
    (led m request).page ≡ (page_look m.memory m.registers.features m.pages request context).filled → FilledPage m request key hit =
    λ context used c e. let f = page_look-filled m request context key hit (sym e ∙ filled) in
    record { context = context; used = used; filled = sym c; own = f.0; translated = f.1 } in
    elim (how_led m request) [
      | WasOff is ↦ none (ap P is)
      | WasByRegister bare is ↦ none (ap P is)
      | WasNowhere why used is ↦ none (ap P is)
      | WasByContext c used bare is ↦ none (ap P is)
      | WasWalked c h used bare page is ↦ by_look c used (ap (λ (l : Led). l.context) is) (ap P is)
      | WasFault c fault used bare page is ↦ by_look c used (ap (λ (l : Led). l.context) is) (ap P is)
    ]

-- what a look-up refuses, it doesn't fill
look_refuses : {K V E : Type 0} → (key : K) (held : Option V) (told : Result V E) (why : E) → (look key held told).used ≡ Err why →
    (look key held told).filled ≡ None
look_refuses key (Some own) told why used = refl
look_refuses key None (Ok own) why used = absurd (cc)
look_refuses key None (Err own) why used = refl

pub context_refused : (m : Machine) (did : ℕ) (why : Cause) → (context_look m did).used ≡ Err why → (context_look m did).filled ≡ None
unfolding context_look
context_refused m did why used = look_refuses did (live_context m did) (located m.memory m.registers did) why used

pub page_refused : (m : Machine) (request : Request) (context : Context) (fault : Fault) → (page_look m.memory m.registers.features m.pages request context).used ≡ Err fault →
    (page_look m.memory m.registers.features m.pages request context).filled ≡ None
unfolding page_look
page_refused m request context fault used =
    look_refuses (request_key request context) (find (same_key (request_key request context)) m.pages)
    (translation m.memory m.registers.features context request.iova request.kind) fault used
