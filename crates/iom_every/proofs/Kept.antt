-- What this model caches after a step was cached before it or read by its access, and isn't dropped.
use Rattle.std.proofs.Common.{◌≡◌, ◌∙◌, ◌++◌, ◌⊎◌, ◌-◌, ℕ, Bool, true, false, List, [], Option, Some, None, Result, Ok, Err, if◌then◌else◌, refl, ap, sym, subst, inl, inr}
use Rattle.std.specs.Option.{option_map}
use Rattle.iom_bits.specs.declared.causes.Cause.{Cause}
use Rattle.iom_regs.specs.Views.{mode_of}
use Rattle.iom_regs.specs.declared.views.Mode.{Mode}
use Rattle.iom_regs.specs.declared.views.Mode.TheVariants.{Off, Bare, Levels}
use Rattle.iom_ddt.specs.Contexts.{is_bare}
use Rattle.iom_ddt.specs.Directory.{located, path_of}
use Rattle.iom_ddt.specs.declared.context.Context.{Context}
use Rattle.iom_nested.specs.Nested.{translation}
use Rattle.iom_nested.specs.declared.translation.Fault.{Fault}
use Rattle.iom_nested.specs.declared.translation.Hit.{Hit}
use Rattle.iom_queue.specs.declared.command.Command.{Command}
use Rattle.iom_queue.specs.declared.command.Command.TheVariants.{Vma, Gvma, Fence, Iodir}
use Rattle.iom_cache.specs.Drops.{drops_context, drops_page}
use Rattle.iom_cache.specs.Keys.{same_key}
use Rattle.iom_cache.specs.Places.{filled_by, find, look}
use Rattle.iom_cache.specs.declared.key.Key.{Key}
use Rattle.iom_core.specs.Access.{context_look, led, led_by_context, led_by_mode, led_under, live_context, page_look, request_key, way_to, Under}
use Rattle.iom_core.specs.Looking.{uncached}
use Rattle.iom_core.specs.State.{Machine, State, context_room, page_room}
use Rattle.iom_core.specs.Table.{asked, executed, next, request_of_step}
use Rattle.iom_core.specs.Commands.{executed_by}
use Rattle.iom_core.specs.Warrants.{context_filled, page_filled}
use Rattle.iom_core.specs.declared.access.Request.{Request}
use Rattle.iom_core.specs.declared.step.Step.{Step}
use Rattle.iom_core.specs.declared.step.Step.TheVariants as step
use Rattle.iom_core.specs.declared.way.Way.{Way as Led}
use Rattle.iom_core.specs.declared.way.Way.TheVariants.{Context as ByContext}
use Rattle.iom_core.proofs.Moments.{next-contexts, next-pages}
use Rattle.iom_choices.specs.Models.{entries_in}
use Rattle.iom_choices.specs.Systems.{IsAmong, ModelWalk, reads_of}
use Rattle.iom_choices.proofs.Lists.{among-left, among-right}
use Rattle.iom_every.specs.Drops.{drops_by, drops_entry, single}
use Rattle.iom_every.specs.Entries.{Entry, OfDevice, OfPage}
use Rattle.iom_every.specs.Every.{cached, context_use, context_uses, hit_use, iommu, page_uses}
use Rattle.iom_every.specs.Rows.{bare}
use Rattle.iom_every.specs.Stages.{stage_reads, translation_by}
use Rattle.iom_every.specs.Uses.{Entered, page_use, used_by}
use Rattle.iom_every.specs.Ways.{by_context, by_mode, depth_of, directory_in, directory_reads, entered, located_by, page_by, page_way, under, way_of, whole_of}
use Rattle.iom_every.proofs.Directory.{located_has}
use Rattle.iom_every.proofs.Emptied.{IsFill, IsIn, entries-left, entries-right, entries_either, in_emptied, in_filled}
use Rattle.iom_every.proofs.Found.{at_leaf, used_page}
use Rattle.iom_every.proofs.Split.{kept_itself, napot_left}
use Rattle.iom_every.proofs.Led.{context_is, entered_is, no_stage, uses_of}
use Rattle.iom_every.proofs.Walked.{translation_is}

-- the caches drop what the machine drops
pub context_drops : (command : Command) (did : ℕ) (context : Context) → drops_entry command (OfDevice did (Ok context)) ≡ drops_context command did context
unfolding drops_entry
context_drops (Vma av page pscv pscid gv gscid nl s) did context = refl
context_drops (Gvma av page pscid gv gscid nl s) did context = refl
context_drops (Fence av wsi pr pw value addr) did context = refl
context_drops (Iodir dv own) did context = refl

by_pages : (command : Command) (key : Key) (hit : Hit) → drops_entry command (OfPage key hit) ≡ drops_page command key (single hit)
unfolding drops_entry
by_pages (Vma av page pscv pscid gv gscid nl s) key hit = refl
by_pages (Gvma av page pscid gv gscid nl s) key hit = refl
by_pages (Fence av wsi pr pw value addr) key hit = refl
by_pages (Iodir dv own) key hit = refl

-- and of whole translations at least those; of one page they drop no others
pub page_drops : (command : Command) (key : Key) (hit : Hit) → hit.napot ≡ false → drops_entry command (OfPage key hit) ≡ drops_page command key hit
page_drops command key hit plain =
    let same : single hit ≡ hit = rw (plain) refl in
    by_pages command key hit ∙ ap (drops_page command key) same

-- what the caches leave of whole translations no command drops
pub page_left : (command : Command) (key : Key) (hit : Hit) → drops_page command key hit ≡ false → drops_entry command (OfPage key hit) ≡ false
page_left command key hit off =
    let Goal : Bool → Type 0 = λ b. hit.napot ≡ b → drops_entry command (OfPage key hit) ≡ false in
    let by_napot : (b : Bool) → Goal b = λ b. elim b as Goal [
      | true ↦ λ is. by_pages command key hit ∙ napot_left command key hit is off
      | false ↦ λ is. page_drops command key hit is ∙ off
    ] in by_napot hit.napot refl

-- what is filled wasn't found, and its source said it
pub record WasTold {K V E : Type 0} (key : K) (live : Option V) (told : Result V E) (filled : K × V) : Type 0 where
  pub none : live ≡ None
  pub value : V
  pub told_so : told ≡ Ok value
  pub is : (key, value) ≡ filled

was_told : {K V E : Type 0} (key : K) (live : Option V) (told : Result V E) (filled : K × V) → (look key live told).filled ≡ Some filled → WasTold key live told filled
was_told key (Some held) told filled is = absurd (cc)
was_told key None (Err why) filled is = absurd (cc)
was_told key None (Ok value) filled is = record { none = refl; value = value; told_so = refl; is = cc }

-- a context that is filled is read
context_read : (m : Machine) (did : ℕ) (filled : ℕ × Context) → (context_look m did).filled ≡ Some filled → IsAmong (directory_reads (uncached m) did (entered (uncached m) (uses_of m) did)) (OfDevice filled.0 (Ok filled.1))
unfolding context_look
context_read m did filled is =
    let t : WasTold did (live_context m did) (located m.memory m.registers did) filled = was_told did (live_context m did) (located m.memory m.registers did) filled is in
    let enters : entered (uncached m) (uses_of m) did ≡ None = entered_is m did ∙ ap (option_map at_leaf) t.none in
    let has : IsAmong (directory_in m.registers.features did (depth_of m - 1) (path_of m.memory m.registers did)) (OfDevice did (Ok t.value)) = located_has m.memory m.registers did t.value t.told_so in
    subst (λ (filled : ℕ × Context). IsAmong (directory_reads (uncached m) did (entered (uncached m) (uses_of m) did)) (OfDevice filled.0 (Ok filled.1))) t.is
    (subst (λ (found : Option Entered). IsAmong (directory_reads (uncached m) did found) (OfDevice did (Ok t.value))) (sym enters) has)

-- so is a page
page_read : (m : Machine) (request : Request) (context : Context) (filled : Key × Hit) → (page_look m.memory m.registers.features m.pages request context).filled ≡ Some filled → IsAmong (page_way m.memory m.registers.features (uses_of m) request context).reads (OfPage filled.0 filled.1)
unfolding page_look
page_read m request context filled is =
    let key : Key = request_key request context in
    let live : Option Hit = find (same_key key) m.pages in
    let t : WasTold key live (translation m.memory m.registers.features context request.iova request.kind) filled = was_told key live (translation m.memory m.registers.features context request.iova request.kind) filled is in
    let none : used_by (page_use key) (uses_of m) ≡ None = used_page key m.contexts m.pages ∙ t.none in
    let hits : translation_by m.memory m.registers.features (uses_of m) context request.iova request.kind ≡ Ok t.value =
    translation_is m.memory m.registers.features (uses_of m) context (no_stage m context) request.iova request.kind ∙ t.told_so in
    let stages : List Entry = stage_reads m.memory m.registers.features (uses_of m) context request.iova request.kind in
    let has : IsAmong (stages ++ whole_of request context (translation_by m.memory m.registers.features (uses_of m) context request.iova request.kind)) (OfPage key t.value) =
    among-right stages (whole_of request context (translation_by m.memory m.registers.features (uses_of m) context request.iova request.kind)) (OfPage key t.value)
    (subst (λ (found : Result Hit Fault). IsAmong (whole_of request context found) (OfPage key t.value)) (sym hits) (inl refl)) in
    subst (λ (filled : Key × Hit). IsAmong (page_way m.memory m.registers.features (uses_of m) request context).reads (OfPage filled.0 filled.1)) t.is
    (subst (λ (found : Option Hit). IsAmong (page_by m.memory m.registers.features (uses_of m) request context found).reads (OfPage key t.value)) (sym none) has)

under_read : (m : Machine) (request : Request) (context : Context) (filled : Key × Hit) → (led_under m.memory m.registers.features m.pages request context).page ≡ Some filled → IsAmong (under m.memory m.registers.features (uses_of m) request context).reads (OfPage filled.0 filled.1)
under_read m request context filled =
    let ours : ModelWalk Entry Led = record { led = way_to context (page_way m.memory m.registers.features (uses_of m) request context).led; reads = (page_way m.memory m.registers.features (uses_of m) request context).reads } in
    let standing : Under = record { way = way_to context (page_look m.memory m.registers.features m.pages request context).used; page = (page_look m.memory m.registers.features m.pages request context).filled } in
    let direct : ModelWalk Entry Led = record { led = ByContext context; reads = [] } in
    let direct_under : Under = record { way = ByContext context; page = None } in
    let reads : ModelWalk Entry Led → List Entry = λ way. way.reads in
    let page : Under → Option (Key × Hit) = λ under. under.page in
    elim (is_bare context) as (λ b. page (if b then direct_under else standing) ≡ Some filled → IsAmong (reads (if b then direct else ours)) (OfPage filled.0 filled.1)) [
      | true ↦ λ is. absurd (cc)
      | false ↦ λ is. page_read m request context filled is
    ]

-- by the context, and by the mode
by_fill : (m : Machine) (request : Request) (fill : Option (ℕ × Context)) (found : Result Context Cause) → (led_by_context m request fill found).context ≡ fill
by_fill m request fill (Ok context) = refl
by_fill m request fill (Err why) = refl

by_reads : (m : Machine) (request : Request) (reads : List Entry) (found : Result Context Cause) (e : Entry) → IsAmong reads e → IsAmong (by_context m.memory m.registers.features (uses_of m) request reads found).reads e
by_reads m request reads (Ok context) e h = among-left reads (under m.memory m.registers.features (uses_of m) request context).reads e h
by_reads m request reads (Err why) e h = h

by_page : (m : Machine) (request : Request) (reads : List Entry) (fill : Option (ℕ × Context)) (found : Result Context Cause) (filled : Key × Hit) → (led_by_context m request fill found).page ≡ Some filled → IsAmong (by_context m.memory m.registers.features (uses_of m) request reads found).reads (OfPage filled.0 filled.1)
by_page m request reads fill (Ok context) filled is = among-right reads (under m.memory m.registers.features (uses_of m) request context).reads (OfPage filled.0 filled.1) (under_read m request context filled is)
by_page m request reads fill (Err why) filled is = absurd (cc)

mode_context : (m : Machine) (request : Request) (mode : Mode) (filled : ℕ × Context) → (led_by_mode mode m request).context ≡ Some filled → IsAmong (by_mode mode (uncached m) (uses_of m) request).reads (OfDevice filled.0 (Ok filled.1))
mode_context m request Off filled is = absurd (cc)
mode_context m request Bare filled is = absurd (cc)
mode_context m request (Levels levels) filled is =
    let found : Option Entered = entered (uncached m) (uses_of m) request.did in
    by_reads m request (directory_reads (uncached m) request.did found) (located_by (uncached m) request.did found) (OfDevice filled.0 (Ok filled.1))
    (context_read m request.did filled (sym (by_fill m request (context_look m request.did).filled (context_look m request.did).used) ∙ is))

mode_page : (m : Machine) (request : Request) (mode : Mode) (filled : Key × Hit) → (led_by_mode mode m request).page ≡ Some filled → IsAmong (by_mode mode (uncached m) (uses_of m) request).reads (OfPage filled.0 filled.1)
mode_page m request Off filled is = absurd (cc)
mode_page m request Bare filled is = absurd (cc)
mode_page m request (Levels levels) filled is =
    let found : Option Entered = entered (uncached m) (uses_of m) request.did in
    let reads : List Entry = directory_reads (uncached m) request.did found in
    subst (λ (at : Result Context Cause). IsAmong (by_context m.memory m.registers.features (uses_of m) request reads at).reads (OfPage filled.0 filled.1)) (sym (context_is m request.did))
    (by_page m request reads (context_look m request.did).filled (context_look m request.did).used filled is)

-- what an access fills is read by it
abbrev pub our_reads : (Request → Bool) → State → Option Request → List Entry
our_reads ahead state request = reads_of (iommu ahead) (bare state) (cached state) request

context_fill : (ahead : Request → Bool) (state : State) (request : Option Request) (e : Entry) → IsFill context_use (context_filled state request) e → IsAmong (our_reads ahead state request) e
unfolding led way_of
context_fill ahead state None e h = absurd h
context_fill ahead state (Some request) e h =
    let Goal : Option (ℕ × Context) → Type 0 = λ o. (led state.machine request).context ≡ o → IsFill context_use o e → IsAmong (our_reads ahead state (Some request)) e in
    let by_fill : (o : Option (ℕ × Context)) → Goal o = λ o. elim o as Goal [
      | None ↦ λ is h. absurd h
      | Some filled ↦ λ is h. subst (IsAmong (our_reads ahead state (Some request))) h (kept_itself state.machine.registers.features (way_of (bare state) (cached state) request).reads (context_use filled.0 filled.1).1 (mode_context state.machine request (mode_of state.machine.registers) filled is))
    ] in by_fill (led state.machine request).context refl h

page_fill : (ahead : Request → Bool) (state : State) (request : Option Request) (e : Entry) → IsFill hit_use (page_filled state request) e → IsAmong (our_reads ahead state request) e
unfolding led way_of
page_fill ahead state None e h = absurd h
page_fill ahead state (Some request) e h =
    let Goal : Option (Key × Hit) → Type 0 = λ o. (led state.machine request).page ≡ o → IsFill hit_use o e → IsAmong (our_reads ahead state (Some request)) e in
    let by_fill : (o : Option (Key × Hit)) → Goal o = λ o. elim o as Goal [
      | None ↦ λ is h. absurd h
      | Some filled ↦ λ is h. subst (IsAmong (our_reads ahead state (Some request))) h (kept_itself state.machine.registers.features (way_of (bare state) (cached state) request).reads (hit_use filled.0 filled.1).1 (mode_page state.machine request (mode_of state.machine.registers) filled is))
    ] in by_fill (led state.machine request).page refl h

-- what a step asks and executes doesn't depend on the caches
pub asks_bare : (state : State) (taken : Step) → request_of_step (bare state) taken ≡ request_of_step state taken
unfolding asked
asks_bare state (step.Load addr size) = refl
asks_bare state (step.Store addr size value) = refl
asks_bare state (step.RegRead off size) = refl
asks_bare state (step.RegWrite off size value) = refl
asks_bare state step.Command = refl
asks_bare state (step.Settle register) = refl
asks_bare state (step.DmaRead did iova len) = refl
asks_bare state (step.DmaWrite did iova bytes) = refl
asks_bare state (step.Translate did iova kind) = refl
asks_bare state (step.DevRead dev off size) = refl
asks_bare state (step.DevWrite dev off size value) = refl
asks_bare state (step.Device dev) = refl

pub executes_bare : (state : State) (taken : Step) → executed (bare state) taken ≡ executed state taken
unfolding executed executed_by
executes_bare state (step.Load addr size) = refl
executes_bare state (step.Store addr size value) = refl
executes_bare state (step.RegRead off size) = refl
executes_bare state (step.RegWrite off size value) = refl
executes_bare state step.Command = refl
executes_bare state (step.Settle register) = refl
executes_bare state (step.DmaRead did iova len) = refl
executes_bare state (step.DmaWrite did iova bytes) = refl
executes_bare state (step.Translate did iova kind) = refl
executes_bare state (step.DevRead dev off size) = refl
executes_bare state (step.DevWrite dev off size value) = refl
executes_bare state (step.Device dev) = refl

-- of each cache, and of both
contexts_kept : (ahead : Request → Bool) (state : State) (taken : Step) (e : Entry) → IsAmong (entries_in (context_uses (next state taken).state.machine.contexts)) e →
    (drops_by (executed state taken) e ≡ false) × (IsAmong (entries_in (cached state)) e ⊎ IsAmong (our_reads ahead state (request_of_step state taken)) e)
contexts_kept ahead state taken e h =
    let fill = context_filled state (request_of_step state taken) in
    let k = in_emptied context_use drops_context (λ command did context off. context_drops command did context ∙ off) (executed state taken) (filled_by context_room fill state.machine.contexts) e
    (subst (λ (places : List (Option (ℕ × Context))). IsIn context_use places e) (next-contexts state taken) h) in (
      k.0,
      elim (in_filled context_use context_room fill state.machine.contexts e k.1) [
        | inl before ↦ inl (entries-left (context_uses state.machine.contexts) (page_uses state.machine.pages) e before)
        | inr new ↦ inr (context_fill ahead state (request_of_step state taken) e new)
      ],
    )

pages_kept : (ahead : Request → Bool) (state : State) (taken : Step) (e : Entry) → IsAmong (entries_in (page_uses (next state taken).state.machine.pages)) e →
    (drops_by (executed state taken) e ≡ false) × (IsAmong (entries_in (cached state)) e ⊎ IsAmong (our_reads ahead state (request_of_step state taken)) e)
pages_kept ahead state taken e h =
    let fill = page_filled state (request_of_step state taken) in
    let k = in_emptied hit_use drops_page page_left (executed state taken) (filled_by page_room fill state.machine.pages) e
    (subst (λ (places : List (Option (Key × Hit))). IsIn hit_use places e) (next-pages state taken) h) in (
      k.0,
      elim (in_filled hit_use page_room fill state.machine.pages e k.1) [
        | inl before ↦ inl (entries-right (context_uses state.machine.contexts) (page_uses state.machine.pages) e before)
        | inr new ↦ inr (page_fill ahead state (request_of_step state taken) e new)
      ],
    )

pub kept : (ahead : Request → Bool) (state : State) (taken : Step) (e : Entry) → IsAmong (entries_in (cached (next state taken).state)) e →
    (drops_by (executed (bare state) taken) e ≡ false) × (IsAmong (entries_in (cached state)) e ⊎ IsAmong (our_reads ahead state (request_of_step (bare state) taken)) e)
kept ahead state taken e h =
    let k : (drops_by (executed state taken) e ≡ false) × (IsAmong (entries_in (cached state)) e ⊎ IsAmong (our_reads ahead state (request_of_step state taken)) e) =
    elim (entries_either (context_uses (next state taken).state.machine.contexts) (page_uses (next state taken).state.machine.pages) e h) [
      | inl context ↦ contexts_kept ahead state taken e context
      | inr page ↦ pages_kept ahead state taken e page
    ] in (
      subst (λ (command : Option Command). drops_by command e ≡ false) (sym (executes_bare state taken)) k.0,
      subst (λ (request : Option Request). IsAmong (entries_in (cached state)) e ⊎ IsAmong (our_reads ahead state request) e) (sym (asks_bare state taken)) k.1,
    )
