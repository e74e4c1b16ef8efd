-- What a history returns for a step explains it.
use Rattle.std.proofs.Common.{◌≡◌, ◌∙◌, ℕ, suc, List, Option, Some, None, refl, sym, ap, subst}
use Rattle.std.specs.Prelude.{IfSome, slice_get}
use Rattle.std.specs.Option.{option_and_then}
use Rattle.iom_ddt.specs.declared.context.Context.{Context}
use Rattle.iom_nested.specs.declared.translation.Hit.{Hit}
use Rattle.iom_cache.specs.Drops.{drops_context, drops_page}
use Rattle.iom_cache.specs.Keys.{key_of, same_did, same_key}
use Rattle.iom_cache.specs.Origins.{IsLast, first_stamps}
use Rattle.iom_cache.specs.Places.{emptied_by, filled_by, find}
use Rattle.iom_cache.specs.declared.key.Key.{Key}
use Rattle.iom_cache.proofs.Origins.{IsLast-unique}
use Rattle.iom_cache.proofs.Same.{same_did_exact, same_did_itself, same_key_exact, same_key_itself}
use Rattle.iom_cache.proofs.Stamped.{Stamped}
use Rattle.iom_core.specs.Access.{request_key}
use Rattle.iom_core.specs.declared.way.Way.TheVariants.{Register as ByRegister, Context as ByContext, Walked, Denied}
use Rattle.iom_core.specs.declared.way.Way.{Way}
use Rattle.iom_core.specs.State.{State, context_room, page_room}
use Rattle.iom_core.specs.Table.{executed, next, request_of_step}
use Rattle.iom_core.specs.Warrants.{Explains, HasNone, IsByContext, IsDenied, IsUncached, IsWalked, IsWarrant, context_filled, context_filled_at, executed_at, fills_context, fills_page, moment, page_filled, page_filled_at, request_at, way_at}
use Rattle.iom_core.specs.declared.access.Request.{Request}
use Rattle.iom_core.specs.declared.step.Step.{Step}
use Rattle.iom_core.specs.declared.warrant.Warrant.{Warrant}
use Rattle.iom_core.specs.declared.warrant.Warrant.TheVariants as warrant
use Rattle.iom_core.proofs.Explained.{explained}
use Rattle.iom_core.proofs.Moments.{context_filled-unused, moment-suc, next-contexts, next-pages, next_by, page_filled-unused}
use Rattle.iom_core.proofs.Ways.{FilledPage, filled_page}
use Rattle.iom_account.specs.Beside.{beside, noted_at}
use Rattle.iom_account.specs.Following.{ComesFrom, base_at, base_by, contexts_at, number_of, notes_at, origin_on, origin_so}
use Rattle.iom_account.specs.declared.origin.NumberedWarrant.TheVariants as origin
use Rattle.iom_account.proofs.Accessed.{accessed_contexts, accessed_pages, found_context, found_led, found_page, leading}
use Rattle.iom_account.proofs.Noted.{LastNoted, Noted, Noted-always, last_noted}

some_same : {a b : Request} → Some a ≡ Some b → a ≡ b
some_same is = cc

-- a step changes the caches so, or nothing does past the last one
contexts_by : (state : State) (taken : Option Step) → (next_by state taken).machine.contexts
    ≡ emptied_by drops_context (option_and_then (executed state) taken)
    (filled_by context_room (context_filled state (option_and_then (request_of_step state) taken)) state.machine.contexts)
contexts_by state None = refl
contexts_by state (Some taken) = next-contexts state taken

pages_by : (state : State) (taken : Option Step) → (next_by state taken).machine.pages
    ≡ emptied_by drops_page (option_and_then (executed state) taken)
    (filled_by page_room (page_filled state (option_and_then (request_of_step state) taken)) state.machine.pages)
pages_by state None = refl
pages_by state (Some taken) = next-pages state taken

-- a key is of the device that asks
pub device_of : (request : Request) (context : Context) → (request_key request context).did ≡ request.did
unfolding key_of
device_of request context = refl

-- the request that filled a page
pub record Filler (state : State) (asked : Option Request) (key : Key) (hit : Hit) : Type 0 where
  pub request : Request
  pub is : asked ≡ Some request
  pub page : FilledPage state.machine request key hit

pub filler : (state : State) (asked : Option Request) (key : Key) (hit : Hit) → page_filled state asked ≡ Some (key, hit) → Filler state asked key hit
filler state None key hit filled = absurd (cc)
filler state (Some request) key hit filled = record { request = request; is = refl; page = filled_page state.machine request key hit filled }

module _ (start : State) (steps : List Step) (numbers : List ℕ) (none : IsUncached start) where
  abbrev after : ℕ → State
  after k = moment start steps (suc k)

  abbrev ContextNoted : ℕ → ℕ × Context → ℕ → Type 0
  ContextNoted = Noted same_did drops_context (context_filled_at start steps) (executed_at start steps) (number_of numbers)

  abbrev WalkNoted : (ℕ → ℕ) → ℕ → Key × Hit → ℕ → Type 0
  WalkNoted note = Noted same_key drops_page (page_filled_at start steps) (executed_at start steps) note

  pub contexts_noted : (k : ℕ) → Stamped (ContextNoted k) (moment start steps k).machine.contexts (contexts_at start steps numbers k)
  unfolding moment
  contexts_noted k =
      Noted-always same_did drops_context (context_filled_at start steps) (executed_at start steps) (number_of numbers) context_room
      (λ k. (moment start steps k).machine.contexts) none.contexts
      (λ k. ap (λ (s : State). s.machine.contexts) (moment-suc start steps k) ∙ contexts_by (moment start steps k) (slice_get steps k))
      (λ k. context_filled-unused (moment start steps k) (request_at start steps k)) k

  pub walks_noted : (note : ℕ → ℕ) (k : ℕ) →
      Stamped (WalkNoted note k) (moment start steps k).machine.pages (noted_at page_room (page_filled_at start steps) note (first_stamps start.machine.pages) k)
  unfolding moment
  walks_noted note k =
      Noted-always same_key drops_page (page_filled_at start steps) (executed_at start steps) note page_room
      (λ k. (moment start steps k).machine.pages) none.pages
      (λ k. ap (λ (s : State). s.machine.pages) (moment-suc start steps k) ∙ pages_by (moment start steps k) (slice_get steps k))
      (λ k. page_filled-unused (moment start steps k) (request_at start steps k)) k

  -- what stands beside a device's context after step n
  abbrev ContextLast : ℕ → ℕ → Context → ℕ → Type 0
  ContextLast = LastNoted same_did drops_context (context_filled_at start steps) (executed_at start steps) (number_of numbers)

  last_context : (n did d : ℕ) (context : Context) → find (same_did did) (after n).machine.contexts ≡ Some context →
      ContextLast n did context (beside (same_did did) (after n).machine.contexts (contexts_at start steps numbers (suc n)) d)
  last_context n did d context is =
      last_noted same_did drops_context (context_filled_at start steps) (executed_at start steps) (number_of numbers) same_did_exact same_did_itself n did context
      (after n).machine.contexts (contexts_at start steps numbers (suc n)) d (contexts_noted (suc n)) is

  -- what stands beside a page after step n
  abbrev PageLast : (ℕ → ℕ) → ℕ → Key → Hit → ℕ → Type 0
  PageLast note = LastNoted same_key drops_page (page_filled_at start steps) (executed_at start steps) note

  last_page : (note : ℕ → ℕ) (n d : ℕ) (key : Key) (hit : Hit) → find (same_key key) (after n).machine.pages ≡ Some hit →
      PageLast note n key hit
      (beside (same_key key) (after n).machine.pages (noted_at page_room (page_filled_at start steps) note (first_stamps start.machine.pages) (suc n)) d)
  last_page note n d key hit is =
      last_noted same_key drops_page (page_filled_at start steps) (executed_at start steps) note same_key_exact same_key_itself n key hit
      (after n).machine.pages (noted_at page_room (page_filled_at start steps) note (first_stamps start.machine.pages) (suc n)) d (walks_noted note (suc n)) is

  -- the state after a step, and what it asked there
  after_is : (k : ℕ) (taken : Step) → slice_get steps k ≡ Some taken → after k ≡ (next (moment start steps k) taken).state
  after_is k taken is = moment-suc start steps k ∙ ap (next_by (moment start steps k)) is

  -- a step at which something was asked
  record Asking (k : ℕ) (request : Request) : Type 0 where
    taken : Step
    is : slice_get steps k ≡ Some taken
    asked : request_of_step (moment start steps k) taken ≡ Some request

  asking : (k : ℕ) (request : Request) → request_at start steps k ≡ Some request → Asking k request
  asking k request is =
      let Goal : Option Step → Type 0 = λ o. slice_get steps k ≡ o → option_and_then (request_of_step (moment start steps k)) o ≡ Some request → Asking k request in
      let by_step : (o : Option Step) → Goal o = λ o. elim o as Goal [
        | None ↦ λ at asked. absurd (cc)
        | Some taken ↦ λ at asked. record { taken = taken; is = at; asked = asked }
      ] in by_step (slice_get steps k) refl is

  -- the base of a walk is the number of the last step that filled the device's context up to then
  pub record BaseTold (w did : ℕ) : Type 0 where
    pub c : ℕ
    pub last : IsLast (fills_context start steps did) w c
    pub told : base_at start steps numbers w ≡ number_of numbers c

  pub base_told : (w : ℕ) (key : Key) (hit : Hit) → page_filled_at start steps w ≡ Some (key, hit) → BaseTold w key.did
  unfolding key_of
  base_told w key hit filled =
      let f = filler (moment start steps w) (request_at start steps w) key hit filled in
      let request = f.request in
      let at = asking w request f.is in
      let there : find (same_did request.did) (after w).machine.contexts ≡ Some f.page.context =
      ap (λ (s : State). find (same_did request.did) s.machine.contexts) (after_is w at.taken at.is)
      ∙ ap (find (same_did request.did)) (accessed_contexts (moment start steps w) at.taken request at.asked)
      ∙ found_context (moment start steps w).machine request f.page.context f.page.used f.page.filled in
      let l = last_context w request.did (number_of numbers w) f.page.context there in
      let did : request.did ≡ key.did = ap (λ (k : Key). k.did) (sym f.page.own) in
      subst (BaseTold w) did (record {
        c = l.c;
        last = l.last;
        told = ap (base_by (after w) (contexts_at start steps numbers (suc w)) (number_of numbers w)) f.is ∙ l.told;
      })

  module _ (n : ℕ) (request : Request) (d : ℕ) (asked : request_at start steps n ≡ Some request) where
    -- the origin that is returned for a way comes from what explains the step
    abbrev Goal : Way → Type 0
    Goal way = ComesFrom start steps numbers n (origin_on (notes_at start steps numbers (suc n)) (after n) request d way)

    by_none : (way : Way) → way_at start steps n request ≡ way → IsDenied way → Goal way
    by_none ByRegister is never = absurd never
    by_none (ByContext context) is never = absurd never
    by_none (Walked context hit) is never = absurd never
    by_none (Denied denial) is here = record {
      warrant = None;
      explains = subst (HasNone start steps n) (sym asked) (subst IsDenied (sym is) here);
      told = refl;
    }

    found_there : (context : Context) → leading (way_at start steps n request) ≡ Some context →
        find (same_did request.did) (after n).machine.contexts ≡ Some context
    found_there context is =
        let at = asking n request asked in
        ap (λ (s : State). find (same_did request.did) s.machine.contexts) (after_is n at.taken at.is)
        ∙ ap (find (same_did request.did)) (accessed_contexts (moment start steps n) at.taken request at.asked)
        ∙ found_led (moment start steps n).machine request context is

    current_is : (context : Context) (c : ℕ) → leading (way_at start steps n request) ≡ Some context → IsLast (fills_context start steps request.did) n c →
        beside (same_did request.did) (after n).machine.contexts (contexts_at start steps numbers (suc n)) d ≡ number_of numbers c
    current_is context c is last =
        let l = last_context n request.did d context (found_there context is) in
        l.told ∙ ap (number_of numbers) (IsLast-unique (fills_context start steps request.did) n l.c c l.last last)

    by_bare : (c : ℕ) (h : IsByContext start steps n request c) → Goal (ByContext h.context)
    by_bare c h = record {
      warrant = Some (warrant.Context c);
      explains = (request, asked, h);
      told = ap (λ (s : ℕ). Some (origin.Context s)) (current_is h.context c (ap leading h.used) h.fresh.origin);
    }

    by_pages : (c w c' : ℕ) (h : IsWalked start steps n request c w c') → Goal (Walked h.now h.hit)
    by_pages c w c' h =
        let key = request_key request h.now in
        let at = asking n request asked in
        let page : find (same_key key) (after n).machine.pages ≡ Some h.hit =
        ap (λ (s : State). find (same_key key) s.machine.pages) (after_is n at.taken at.is)
        ∙ ap (find (same_key key)) (accessed_pages (moment start steps n) at.taken request at.asked)
        ∙ found_page (moment start steps n).machine request h.now h.hit h.used in
        let walk = last_page (number_of numbers) n d key h.hit page in
        let base = last_page (base_at start steps numbers) n d key h.hit page in
        let last : IsLast (fills_page start steps key) n w = subst (λ (k : Key). IsLast (fills_page start steps k) n w) (sym h.same_key) h.page.origin in
        let same : walk.c ≡ w = IsLast-unique (fills_page start steps key) n walk.c w walk.last last in
        let same_base : base.c ≡ w = IsLast-unique (fills_page start steps key) n base.c w base.last last in
        let b = base_told w key h.hit (ap (page_filled_at start steps) (sym same) ∙ walk.source) in
        let old : IsLast (fills_context start steps request.did) w b.c =
        subst (λ (did : ℕ). IsLast (fills_context start steps did) w b.c) (device_of request h.now) b.last in
        let base_is = base.told ∙ ap (base_at start steps numbers) same_base ∙ b.told
        ∙ ap (number_of numbers) (IsLast-unique (fills_context start steps request.did) w b.c c old h.old_context.origin) in
        let walk_is = walk.told ∙ ap (number_of numbers) same in
        let now_is = current_is h.now c' (ap leading h.used) h.now_context.origin in
        record {
          warrant = Some (warrant.Walked c w c');
          explains = (request, asked, h);
          told = λ i. Some (origin.Walked (base_is i) (walk_is i) (now_is i));
        }

    by_warrant : (found : Warrant) → IsWarrant start steps n request found → Goal (way_at start steps n request)
    by_warrant warrant.Register h = subst Goal (sym h.used) (record { warrant = Some warrant.Register; explains = (request, asked, h); told = refl })
    by_warrant (warrant.Context c) h = subst Goal (sym h.used) (by_bare c h)
    by_warrant (warrant.Walked c w c') h = subst Goal (sym h.used) (by_pages c w c' h)

    by_found : (found : Option Warrant) → Explains start steps n found → Goal (way_at start steps n request)
    by_found None has = by_none (way_at start steps n request) refl (subst (HasNone start steps n) asked has)
    by_found (Some found) (other, is, has) =
        let own : other ≡ request = some_same (sym is ∙ asked) in
        by_warrant found (subst (λ (r : Request). IsWarrant start steps n r found) own has)

  -- and of a step that asks nothing
  pub by_asked : (n d : ℕ) (asked : Option Request) (way : Way) → request_at start steps n ≡ asked →
      IfSome asked (λ request. way_at start steps n request ≡ way) →
      ComesFrom start steps numbers n (origin_so (notes_at start steps numbers (suc n)) (after n) asked d way)
  by_asked n d None way is led = record { warrant = None; explains = subst (HasNone start steps n) (sym is) tt; told = refl }
  by_asked n d (Some request) way is led =
      let it = explained start steps none n in
      subst (Goal n request d is) led (by_found n request d is it.0 it.1)
