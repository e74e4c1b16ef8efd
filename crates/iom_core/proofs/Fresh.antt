-- What an access used at a moment was filled by a step that the directory and the page tables of its own moment allowed.
use Rattle.std.proofs.Common.{◌≡◌, ◌∙◌, ◌/◌, ◌≤◌, ◌<◌, ℕ, List, false, Option, Some, None, Ok, refl, sym, ap, subst}
use Rattle.iom_bits.specs.declared.causes.Cause.{Cause}
use Rattle.iom_bits.specs.declared.causes.Kind.{Kind}
use Rattle.iom_ddt.specs.Directory.{located}
use Rattle.iom_ddt.specs.declared.context.Context.{Context}
use Rattle.iom_nested.specs.Nested.{translation}
use Rattle.iom_nested.specs.declared.translation.Hit.{Hit}
use Rattle.iom_nested.proofs.Pages.{one_hit}
use Rattle.iom_cache.specs.Drops.{drops_page, drops_context}
use Rattle.iom_cache.specs.Keys.{key_of, same_key, same_did}
use Rattle.iom_cache.specs.Origins.{IsLast, fills, drops_at, found_stamp}
use Rattle.iom_cache.specs.Places.{Look}
use Rattle.iom_cache.specs.declared.key.Key.{Key}
use Rattle.iom_cache.proofs.Origins.{Origin, origin_of}
use Rattle.iom_cache.proofs.Same.{same_did_exact, same_did_itself, same_key_exact, same_key_itself}
use Rattle.iom_core.specs.State.{State}
use Rattle.iom_core.specs.Access.{context_look, page_look, led, request_key}
use Rattle.iom_core.specs.declared.access.Request.{Request}
use Rattle.iom_core.specs.Warrants.{IsFreshContext, IsUncached, IsWalked, context_filled, context_filled_at, executed_at, moment, page_filled, page_filled_at, request_at, way_at}
use Rattle.iom_core.specs.Access.{Led}
use Rattle.iom_core.specs.declared.way.Way.TheVariants.{Walked}
use Rattle.iom_core.specs.declared.step.Step.{Step}
use Rattle.iom_core.proofs.Moments.{context_stamps, page_stamps, contexts_stamped, pages_stamped}
use Rattle.iom_core.proofs.Ways.{FilledPage, context_used-cached, filled_context, filled_page, look_of_context}

-- requests with one key ask the same of one page
same_did_in : (context other : Context) (did id iova addr : ℕ) (kind own : Kind) → key_of context did iova kind ≡ key_of other id addr own → did ≡ id
unfolding key_of
same_did_in context other did id iova addr kind own e = ap (λ (k : Key). k.did) e

same_page_in : (context other : Context) (did id iova addr : ℕ) (kind own : Kind) → key_of context did iova kind ≡ key_of other id addr own → iova / 4096 ≡ addr / 4096
unfolding key_of
same_page_in context other did id iova addr kind own e = ap (λ (k : Key). k.page) e

same_kind_in : (context other : Context) (did id iova addr : ℕ) (kind own : Kind) → key_of context did iova kind ≡ key_of other id addr own → kind ≡ own
unfolding key_of
same_kind_in context other did id iova addr kind own e = ap (λ (k : Key). k.kind) e

-- a key depends on the page alone
key_of_page : (context : Context) (did id iova addr : ℕ) (kind own : Kind) → did ≡ id → iova / 4096 ≡ addr / 4096 → kind ≡ own →
    key_of context did iova kind ≡ key_of context id addr own
unfolding key_of
key_of_page context did id iova addr kind own d p k = rw (d, p, k) refl

-- what a step filled, by what it asked
asked_context : (state : State) (asked : Option Request) (did : ℕ) (context : Context) → context_filled state asked ≡ Some (did, context) →
    located state.machine.memory state.machine.registers did ≡ Ok context
asked_context state None did context filled = absurd (cc)
asked_context state (Some request) did context filled = (filled_context state.machine request did context filled).located

-- the request that filled a page, and what it was led by
pub record PageFill (state : State) (asked : Option Request) (key : Key) (hit : Hit) : Type 0 where
  pub request : Request
  pub is : asked ≡ Some request
  pub page : FilledPage state.machine request key hit

asked_page : (state : State) (asked : Option Request) (key : Key) (hit : Hit) → page_filled state asked ≡ Some (key, hit) → PageFill state asked key hit
asked_page state None key hit filled = absurd (cc)
asked_page state (Some request) key hit filled = record { request = request; is = refl; page = filled_page state.machine request key hit filled }

-- the context that a request uses, through the cache's look-up
fresh_by : (start : State) (steps : List Step) (did n : ℕ) (context : Context) → IsUncached start →
    (look_of_context (moment start steps n).machine did).filled ≡ context_filled_at start steps n →
    (look_of_context (moment start steps n).machine did).used ≡ Ok context →
    IsFreshContext start steps did n (found_stamp (same_did did) (moment start steps n).machine.contexts (context_stamps start steps n) n) context
fresh_by start steps did n context none filled used =
    let m = (moment start steps n).machine in
    let o : Origin same_did drops_context (context_filled_at start steps) (executed_at start steps) n did context
    (found_stamp (same_did did) m.contexts (context_stamps start steps n) n) =
    origin_of same_did drops_context (context_filled_at start steps) (executed_at start steps) same_did_exact same_did_itself n did context
    m.contexts (context_stamps start steps n) (located m.memory m.registers did) filled used (contexts_stamped start steps none.contexts n) in
    let k = found_stamp (same_did did) m.contexts (context_stamps start steps n) n in
    record {
      origin = o.last;
      located = asked_context (moment start steps k) (request_at start steps k) did context o.source;
      kept = o.kept;
    }

pub fresh_context : (start : State) (steps : List Step) (n : ℕ) (request : Request) (context : Context) → IsUncached start →
    request_at start steps n ≡ Some request →
    (context_look (moment start steps n).machine request.did).used ≡ Ok context →
    (context_look (moment start steps n).machine request.did).filled ≡ (led (moment start steps n).machine request).context →
    IsFreshContext start steps request.did n
    (found_stamp (same_did request.did) (moment start steps n).machine.contexts (context_stamps start steps n) n) context
fresh_context start steps n request context none is used filled =
    let m = (moment start steps n).machine in
    let cached : context_look m request.did ≡ look_of_context m request.did = context_used-cached m request.did context used in
    let asked : (led m request).context ≡ context_filled_at start steps n = sym (ap (context_filled (moment start steps n)) is) in
    fresh_by start steps request.did n context none
    (sym (ap (λ (l : Look ℕ Context Cause). l.filled) cached) ∙ filled ∙ asked)
    (sym (ap (λ (l : Look ℕ Context Cause). l.used) cached) ∙ used)

-- the moments of a walked warrant
unfoldable pub walk_of : State → List Step → ℕ → Key → ℕ
walk_of start steps n key = found_stamp (same_key key) (moment start steps n).machine.pages (page_stamps start steps n) n

unfoldable pub context_of : State → List Step → ℕ → ℕ → ℕ
context_of start steps n did = found_stamp (same_did did) (moment start steps n).machine.contexts (context_stamps start steps n) n

-- the page that a request uses was filled at its origin
page_origin : (start : State) (steps : List Step) (n : ℕ) (request : Request) (context : Context) (hit : Hit) → IsUncached start →
    request_at start steps n ≡ Some request →
    (page_look (moment start steps n).machine.memory (moment start steps n).machine.registers.features (moment start steps n).machine.pages request context).used ≡ Ok hit →
    (page_look (moment start steps n).machine.memory (moment start steps n).machine.registers.features (moment start steps n).machine.pages request context).filled ≡ (led (moment start steps n).machine request).page →
    Origin same_key drops_page (page_filled_at start steps) (executed_at start steps) n (request_key request context) hit
    (walk_of start steps n (request_key request context))
unfolding page_look walk_of
page_origin start steps n request context hit none is used filled =
    let m = (moment start steps n).machine in
    let key = request_key request context in
    origin_of same_key drops_page (page_filled_at start steps) (executed_at start steps) same_key_exact same_key_itself n key hit
    m.pages (page_stamps start steps n) (translation m.memory m.registers.features context request.iova request.kind)
    (filled ∙ sym (ap (page_filled (moment start steps n)) is)) used (pages_stamped start steps none.pages n)

-- the request that filled the key at moment w, and the context that led it
walked_by : (start : State) (steps : List Step) (n w : ℕ) (request : Request) (now : Context) (hit : Hit) → IsUncached start →
    way_at start steps n request ≡ Walked now hit →
    IsFreshContext start steps request.did n (context_of start steps n request.did) now →
    Origin same_key drops_page (page_filled_at start steps) (executed_at start steps) n (request_key request now) hit w →
    PageFill (moment start steps w) (request_at start steps w) (request_key request now) hit →
    IsWalked start steps n request (context_of start steps w request.did) w (context_of start steps n request.did)
unfolding context_of
walked_by start steps n w request now hit none used current o fill =
    let asking = fill.request in
    let old = fill.page.context in
    let same : request_key request now ≡ request_key asking old = fill.page.own in
    let did : request.did ≡ asking.did = same_did_in now old request.did asking.did request.iova asking.iova request.kind asking.kind same in
    let page : request.iova / 4096 ≡ asking.iova / 4096 = same_page_in now old request.did asking.did request.iova asking.iova request.kind asking.kind same in
    let kind : request.kind ≡ asking.kind = same_kind_in now old request.did asking.did request.iova asking.iova request.kind asking.kind same in
    let key : request_key request now ≡ request_key request old =
    same ∙ sym (key_of_page old request.did asking.did request.iova asking.iova request.kind asking.kind did page kind) in
    let memory = (moment start steps w).machine.memory in
    let features = (moment start steps w).machine.registers.features in
    let told : translation memory features old asking.iova request.kind ≡ Ok hit =
    subst (λ (k : Kind). translation memory features old asking.iova k ≡ Ok hit) (sym kind) fill.page.translated in
    let context = fresh_context start steps w asking old none fill.is fill.page.used fill.page.filled in
    record {
      old = old;
      now = now;
      hit = hit;
      used = used;
      old_context = subst (λ (d : ℕ). IsFreshContext start steps d w (found_stamp (same_did d) (moment start steps w).machine.contexts (context_stamps start steps w) w) old) (sym did) context;
      now_context = current;
      same_key = key;
      page = record {
        origin = subst (λ (k : Key). IsLast (λ j. fills same_key k (page_filled_at start steps j)) n w) key o.last;
        translated = one_hit memory features old asking.iova request.iova request.kind hit (sym page) told;
        kept = subst (λ (k : Key). (j : ℕ) → w ≤ j → j < n → drops_at drops_page (executed_at start steps j) k hit ≡ false) key o.kept;
      };
    }

pub walked : (start : State) (steps : List Step) (n : ℕ) (request : Request) (now : Context) (hit : Hit) → IsUncached start →
    request_at start steps n ≡ Some request →
    (context_look (moment start steps n).machine request.did).used ≡ Ok now →
    (page_look (moment start steps n).machine.memory (moment start steps n).machine.registers.features (moment start steps n).machine.pages request now).used ≡ Ok hit →
    led (moment start steps n).machine request ≡ record {
      way = Walked now hit;
      by = Some now;
      context = (context_look (moment start steps n).machine request.did).filled;
      page = (page_look (moment start steps n).machine.memory (moment start steps n).machine.registers.features (moment start steps n).machine.pages request now).filled;
    } →
    IsWalked start steps n request
    (context_of start steps (walk_of start steps n (request_key request now)) request.did)
    (walk_of start steps n (request_key request now)) (context_of start steps n request.did)
unfolding context_of
walked start steps n request now hit none is used page e =
    let w = walk_of start steps n (request_key request now) in
    let o = page_origin start steps n request now hit none is page (sym (ap (λ (l : Led). l.page) e)) in
    walked_by start steps n w request now hit none (ap (λ (l : Led). l.way) e)
    (fresh_context start steps n request now none is used (sym (ap (λ (l : Led). l.context) e))) o
    (asked_page (moment start steps w) (request_at start steps w) (request_key request now) hit o.source)
