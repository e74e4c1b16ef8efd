-- Which step filled a place of a cache.
use Rattle.std.proofs.Common.{◌≡◌, ℕ, List, Option, Some, None, sym, subst}
use Rattle.std.specs.Prelude.{IsSomeAnd, slice_get}
use Rattle.iom_ddt.specs.declared.context.Context.{Context}
use Rattle.iom_nested.specs.declared.translation.Hit.{Hit}
use Rattle.iom_cache.specs.declared.key.Key.{Key}
use Rattle.iom_core.specs.State.{State}
use Rattle.iom_core.specs.declared.step.Step.{Step}
use Rattle.iom_account.specs.Following.{ContextFrom, Follows, HistoryView, PageFrom, numbers_of}
use Rattle.iom_account.specs.declared.history.FilledBy.{FilledBy}
use Rattle.iom_account.proofs.Placed.{context_at_place, page_at_place}
use Rattle.iom_c.specs.Why.{OriginTold, PageOriginTold}

by_origin : (Is : ℕ → Type 0) (found : Option ℕ) (answer old new : ℕ) → OriginTold found answer old new → IsSomeAnd found Is → Is new
by_origin Is (Some number) answer old new told is = subst Is (sym told.1) is
by_origin Is None answer old new told is = absurd is

-- what is answered of a place of the context cache
pub context_told : (history : HistoryView) (platform : State) (i answer old new : ℕ) → OriginTold (slice_get history.contexts i) answer old new →
    (start : State) (steps : List Step) (numbers : List ℕ) (did : ℕ) (context : Context) → Follows history platform start steps numbers →
    slice_get platform.machine.contexts i ≡ Some (Some (did, context)) → ContextFrom start steps numbers did context new
context_told history platform i answer old new told start steps numbers did context h at =
    by_origin (ContextFrom start steps numbers did context) (slice_get history.contexts i) answer old new told
    (context_at_place history platform start steps numbers h i did context at)

by_page_origin : (Is : ℕ → ℕ → Type 0) (found : Option FilledBy) (answer old new old_walk new_walk : ℕ) →
    PageOriginTold found answer old new old_walk new_walk → IsSomeAnd found (λ filled. Is filled.context filled.walk) → Is new new_walk
by_page_origin Is (Some filled) answer old new old_walk new_walk told is =
    subst (λ (n : ℕ). Is n new_walk) (sym told.1) (subst (Is filled.context) (sym told.2) is)
by_page_origin Is None answer old new old_walk new_walk told is = absurd is

-- what is answered of a place of the translation cache
pub page_told : (history : HistoryView) (platform : State) (i answer old new old_walk new_walk : ℕ) →
    PageOriginTold (numbers_of (slice_get history.walk_contexts i) (slice_get history.walks i)) answer old new old_walk new_walk →
    (start : State) (steps : List Step) (numbers : List ℕ) (key : Key) (hit : Hit) → Follows history platform start steps numbers →
    slice_get platform.machine.pages i ≡ Some (Some (key, hit)) → PageFrom start steps numbers key hit new new_walk
page_told history platform i answer old new old_walk new_walk told start steps numbers key hit h at =
    by_page_origin (PageFrom start steps numbers key hit) (numbers_of (slice_get history.walk_contexts i) (slice_get history.walks i))
    answer old new old_walk new_walk told
    (page_at_place history platform start steps numbers h i key hit at)
