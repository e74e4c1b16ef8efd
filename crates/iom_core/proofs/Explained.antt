-- Every step is explained, and what explains it lies behind each full invalidation that is complete.
use Rattle.std.proofs.Common.{◌≡◌, ◌≤◌, ◌<◌, ◌+◌, ◌∙◌, ℕ, suc, List, Bool, true, false, Option, Some, None, refl, sym, ap, subst, inl, inr, arith}
use Rattle.std.specs.Prelude.{slice_get}
use Rattle.std.proofs.lemmas.Bool.{cases_lt}
use Rattle.iom_ddt.specs.declared.context.Context.{Context}
use Rattle.iom_nested.specs.declared.translation.Hit.{Hit}
use Rattle.iom_queue.specs.declared.command.Command.{Command}
use Rattle.iom_queue.specs.declared.command.Command.TheVariants.{Vma, Gvma, Fence, Iodir}
use Rattle.iom_cache.specs.Drops.{drops_page, drops_device, drops_context}
use Rattle.iom_cache.specs.Keys.{gscid_of, key_of}
use Rattle.iom_cache.specs.Origins.{drops_at}
use Rattle.iom_cache.specs.declared.key.Key.{Key}
use Rattle.iom_core.specs.State.{State}
use Rattle.iom_core.specs.Access.{Led, request_key}
use Rattle.iom_core.specs.declared.way.Way.{Way}
use Rattle.iom_core.specs.declared.access.Request.{Request}
use Rattle.iom_core.specs.Warrants.{Explains, HasNone, IsAfter, IsDenied, IsExplained, IsFreshContext, IsFullInvalidation, IsUncached, IsUpToDate, IsWalkAfter, IsWalked, IsWarrant, executed_at, guest_on, is_gvma_of_all, is_iodir_of_all, is_vma_of_all, request_at, way_at, moment}
use Rattle.iom_core.specs.declared.step.Step.{Step}
use Rattle.iom_core.specs.declared.warrant.Warrant.{Warrant}
use Rattle.iom_core.specs.declared.warrant.Warrant.TheVariants as warrant
use Rattle.iom_core.specs.Reach.{Reaches}
use Rattle.iom_core.specs.Table.{next}
use Rattle.iom_core.proofs.Moments.{moment-suc, next_by}
use Rattle.iom_core.proofs.Interrupted.{reaches}
use Rattle.iom_core.proofs.Fresh.{context_of, fresh_context, walk_of, walked}
use Rattle.iom_core.proofs.Ways.{WasOff, WasByRegister, WasNowhere, WasByContext, WasWalked, WasFault, how_led}

denied : (start : State) (steps : List Step) (n : ℕ) (request : Request) (way : Way) → request_at start steps n ≡ Some request →
    way_at start steps n request ≡ way → IsDenied way → Explains start steps n None
denied start steps n request way is used d =
    subst (HasNone start steps n) (sym is) (subst IsDenied (sym used) d)

pub explained : (start : State) (steps : List Step) → IsUncached start → (n : ℕ) → IsExplained start steps n
unfolding context_of
explained start steps none n =
    let m = (moment start steps n).machine in
    let way : Led → Way = λ l. l.way in
    let Goal : Option Request → Type 0 = λ o. request_at start steps n ≡ o → IsExplained start steps n in
    let by_request : (o : Option Request) → Goal o = λ o. elim o as Goal [
      | None ↦ λ is. (None, subst (HasNone start steps n) (sym is) tt)
      | Some request ↦ λ is. elim (how_led m request) [
        | WasOff e ↦ (None, denied start steps n request _ is (ap way e) tt)
        | WasByRegister bare e ↦ (Some warrant.Register, (request, is, record { used = ap way e; mode = bare }))
        | WasNowhere why used e ↦ (None, denied start steps n request _ is (ap way e) tt)
        | WasByContext context used bare e ↦ (
          Some (warrant.Context (context_of start steps n request.did)),
          (
            request,
            is,
            record {
              context = context;
              used = ap way e;
              bare = bare;
              fresh = fresh_context start steps n request context none is used (sym (ap (λ (l : Led). l.context) e));
            },
          ),
        )
        | WasWalked now hit used bare page e ↦ (
          Some (warrant.Walked
              (context_of start steps (walk_of start steps n (request_key request now)) request.did)
              (walk_of start steps n (request_key request now)) (context_of start steps n request.did)),
          (request, is, walked start steps n request now hit none is used page e),
        )
        | WasFault now fault used bare page e ↦ (None, denied start steps n request _ is (ap way e) tt)
      ]
    ] in by_request (request_at start steps n) refl

-- what is kept from k to n, and was not kept at i below n, is younger than i
after_broken : (P : ℕ → Bool) (k n i : ℕ) → ((j : ℕ) → k ≤ j → j < n → P j ≡ false) → i < n → P i ≡ true → i < k
after_broken P k n i kept below broken = elim (cases_lt i k) [
  | inl lt ↦ lt
  | inr ge ↦ let e : P i ≡ false = kept i ge below in absurd (cc)
]

-- what the commands of a full invalidation drop
iodir_drops : (command : Option Command) (did : ℕ) (context : Context) → is_iodir_of_all command ≡ true →
    drops_at drops_context command did context ≡ true
unfolding drops_device
iodir_drops None did context e = absurd (cc)
iodir_drops (Some (Vma av page pscv pscid gv gscid nl s)) did context e = absurd (cc)
iodir_drops (Some (Gvma av page pscid gv gscid nl s)) did context e = absurd (cc)
iodir_drops (Some (Fence av wsi pr pw value addr)) did context e = absurd (cc)
iodir_drops (Some (Iodir true own)) did context e = absurd (cc)
iodir_drops (Some (Iodir false own)) did context e = refl

vma_drops : (command : Option Command) (key : Key) (hit : Hit) → is_vma_of_all command ≡ true → key.gscid ≡ None →
    drops_at drops_page command key hit ≡ true
unfolding drops_page
vma_drops None key hit e none = absurd (cc)
vma_drops (Some (Vma true page pscv pscid gv gscid nl s)) key hit e none = absurd (cc)
vma_drops (Some (Vma false page true pscid gv gscid nl s)) key hit e none = absurd (cc)
vma_drops (Some (Vma false page false pscid true gscid nl s)) key hit e none = absurd (cc)
vma_drops (Some (Vma false page false pscid false gscid nl s)) key hit e none = rw none refl
vma_drops (Some (Gvma av page pscid gv gscid nl s)) key hit e none = absurd (cc)
vma_drops (Some (Fence av wsi pr pw value addr)) key hit e none = absurd (cc)
vma_drops (Some (Iodir dv did)) key hit e none = absurd (cc)

gvma_drops : (command : Option Command) (key : Key) (hit : Hit) (guest : ℕ) → is_gvma_of_all command ≡ true → key.gscid ≡ Some guest →
    drops_at drops_page command key hit ≡ true
unfolding drops_page
gvma_drops None key hit guest e some = absurd (cc)
gvma_drops (Some (Vma av page pscv pscid gv gscid nl s)) key hit guest e some = absurd (cc)
gvma_drops (Some (Gvma true page pscid gv gscid nl s)) key hit guest e some = absurd (cc)
gvma_drops (Some (Gvma false page pscid true gscid nl s)) key hit guest e some = absurd (cc)
gvma_drops (Some (Gvma false page pscid false gscid nl s)) key hit guest e some = rw some refl
gvma_drops (Some (Fence av wsi pr pw value addr)) key hit guest e some = absurd (cc)
gvma_drops (Some (Iodir dv did)) key hit guest e some = absurd (cc)

-- a context that is fresh up to n is younger than an IODIR below n that drops all
context_after : (start : State) (steps : List Step) (did n k i : ℕ) (context : Context) → is_iodir_of_all (executed_at start steps i) ≡ true →
    i < n → IsFreshContext start steps did n k context → i < k
context_after start steps did n k i context all below h =
    after_broken (λ j. drops_at drops_context (executed_at start steps j) did context) k n i h.kept below
    (iodir_drops (executed_at start steps i) did context all)

module _ (start : State) (steps : List Step) (i v g n : ℕ) (full : IsFullInvalidation start steps i v g n) (request : Request) where
  walk_after : (c w c' : ℕ) (h : IsWalked start steps n request c w c') → IsWalkAfter v g w (gscid_of h.now)
  unfolding key_of
  walk_after c w c' h =
      let key = request_key request h.old in
      let guest : key.gscid ≡ gscid_of h.now = ap (λ (k : Key). k.gscid) (sym h.same_key) in
      let Goal : Option ℕ → Type 0 = λ o. key.gscid ≡ o → IsWalkAfter v g w o in
      let by_guest : (o : Option ℕ) → Goal o = λ o. elim o as Goal [
        | None ↦ λ none. after_broken (λ j. drops_at drops_page (executed_at start steps j) key h.hit) w n v h.page.kept full.host_complete
            (vma_drops (executed_at start steps v) key h.hit full.host none)
        | Some own ↦ λ some. after_broken (λ j. drops_at drops_page (executed_at start steps j) key h.hit) w n g h.page.kept full.guests_complete
            (gvma_drops (executed_at start steps g) key h.hit own full.guests some)
      ] in subst (IsWalkAfter v g w) guest (by_guest key.gscid refl)

  walk_young : (w : ℕ) (guest : Option ℕ) → IsWalkAfter v g w guest → i < w
  walk_young w None after = let before = full.host_after in omega arith
  walk_young w (Some own) after = let before = full.guests_after in omega arith

  pub up_to_date : (found : Warrant) → IsWarrant start steps n request found → IsAfter i v g (way_at start steps n request) found
  up_to_date warrant.Register h = tt
  up_to_date (warrant.Context c) h =
      let below : i < n = let before = full.host_after in let complete = full.host_complete in omega arith in
      context_after start steps request.did n c i h.context full.contexts below h.fresh
  up_to_date (warrant.Walked c w c') h =
      let below : i < n = let before = full.host_after in let complete = full.host_complete in omega arith in
      let after = walk_after c w c' h in
      let young : i < w = walk_young w (gscid_of h.now) after in (
        context_after start steps request.did w c i h.old full.contexts young h.old_context,
        young,
        context_after start steps request.did n c' i h.now full.contexts below h.now_context,
        subst (λ (way : Way). IsWalkAfter v g w (guest_on way)) (sym h.used) after,
      )

pub up_to_date_with : (start : State) (steps : List Step) (n : ℕ) (request : Request) (found : Warrant) → IsWarrant start steps n request found →
    IsUpToDate start steps n request found
up_to_date_with start steps n request found has i v g full = up_to_date start steps i v g n full request found has

pub run_reaches : (start : State) (steps : List Step) (n : ℕ) (taken : Step) → slice_get steps n ≡ Some taken →
    Reaches (moment start steps n) taken (next (moment start steps n) taken).answer (moment start steps (n + 1))
run_reaches start steps n taken is =
    let state = moment start steps n in
    let one : suc n ≡ n + 1 = omega arith in
    let after : (next state taken).state ≡ moment start steps (n + 1) =
    sym (ap (next_by state) is) ∙ sym (moment-suc start steps n) ∙ ap (moment start steps) one in
    subst (λ (new : State). Reaches state taken (next state taken).answer new) after (reaches state taken)
