-- Which step filled a live place, by the number beside it, and what the tables said at that step.
use Rattle.std.proofs.Common.{◌≡◌, ◌∙◌, ◌<◌, ◌≤◌, ℕ, zero, suc, List, [], ◌∷◌, length, false, Option, Some, None, Ok, refl, sym, ap, subst, inl, inr, arith}
use Rattle.std.specs.Prelude.{IsSomeAnd, slice_get}
use Rattle.std.specs.Option.{option_and_then}
use Rattle.std.proofs.lemmas.Bool.{cases_lt}
use Rattle.std.proofs.lemmas.Option.{slice_get_past}
use Rattle.iom_ddt.specs.Directory.{located}
use Rattle.iom_ddt.specs.declared.context.Context.{Context}
use Rattle.iom_nested.specs.declared.translation.Hit.{Hit}
use Rattle.iom_cache.specs.Drops.{drops_context, drops_page}
use Rattle.iom_cache.specs.Keys.{same_did, same_key}
use Rattle.iom_cache.specs.Origins.{IsLast, drops_at, fills}
use Rattle.iom_cache.specs.declared.key.Key.{Key}
use Rattle.iom_cache.proofs.Origins.{IsLast-unique}
use Rattle.iom_cache.proofs.Same.{same_did_itself, same_key_itself}
use Rattle.iom_cache.proofs.Since.{Since}
use Rattle.iom_cache.proofs.Stamped.{Stamped}
use Rattle.iom_core.specs.Access.{request_key}
use Rattle.iom_core.specs.State.{State}
use Rattle.iom_core.specs.Table.{request_of_step}
use Rattle.iom_core.specs.Warrants.{IsFreshContext, IsUncached, context_filled, context_filled_at, executed_at, fills_context, fills_page, moment, page_filled, page_filled_at, request_at}
use Rattle.iom_core.specs.declared.access.Request.{Request}
use Rattle.iom_core.specs.declared.step.Step.{Step}
use Rattle.iom_core.proofs.Fresh.{fresh_context}
use Rattle.iom_core.proofs.Ways.{filled_context}
use Rattle.iom_account.specs.Following.{ContextFrom, Follows, HistoryView, PageFrom, base_at, number_of, numbers_of}
use Rattle.iom_account.proofs.Noted.{Noted}
use Rattle.iom_account.proofs.Runs.{moment_all}
use Rattle.iom_account.proofs.Told.{base_told, contexts_noted, device_of, filler, walks_noted}

-- what stands beside place i, and is said of it
record BesidePlace {K V : Type 0} (P : K × V → ℕ → Type 0) (ss : List ℕ) (i : ℕ) (p : K × V) : Type 0 where
  note : ℕ
  is : slice_get ss i ≡ Some note
  says : P p note

beside_place : {K V : Type 0} → (P : K × V → ℕ → Type 0) (ps : List (Option (K × V))) (ss : List ℕ) (i : ℕ) (p : K × V) → Stamped P ps ss →
    slice_get ps i ≡ Some (Some p) → BesidePlace P ss i p
beside_place P [] ss i p h e = absurd (cc)
beside_place P (q ∷ ps) [] i p h e = absurd h
beside_place P (None ∷ ps) (s ∷ ss) zero p h e = absurd (cc)
beside_place P (None ∷ ps) (s ∷ ss) (suc i) p h e = let b = beside_place P ps ss i p h e in record { note = b.note; is = b.is; says = b.says }
beside_place {K} {V} P (Some q ∷ ps) (s ∷ ss) zero p h e =
    let same : q ≡ p = cc in record { note = s; is = refl; says = subst (λ (r : K × V). P r s) same h.0 }
beside_place P (Some q ∷ ps) (s ∷ ss) (suc i) p h e = let b = beside_place P ps ss i p h.1 e in record { note = b.note; is = b.is; says = b.says }

-- what a step filled, the directory had
located_then : (state : State) (asked : Option Request) (did : ℕ) (context : Context) → context_filled state asked ≡ Some (did, context) →
    located state.machine.memory state.machine.registers did ≡ Ok context
located_then state None did context filled = absurd (cc)
located_then state (Some request) did context filled = (filled_context state.machine request did context filled).located

module _ (start : State) (steps : List Step) (numbers : List ℕ) (none : IsUncached start) where
  abbrev n : ℕ
  n = length steps

  -- behind the last step nothing is asked
  nothing_asked : request_at start steps n ≡ None
  nothing_asked = ap (option_and_then (request_of_step (moment start steps n))) (slice_get_past steps n (omega arith))

  last_context : (did : ℕ) (context : Context) (k : ℕ) → Since same_did drops_context (context_filled_at start steps) (executed_at start steps) n (did, context) k →
      IsLast (fills_context start steps did) n k
  last_context did context k since = record {
    within = let before = since.before in omega arith;
    passes = ap (fills same_did did) since.source ∙ same_did_itself did;
    none_later = λ j low high. elim (cases_lt j n) [
      | inl lt ↦ since.latest j low lt
      | inr ge ↦ let is : n ≡ j = omega arith in
          subst (λ (j : ℕ). fills same_did did (context_filled_at start steps j) ≡ false) is
          (ap (λ (asked : Option Request). fills same_did did (context_filled (moment start steps n) asked)) nothing_asked)
    ];
  }

  last_page : (key : Key) (hit : Hit) (k : ℕ) → Since same_key drops_page (page_filled_at start steps) (executed_at start steps) n (key, hit) k →
      IsLast (fills_page start steps key) n k
  last_page key hit k since = record {
    within = let before = since.before in omega arith;
    passes = ap (fills same_key key) since.source ∙ same_key_itself key;
    none_later = λ j low high. elim (cases_lt j n) [
      | inl lt ↦ since.latest j low lt
      | inr ge ↦ let is : n ≡ j = omega arith in
          subst (λ (j : ℕ). fills same_key key (page_filled_at start steps j) ≡ false) is
          (ap (λ (asked : Option Request). fills same_key key (page_filled (moment start steps n) asked)) nothing_asked)
    ];
  }

  context_filled_by : (did : ℕ) (context : Context) (number : ℕ) →
      Noted same_did drops_context (context_filled_at start steps) (executed_at start steps) (number_of numbers) n (did, context) number →
      ContextFrom start steps numbers did context number
  context_filled_by did context number h = record {
    k = h.c;
    fresh = record {
      origin = last_context did context h.c h.since;
      located = located_then (moment start steps h.c) (request_at start steps h.c) did context h.since.source;
      kept = h.since.kept;
    };
    told = h.told;
  }

  page_filled_by : (key : Key) (hit : Hit) (walk base : ℕ) →
      Noted same_key drops_page (page_filled_at start steps) (executed_at start steps) (number_of numbers) n (key, hit) walk →
      Noted same_key drops_page (page_filled_at start steps) (executed_at start steps) (base_at start steps numbers) n (key, hit) base →
      PageFrom start steps numbers key hit base walk
  page_filled_by key hit walk base h b =
      let w = h.c in
      let last = last_page key hit w h.since in
      let same : b.c ≡ w = IsLast-unique (fills_page start steps key) n b.c w (last_page key hit b.c b.since) last in
      let f = filler (moment start steps w) (request_at start steps w) key hit h.since.source in
      let request = f.request in
      let old = f.page.context in
      let own : key ≡ request_key request old = f.page.own in
      let did : key.did ≡ request.did = ap (λ (k : Key). k.did) own ∙ device_of request old in
      let t = base_told start steps numbers none w key hit h.since.source in
      let context = fresh_context start steps w request old none f.is f.page.used f.page.filled in
      let base_last : IsLast (fills_context start steps request.did) w t.c =
      subst (λ (d : ℕ). IsLast (fills_context start steps d) w t.c) did t.last in
      let one = IsLast-unique (fills_context start steps request.did) w _ t.c context.origin base_last in
      record {
        c = t.c;
        w = w;
        request = request;
        context = old;
        own = own;
        fresh = record {
          origin = subst (λ (k : Key). IsLast (fills_page start steps k) n w) own last;
          translated = f.page.translated;
          kept = subst (λ (k : Key). (j : ℕ) → w ≤ j → j < n → drops_at drops_page (executed_at start steps j) k hit ≡ false) own h.since.kept;
        };
        under = subst (λ (k : ℕ). IsFreshContext start steps request.did w k old) one context;
        base_told = b.told ∙ ap (base_at start steps numbers) same ∙ t.told;
        walk_told = h.told;
      }

module _ (history : HistoryView) (platform start : State) (steps : List Step) (numbers : List ℕ) (h : Follows history platform start steps numbers) where
  here : moment start steps (length steps) ≡ platform
  here = moment_all start steps ∙ sym h.reached

  pub context_at_place : (i did : ℕ) (context : Context) → slice_get platform.machine.contexts i ≡ Some (Some (did, context)) →
      IsSomeAnd (slice_get history.contexts i) (ContextFrom start steps numbers did context)
  context_at_place i did context is =
      let n = length steps in
      let b = beside_place _ (moment start steps n).machine.contexts _ i (did, context) (contexts_noted start steps numbers h.uncached n)
      (ap (λ (s : State). slice_get s.machine.contexts i) here ∙ is) in
      let there : slice_get history.contexts i ≡ Some b.note = ap (λ (ns : List ℕ). slice_get ns i) h.contexts ∙ b.is in
      subst (λ (o : Option ℕ). IsSomeAnd o (ContextFrom start steps numbers did context)) (sym there)
      (context_filled_by start steps numbers h.uncached did context b.note b.says)

  pub page_at_place : (i : ℕ) (key : Key) (hit : Hit) → slice_get platform.machine.pages i ≡ Some (Some (key, hit)) →
      IsSomeAnd (numbers_of (slice_get history.walk_contexts i) (slice_get history.walks i))
      (λ filled. PageFrom start steps numbers key hit filled.context filled.walk)
  page_at_place i key hit is =
      let n = length steps in
      let at = ap (λ (s : State). slice_get s.machine.pages i) here ∙ is in
      let w = beside_place _ (moment start steps n).machine.pages _ i (key, hit) (walks_noted start steps numbers h.uncached (number_of numbers) n) at in
      let b = beside_place _ (moment start steps n).machine.pages _ i (key, hit) (walks_noted start steps numbers h.uncached (base_at start steps numbers) n) at in
      let walk_there : slice_get history.walks i ≡ Some w.note = ap (λ (ns : List ℕ). slice_get ns i) h.walks ∙ w.is in
      let base_there : slice_get history.walk_contexts i ≡ Some b.note = ap (λ (ns : List ℕ). slice_get ns i) h.walk_contexts ∙ b.is in
      let Told : Option ℕ → Option ℕ → Type 0 = λ base walk. IsSomeAnd (numbers_of base walk) (λ filled. PageFrom start steps numbers key hit filled.context filled.walk) in
      subst (λ (o : Option ℕ). Told o (slice_get history.walks i)) (sym base_there)
      (subst (λ (o : Option ℕ). Told (Some b.note) o) (sym walk_there)
      (page_filled_by start steps numbers h.uncached key hit w.note b.note w.says b.says))
