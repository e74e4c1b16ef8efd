-- What others write among the steps of a history changes nothing in it.
use Rattle.std.proofs.Common.{◌≡◌, ◌∙◌, ◌++◌, ◌+◌, ℕ, zero, suc, Bool, true, false, List, [], ◌∷◌, length, replicate, take, Option, Some, None, append_assoc, append-nil, refl, sym, ap, subst, arith}
use Rattle.std.specs.Prelude.{slice_get}
use Rattle.std.specs.Option.{option_and_then, option_map}
use Rattle.std.proofs.lemmas.List.{length-append}
use Rattle.iom_mem.specs.Memory.{Memory}
use Rattle.iom_cache.specs.Keys.{same_did, same_key}
use Rattle.iom_cache.specs.Origins.{fills}
use Rattle.iom_ddt.specs.declared.context.Context.{Context}
use Rattle.iom_nested.specs.declared.translation.Hit.{Hit}
use Rattle.iom_cache.specs.declared.key.Key.{Key}
use Rattle.iom_core.specs.Looking.{nothing_seen, noticed}
use Rattle.iom_core.specs.Others.{AreWritten, IsWritten, Wrote, end_after, place_of, steps_of, stores_of}
use Rattle.iom_core.specs.Run.{end_of}
use Rattle.iom_core.specs.State.{State}
use Rattle.iom_core.specs.Table.{asked, next, request_of_step, told_by_step, with_memory}
use Rattle.iom_core.specs.Warrants.{Explains, IsUncached, context_filled, fills_context, fills_page, moment, page_filled}
use Rattle.iom_core.specs.declared.access.Request.{Request}
use Rattle.iom_core.specs.declared.step.Step.{Step}
use Rattle.iom_core.specs.declared.step.Step.TheVariants as step
use Rattle.iom_core.specs.declared.warrant.Warrant.{Warrant}
use Rattle.iom_core.specs.declared.warrant.Warrant.TheVariants as warrant
use Rattle.iom_core.proofs.Stores.{played, warranted_among}
use Rattle.iom_account.specs.Following.{ComesFrom, ContextFrom, Follows, HistoryView, PageFrom, noted, number_of, numbered_warrant}
use Rattle.iom_account.specs.Others.{AreNamed, ComesFromPassed, Counted, Event, FollowsAmong, IsNamed, Written, happenings_of, numbers_among, passed, steps_among}
use Rattle.iom_account.specs.declared.origin.NumberedWarrant.{NumberedWarrant}
use Rattle.iom_account.proofs.Stepped.{follows_step}

-- a store of a hart makes no access
store_unseen : (state : State) (addr size value : ℕ) → nothing_seen ≡ told_by_step noticed nothing_seen state.machine (asked state (step.Store addr size value))
unfolding asked
store_unseen state addr size value = refl

store_unnoted : (state after : State) (addr size value number : ℕ) (history : HistoryView) →
    history ≡ noted state after (request_of_step state (step.Store addr size value)) number history
unfolding asked
store_unnoted state after addr size value number history = refl

store_unasked : (state : State) (addr size value : ℕ) → request_of_step state (step.Store addr size value) ≡ None
unfolding asked
store_unasked state addr size value = refl

-- a history goes along with stores of others
stores_followed : (history : HistoryView) (platform start : State) (steps : List Step) (numbers : List ℕ) (addr : ℕ) (bytes : List ℕ) →
    Follows history platform start steps numbers →
    Follows history (end_of platform (stores_of addr bytes)) start (steps ++ stores_of addr bytes) (numbers ++ replicate (length (stores_of addr bytes)) 0)
stores_followed history platform start steps numbers addr [] h =
    subst (λ (l : List Step). Follows history platform start l (numbers ++ [])) (sym (append-nil steps))
    (subst (λ (l : List ℕ). Follows history platform start steps l) (sym (append-nil numbers)) h)
stores_followed history platform start steps numbers addr (byte ∷ bytes) h =
    let first : Step = step.Store addr 1 byte in
    let rest : List Step = stores_of (addr + 1) bytes in
    let after : State = (next platform first).state in
    let one : Follows history after start (steps ++ first ∷ []) (numbers ++ 0 ∷ []) =
    follows_step history history platform after first nothing_seen 0 refl (store_unseen platform addr 1 byte) (store_unnoted platform after addr 1 byte 0 history)
    start steps numbers h in
    subst (λ (l : List Step). Follows history (end_of after rest) start l (numbers ++ replicate (length (first ∷ rest)) 0)) (append_assoc steps (first ∷ []) rest)
    (subst (λ (l : List ℕ). Follows history (end_of after rest) start ((steps ++ first ∷ []) ++ rest) l) (append_assoc numbers (0 ∷ []) (replicate (length rest) 0))
    (stores_followed history after start (steps ++ first ∷ []) (numbers ++ 0 ∷ []) (addr + 1) bytes one))

-- a history goes along with memory that others wrote, as with a store of each of its bytes
writing_followed : (history : HistoryView) (platform start : State) (steps : List Step) (numbers : List ℕ) (memory : Memory) →
    Follows history platform start steps numbers → IsWritten platform.machine.memory memory →
    Follows history (with_memory platform memory) start (steps ++ stores_of memory.base memory.bytes)
    (numbers ++ replicate (length (stores_of memory.base memory.bytes)) 0)
writing_followed history platform start steps numbers memory h w =
    let stores : List Step = stores_of memory.base memory.bytes in
    let all : end_of platform stores ≡ with_memory platform memory =
    sym (played platform (Wrote memory ∷ []) (w, tt) ∙ ap (end_of platform) (append-nil stores)) in
    subst (λ (s : State). Follows history s start (steps ++ stores) (numbers ++ replicate (length stores) 0)) all
    (stores_followed history platform start steps numbers memory.base memory.bytes h)

-- the steps that stand for events, with one event more
steps_counted : (events : List Event) (taken : Step) (number : ℕ) →
    steps_among (events ++ Counted taken number ∷ []) ≡ steps_among events ++ taken ∷ []
steps_counted [] taken number = refl
steps_counted (Counted own count ∷ more) taken number = ap (λ (l : List Step). own ∷ l) (steps_counted more taken number)
steps_counted (Written memory ∷ more) taken number =
    let stores : List Step = stores_of memory.base memory.bytes in
    ap (λ (l : List Step). stores ++ l) (steps_counted more taken number) ∙ sym (append_assoc stores (steps_among more) (taken ∷ []))

numbers_counted : (events : List Event) (taken : Step) (number : ℕ) →
    numbers_among (events ++ Counted taken number ∷ []) ≡ numbers_among events ++ number ∷ []
numbers_counted [] taken number = refl
numbers_counted (Counted own count ∷ more) taken number = ap (λ (l : List ℕ). count ∷ l) (numbers_counted more taken number)
numbers_counted (Written memory ∷ more) taken number =
    let none : List ℕ = replicate (length (stores_of memory.base memory.bytes)) 0 in
    ap (λ (l : List ℕ). none ++ l) (numbers_counted more taken number) ∙ sym (append_assoc none (numbers_among more) (number ∷ []))

steps_written : (events : List Event) (memory : Memory) →
    steps_among (events ++ Written memory ∷ []) ≡ steps_among events ++ stores_of memory.base memory.bytes
steps_written [] memory = append-nil (stores_of memory.base memory.bytes)
steps_written (Counted own count ∷ more) memory = ap (λ (l : List Step). own ∷ l) (steps_written more memory)
steps_written (Written old ∷ more) memory =
    let stores : List Step = stores_of old.base old.bytes in
    ap (λ (l : List Step). stores ++ l) (steps_written more memory)
    ∙ sym (append_assoc stores (steps_among more) (stores_of memory.base memory.bytes))

numbers_written : (events : List Event) (memory : Memory) →
    numbers_among (events ++ Written memory ∷ []) ≡ numbers_among events ++ replicate (length (stores_of memory.base memory.bytes)) 0
numbers_written [] memory = append-nil (replicate (length (stores_of memory.base memory.bytes)) 0)
numbers_written (Counted own count ∷ more) memory = ap (λ (l : List ℕ). count ∷ l) (numbers_written more memory)
numbers_written (Written old ∷ more) memory =
    let none : List ℕ = replicate (length (stores_of old.base old.bytes)) 0 in
    ap (λ (l : List ℕ). none ++ l) (numbers_written more memory)
    ∙ sym (append_assoc none (numbers_among more) (replicate (length (stores_of memory.base memory.bytes)) 0))

-- what others wrote, with one event more
pub written_counted : (start : State) (events : List Event) (taken : Step) (number : ℕ) → AreWritten start (happenings_of events) →
    AreWritten start (happenings_of (events ++ Counted taken number ∷ []))
written_counted start [] taken number w = tt
written_counted start (Counted own count ∷ more) taken number w = written_counted (next start own).state more taken number w
written_counted start (Written memory ∷ more) taken number w = (w.0, written_counted (with_memory start memory) more taken number w.1)

pub written_more : (start : State) (events : List Event) (memory : Memory) → AreWritten start (happenings_of events) →
    IsWritten (end_after start (happenings_of events)).machine.memory memory → AreWritten start (happenings_of (events ++ Written memory ∷ []))
written_more start [] memory w now = (now, tt)
written_more start (Counted own count ∷ more) memory w now = written_more (next start own).state more memory w now
written_more start (Written old ∷ more) memory w now = (w.0, written_more (with_memory start old) more memory w.1 now)

pub among_counted : (history after : HistoryView) (platform left start : State) (events : List Event) (taken : Step) (number : ℕ) →
    FollowsAmong history platform start events →
    Follows after left start (steps_among events ++ taken ∷ []) (numbers_among events ++ number ∷ []) →
    FollowsAmong after left start (events ++ Counted taken number ∷ [])
among_counted history after platform left start events taken number h more = record {
  written = written_counted start events taken number h.written;
  follows = subst (λ (l : List Step). Follows after left start l (numbers_among (events ++ Counted taken number ∷ []))) (sym (steps_counted events taken number))
      (subst (λ (l : List ℕ). Follows after left start (steps_among events ++ taken ∷ []) l) (sym (numbers_counted events taken number)) more);
}

pub among_written : (history : HistoryView) (platform start : State) (events : List Event) (memory : Memory) →
    FollowsAmong history platform start events → IsWritten platform.machine.memory memory →
    FollowsAmong history (with_memory platform memory) start (events ++ Written memory ∷ [])
among_written history platform start events memory h w =
    let now : platform ≡ end_after start (happenings_of events) =
    h.follows.reached ∙ sym (played start (happenings_of events) h.written) in
    let all : State = with_memory platform memory in
    record {
      written = written_more start events memory h.written (subst (λ (s : State). IsWritten s.machine.memory memory) now w);
      follows = subst (λ (l : List Step). Follows history all start l (numbers_among (events ++ Written memory ∷ []))) (sym (steps_written events memory))
          (subst (λ (l : List ℕ). Follows history all start (steps_among events ++ stores_of memory.base memory.bytes) l) (sym (numbers_written events memory))
          (writing_followed history platform start (steps_among events) (numbers_among events) memory h.follows w));
    }

-- A step makes an access.
pub record IsAsking (taken : Step) : Type 0 where
  pub state : State
  pub request : Request
  pub asks : request_of_step state taken ≡ Some request

-- it is none of the stores before it
pub record IsPast (count : ℕ) (rest : List Step) (k : ℕ) (taken : Step) : Type 0 where
  pub i : ℕ
  pub place : k ≡ count + i
  pub is : slice_get rest i ≡ Some taken

past_stores : (addr : ℕ) (bytes : List ℕ) (rest : List Step) (k : ℕ) (taken : Step) → slice_get (stores_of addr bytes ++ rest) k ≡ Some taken →
    IsAsking taken → IsPast (length (stores_of addr bytes)) rest k taken
past_stores addr [] rest k taken is asking = record { i = k; place = omega arith; is = is }
past_stores addr (byte ∷ bytes) rest zero taken is asking =
    let own : step.Store addr 1 byte ≡ taken = cc in
    let none : request_of_step asking.state taken ≡ None =
    ap (request_of_step asking.state) (sym own) ∙ store_unasked asking.state addr 1 byte in
    let some : None ≡ Some asking.request = sym none ∙ asking.asks in
    absurd (cc)
past_stores addr (byte ∷ bytes) rest (suc k) taken is asking =
    let more = past_stores (addr + 1) bytes rest k taken is asking in
    record {
      i = more.i;
      place = let before = more.place in omega arith;
      is = more.is;
    }

past_numbers : (count : ℕ) (numbers : List ℕ) (i : ℕ) → number_of (replicate count 0 ++ numbers) (count + i) ≡ number_of numbers i
past_numbers zero numbers i = let none : 0 + i ≡ i = omega arith in ap (number_of numbers) none
past_numbers (suc count) numbers i =
    let one : suc count + i ≡ suc (count + i) = omega arith in
    ap (number_of (replicate (suc count) 0 ++ numbers)) one ∙ past_numbers count numbers i

-- the event of a step that makes an access
record IsEvent (events : List Event) (k : ℕ) (taken : Step) : Type 0 where
  pub j : ℕ
  pub counted : slice_get events j ≡ Some (Counted taken (number_of (numbers_among events) k))
  pub place : place_of (happenings_of events) j ≡ k

event_of : (events : List Event) (k : ℕ) (taken : Step) → slice_get (steps_among events) k ≡ Some taken → IsAsking taken → IsEvent events k taken
event_of [] k taken is asking = absurd (cc)
event_of (Counted own count ∷ more) zero taken is asking =
    let same : own ≡ taken = cc in
    record { j = 0; counted = ap (λ (s : Step). Some (Counted s count)) same; place = refl }
event_of (Counted own count ∷ more) (suc k) taken is asking =
    let rest = event_of more k taken is asking in
    record { j = suc rest.j; counted = rest.counted; place = ap suc rest.place }
event_of (Written memory ∷ more) k taken is asking =
    let stores : List Step = stores_of memory.base memory.bytes in
    let past = past_stores memory.base memory.bytes (steps_among more) k taken is asking in
    let rest = event_of more past.i taken past.is asking in
    let number : number_of (numbers_among more) past.i ≡ number_of (numbers_among (Written memory ∷ more)) k =
    sym (ap (number_of (numbers_among (Written memory ∷ more))) past.place ∙ past_numbers (length stores) (numbers_among more) past.i) in
    record {
      j = suc rest.j;
      counted = rest.counted ∙ ap (λ (n : ℕ). Some (Counted taken n)) number;
      place = length-append stores (steps_of (take rest.j (happenings_of more))) ∙ ap (λ (n : ℕ). length stores + n) rest.place ∙ sym past.place;
    }

-- the step at a moment at which something was filled makes an access
pub record HasAsked (steps : List Step) (k : ℕ) : Type 0 where
  pub taken : Step
  pub is : slice_get steps k ≡ Some taken
  pub asking : IsAsking taken

asked_by : {X : Type 0} (steps : List Step) (k : ℕ) (state : State) (filled : Option Request → Option X) (test : Option X → Bool) → test (filled None) ≡ false →
    (found : Option Step) → slice_get steps k ≡ found → test (filled (option_and_then (request_of_step state) found)) ≡ true → HasAsked steps k
asked_by steps k state filled test none None is fills = absurd (cc)
asked_by steps k state filled test none (Some taken) is fills =
    let g : (r : Option Request) → request_of_step state taken ≡ r → test (filled r) ≡ true → HasAsked steps k =
    λ r. elim r as (λ r. request_of_step state taken ≡ r → test (filled r) ≡ true → HasAsked steps k) [
      | None ↦ λ e t. absurd (cc)
      | Some request ↦ λ e t. record { taken = taken; is = is; asking = record { state = state; request = request; asks = e } }
    ] in
    g (request_of_step state taken) refl fills

asked_context : (start : State) (steps : List Step) (did k : ℕ) → fills_context start steps did k ≡ true → HasAsked steps k
asked_context start steps did k fills_it =
    asked_by steps k (moment start steps k) (context_filled (moment start steps k)) (fills same_did did) refl (slice_get steps k) refl fills_it

asked_page : (start : State) (steps : List Step) (key : Key) (k : ℕ) → fills_page start steps key k ≡ true → HasAsked steps k
asked_page start steps key k fills_it =
    asked_by steps k (moment start steps k) (page_filled (moment start steps k)) (fills same_key key) refl (slice_get steps k) refl fills_it

module _ (start : State) (events : List Event) (written : AreWritten start (happenings_of events)) (none : IsUncached start) where
  abbrev steps : List Step
  steps = steps_among events

  abbrev numbers : List ℕ
  numbers = numbers_among events

  passed_at : (j : ℕ) → passed start events j ≡ moment start steps (place_of (happenings_of events) j)
  passed_at j = (warranted_among start (happenings_of events) j written none).moment

  named : (k : ℕ) → HasAsked steps k → IsNamed start events k (number_of numbers k)
  named k at =
      let event = event_of events k at.taken at.is at.asking in
      record {
        j = event.j;
        step = at.taken;
        counted = event.counted;
        state = passed_at event.j ∙ ap (moment start steps) event.place;
      }

  named_all : (n : ℕ) (found : Option Warrant) → Explains start steps n found → AreNamed start events found (option_map (numbered_warrant numbers) found)
  named_all n None h = tt
  named_all n (Some warrant.Register) h = tt
  named_all n (Some (warrant.Context c)) h = named c (asked_context start steps h.0.did c h.2.fresh.origin.passes)
  named_all n (Some (warrant.Walked c w c')) h = (
    named c (asked_context start steps h.0.did c h.2.old_context.origin.passes),
    named w (asked_page start steps _ w h.2.page.origin.passes),
    named c' (asked_context start steps h.0.did c' h.2.now_context.origin.passes),
  )

  came : (n : ℕ) (found : Option NumberedWarrant) → ComesFrom start steps numbers (place_of (happenings_of events) n) found → ComesFromPassed start events n found
  came n found h = record {
    warrant = h.warrant;
    state = passed_at n;
    explains = h.explains;
    named = subst (AreNamed start events h.warrant) (sym h.told) (named_all (place_of (happenings_of events) n) h.warrant h.explains);
  }

place_last : (events : List Event) (last : Event) → place_of (happenings_of (events ++ last ∷ [])) (length events) ≡ length (steps_among events)
place_last [] last = refl
place_last (Counted own count ∷ more) last = ap suc (place_last more last)
place_last (Written memory ∷ more) last =
    let stores : List Step = stores_of memory.base memory.bytes in
    length-append stores (steps_of (take (length more) (happenings_of (more ++ last ∷ []))))
    ∙ ap (λ (n : ℕ). length stores + n) (place_last more last)
    ∙ sym (length-append stores (steps_among more))

pub among_origin : (history : HistoryView) (platform start : State) (events : List Event) (taken : Step) (number : ℕ) (found : Option NumberedWarrant) →
    FollowsAmong history platform start events →
    ComesFrom start (steps_among events ++ taken ∷ []) (numbers_among events ++ number ∷ []) (length (steps_among events)) found →
    ComesFromPassed start (events ++ Counted taken number ∷ []) (length events) found
among_origin history platform start events taken number found h from =
    let all : List Event = events ++ Counted taken number ∷ [] in
    came start all (written_counted start events taken number h.written) h.follows.uncached (length events) found
    (subst (λ (n : ℕ). ComesFrom start (steps_among all) (numbers_among all) n found) (sym (place_last events (Counted taken number)))
    (subst (λ (l : List Step). ComesFrom start l (numbers_among all) (length (steps_among events)) found) (sym (steps_counted events taken number))
    (subst (λ (l : List ℕ). ComesFrom start (steps_among events ++ taken ∷ []) l (length (steps_among events)) found) (sym (numbers_counted events taken number))
    from)))

-- what the caches hold was filled by steps of the caller's
pub among_context : (history : HistoryView) (platform start : State) (events : List Event) (did : ℕ) (context : Context) (number : ℕ) →
    FollowsAmong history platform start events →
    (from : ContextFrom start (steps_among events) (numbers_among events) did context number) → IsNamed start events from.k number
among_context history platform start events did context number h from =
    let steps : List Step = steps_among events in
    subst (IsNamed start events from.k) (sym from.told)
    (named start events h.written h.follows.uncached from.k (asked_context start steps did from.k from.fresh.origin.passes))

pub among_page : (history : HistoryView) (platform start : State) (events : List Event) (key : Key) (hit : Hit) (base walk : ℕ) →
    FollowsAmong history platform start events →
    (from : PageFrom start (steps_among events) (numbers_among events) key hit base walk) →
    IsNamed start events from.c base × IsNamed start events from.w walk
among_page history platform start events key hit base walk h from =
    let steps : List Step = steps_among events in
    let own : (k : ℕ) → HasAsked steps k → IsNamed start events k (number_of (numbers_among events) k) = named start events h.written h.follows.uncached in (
      subst (IsNamed start events from.c) (sym from.base_told) (own from.c (asked_context start steps from.request.did from.c from.under.origin.passes)),
      subst (IsNamed start events from.w) (sym from.walk_told) (own from.w (asked_page start steps _ from.w from.fresh.origin.passes)),
    )
