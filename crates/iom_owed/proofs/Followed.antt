-- What is kept goes along with a step.
use Rattle.std.proofs.Common.{◌≡◌, ◌∙◌, ◌⊎◌, ℕ, List, [], ◌∷◌, map, Option, Some, None, ◌↔◌, refl, sym, ap, subst, inl, inr}
use Rattle.std.specs.Option.{option_map}
use Rattle.std.specs.Prelude.{flat_map}
use Rattle.iom_choices.specs.Models.{end_of}
use Rattle.iom_choices.specs.Settled.{IsRead}
use Rattle.iom_choices.specs.Systems.{IsAmong}
use Rattle.iom_choices.specs.Trees.{reads_in, ways_of, ways_over}
use Rattle.iom_core.specs.State.{State}
use Rattle.iom_core.specs.Table.{executed, next, request_of_step}
use Rattle.iom_core.specs.declared.access.Request.{Request}
use Rattle.iom_core.specs.declared.step.Step.{Step}
use Rattle.iom_core.specs.declared.way.Way.{Way as Led}
use Rattle.iom_every.specs.declared.entry.Entry.{Entry}
use Rattle.iom_bits.specs.Features.{Features}
use Rattle.iom_every.specs.Entries.{kept_as}
use Rattle.iom_every.proofs.Split.{IsFlatFrom, flat_from, flat_to}
use Rattle.iom_every.specs.Every.{MayAhead, OutlastsAhead, iommu, is_listed, none_ahead, platform}
use Rattle.iom_every.specs.Rows.{bare}
use Rattle.iom_every.specs.Trees.{tree_of}
use Rattle.iom_every.proofs.Kept.{asks_bare, executes_bare}
use Rattle.iom_ways.specs.Ways.{AreAdded, Gathers, leads}
use Rattle.iom_ways.specs.declared.ways.Ways.{Ways}
use Rattle.iom_queue.specs.declared.command.Command.{Command}
use Rattle.iom_owed.specs.Behind.{IsReadSoFar, KeepsBehind}
use Rattle.iom_owed.specs.Holdings.{CouldRead, HoldingsView, IsUnfenced, Keeps, at_page, request_of, requests_in}
use Rattle.iom_owed.specs.Newest.{steps_of}
use Rattle.iom_owed.specs.Notes.{Adds, AddsAhead, made_by, made_of, read_by, behind_command}
use Rattle.iom_held.specs.Kept.{HasNoneTwice, Renews, entries_in, entry_of, kept_of}
use Rattle.iom_held.specs.declared.kept.Kept.{Kept}
use Rattle.iom_held.proofs.Left.{left_once}
use Rattle.iom_owed.proofs.Commands.{IsLeftOf, has_left, lasting_left, left_of, may_left, unfenced_left}
use Rattle.iom_held.proofs.Lists.{IsFrom, among_both, among_of, from_among, one_of}
use Rattle.iom_held.proofs.Places.{renews_none, renews_same}
use Rattle.iom_owed.specs.declared.noting.Made.{Made}
use Rattle.iom_owed.proofs.Lists.{added_to_none}
use Rattle.iom_owed.proofs.Reading.{could_read, read_could}

-- the entries that are put in are those that were read, each under the number
pub news_are : (number : ℕ) (reads : List Entry) → entries_in (map (kept_of number) reads) ≡ reads
news_are number [] = refl
news_are number (entry ∷ reads) = ap (λ (rest : List Entry). entry ∷ rest) (news_are number reads)

pub news_is : (number : ℕ) (reads : List Entry) (kept : Kept) → IsAmong (map (kept_of number) reads) kept → IsAmong reads kept.entry × (kept ≡ kept_of number kept.entry)
news_is number [] kept h = absurd h
news_is number (entry ∷ reads) kept (inl same) = (inl (ap (λ (kept : Kept). kept.entry) same), sym same ∙ ap (λ (kept : Kept). kept_of number kept.entry) same)
news_is number (entry ∷ reads) kept (inr h) = let k : IsAmong reads kept.entry × (kept ≡ kept_of number kept.entry) = news_is number reads kept h in (inr k.0, k.1)

-- the request that is put in is the one that is made
made_is : (number : ℕ) (request : Option Request) (made : Made) → IsAmong (made_by number request) made → (option_map at_page request ≡ Some made.request) × (made.number ≡ number)
made_is number None made h = absurd h
made_is number (Some request) made (inl same) = (ap (λ (made : Made). Some made.request) same, sym (ap (λ (made : Made). made.number) same))
made_is number (Some request) made (inr none) = absurd none

is_made : (number : ℕ) (request : Option Request) (own : Request) → option_map at_page request ≡ Some own → IsAmong (requests_in (made_by number request)) own
is_made number None own is = absurd (cc)
is_made number (Some request) own is = inl (search is)

-- what may be held or is read, behind a step's reads
mid_entries : (May : Entry → Type 0) (s : State) (step : Step) (request : Option Request) (number : ℕ) (before mid : List Kept) → request_of_step s step ≡ request →
    Renews entry_of (map (kept_of number) (read_by s (entries_in before) request)) before mid →
    ((entry : Entry) → IsAmong (entries_in before) entry ↔ May entry) → (entry : Entry) →
    IsAmong (entries_in mid) entry ↔ (May entry ⊎ IsRead (iommu none_ahead) May s step entry)
mid_entries May s step request number before mid asks adds may entry =
    let reads : List Entry = read_by s (entries_in before) request in
    let news : entries_in (map (kept_of number) reads) ≡ reads = news_are number reads in (
      λ h. elim (adds.all entry h) [
        | inl old ↦ inl ((may entry).0 old)
        | inr read ↦ inr (could_read May (entries_in before) (λ entry h. (may entry).0 h) s step request asks entry (subst (λ (xs : List Entry). IsAmong xs entry) news read))
      ],
      λ h. adds.kept entry (elim h [
        | inl held ↦ inl ((may entry).1 held)
        | inr read ↦ inr (subst (λ (xs : List Entry). IsAmong xs entry) (sym news) (read_could May (entries_in before) (λ entry h. (may entry).1 h) s step request asks entry read))
      ]),
    )

-- a kept one was read in this step, or is kept since
pub record IsReadNow (May : Entry → Type 0) (s : State) (step : Step) (number : ℕ) (kept : Kept) : Type 0 where
  pub read : IsRead (iommu none_ahead) May s step kept.entry
  pub is : kept ≡ kept_of number kept.entry

reads_follow : (May : Entry → Type 0) (s : State) (step : Step) (request : Option Request) (number : ℕ) (before mid : List Kept) → request_of_step s step ≡ request →
    Renews entry_of (map (kept_of number) (read_by s (entries_in before) request)) before mid → HasNoneTwice (entries_in before) →
    ((entry : Entry) → IsAmong (entries_in before) entry ↔ May entry) → (kept : Kept) → IsAmong mid kept →
    IsReadNow May s step number kept ⊎ ((IsRead (iommu none_ahead) May s step kept.entry → ⊥) × IsAmong before kept)
reads_follow May s step request number before mid asks adds once may kept h =
    let reads : List Entry = read_by s (entries_in before) request in
    let news : entries_in (map (kept_of number) reads) ≡ reads = news_are number reads in
    elim (adds.each once kept h) [
      | inl new ↦
          let k : IsAmong reads kept.entry × (kept ≡ kept_of number kept.entry) = news_is number reads kept new in
          inl (record { read = could_read May (entries_in before) (λ entry h. (may entry).0 h) s step request asks kept.entry k.0; is = k.1 })
      | inr old ↦ inr (
        λ read. old.1 (subst (λ (xs : List Entry). IsAmong xs kept.entry) (sym news) (read_could May (entries_in before) (λ entry h. (may entry).1 h) s step request asks kept.entry read)),
        old.0,
      )
    ]

-- the requests that were made then
made_before : (request : Option Request) (number : ℕ) (before mid : List Made) → Renews request_of (made_by number request) before mid →
    HasNoneTwice (requests_in before) → (made : Made) → IsAmong mid made →
    ((option_map at_page request ≡ Some made.request) × (made.number ≡ number)) ⊎ ((option_map at_page request ≡ Some made.request → ⊥) × IsAmong before made)
made_before request number before mid adds once made h = elim (adds.each once made h) [
  | inl new ↦ inl (made_is number request made new)
  | inr old ↦ inr (λ makes. old.1 (is_made number request made.request makes), old.0)
]

made_now : (request : Option Request) (number : ℕ) (before mid : List Made) → Renews request_of (made_by number request) before mid →
    HasNoneTwice (requests_in before) → (made : Made) → option_map at_page request ≡ Some made.request → made.number ≡ number → IsAmong mid made
made_now request number before mid adds once made makes is =
    let f : IsFrom request_of mid made.request = from_among request_of mid made.request (adds.kept made.request (inr (is_made number request made.request makes))) in
    elim (adds.each once f.thing f.among) [
      | inl new ↦
          let same : f.thing ≡ made = λ i. record { request = f.is i; number = ((made_is number request f.thing new).1 ∙ sym is) i } in
          subst (IsAmong mid) same f.among
      | inr old ↦ absurd (old.1 (is_made number request f.thing.request (makes ∙ ap (λ (own : Request). Some own) (sym f.is))))
    ]

made_still : (request : Option Request) (number : ℕ) (before mid : List Made) → Renews request_of (made_by number request) before mid →
    HasNoneTwice (requests_in before) → (made : Made) → (option_map at_page request ≡ Some made.request → ⊥) → IsAmong before made → IsAmong mid made
made_still request number before mid adds once made other h =
    let f : IsFrom request_of mid made.request = from_among request_of mid made.request (adds.kept made.request (inl (among_of request_of before made h))) in
    elim (adds.each once f.thing f.among) [
      | inl new ↦ absurd (other ((made_is number request f.thing new).0 ∙ ap (λ (own : Request). Some own) f.is))
      | inr old ↦ subst (IsAmong mid) (one_of request_of before f.thing made once old.0 h f.is) f.among
    ]

-- a step that makes no access adds nothing
pub adds_none : (state : State) (number : ℕ) (held : HoldingsView) → Adds state None number held held
adds_none state number held = record {
  ahead = refl;
  entries = renews_none entry_of held.entries;
  requests = renews_none request_of held.requests;
}

-- where the state is that of the steps
followed_there : (ahead : List Request) (before mid : HoldingsView) (start : State) (taken : List (Step × ℕ)) (step : Step) (number : ℕ) (request : Option Request) (command : Option Command) →
    request ≡ request_of_step (end_of platform start (steps_of taken)) step → command ≡ executed (end_of platform start (steps_of taken)) step →
    Adds (bare (end_of platform start (steps_of taken))) request number before mid → Keeps ahead before (end_of platform start (steps_of taken)) start taken →
    KeepsBehind ahead (behind_command number command mid) (next (end_of platform start (steps_of taken)) step).state start ((step, number) ∷ taken)
followed_there ahead before mid start taken step number request command asks executes adds k =
    let at : State = end_of platform start (steps_of taken) in
    let held : Entry → Type 0 = MayAhead (is_listed ahead) start (steps_of taken) in
    let Reads : Entry → Type 0 = CouldRead ahead start (steps_of taken) step in
    let asked : request_of_step (bare at) step ≡ request = asks_bare at step ∙ sym asks in
    let same : executed (bare at) step ≡ executed at step = executes_bare at step in
    let done : executed (bare at) step ≡ command = same ∙ sym executes in
    let are : (entry : Entry) → IsAmong (entries_in mid.entries) entry ↔ (held entry ⊎ Reads entry) =
    mid_entries held (bare at) step request number before.entries mid.entries asked adds.entries k.entries in
    let was : (kept : Kept) → IsAmong mid.entries kept → IsReadNow held (bare at) step number kept ⊎ ((Reads kept.entry → ⊥) × IsAmong before.entries kept) =
    reads_follow held (bare at) step request number before.entries mid.entries asked adds.entries k.entries_once k.entries in
    let noted : (kept : Kept) → IsAmong mid.entries kept → (kept.unfenced ≡ None) ↔ (OutlastsAhead (is_listed ahead) start (steps_of taken) kept.entry ⊎ Reads kept.entry) =
    λ kept h. elim (was kept h) [
      | inl new ↦ (λ none. inr new.read, λ lasts. ap (λ (kept : Kept). kept.unfenced) new.is)
      | inr old ↦ (
        λ none. inl ((k.outlasts kept old.1).0 none),
        λ lasts. elim lasts [
          | inl still ↦ (k.outlasts kept old.1).1 still
          | inr read ↦ absurd (old.0 read)
        ],
      )
    ] in
    let were : (kept : Kept) → IsAmong mid.entries kept →
    (Reads kept.entry × (kept.unfenced ≡ None)) ⊎ ((Reads kept.entry → ⊥) × IsUnfenced ahead start taken kept.entry kept.unfenced) =
    λ kept h. elim (was kept h) [
      | inl new ↦ inl (new.read, ap (λ (kept : Kept). kept.unfenced) new.is)
      | inr old ↦ inr (old.0, k.unfenced kept old.1)
    ] in record {
      reached = refl;
      ahead_is = adds.ahead ∙ k.ahead_is;
      may = may_left ahead start taken step number command mid.entries noted are done;
      lasts = lasting_left ahead start taken step number command mid.entries noted done;
      left = has_left ahead start taken step number command mid.entries noted are done (sym same);
      reads = λ kept h.
          let l : IsLeftOf mid.entries kept = left_of number command mid.entries kept h in
          let newest : IsReadSoFar ahead start ((step, number) ∷ taken) l.own.entry l.own.number = elim (was l.own l.among) [
            | inl new ↦ (λ own. ap (λ (kept : Kept). kept.number) new.is, inl (inl new.read))
            | inr old ↦ (λ own. absurd (old.0 own), inr (k.reads l.own old.1))
          ] in
          subst (λ (n : ℕ). IsReadSoFar ahead start ((step, number) ∷ taken) kept.entry n) l.number
          (subst (λ (entry : Entry). IsReadSoFar ahead start ((step, number) ∷ taken) entry l.own.number) l.entry newest);
      unfenced = unfenced_left ahead start taken step number command mid.entries were (sym executes);
      entries_once = left_once number command mid.entries (adds.entries.once k.entries_once);
      requests = λ made. (
        λ h. elim (made_before request number before.requests mid.requests adds.requests k.requests_once made h) [
          | inl new ↦ inl (subst (λ (asked : Option Request). option_map at_page asked ≡ Some made.request) asks new.0, new.1)
          | inr old ↦ inr (λ makes. old.0 (subst (λ (asked : Option Request). option_map at_page asked ≡ Some made.request) (sym asks) makes), (k.requests made).0 old.1)
        ],
        λ newest. elim newest [
          | inl new ↦ made_now request number before.requests mid.requests adds.requests k.requests_once made (subst (λ (asked : Option Request). option_map at_page asked ≡ Some made.request) (sym asks) new.0) new.1
          | inr old ↦ made_still request number before.requests mid.requests adds.requests k.requests_once made
              (λ makes. old.0 (subst (λ (asked : Option Request). option_map at_page asked ≡ Some made.request) asks makes)) ((k.requests made).1 old.1)
        ],
      );
      requests_once = adds.requests.once k.requests_once;
    }

pub followed : (ahead : List Request) (before mid : HoldingsView) (state start : State) (taken : List (Step × ℕ)) (step : Step) (number : ℕ) (request : Option Request) (command : Option Command) →
    request ≡ request_of_step state step → command ≡ executed state step → Adds (bare state) request number before mid → Keeps ahead before state start taken →
    KeepsBehind ahead (behind_command number command mid) (next state step).state start ((step, number) ∷ taken)
followed ahead before mid state start taken step number request command asks executes adds k =
    let P : State → Type 0 = λ state. request ≡ request_of_step state step → command ≡ executed state step → Adds (bare state) request number before mid → Keeps ahead before state start taken →
    KeepsBehind ahead (behind_command number command mid) (next state step).state start ((step, number) ∷ taken) in
    subst P (sym k.reached) (followed_there ahead before mid start taken step number request command) asks executes adds k

-- entries that were gathered are those that could be read
same_forms : (features : Features) (gathered reads : List Entry) → ((entry : Entry) → IsAmong gathered entry → IsAmong reads entry) →
    (entry : Entry) → IsAmong (flat_map (kept_as features) gathered) entry → IsAmong (flat_map (kept_as features) reads) entry
same_forms features gathered reads all entry h =
    let k : IsFlatFrom (kept_as features) gathered entry = flat_from (kept_as features) gathered entry h in
    flat_to (kept_as features) reads k.source entry (all k.source k.of) k.among

pub renews_gathered : (number : ℕ) (features : Features) (read took : List Entry) (before after : List Kept) → AreAdded read [] took →
    Renews entry_of (map (kept_of number) (flat_map (kept_as features) took)) before after → Renews entry_of (map (kept_of number) (flat_map (kept_as features) read)) before after
renews_gathered number features read took before after added p =
    let each : (entry : Entry) → IsAmong took entry ↔ IsAmong read entry = added_to_none read took added in
    let gathered : List Entry = flat_map (kept_as features) took in
    let reads : List Entry = flat_map (kept_as features) read in
    let same : (entry : Entry) → IsAmong gathered entry ↔ IsAmong reads entry =
    λ entry. (same_forms features took read (λ entry h. (each entry).0 h) entry, same_forms features read took (λ entry h. (each entry).1 h) entry) in
    renews_same entry_of (map (kept_of number) gathered) (map (kept_of number) reads) before after (λ n. (
      λ h. among_both (kept_of number) gathered reads (λ entry h. (same entry).0 h) n h,
      λ h. among_both (kept_of number) reads gathered (λ entry h. (same entry).1 h) n h,
    )) p

-- what was put in that memory alone gives a request
pub adds_ahead : (state : State) (features : Features) (one : Request) (number : ℕ) (before after : HoldingsView) (took forms : List Entry) → features ≡ state.machine.registers.features →
    AreAdded (reads_in (ways_of tree_of state [] (Some one))) [] took → forms ≡ flat_map (kept_as features) took →
    Renews entry_of (map (kept_of number) forms) before.entries after.entries → after.ahead ≡ before.ahead → after.requests ≡ before.requests → AddsAhead state one number before after
adds_ahead state features one number before after took forms own added are renewed ahead requests =
    let reads : List Entry = reads_in (ways_of tree_of state [] (Some one)) in
    let all : Renews entry_of (map (kept_of number) (flat_map (kept_as features) reads)) before.entries after.entries =
    renews_gathered number features reads took before.entries after.entries added (subst (λ (xs : List Entry). Renews entry_of (map (kept_of number) xs) before.entries after.entries) are renewed) in record {
      ahead = ahead;
      entries = subst (λ (features : Features). Renews entry_of (map (kept_of number) (flat_map (kept_as features) reads)) before.entries after.entries) own all;
      requests = requests;
    }

-- what a request adds that is made
pub adds : (state : State) (features : Features) (request : Option Request) (one : Request) (number : ℕ) (before after : HoldingsView) (gathered : List Entry) →
    features ≡ state.machine.registers.features → request ≡ Some one → after.ahead ≡ before.ahead →
    AreAdded (reads_in (ways_of tree_of state (entries_in before.entries) (Some one))) [] gathered →
    Renews entry_of (map (kept_of number) (flat_map (kept_as features) gathered)) before.entries after.entries →
    Renews request_of (made_of number (at_page one) ∷ []) before.requests after.requests → Adds state request number before after
adds state features request one number before after gathered own asked ahead added kept made =
    let all : Renews entry_of (map (kept_of number) (flat_map (kept_as state.machine.registers.features) gathered)) before.entries after.entries =
    subst (λ (features : Features). Renews entry_of (map (kept_of number) (flat_map (kept_as features) gathered)) before.entries after.entries) own kept in
    let there : Adds state (Some one) number before after = record {
      ahead = ahead;
      entries = renews_gathered number state.machine.registers.features (reads_in (ways_of tree_of state (entries_in before.entries) (Some one))) gathered before.entries after.entries added all;
      requests = made;
    } in
    subst (λ (request : Option Request). Adds state request number before after) (sym asked) there

-- what is gathered of a request over these entries, where nothing was
pub gathered_led : (held : List Entry) (state : State) (request : Request) (before after : Ways) → before.led.items ≡ [] →
    Gathers (ways_over held (tree_of state request)) before after → AreAdded (leads (ways_over held (tree_of state request))) [] after.led.items
gathered_led held state request before after none done =
    subst (λ (start : List Led). AreAdded (leads (ways_over held (tree_of state request))) start after.led.items) none done.led

pub gathered_reads : (held : List Entry) (state : State) (request : Request) (before after : Ways) → before.reads.items ≡ [] →
    Gathers (ways_over held (tree_of state request)) before after → AreAdded (reads_in (ways_over held (tree_of state request))) [] after.reads.items
gathered_reads held state request before after none done =
    subst (λ (start : List Entry). AreAdded (reads_in (ways_over held (tree_of state request))) start after.reads.items) none done.reads
