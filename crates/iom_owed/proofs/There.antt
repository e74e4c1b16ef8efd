-- What is read ahead behind a step is put in until all is there.
use Rattle.std.proofs.Common.{◌≡◌, ◌∙◌, ◌⊎◌, ◌+◌, ℕ, List, [], ◌∷◌, drop, map, Option, Some, None, refl, sym, ap, subst, inl, inr}
use Rattle.std.specs.Prelude.{filter, slice_get}
use Rattle.iom_choices.specs.Late.{is_fence_by}
use Rattle.iom_choices.specs.Models.{end_of}
use Rattle.iom_choices.specs.Pauses.{HaveStep, IsReadAhead}
use Rattle.iom_choices.specs.Systems.{IsAmong}
use Rattle.iom_choices.proofs.Between.{ahead_outlasts, held_outlasting, no_more, none_more}
use Rattle.iom_choices.proofs.Lists.{IsPassed, passed}
use Rattle.iom_choices.proofs.Trees.{among_filter}
use Rattle.iom_core.specs.State.{State}
use Rattle.iom_core.specs.Table.{executed}
use Rattle.iom_core.specs.declared.access.Request.{Request}
use Rattle.iom_core.specs.declared.step.Step.{Step}
use Rattle.iom_every.specs.Drops.{drops_by}
use Rattle.iom_every.specs.declared.entry.Entry.{Entry}
use Rattle.iom_every.specs.Every.{MayAhead, MayReadAhead, OutlastsAhead, alone_iommu, is_listed, platform, queue_commands}
use Rattle.iom_every.specs.Rows.{bare}
use Rattle.iom_every.proofs.Caching.{by_command}
use Rattle.iom_every.proofs.Kept.{executes_bare}
use Rattle.iom_queue.specs.declared.command.Command.{Command}
use Rattle.iom_held.specs.Kept.{HasNoneTwice, entries_in, entry_of, is_spared, kept_of}
use Rattle.iom_held.specs.declared.kept.Kept.{Kept}
use Rattle.iom_held.proofs.Lists.{IsFrom, among_of, from_among, one_of}
use Rattle.iom_owed.specs.Behind.{HaveLast, IsReadSoFar, IsUnfencedSoFar, KeepsBehind, newest_number}
use Rattle.iom_owed.specs.Holdings.{HoldingsView, IsReadIn, IsUnfenced, Keeps}
use Rattle.iom_owed.specs.Newest.{steps_of}
use Rattle.iom_owed.specs.Notes.{AddsAhead, HasRead, HasReadAll, read_by}
use Rattle.iom_owed.proofs.Judged.{remains}
use Rattle.iom_owed.proofs.Listed.{listed_first, none_listed}
use Rattle.iom_owed.proofs.Commands.{is_spared_none, none_spared}
use Rattle.iom_owed.proofs.Followed.{news_are, news_is}
use Rattle.iom_owed.proofs.Reading.{IsReadByOne, ahead_read, read_ahead_by, read_either}

-- the thing that no command names, by its entry
spared_of : (entries : List Kept) (entry : Entry) → IsAmong (entries_in (filter is_spared entries)) entry → IsFrom entry_of (filter is_spared entries) entry
spared_of entries entry h = from_among entry_of (filter is_spared entries) entry h

-- where what is read ahead over these entries is among them, no more may be held
no_others : (ahead : List Request) (start : State) (taken : List (Step × ℕ)) (held : HoldingsView) → KeepsBehind ahead held (end_of platform start (steps_of taken)) start taken →
    ((entry : Entry) → IsReadAhead (alone_iommu (is_listed ahead)) (IsAmong (entries_in held.entries)) (bare (end_of platform start (steps_of taken))) entry → IsAmong (entries_in (filter is_spared held.entries)) entry) →
    ((entry : Entry) → IsAmong (entries_in (filter is_spared held.entries)) entry → IsAmong (entries_in held.entries) entry) → (entry : Entry) →
    (MayAhead (is_listed ahead) start (steps_of taken) entry → IsAmong (entries_in held.entries) entry)
    × (OutlastsAhead (is_listed ahead) start (steps_of taken) entry → (kept : Kept) → IsAmong held.entries kept → kept.entry ≡ entry → kept.unfenced ≡ None)
no_others ahead start [] held k closed among entry = (
  λ may. none_more (alone_iommu (is_listed ahead)) queue_commands (λ steps. bare (end_of platform start steps)) (entries_in held.entries) (λ entry read. among entry (closed entry read)) may.count entry may.may,
  λ lasts kept h is. k.unfenced kept h,
)
no_others ahead start (last ∷ taken) held k closed among entry =
    let states : List Step → State = λ steps. bare (end_of platform start steps) in
    let at : State = end_of platform start (steps_of taken) in
    let Before : Entry → Type 0 = MayAhead (is_listed ahead) start (steps_of taken) in
    let lasting : (entry : Entry) → IsReadAhead (alone_iommu (is_listed ahead)) Before (bare at) entry → OutlastsAhead (is_listed ahead) start (steps_of taken) entry =
    λ entry read. ahead_outlasts (alone_iommu (is_listed ahead)) queue_commands states (steps_of taken) entry read in
    let have : HaveStep (alone_iommu (is_listed ahead)) queue_commands states last.0 (steps_of taken) (entries_in held.entries) (entries_in (filter is_spared held.entries)) = record {
      holds = λ entry off had. k.left.holds entry (sym (ap (is_fence_by queue_commands) (executes_bare at last.0)) ∙ off) (elim had [
        | inl old ↦ inl old
        | inr read ↦ elim (read_either (is_listed ahead) Before (bare at) last.0 entry read) [
          | inl other ↦ inl (held_outlasting (alone_iommu (is_listed ahead)) queue_commands states (steps_of taken) entry (lasting entry other))
          | inr own ↦ inr own
        ]
      ]);
      outlasts = λ entry off had. k.left.outlasts entry
          (sym (ap (λ (command : Option Command). drops_by command entry) (executes_bare at last.0)) ∙ by_command (executed (bare at) last.0) entry ∙ off) (elim had [
            | inl old ↦ inl old
            | inr read ↦ elim (read_either (is_listed ahead) Before (bare at) last.0 entry read) [
              | inl other ↦ inl (lasting entry other)
              | inr own ↦ inr own
            ]
          ]);
      ahead = closed;
      among = among;
    } in (
      λ may. (no_more (alone_iommu (is_listed ahead)) queue_commands states may.count last.0 (steps_of taken) (entries_in held.entries) (entries_in (filter is_spared held.entries)) have).held entry may.may,
      λ lasts kept h is.
          let f : IsFrom entry_of (filter is_spared held.entries) entry = spared_of held.entries entry
          ((no_more (alone_iommu (is_listed ahead)) queue_commands states lasts.count last.0 (steps_of taken) (entries_in held.entries) (entries_in (filter is_spared held.entries)) have).out entry lasts.may) in
          let p : IsPassed is_spared held.entries f.thing = passed is_spared held.entries f.thing f.among in
          let same : kept ≡ f.thing = one_of entry_of held.entries kept f.thing k.entries_once h p.among (is ∙ sym f.is) in
          ap (λ (kept : Kept). kept.unfenced) same ∙ is_spared_none f.thing.unfenced p.passes,
    )

-- and the numbers are those of all that could read it
reads_all : (ahead : List Request) (start : State) (taken : List (Step × ℕ)) (kept : Kept) (number : ℕ) → newest_number taken ≡ number →
    (MayReadAhead (is_listed ahead) start (steps_of taken) kept.entry → kept ≡ kept_of number kept.entry) → IsReadSoFar ahead start taken kept.entry kept.number → IsReadIn ahead start taken kept.entry kept.number
reads_all ahead start [] kept number newest is h = h
reads_all ahead start (last ∷ taken) kept number newest is h = (
  λ by. elim by [
    | inl own ↦ h.0 own
    | inr read ↦ ap (λ (kept : Kept). kept.number) (is read) ∙ sym newest
  ],
  h.1,
)

unfenced_all : (ahead : List Request) (start : State) (taken : List (Step × ℕ)) (kept : Kept) (number : ℕ) →
    (MayReadAhead (is_listed ahead) start (steps_of taken) kept.entry → kept ≡ kept_of number kept.entry) → IsUnfencedSoFar ahead start taken kept.entry kept.unfenced → IsUnfenced ahead start taken kept.entry kept.unfenced
unfenced_all ahead start [] kept number is h = h
unfenced_all ahead start (last ∷ taken) kept number is h = (
  λ read. ap (λ (kept : Kept). kept.unfenced) (is read),
  elim h [
    | inl now ↦ inl now.0
    | inr before ↦ inr before
  ],
)

module _ (ahead : List Request) (start : State) (taken : List (Step × ℕ)) where
  abbrev At : State
  At = end_of platform start (steps_of taken)

  abbrev states : List Step → State
  states steps = bare (end_of platform start steps)

  abbrev May : Entry → Type 0
  May = MayAhead (is_listed ahead) start (steps_of taken)

  abbrev Lasts : Entry → Type 0
  Lasts = OutlastsAhead (is_listed ahead) start (steps_of taken)

  lasts_may : (entry : Entry) → Lasts entry → May entry
  lasts_may entry lasts = held_outlasting (alone_iommu (is_listed ahead)) queue_commands states (steps_of taken) entry lasts

  read_lasts : (entry : Entry) → MayReadAhead (is_listed ahead) start (steps_of taken) entry → Lasts entry
  read_lasts entry read = ahead_outlasts (alone_iommu (is_listed ahead)) queue_commands states (steps_of taken) entry read

  may_of : (entries : List Kept) → ((kept : Kept) → IsAmong entries kept → May kept.entry) → (entry : Entry) → IsAmong (entries_in entries) entry → May entry
  may_of entries may entry h =
      let f : IsFrom entry_of entries entry = from_among entry_of entries entry h in subst May f.is (may f.thing f.among)

  -- the numbers of what is read ahead behind the last step
  read_now : (entry : Entry) (number : ℕ) → newest_number taken ≡ number → MayReadAhead (is_listed ahead) start (steps_of taken) entry → IsReadSoFar ahead start taken entry number
  read_now entry number newest read =
      let Goal : List (Step × ℕ) → Type 0 = λ taken. newest_number taken ≡ number → MayReadAhead (is_listed ahead) start (steps_of taken) entry → IsReadSoFar ahead start taken entry number in
      let by_taken : (taken : List (Step × ℕ)) → Goal taken = λ taken. elim taken as Goal [
        | [] ↦ λ newest read. sym newest
        | last ∷ earlier ↦ λ newest read. (λ own. sym newest, inl (inr read))
      ] in by_taken taken newest read

  unfenced_now : (entry : Entry) → MayReadAhead (is_listed ahead) start (steps_of taken) entry → IsUnfencedSoFar ahead start taken entry None
  unfenced_now entry read =
      let Goal : List (Step × ℕ) → Type 0 = λ taken. MayReadAhead (is_listed ahead) start (steps_of taken) entry → IsUnfencedSoFar ahead start taken entry None in
      let by_taken : (taken : List (Step × ℕ)) → Goal taken = λ taken. elim taken as Goal [
        | [] ↦ λ read. refl
        | last ∷ earlier ↦ λ read. inl (read, refl)
      ] in by_taken taken read

  -- what the last step leaves stays there
  last_still : (before after : List Kept) → ((entry : Entry) → IsAmong (entries_in before) entry → IsAmong (entries_in after) entry) →
      ((entry : Entry) → IsAmong (entries_in (filter is_spared before)) entry → IsAmong (entries_in (filter is_spared after)) entry) →
      HaveLast ahead start taken before → HaveLast ahead start taken after
  last_still before after still spared h =
      let Goal : List (Step × ℕ) → Type 0 = λ taken. HaveLast ahead start taken before → HaveLast ahead start taken after in
      let by_taken : (taken : List (Step × ℕ)) → Goal taken = λ taken. elim taken as Goal [
        | [] ↦ λ h. tt
        | last ∷ earlier ↦ λ h. record {
          holds = λ entry off had. still entry (h.holds entry off had);
          outlasts = λ entry off had. spared entry (h.outlasts entry off had);
        }
      ] in by_taken taken h

  -- one request is read ahead
  read_there : (before after : HoldingsView) (request : Request) (number : ℕ) → newest_number taken ≡ number → IsAmong ahead request → AddsAhead (bare At) request number before after →
      KeepsBehind ahead before At start taken → KeepsBehind ahead after At start taken
  read_there before after request number newest there adds k =
      let reads : List Entry = read_by (bare At) [] (Some request) in
      let now : (entry : Entry) → IsAmong reads entry → MayReadAhead (is_listed ahead) start (steps_of taken) entry =
      λ entry h. ahead_read ahead May (bare At) request there entry h in
      let was : (kept : Kept) → IsAmong after.entries kept →
      (MayReadAhead (is_listed ahead) start (steps_of taken) kept.entry × (kept ≡ kept_of number kept.entry)) ⊎ IsAmong before.entries kept =
      λ kept h. elim (adds.entries.each k.entries_once kept h) [
        | inl new ↦ let is : IsAmong reads kept.entry × (kept ≡ kept_of number kept.entry) = news_is number reads kept new in inl (now kept.entry is.0, is.1)
        | inr old ↦ inr old.0
      ] in record {
        reached = refl;
        ahead_is = adds.ahead ∙ k.ahead_is;
        may = λ kept h. elim (was kept h) [
          | inl new ↦ lasts_may kept.entry (read_lasts kept.entry new.0)
          | inr old ↦ k.may kept old
        ];
        lasts = λ kept h none. elim (was kept h) [
          | inl new ↦ read_lasts kept.entry new.0
          | inr old ↦ k.lasts kept old none
        ];
        left = last_still before.entries after.entries (λ entry h. adds.entries.kept entry (inl h))
            (λ entry h.
            let f : IsFrom entry_of (filter is_spared before.entries) entry = spared_of before.entries entry h in
            let p : IsPassed is_spared before.entries f.thing = passed is_spared before.entries f.thing f.among in
            let g : IsFrom entry_of after.entries entry =
            from_among entry_of after.entries entry (adds.entries.kept entry (inl (subst (IsAmong (entries_in before.entries)) f.is (among_of entry_of before.entries f.thing p.among)))) in
            let none : g.thing.unfenced ≡ None = elim (adds.entries.each k.entries_once g.thing g.among) [
              | inl new ↦ ap (λ (kept : Kept). kept.unfenced) (news_is number reads g.thing new).1
              | inr old ↦
                  let same : g.thing ≡ f.thing = one_of entry_of before.entries g.thing f.thing k.entries_once old.0 p.among (g.is ∙ sym f.is) in
                  ap (λ (kept : Kept). kept.unfenced) same ∙ is_spared_none f.thing.unfenced p.passes
            ] in
            subst (IsAmong (entries_in (filter is_spared after.entries))) g.is
            (among_of entry_of (filter is_spared after.entries) g.thing (among_filter is_spared after.entries g.thing g.among (none_spared g.thing.unfenced none))))
            k.left;
        reads = λ kept h. elim (was kept h) [
          | inl new ↦ subst (IsReadSoFar ahead start taken kept.entry) (sym (ap (λ (kept : Kept). kept.number) new.1)) (read_now kept.entry number newest new.0)
          | inr old ↦ k.reads kept old
        ];
        unfenced = λ kept h. elim (was kept h) [
          | inl new ↦ subst (IsUnfencedSoFar ahead start taken kept.entry) (sym (ap (λ (kept : Kept). kept.unfenced) new.1)) (unfenced_now kept.entry new.0)
          | inr old ↦ k.unfenced kept old
        ];
        entries_once = adds.entries.once k.entries_once;
        requests = rw adds.requests k.requests;
        requests_once = rw adds.requests k.requests_once;
      }

  -- where all is there that the requests can read, no more may be held
  all_there : (held : HoldingsView) (number : ℕ) → newest_number taken ≡ number → KeepsBehind ahead held At start taken → HasReadAll (bare At) number held → Keeps ahead held At start taken
  all_there held number newest k all =
      let entries : List Kept = held.entries in
      let has : (Holds : Entry → Type 0) (entry : Entry) → IsReadAhead (alone_iommu (is_listed ahead)) Holds (bare At) entry → IsAmong entries (kept_of number entry) =
      λ Holds entry read.
      let one : IsReadByOne ahead (bare At) entry = read_ahead_by ahead Holds (bare At) entry read in
      all one.request (subst (λ (requests : List Request). IsAmong requests one.request) (sym k.ahead_is) one.there) entry one.read in
      let closed : (entry : Entry) → IsReadAhead (alone_iommu (is_listed ahead)) (IsAmong (entries_in entries)) (bare At) entry → IsAmong (entries_in (filter is_spared entries)) entry =
      λ entry read. among_of entry_of (filter is_spared entries) (kept_of number entry)
      (among_filter is_spared entries (kept_of number entry) (has (IsAmong (entries_in entries)) entry read) refl) in
      let among : (entry : Entry) → IsAmong (entries_in (filter is_spared entries)) entry → IsAmong (entries_in entries) entry =
      λ entry h.
      let f : IsFrom entry_of (filter is_spared entries) entry = spared_of entries entry h in
      subst (IsAmong (entries_in entries)) f.is (among_of entry_of entries f.thing (passed is_spared entries f.thing f.among).among) in
      let bound : (entry : Entry) → (May entry → IsAmong (entries_in entries) entry) × (Lasts entry → (kept : Kept) → IsAmong entries kept → kept.entry ≡ entry → kept.unfenced ≡ None) =
      no_others ahead start taken held k closed among in
      let is_now : (kept : Kept) → IsAmong entries kept → MayReadAhead (is_listed ahead) start (steps_of taken) kept.entry → kept ≡ kept_of number kept.entry =
      λ kept h read. one_of entry_of entries kept (kept_of number kept.entry) k.entries_once h (has May kept.entry read) refl in record {
        reached = refl;
        ahead_is = k.ahead_is;
        entries = λ entry. (may_of entries k.may entry, λ may. (bound entry).0 may);
        reads = λ kept h. reads_all ahead start taken kept number newest (is_now kept h) (k.reads kept h);
        outlasts = λ kept h. (k.lasts kept h, λ lasts. (bound kept.entry).1 lasts kept h refl);
        unfenced = λ kept h. unfenced_all ahead start taken kept number (is_now kept h) (k.unfenced kept h);
        entries_once = k.entries_once;
        requests = k.requests;
        requests_once = k.requests_once;
      }

pub read_adds : (ahead : List Request) (before after : HoldingsView) (state start : State) (taken : List (Step × ℕ)) (request : Request) (number : ℕ) → newest_number taken ≡ number → IsAmong ahead request →
    AddsAhead (bare state) request number before after → KeepsBehind ahead before state start taken → KeepsBehind ahead after state start taken
read_adds ahead before after state start taken request number newest there adds k =
    let P : State → Type 0 = λ state. AddsAhead (bare state) request number before after → KeepsBehind ahead before state start taken → KeepsBehind ahead after state start taken in
    subst P (sym k.reached) (read_there ahead start taken before after request number newest there) adds k

pub read_all : (ahead : List Request) (held : HoldingsView) (state start : State) (taken : List (Step × ℕ)) (number : ℕ) → newest_number taken ≡ number →
    KeepsBehind ahead held state start taken → HasReadAll (bare state) number held → Keeps ahead held state start taken
read_all ahead held state start taken number newest k all =
    let P : State → Type 0 = λ state. KeepsBehind ahead held state start taken → HasReadAll (bare state) number held → Keeps ahead held state start taken in
    subst P (sym k.reached) (all_there ahead start taken held number newest) k all

-- what was read ahead under the number stays there when another request is, and what that one reads is there
pub read_still : (state : State) (request : Request) (number : ℕ) (before after : HoldingsView) (i : ℕ) → AddsAhead state request number before after → HasNoneTwice (entries_in before.entries) →
    slice_get before.ahead i ≡ Some request →
    ((other : Request) → IsAmong before.ahead other → HasRead state number before other ⊎ IsAmong (drop i before.ahead) other) →
    (other : Request) → IsAmong after.ahead other → HasRead state number after other ⊎ IsAmong (drop (i + 1) after.ahead) other
read_still state request number before after i adds once at looked other h =
    let reads : List Entry = read_by state [] (Some request) in
    let keys : entries_in (map (kept_of number) reads) ≡ reads = news_are number reads in
    let there : (entry : Entry) → IsAmong before.entries (kept_of number entry) ⊎ IsAmong reads entry → IsAmong after.entries (kept_of number entry) = λ entry was.
    let f : IsFrom entry_of after.entries entry = from_among entry_of after.entries entry (adds.entries.kept entry (elim was [
      | inl old ↦ inl (among_of entry_of before.entries (kept_of number entry) old)
      | inr new ↦ inr (subst (λ (xs : List Entry). IsAmong xs entry) (sym keys) new)
    ])) in
    let is : f.thing ≡ kept_of number entry = elim (adds.entries.each once f.thing f.among) [
      | inl new ↦ (news_is number reads f.thing new).1 ∙ ap (kept_of number) f.is
      | inr old ↦ elim was [
        | inl kept ↦ one_of entry_of before.entries f.thing (kept_of number entry) once old.0 kept f.is
        | inr read ↦ absurd (old.1 (subst (λ (xs : List Entry). IsAmong xs f.thing.entry) (sym keys) (subst (IsAmong reads) (sym f.is) read)))
      ]
    ] in subst (IsAmong after.entries) is f.among in
    let own : IsAmong before.ahead other = subst (λ (xs : List Request). IsAmong xs other) adds.ahead h in
    elim (looked other own) [
      | inl done ↦ inl (λ entry read. there entry (inl (done entry read)))
      | inr rest ↦ elim (subst (λ (requests : List Request). IsAmong requests other) (remains before.ahead i request at) rest) [
        | inl same ↦ inl (λ entry read. there entry (inr (subst (λ (asked : Request). IsAmong (read_by state [] (Some asked)) entry) (sym same) read)))
        | inr later ↦ inr (subst (λ (xs : List Request). IsAmong (drop (i + 1) xs) other) (sym adds.ahead) later)
      ]
    ]

-- where nothing is read ahead, all is there
pub none_missing : (held : HoldingsView) (state start : State) (taken : List (Step × ℕ)) → KeepsBehind [] held state start taken → Keeps [] held state start taken
none_missing held state start taken k =
    read_all [] held state start taken (newest_number taken) refl k (λ request h. absurd (subst (λ (requests : List Request). IsAmong requests request) k.ahead_is h))

-- at the start nothing is held
pub begun : (state : State) → Keeps [] (record { ahead = []; entries = []; requests = [] }) state state []
begun state = none_missing (record { ahead = []; entries = []; requests = [] }) state state [] (listed_first [] [] state none_listed)
