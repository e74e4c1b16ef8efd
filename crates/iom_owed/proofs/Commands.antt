-- What a step's command leaves of what may be held, and which commands aren't fenced yet.
use Rattle.std.proofs.Common.{◌≡◌, ◌∙◌, ◌⊎◌, ◌↔◌, ℕ, Bool, true, false, List, ◌∷◌, map, Option, Some, None, if◌then◌else◌, refl, sym, ap, subst, inl, inr}
use Rattle.std.specs.Option.{is_none}
use Rattle.std.specs.Prelude.{filter}
use Rattle.iom_choices.specs.Late.{is_fence_by, named_by as named_generally}
use Rattle.iom_choices.specs.Models.{end_of}
use Rattle.iom_choices.specs.Systems.{IsAmong}
use Rattle.iom_choices.proofs.Lists.{IsPassed, passed}
use Rattle.iom_choices.specs.Settled.{IsRead}
use Rattle.iom_choices.proofs.Between.{held_outlasting, step_held, step_outlasts}
use Rattle.iom_choices.proofs.Trees.{among_filter}
use Rattle.iom_core.specs.State.{State}
use Rattle.iom_core.specs.Table.{executed}
use Rattle.iom_core.specs.declared.access.Request.{Request}
use Rattle.iom_core.specs.declared.step.Step.{Step}
use Rattle.iom_every.specs.Drops.{drops_by, drops_entry}
use Rattle.iom_every.specs.declared.entry.Entry.{Entry}
use Rattle.iom_every.specs.Every.{MayAhead, OutlastsAhead, alone_iommu, is_fence, is_listed, platform, queue_commands}
use Rattle.iom_every.specs.Rows.{bare}
use Rattle.iom_every.proofs.Caching.{by_command}
use Rattle.iom_queue.specs.declared.command.Command.{Command}
use Rattle.iom_held.specs.Kept.{entries_in, entry_of, is_spared, left_by, named_by}
use Rattle.iom_held.specs.declared.kept.Kept.{Kept}
use Rattle.iom_held.proofs.Left.{fence_leaves, fence_names, named_entries, other_leaves}
use Rattle.iom_held.proofs.Lists.{IsFrom, among_of, from_among}
use Rattle.iom_owed.specs.Behind.{HasLeft, IsUnfencedSoFar}
use Rattle.iom_owed.specs.Holdings.{CouldRead, IsUnfenced, Names}
use Rattle.iom_owed.proofs.Reading.{own_read}
use Rattle.iom_owed.specs.Newest.{steps_of}

pub is_spared_none : (number : Option ℕ) → is_none number ≡ true → number ≡ None
is_spared_none None is = refl
is_spared_none (Some number) is = absurd (cc)

pub none_spared : (number : Option ℕ) → number ≡ None → is_none number ≡ true
none_spared number is = ap is_none is

-- what a command leaves of an entry: all but what is noted of commands
pub record IsLeftOf (mid : List Kept) (kept : Kept) : Type 0 where
  pub own : Kept
  pub among : IsAmong mid own
  pub entry : own.entry ≡ kept.entry
  pub number : own.number ≡ kept.number

named_number : (number : ℕ) (command : Command) (each : Kept) → (named_by number command each).number ≡ each.number
named_number number command each = elim (drops_entry command each.entry) as (λ b. (if b then record each { unfenced = Some number } else each).number ≡ each.number) [
  | true ↦ refl
  | false ↦ refl
]

named_same : (number : ℕ) (command : Command) (each : Kept) → (named_by number command each).entry ≡ each.entry
named_same number command each = elim (drops_entry command each.entry) as (λ b. (if b then record each { unfenced = Some number } else each).entry ≡ each.entry) [
  | true ↦ refl
  | false ↦ refl
]

-- of a list that is left, each thing
record IsNamedOf (number : ℕ) (command : Command) (mid : List Kept) (kept : Kept) : Type 0 where
  pub own : Kept
  pub among : IsAmong mid own
  pub is : named_by number command own ≡ kept

named_of : (number : ℕ) (command : Command) (mid : List Kept) (kept : Kept) → IsAmong (map (named_by number command) mid) kept → IsNamedOf number command mid kept
named_of number command mid kept h =
    let f : IsFrom (named_by number command) mid kept = from_among (named_by number command) mid kept h in record { own = f.thing; among = f.among; is = f.is }

data IsLeft (number : ℕ) (command : Option Command) (mid : List Kept) (kept : Kept) : Type 0 where
  ByNone : command ≡ None → IsAmong mid kept → IsLeft number command mid kept
  ByFence : (own : Command) → command ≡ Some own → is_fence own ≡ true → IsAmong mid kept → kept.unfenced ≡ None → IsLeft number command mid kept
  ByOther : (own : Command) → command ≡ Some own → is_fence own ≡ false → IsNamedOf number own mid kept → IsLeft number command mid kept

left_as : (number : ℕ) (command : Option Command) (mid : List Kept) (kept : Kept) → IsAmong (left_by number command mid) kept → IsLeft number command mid kept
left_as number None mid kept h = ByNone refl h
left_as number (Some command) mid kept h =
    let Goal : Bool → Type 0 = λ b. is_fence command ≡ b → IsLeft number (Some command) mid kept in
    let by_fence : (b : Bool) → Goal b = λ b. elim b as Goal [
      | true ↦ λ is.
          let p : IsPassed is_spared mid kept = passed is_spared mid kept (subst (λ (left : List Kept). IsAmong left kept) (fence_leaves number command mid is) h) in
          ByFence command refl is p.among (is_spared_none kept.unfenced p.passes)
      | false ↦ λ off. ByOther command refl off (named_of number command mid kept (subst (λ (left : List Kept). IsAmong left kept) (other_leaves number command mid off) h))
    ] in by_fence (is_fence command) refl

pub left_of : (number : ℕ) (command : Option Command) (mid : List Kept) (kept : Kept) → IsAmong (left_by number command mid) kept → IsLeftOf mid kept
left_of number command mid kept h = elim (left_as number command mid kept h) [
  | ByNone none among ↦ record { own = kept; among = among; entry = refl; number = refl }
  | ByFence own same is among spared ↦ record { own = kept; among = among; entry = refl; number = refl }
  | ByOther own same off named ↦ record {
    own = named.own;
    among = named.among;
    entry = sym (named_same number own named.own) ∙ ap (λ (kept : Kept). kept.entry) named.is;
    number = sym (named_number number own named.own) ∙ ap (λ (kept : Kept). kept.number) named.is;
  }
]

module _ (ahead : List Request) (start : State) (taken : List (Step × ℕ)) (step : Step) (number : ℕ) (command : Option Command) (mid : List Kept) where
  abbrev steps : List Step
  steps = steps_of taken

  abbrev states : List Step → State
  states steps = bare (end_of platform start steps)

  abbrev Held : Entry → Type 0
  Held entry = MayAhead (is_listed ahead) start steps entry

  abbrev Lasts : Entry → Type 0
  Lasts entry = OutlastsAhead (is_listed ahead) start steps entry

  abbrev Reads : Entry → Type 0
  Reads entry = CouldRead ahead start steps step entry

  -- the entries behind the step's reads, and what is noted of commands
  abbrev AreMid : Type 0
  AreMid = (entry : Entry) → IsAmong (entries_in mid) entry ↔ (Held entry ⊎ Reads entry)

  abbrev AreNoted : Type 0
  AreNoted = (kept : Kept) → IsAmong mid kept → (kept.unfenced ≡ None) ↔ (Lasts kept.entry ⊎ Reads kept.entry)

  abbrev At : State
  At = end_of platform start steps

  fence_is : (own : Command) → executed (states steps) step ≡ Some own → is_fence_by queue_commands (executed (states steps) step) ≡ is_fence own
  fence_is own is = ap (is_fence_by queue_commands) is

  names_is : (entry : Entry) → named_generally queue_commands (executed (states steps) step) entry ≡ drops_by (executed (states steps) step) entry
  names_is entry = sym (by_command (executed (states steps) step) entry)

  -- the step's own reads are reads of the system that also reads ahead
  had_or_read : (P : Entry → Type 0) (entry : Entry) → P entry ⊎ Reads entry → P entry ⊎ IsRead (alone_iommu (is_listed ahead)) Held (states steps) step entry
  had_or_read P entry had = elim had [
    | inl old ↦ inl old
    | inr read ↦ inr (own_read (is_listed ahead) Held (states steps) step entry read)
  ]

  last_is : (entry : Entry) → drops_by (executed (states steps) step) entry ≡ false → Lasts entry ⊎ Reads entry → OutlastsAhead (is_listed ahead) start (step ∷ steps) entry
  last_is entry off h = step_outlasts (alone_iommu (is_listed ahead)) queue_commands states step steps entry (names_is entry ∙ off) (had_or_read Lasts entry h)

  -- behind a command that is no fence
  held_still : is_fence_by queue_commands (executed (states steps) step) ≡ false → (entry : Entry) → Held entry ⊎ Reads entry → MayAhead (is_listed ahead) start (step ∷ steps) entry
  held_still off entry had = step_held (alone_iommu (is_listed ahead)) queue_commands states step steps entry off (had_or_read Held entry had)

  lasting_held : (entry : Entry) → OutlastsAhead (is_listed ahead) start (step ∷ steps) entry → MayAhead (is_listed ahead) start (step ∷ steps) entry
  lasting_held entry lasts = held_outlasting (alone_iommu (is_listed ahead)) queue_commands states (step ∷ steps) entry lasts

  -- what is left may be held
  pub may_left : AreNoted → AreMid → executed (states steps) step ≡ command → (kept : Kept) → IsAmong (left_by number command mid) kept → MayAhead (is_listed ahead) start (step ∷ steps) kept.entry
  may_left noted are done kept h = elim (left_as number command mid kept h) [
    | ByNone none among ↦ held_still (ap (is_fence_by queue_commands) (done ∙ none)) kept.entry ((are kept.entry).0 (among_of entry_of mid kept among))
    | ByFence own same is among spared ↦
        let off : drops_by (executed (states steps) step) kept.entry ≡ false = ap (λ (command : Option Command). drops_by command kept.entry) (done ∙ same) ∙ fence_names own kept.entry is in
        lasting_held kept.entry (last_is kept.entry off ((noted kept among).0 spared))
    | ByOther own same off named ↦
        let is : named.own.entry ≡ kept.entry = sym (named_same number own named.own) ∙ ap (λ (kept : Kept). kept.entry) named.is in
        subst (MayAhead (is_listed ahead) start (step ∷ steps)) is
        (held_still (fence_is own (done ∙ same) ∙ off) named.own.entry ((are named.own.entry).0 (among_of entry_of mid named.own named.among)))
  ]

  -- and outlasts a fence that comes now, if no command names it
  pub lasting_left : AreNoted → executed (states steps) step ≡ command → (kept : Kept) → IsAmong (left_by number command mid) kept →
      kept.unfenced ≡ None → OutlastsAhead (is_listed ahead) start (step ∷ steps) kept.entry
  lasting_left noted done kept h = elim (left_as number command mid kept h) [
    | ByNone none among ↦
        let off : drops_by (executed (states steps) step) kept.entry ≡ false = ap (λ (command : Option Command). drops_by command kept.entry) (done ∙ none) in
        λ is. last_is kept.entry off ((noted kept among).0 is)
    | ByFence own same is among spared ↦
        let off : drops_by (executed (states steps) step) kept.entry ≡ false =
        ap (λ (command : Option Command). drops_by command kept.entry) (done ∙ same) ∙ fence_names own kept.entry is in
        λ none. last_is kept.entry off ((noted kept among).0 none)
    | ByOther own same off named ↦
        let Goal : Kept → Type 0 = λ kept. kept.unfenced ≡ None → OutlastsAhead (is_listed ahead) start (step ∷ steps) kept.entry in
        let names : drops_by (executed (states steps) step) named.own.entry ≡ drops_entry own named.own.entry = ap (λ (command : Option Command). drops_by command named.own.entry) (done ∙ same) in
        let ByDrop : Bool → Type 0 = λ b. drops_entry own named.own.entry ≡ b → Goal (if b then record named.own { unfenced = Some number } else named.own) in
        let by_drop : (b : Bool) → ByDrop b = λ b. elim b as ByDrop [
          | true ↦ λ is none. absurd (cc)
          | false ↦ λ is none. last_is named.own.entry (names ∙ is) ((noted named.own named.among).0 none)
        ] in subst Goal named.is (by_drop (drops_entry own named.own.entry) refl)
  ]

  -- all that the step leaves is there
  holds_left : AreMid → executed (states steps) step ≡ command → (entry : Entry) → is_fence_by queue_commands (executed (states steps) step) ≡ false → Held entry ⊎ Reads entry →
      IsAmong (entries_in (left_by number command mid)) entry
  holds_left are done entry off had =
      let Goal : Option Command → Type 0 = λ o. command ≡ o → IsAmong (entries_in (left_by number o mid)) entry in
      let by_command : (o : Option Command) → Goal o = λ o. elim o as Goal [
        | None ↦ λ none. (are entry).1 had
        | Some own ↦ λ same.
            let other : is_fence own ≡ false = sym (fence_is own (done ∙ same)) ∙ off in
            subst (λ (entries : List Entry). IsAmong entries entry) (sym (ap entries_in (other_leaves number own mid other) ∙ named_entries number own mid)) ((are entry).1 had)
      ] in by_command command refl

  -- what a command doesn't name isn't noted
  spared_still : (own : Command) (each : Kept) → drops_entry own each.entry ≡ false → each.unfenced ≡ None → is_spared (named_by number own each) ≡ true
  spared_still own each off none =
      let same : named_by number own each ≡ each = ap (λ (b : Bool). if b then record each { unfenced = Some number } else each) off in
      ap is_spared same ∙ none_spared each.unfenced none

  outlasting_left : AreNoted → AreMid → executed (states steps) step ≡ command → (entry : Entry) → drops_by (executed (states steps) step) entry ≡ false → Lasts entry ⊎ Reads entry →
      IsAmong (entries_in (filter is_spared (left_by number command mid))) entry
  outlasting_left noted are done entry off had =
      let held : Held entry ⊎ Reads entry = elim had [
        | inl old ↦ inl (held_outlasting (alone_iommu (is_listed ahead)) queue_commands states steps entry old)
        | inr read ↦ inr read
      ] in
      let f : IsFrom entry_of mid entry = from_among entry_of mid entry ((are entry).1 held) in
      let none : f.thing.unfenced ≡ None = (noted f.thing f.among).1 (subst (λ (entry : Entry). Lasts entry ⊎ Reads entry) (sym f.is) had) in
      let spared : IsAmong (filter is_spared mid) f.thing = among_filter is_spared mid f.thing f.among (none_spared f.thing.unfenced none) in
      let Goal : Option Command → Type 0 = λ o. command ≡ o → IsAmong (entries_in (filter is_spared (left_by number o mid))) entry in
      let by_command : (o : Option Command) → Goal o = λ o. elim o as Goal [
        | None ↦ λ same. subst (IsAmong (entries_in (filter is_spared mid))) f.is (among_of entry_of (filter is_spared mid) f.thing spared)
        | Some own ↦ λ same.
            let ByFence : Bool → Type 0 = λ b. is_fence own ≡ b → IsAmong (entries_in (filter is_spared (left_by number (Some own) mid))) entry in
            let by_fence : (b : Bool) → ByFence b = λ b. elim b as ByFence [
              | true ↦ λ is. subst (λ (left : List Kept). IsAmong (entries_in (filter is_spared left)) entry) (sym (fence_leaves number own mid is))
                  (subst (IsAmong (entries_in (filter is_spared (filter is_spared mid)))) f.is
                  (among_of entry_of (filter is_spared (filter is_spared mid)) f.thing (among_filter is_spared (filter is_spared mid) f.thing spared (none_spared f.thing.unfenced none))))
              | false ↦ λ other.
                  let drops : drops_entry own f.thing.entry ≡ false =
                  ap (drops_entry own) f.is ∙ (sym (ap (λ (command : Option Command). drops_by command entry) (done ∙ same)) ∙ off) in
                  let named : Kept = named_by number own f.thing in
                  let among : IsAmong (filter is_spared (map (named_by number own) mid)) named =
                  among_filter is_spared (map (named_by number own) mid) named (among_of (named_by number own) mid f.thing f.among) (spared_still own f.thing drops none) in
                  subst (λ (left : List Kept). IsAmong (entries_in (filter is_spared left)) entry) (sym (other_leaves number own mid other))
                  (subst (IsAmong (entries_in (filter is_spared (map (named_by number own) mid)))) (named_same number own f.thing ∙ f.is)
                  (among_of entry_of (filter is_spared (map (named_by number own) mid)) named among))
            ] in by_fence (is_fence own) refl
      ] in by_command command refl

  pub has_left : AreNoted → AreMid → executed (states steps) step ≡ command → executed At step ≡ executed (states steps) step →
      HasLeft ahead start steps step (left_by number command mid)
  has_left noted are done same = record {
    holds = λ entry off had. holds_left are done entry (sym (ap (is_fence_by queue_commands) same) ∙ off) had;
    outlasts = λ entry off had. outlasting_left noted are done entry (sym (ap (λ (command : Option Command). drops_by command entry) same) ∙ off) had;
  }

  -- and the number of the command that isn't fenced yet
  abbrev AreUnfenced : Type 0
  AreUnfenced = (kept : Kept) → IsAmong mid kept → (Reads kept.entry × (kept.unfenced ≡ None)) ⊎ ((Reads kept.entry → ⊥) × IsUnfenced ahead start taken kept.entry kept.unfenced)

  unnamed : (entry : Entry) → drops_by (executed At step) entry ≡ false → Names start steps step entry → ⊥
  unnamed entry off is = absurd (cc (off, is))

  unfenced_still : (entry : Entry) (unfenced : Option ℕ) → drops_by (executed At step) entry ≡ false → is_fence_by queue_commands (executed At step) ≡ false →
      (Reads entry × (unfenced ≡ None)) ⊎ ((Reads entry → ⊥) × IsUnfenced ahead start taken entry unfenced) → IsUnfencedSoFar ahead start ((step, number) ∷ taken) entry unfenced
  unfenced_still entry unfenced off other h = inr (inr (
    unnamed entry off,
    elim h [
      | inl new ↦ inl (inr new.0, new.1)
      | inr old ↦ inr (
        λ clears. elim clears [
          | inl fence ↦ absurd (cc (fence, other))
          | inr read ↦ old.0 read
        ],
        old.1,
      )
    ],
  ))

  pub unfenced_left : AreUnfenced → executed At step ≡ command → (kept : Kept) → IsAmong (left_by number command mid) kept → IsUnfencedSoFar ahead start ((step, number) ∷ taken) kept.entry kept.unfenced
  unfenced_left were done kept h = elim (left_as number command mid kept h) [
    | ByNone none among ↦ unfenced_still kept.entry kept.unfenced (ap (λ (command : Option Command). drops_by command kept.entry) (done ∙ none)) (ap (is_fence_by queue_commands) (done ∙ none)) (were kept among)
    | ByFence own same is among spared ↦
        let off : drops_by (executed At step) kept.entry ≡ false = ap (λ (command : Option Command). drops_by command kept.entry) (done ∙ same) ∙ fence_names own kept.entry is in
        let fence : is_fence_by queue_commands (executed At step) ≡ true = ap (is_fence_by queue_commands) (done ∙ same) ∙ is in
        inr (inr (unnamed kept.entry off, inl (inl fence, spared)))
    | ByOther own same off named ↦
        let Goal : Kept → Type 0 = λ kept. IsUnfencedSoFar ahead start ((step, number) ∷ taken) kept.entry kept.unfenced in
        let names : drops_by (executed At step) named.own.entry ≡ drops_entry own named.own.entry = ap (λ (command : Option Command). drops_by command named.own.entry) (done ∙ same) in
        let other : is_fence_by queue_commands (executed At step) ≡ false = ap (is_fence_by queue_commands) (done ∙ same) ∙ off in
        let ByDrop : Bool → Type 0 = λ b. drops_entry own named.own.entry ≡ b → Goal (if b then record named.own { unfenced = Some number } else named.own) in
        let by_drop : (b : Bool) → ByDrop b = λ b. elim b as ByDrop [
          | true ↦ λ is. inr (inl (names ∙ is, refl))
          | false ↦ λ is. unfenced_still named.own.entry named.own.unfenced (names ∙ is) other (were named.own named.among)
        ] in subst Goal named.is (by_drop (drops_entry own named.own.entry) refl)
  ]
