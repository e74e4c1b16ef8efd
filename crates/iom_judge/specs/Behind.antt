-- What a candidate may be behind a step.
use Rattle.std.specs.Prelude.{ℕ, ◌≡◌, ◌++◌, not, Bool, true, false, List, [], ◌∷◌, filter, flat_map, Option, Some, None, Result, if◌then◌else◌}
use Rattle.iom_choices.specs.Trees.{reads_in, ways_of}
use Rattle.iom_core.specs.Rows.{bare, row}
use Rattle.iom_core.specs.State.{State}
use Rattle.iom_core.specs.Table.{executed, request_of_step}
use Rattle.iom_core.specs.declared.access.Denial.{Denial}
use Rattle.iom_core.specs.declared.step.Step.{Step}
use Rattle.iom_every.specs.Making.{is_whole}
use Rattle.iom_every.specs.Trees.{tree_of}
use Rattle.iom_every.specs.declared.entry.Entry.{Entry}
use Rattle.iom_held.specs.Kept.{HasNoneTwice, entries_in, is_spared, left_by, may_lend}
use Rattle.iom_held.specs.declared.kept.Kept.{Kept}
use Rattle.iom_judge.specs.Candidates.{CandidateView, goes_over}
use Rattle.iom_judge.specs.Seen.{fits_seen, unseen}
use Rattle.iom_judge.specs.declared.seen.Seen.{Seen}
use Rattle.iom_owed.specs.Notes.{read_by}
use Rattle.iom_ways.specs.Ways.{AreAdded}

-- the entries that a step can read, over these entries
abbrev pub reads_over : State → List Entry → Step → List Entry
reads_over platform held taken = reads_in (ways_of tree_of (bare platform) held (request_of_step platform taken))

-- and the same in each form in which they may be kept
abbrev pub forms_over : State → List Entry → Step → List Entry
forms_over platform held taken = read_by (bare platform) held (request_of_step platform taken)

-- What of that outlasts the next fence: of the whole translations only those that can be made without a leaf that a command names. Made from such a
-- leaf before the command, a translation would be named too.
abbrev pub fresh_over : State → List Kept → Step → List Entry
fresh_over platform before taken =
    filter (λ entry. not (is_whole entry)) (forms_over platform (entries_in before) taken)
    ++ filter is_whole (forms_over platform (entries_in (filter may_lend before)) taken)

-- what can be held once a step has read: what could be before, and what it can read
pub record HasRead (platform : State) (taken : Step) (before after : List Kept) : Type 0 where
  pub holds : AreAdded (forms_over platform (entries_in before) taken) (entries_in before) (entries_in after)
  pub outlasts : HasNoneTwice (entries_in before) →
      AreAdded (fresh_over platform before taken) (entries_in (filter is_spared before)) (entries_in (filter is_spared after))
  pub once : HasNoneTwice (entries_in before) → HasNoneTwice (entries_in after)

-- and behind the step: less what its command takes out
pub record IsHeldBehind (platform : State) (taken : Step) (before after : List Kept) : Type 0 where
  pub mid : List Kept
  pub reads : HasRead platform taken before mid
  pub left : after ≡ left_by 0 (executed platform taken) mid

-- the candidate behind a step whose access goes there
abbrev pub next_of : State → List Kept → Step → Option (Result ℕ Denial) → CandidateView
next_of platform held taken goes = record { platform = (row platform taken goes).state; held = held; answer = (row platform taken goes).answer; goes = goes }

-- and only if that agrees with what was seen
abbrev pub behind_one : State → List Kept → Step → Seen → Option (Result ℕ Denial) → List CandidateView
behind_one platform held taken seen goes = if fits_seen ((row platform taken goes).answer, goes) seen then next_of platform held taken goes ∷ [] else []

-- those behind a step of one candidate
pub record AreBehind (taken : Step) (seen : Seen) (before : CandidateView) (added : List CandidateView) : Type 0 where
  pub places : List (Option (Result ℕ Denial))
  pub held : List Kept
  pub goes : AreAdded (goes_over (bare before.platform) (entries_in before.held) (request_of_step before.platform taken)) [] places
  pub holds : IsHeldBehind before.platform taken before.held held
  pub are : added ≡ flat_map (behind_one before.platform held taken seen) places

abbrev pub listed : Option CandidateView → List CandidateView
listed None = []
listed (Some one) = one ∷ []

-- A candidate whose access can go to one place alone was taken behind the step, and fits what was seen, or doesn't; None: it stayed.
abbrev pub IsTaken : Step → Seen → Option Bool → CandidateView → CandidateView → Type 0
IsTaken taken seen None before after = after ≡ before
IsTaken taken seen (Some true) before after = AreBehind taken seen before (after ∷ [])
IsTaken taken seen (Some false) before after = AreBehind taken seen before [] × AreBehind taken unseen before (after ∷ [])
