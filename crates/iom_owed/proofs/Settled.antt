-- Where what each step requests is settled before it, each step is settled, for each IOMMU.
use Rattle.std.proofs.Common.{◌≡◌, Bool, true, false, List, [], ◌∷◌, Option, Some, None, refl, sym, subst, inl, inr}
use Rattle.iom_choices.specs.Late.{is_fence_by}
use Rattle.iom_choices.specs.Models.{end_of}
use Rattle.iom_choices.specs.Pauses.{taken}
use Rattle.iom_choices.specs.Settled.{AreSettled, IsRead, IsSettled}
use Rattle.iom_choices.proofs.Between.{held_outlasting, step_held, step_outlasts}
use Rattle.iom_choices.proofs.Lists.{each_weaker}
use Rattle.iom_choices.proofs.Outlasting.{held_behind_fence, held_by, outlasted, settled_numbered}
use Rattle.iom_core.specs.State.{State}
use Rattle.iom_core.specs.Table.{executed, request_of_step}
use Rattle.iom_core.specs.declared.access.Request.{Request}
use Rattle.iom_core.specs.declared.step.Step.{Step}
use Rattle.iom_every.specs.declared.entry.Entry.{Entry}
use Rattle.iom_every.specs.Every.{May, MayAhead, Outlasts, OutlastsAhead, alone_iommu, every_view, iommu, is_listed, late_iommu, late_view, none_ahead, platform, prefetching_iommu, queue_commands}
use Rattle.iom_every.specs.Rows.{bare}
use Rattle.iom_every.specs.Uses.{Look}
use Rattle.iom_every.proofs.Kept.{asks_bare}
use Rattle.iom_every.proofs.Prefetching.{settled_ahead}
use Rattle.iom_owed.specs.Settled.{IsEachSettled, IsSettledBefore}
use Rattle.iom_owed.proofs.Reading.{own_read}

-- What may be held where nothing is read ahead, and what of it outlasts a fence, may be held where these requests are, and outlasts it.
record IsMore (ahead : List Request) (start : State) (steps : List Step) : Type 0 where
  may : (entry : Entry) → May none_ahead start steps entry → MayAhead (is_listed ahead) start steps entry
  lasts : (entry : Entry) → Outlasts none_ahead start steps entry → OutlastsAhead (is_listed ahead) start steps entry

module _ (ahead : List Request) (start : State) where
  abbrev states : List Step → State
  states steps = bare (end_of platform start steps)

  -- a step's reads
  read_more : (last : Step) (steps : List Step) → IsMore ahead start steps → (entry : Entry) → IsRead (iommu none_ahead) (May none_ahead start steps) (states steps) last entry →
      IsRead (alone_iommu (is_listed ahead)) (MayAhead (is_listed ahead) start steps) (states steps) last entry
  read_more last steps more entry read =
      own_read (is_listed ahead) (MayAhead (is_listed ahead) start steps) (states steps) last entry (record {
        target = read.target;
        source = read.source;
        may = each_weaker (λ (used : Look × Entry). May none_ahead start steps used.1) (λ (used : Look × Entry). MayAhead (is_listed ahead) start steps used.1) read.source (λ used may. more.may used.1 may) read.may;
        among = read.among;
      })

  more_behind : (last : Step) (steps : List Step) → IsMore ahead start steps → IsMore ahead start (last ∷ steps)
  more_behind last steps more =
      let lasting : (entry : Entry) → Outlasts none_ahead start (last ∷ steps) entry → OutlastsAhead (is_listed ahead) start (last ∷ steps) entry = λ entry lasts.
      let before = outlasted (iommu none_ahead) queue_commands states last steps entry lasts in
      step_outlasts (alone_iommu (is_listed ahead)) queue_commands states last steps entry before.0 (elim before.1 [
        | inl old ↦ inl (more.lasts entry old)
        | inr read ↦ inr (read_more last steps more entry read)
      ]) in
      let Goal : Bool → Type 0 = λ b. is_fence_by queue_commands (executed (states steps) last) ≡ b → (entry : Entry) → May none_ahead start (last ∷ steps) entry → MayAhead (is_listed ahead) start (last ∷ steps) entry in
      let by_fence : (b : Bool) → Goal b = λ b. elim b as Goal [
        | true ↦ λ is entry may. held_outlasting (alone_iommu (is_listed ahead)) queue_commands states (last ∷ steps) entry
            (lasting entry (held_behind_fence (iommu none_ahead) queue_commands states last steps entry is may))
        | false ↦ λ off entry may. step_held (alone_iommu (is_listed ahead)) queue_commands states last steps entry off (elim (held_by (iommu none_ahead) queue_commands states last steps entry may) [
          | inl old ↦ inl (more.may entry old)
          | inr read ↦ inr (read_more last steps more entry read)
        ])
      ] in record { may = by_fence (is_fence_by queue_commands (executed (states steps) last)) refl; lasts = lasting }

more_ahead : (ahead : List Request) (start : State) (steps : List Step) → IsMore ahead start steps
more_ahead ahead start [] = record { may = λ entry may. absurd may.may; lasts = λ entry lasts. absurd lasts.may }
more_ahead ahead start (last ∷ steps) = more_behind ahead start last steps (more_ahead ahead start steps)

-- a step that makes no access is settled
settled_before : (ahead : List Request) (start : State) (steps : List Step) (request : Option Request) → IsSettledBefore ahead start steps request →
    IsSettled (iommu (is_listed ahead)) (MayAhead (is_listed ahead) start steps) (bare (end_of platform start steps)) request
settled_before ahead start steps None h = λ source each. refl
settled_before ahead start steps (Some request) h = h

settled_alone : (ahead : List Request) (start : State) (steps : List Step) (request : Option Request) → IsSettledBefore ahead start steps request →
    IsSettled (iommu none_ahead) (May none_ahead start steps) (bare (end_of platform start steps)) request
settled_alone ahead start steps None h = λ source each. refl
settled_alone ahead start steps (Some request) h = λ source each. h source
    (each_weaker (λ (used : Look × Entry). May none_ahead start steps used.1) (λ (used : Look × Entry). MayAhead (is_listed ahead) start steps used.1) source
    (λ used may. (more_ahead ahead start steps).may used.1 may) each)

pub each_settled : (ahead : List Request) (start : State) (steps : List Step) → IsEachSettled ahead start steps → AreSettled (late_iommu none_ahead) (late_view start) steps
each_settled ahead start [] h = tt
each_settled ahead start (last ∷ steps) h = (
  settled_numbered (iommu none_ahead) queue_commands (λ steps. bare (end_of platform start steps)) steps (request_of_step (bare (end_of platform start steps)) last)
      (subst (IsSettled (iommu none_ahead) (May none_ahead start steps) (bare (end_of platform start steps))) (sym (asks_bare (end_of platform start steps) last))
      (settled_alone ahead start steps (request_of_step (end_of platform start steps) last) h.0)),
  each_settled ahead start steps h.1,
)

-- so it is behind any pauses
pub each_settled_ahead : (ahead : List Request) (start : State) (steps : List (Option Step)) → IsEachSettled ahead start (taken steps) → AreSettled (prefetching_iommu (is_listed ahead)) (every_view start) steps
each_settled_ahead ahead start [] h = tt
each_settled_ahead ahead start (None ∷ steps) h = (λ source each. refl, each_settled_ahead ahead start steps h)
each_settled_ahead ahead start (Some last ∷ steps) h = (
  settled_ahead (is_listed ahead) start steps (request_of_step (bare (end_of platform start (taken steps))) last)
      (subst (IsSettled (iommu (is_listed ahead)) (MayAhead (is_listed ahead) start (taken steps)) (bare (end_of platform start (taken steps)))) (sym (asks_bare (end_of platform start (taken steps)) last))
      (settled_before ahead start (taken steps) (request_of_step (end_of platform start (taken steps)) last) h.0)),
  each_settled_ahead ahead start steps h.1,
)
