-- The account of the steps: which of them filled the caches, and of which it is kept why they went as they did.
use Rattle.std.specs.Prelude.{ℕ, ◌≡◌, ◌++◌, ◌==◌, [], ◌∷◌, Bool, true, false, List, length, Option, Some, None}
use Rattle.circular_buffer.specs.Buffer.{buffer, keep_last}
use Rattle.iom_core.specs.State.{State}
use Rattle.iom_core.specs.declared.access.Request.{Request}
use Rattle.iom_core.specs.declared.step.Step.{Step}
use Rattle.iom_account.specs.Account.{IsReasonOf}
use Rattle.iom_account.specs.Following.{ComesFrom, Follows, HistoryView}
use Rattle.iom_account.specs.declared.reason.Reason.{Reason}
use Rattle.iom_c.specs.Settling.{HoldsOn}
use Rattle.iom_c.specs.declared.kept.Kept.{Kept}
use Rattle.iom_c.specs.declared.settling.Settling.TheVariants as settling
use Rattle.iom_c.specs.declared.told.Told.{Told}

-- no reason yet, of the last `most` steps, or of the last `most` that make an access
abbrev pub none_kept : ℕ → Bool → Kept
none_kept most accesses_only = record { ring = buffer [] most; accesses_only = accesses_only }

-- an equal history, with no reason yet, and room for as many of such steps; what any IOMMU may hold isn't kept
abbrev pub copied : Told → Told
copied told = record {
  history = told.history;
  kept = none_kept told.kept.ring.capacity told.kept.accesses_only;
  settling = settling.NotKept;
}

abbrev pub has_no_room : Kept → Bool
has_no_room kept = kept.ring.capacity == 0

-- one more, of which the last are kept
abbrev pub with_reason : Kept → Reason → Kept
with_reason kept reason = record kept { ring = buffer (keep_last kept.ring.capacity (kept.ring.items ++ reason ∷ [])) kept.ring.capacity }

-- what is kept after a step that asked this, if anything
abbrev pub kept_asking : Kept → Bool → Option Request → Reason → Kept
kept_asking kept true None reason = kept
kept_asking kept true (Some request) reason = with_reason kept reason
kept_asking kept false request reason = with_reason kept reason

-- what is kept after a step of this reason
abbrev pub kept_after : Kept → Reason → Kept
kept_after kept reason = kept_asking kept kept.accesses_only reason.request reason

-- why a step goes as it does from this platform on: what it asks, where that leads, whether it is stale, and, if the history followed the
-- steps before it from a start whose caches held nothing, where the translation comes from that it uses
pub record IsWhy (history : HistoryView) (state : State) (step : Step) (number : ℕ) (reason : Reason) : Type 0 where
  pub own : IsReasonOf state step number reason
  pub origin : (start : State) (steps : List Step) (numbers : List ℕ) → Follows history state start steps numbers →
      ComesFrom start (steps ++ step ∷ []) (numbers ++ number ∷ []) (length steps) reason.origin

-- the reason of a step is kept, if there is room for one
abbrev pub KeepsIf : Bool → Kept → (Reason → Type 0) → Kept → Type 0
KeepsIf true old Is new = new ≡ old
KeepsIf false old Is new = (reason : Reason) × Is reason × (new ≡ kept_after old reason)

-- It went along with a step of this number, from one platform to the next.
pub record GoesOn (old : Told) (state : State) (step : Step) (number : ℕ) (new : Told) (after : State) : Type 0 where
  pub follows : (start : State) (steps : List Step) (numbers : List ℕ) → Follows old.history state start steps numbers →
      Follows new.history after start (steps ++ step ∷ []) (numbers ++ number ∷ [])
  pub kept : KeepsIf (has_no_room old.kept) old.kept (IsWhy old.history state step number) new.kept
  pub settling : HoldsOn old.settling state step number new.settling
