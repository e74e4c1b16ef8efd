-- Whether the accesses of lines are settled, that is led by each IOMMU where the tables lead them, whatever it keeps and forgets: RISC-V IOMMU
-- Architecture 1.0, "Caching in-memory data structures".
use Rattle.std.specs.Prelude.{ℕ, ◌≡◌, ◌++◌, Bool, true, false, List, [], ◌∷◌, codes, Option, Some, None, Result, Ok, Err, if◌then◌else◌}
use Rattle.std.specs.Option.{option_map}
use Rattle.iom_text.specs.Texts.{hexadecimal, numeral}
use Rattle.iom_core.specs.Access.{address_on}
use Rattle.iom_core.specs.Run.{end_of}
use Rattle.iom_core.specs.State.{State}
use Rattle.iom_core.specs.Table.{next, request_of_step}
use Rattle.iom_core.specs.declared.access.Denial.{Denial}
use Rattle.iom_core.specs.declared.access.Request.{Request}
use Rattle.iom_core.specs.declared.step.Step.{Step}
use Rattle.iom_every.specs.Making.{is_whole}
use Rattle.iom_held.specs.declared.kept.Kept.{Kept}
use Rattle.iom_owed.specs.Behind.{KeepsBehind, newest_number}
use Rattle.iom_owed.specs.Holdings.{HoldingsView, Keeps}
use Rattle.iom_owed.specs.Newest.{steps_of}
use Rattle.iom_owed.specs.Settled.{AreOwed, IsStepBeside, IsStepJudged, read_number}
use Rattle.iom_owed.specs.declared.settling.Judgement.{Judgement}
use Rattle.iom_owed.specs.declared.settling.Owed.{Owed}
use Rattle.iom_owed.specs.declared.settling.Unsettled.{Unsettled}
use Rattle.iom_debug.specs.Invalidations.{invalidation_text}
use Rattle.iom_debug.specs.Marks.{MarksView, named_at}
use Rattle.iom_debug.specs.Stale.{difference_text, kind_text}
use Rattle.iom_debug.specs.Ways.{address_text}
use Rattle.iom_debug.specs.declared.invalidations.Invalidation.{Invalidation}
use Rattle.iom_debug.specs.declared.settling.UnsettledAccess.{UnsettledAccess}

-- What any IOMMU may hold, the access of the last step, if that wasn't settled just before it, and the last access of a line that wasn't; and the
-- same of accesses that were settled and that an IOMMU may lead by another way. Where memory was refused no more is known.
pub record SettlingView : Type 0 where
  pub holdings : HoldingsView
  pub last : Option UnsettledAccess
  pub last_beside : Option UnsettledAccess
  pub unsettled : Option UnsettledAccess
  pub beside : Option UnsettledAccess
  pub is_lost : Bool

-- a line begins
abbrev pub line_begun : SettlingView → SettlingView
line_begun settling = record settling { unsettled = None; beside = None }

-- the last of two, where there is one
abbrev pub later_unsettled : Option UnsettledAccess → Option UnsettledAccess → Option UnsettledAccess
later_unsettled found None = found
later_unsettled found (Some access) = Some access

-- the access of a step's request that isn't settled
abbrev pub access_of : Option Request → Option Unsettled → Option UnsettledAccess
access_of None judged = None
access_of (Some request) judged = option_map (λ unsettled. record { request = request; unsettled = unsettled }) judged

-- This is found of what a step asks after these steps, beside which this is held, if these requests are read ahead: None where it is settled, or
-- asks nothing.
abbrev pub IsFound : List Request → HoldingsView → State → List Step → Option Request → Option UnsettledAccess → Type 0
IsFound ahead held start steps request found =
    (judged : Option Unsettled) × (found ≡ access_of request judged) × IsStepJudged ahead held start steps request judged

-- And this, where it is settled: by what other way an IOMMU may lead it to where the tables do. None: each is the tables' way.
abbrev pub IsFoundBeside : List Request → HoldingsView → State → List Step → Option Request → Option UnsettledAccess → Option UnsettledAccess → Type 0
IsFoundBeside ahead held start steps request found beside =
    (judged : Judgement) × (found ≡ access_of request judged.unsettled) × (beside ≡ access_of request judged.beside) × IsStepBeside ahead held start steps request judged

-- A step leaves this: its access, where that wasn't settled just before. Unless memory was refused, that is judged by what any IOMMU may
-- hold; `Holds` says what is kept of that behind the step.
pub record SettlesTo (Holds : List Request → HoldingsView → State → State → List (Step × ℕ) → Type 0) (before : SettlingView) (state : State) (step : Step) (number : ℕ) (after : SettlingView) : Type 0 where
  pub told : after.unsettled ≡ later_unsettled before.unsettled after.last
  pub told_beside : after.beside ≡ later_unsettled before.beside after.last_beside
  pub lost : before.is_lost ≡ true → after.is_lost ≡ true
  pub judged : after.is_lost ≡ false → (ahead : List Request) (start : State) (taken : List (Step × ℕ)) → Keeps ahead before.holdings state start taken →
      IsFound ahead before.holdings start (steps_of taken) (request_of_step state step) after.last
  pub beside : after.is_lost ≡ false → (ahead : List Request) (start : State) (taken : List (Step × ℕ)) → Keeps ahead before.holdings state start taken →
      IsFoundBeside ahead before.holdings start (steps_of taken) (request_of_step state step) after.last after.last_beside
  pub keeps : after.is_lost ≡ false → (ahead : List Request) (start : State) (taken : List (Step × ℕ)) → Keeps ahead before.holdings state start taken →
      Holds ahead after.holdings (next state step).state start ((step, number) ∷ taken)

-- all of it; or all but what is read ahead behind the step
abbrev pub Settles : SettlingView → State → Step → ℕ → SettlingView → Type 0
Settles = SettlesTo Keeps

abbrev pub SettlesBehind : SettlingView → State → Step → ℕ → SettlingView → Type 0
SettlesBehind = SettlesTo KeepsBehind

-- What is read ahead behind the last step, which has this number, is put in: all is kept then, unless memory was refused.
pub record ReadsAhead (before : SettlingView) (state : State) (number : ℕ) (after : SettlingView) : Type 0 where
  pub same : after ≡ record before { holdings = after.holdings; is_lost = after.is_lost }
  pub lost : before.is_lost ≡ true → after.is_lost ≡ true
  pub keeps : after.is_lost ≡ false → (ahead : List Request) (start : State) (taken : List (Step × ℕ)) → newest_number taken ≡ number →
      KeepsBehind ahead before.holdings state start taken → Keeps ahead after.holdings state start taken

-- the same where settledness is told, and else nothing
abbrev pub SettlesBehindIf : Option SettlingView → State → Step → ℕ → Option SettlingView → Type 0
SettlesBehindIf None state step number after = after ≡ None
SettlesBehindIf (Some before) state step number after = (some : SettlingView) × (after ≡ Some some) × SettlesBehind before state step number some

abbrev pub ReadsAheadIf : Option SettlingView → State → ℕ → Option SettlingView → Type 0
ReadsAheadIf None state number after = after ≡ None
ReadsAheadIf (Some before) state number after = (some : SettlingView) × (after ≡ Some some) × ReadsAhead before state number some

abbrev pub SettlesIf : Option SettlingView → State → Step → ℕ → Option SettlingView → Type 0
SettlesIf None state step number after = after ≡ None
SettlesIf (Some before) state step number after = (some : SettlingView) × (after ≡ Some some) × Settles before state step number some

-- steps of a line of this number behind some others, the newest first
abbrev pub with_line : ℕ → List Step → List (Step × ℕ) → List (Step × ℕ)
with_line number [] taken = taken
with_line number (step ∷ steps) taken = with_line number steps ((step, number) ∷ taken)

-- what is held goes along with steps of a line of this number, one after the other, unless memory was refused
abbrev pub HoldsOn : Option SettlingView → State → List Step → ℕ → Option SettlingView → Type 0
HoldsOn None state steps number after = after ≡ None
HoldsOn (Some before) state steps number after =
    (some : SettlingView) × (after ≡ Some some) × (before.is_lost ≡ true → some.is_lost ≡ true)
    × (some.is_lost ≡ false → (ahead : List Request) (start : State) (taken : List (Step × ℕ)) → Keeps ahead before.holdings state start taken →
    Keeps ahead some.holdings (end_of state steps) start (with_line number steps taken))

-- the last access of a line that wasn't settled
abbrev pub unsettled_in : Option SettlingView → Option UnsettledAccess
unsettled_in None = None
unsettled_in (Some settling) = settling.unsettled

-- the last access of a line that was settled, and that an IOMMU may lead by another way
abbrev pub beside_in : Option SettlingView → Option UnsettledAccess
beside_in None = None
beside_in (Some settling) = settling.beside

-- the access of the last step, if that wasn't settled just before it
abbrev pub last_unsettled_in : Option SettlingView → Option UnsettledAccess
last_unsettled_in None = None
last_unsettled_in (Some settling) = settling.last

-- whether memory was refused, where settledness is told
abbrev pub is_lost_in : Option SettlingView → Bool
is_lost_in None = false
is_lost_in (Some settling) = settling.is_lost

-- this is owed, where settledness is told: by each start, and steps from it that what is held goes along with
abbrev pub AreOwedBy : Option SettlingView → State → List Owed → Type 0
AreOwedBy None state owed = owed ≡ []
AreOwedBy (Some settling) state owed =
    (ahead : List Request) (start : State) (taken : List (Step × ℕ)) → Keeps ahead settling.holdings state start taken →
    AreOwed ahead settling.holdings start (steps_of taken) owed

abbrev pub may_text : Result ℕ Denial → List ℕ
may_text (Ok addr) = codes " may still go to "
may_text (Err denial) = codes " may still be "

-- a whole translation is made of what a walk reads or uses, which may be gone since
abbrev pub is_made : Option Kept → Bool
is_made None = false
is_made (Some kept) = is_whole kept.entry

-- the line whose step read an entry that alone leads there, or made it, where there is one, as it is named
abbrev pub read_in_text : Bool → Option (List ℕ) → List ℕ
read_in_text made None = []
read_in_text made (Some line) = (if made then codes ", made in " else codes ", read in ") ++ line

-- as `may still go to addr=0x80011abc, read in line 12, the tables now say denied 13`
unfoldable pub elsewhere_text : Option (List ℕ) → Unsettled → ℕ → List ℕ
elsewhere_text line found iova =
    may_text (address_on found.elsewhere iova) ++ address_text (address_on found.elsewhere iova) ++ read_in_text (is_made found.serving) line
    ++ difference_text found.elsewhere found.tables iova

-- the same, and what is told of the invalidations behind the step that read the entry; the last one is this. Lines are named as they stand.
unfoldable pub elsewhere_at : MarksView → Option Invalidation → Unsettled → ℕ → List ℕ
elsewhere_at marks last found iova =
    elsewhere_text (option_map (named_at marks) (read_number found.serving)) found iova ++ invalidation_text (named_at marks) last found.serving

-- as `read 0x40202000 of device 5`
unfoldable pub request_text : Request → List ℕ
request_text request = kind_text request.kind ++ hexadecimal request.iova ++ codes " of device " ++ numeral 10 request.did

-- as `read 0x40202abc may still go to addr=0x80011abc, read in line 12, the tables now say denied 13`
unfoldable pub unsettled_text : Option (List ℕ) → UnsettledAccess → List ℕ
unsettled_text line access =
    kind_text access.request.kind ++ hexadecimal access.request.iova ++ elsewhere_text line access.unsettled access.request.iova
