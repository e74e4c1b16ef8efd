-- Why a step went as it did, and which step filled a place of a cache, in C.
use Rattle.std.specs.Prelude.{ℕ, ◌≡◌, true, false, [], ◌∷◌, Option, Some, None}
use Rattle.std.specs.Option.{unwrap_or}
use Rattle.iom_core.specs.declared.access.Request.{Request}
use Rattle.iom_core.specs.declared.way.Way.{Way}
use Rattle.iom_account.specs.declared.history.FilledBy.{FilledBy}
use Rattle.iom_account.specs.declared.origin.NumberedWarrant.{NumberedWarrant}
use Rattle.iom_account.specs.declared.origin.NumberedWarrant.TheVariants as origin
use Rattle.iom_account.specs.declared.reason.Reason.{Reason}
use Rattle.iom_c.specs.Faults.{not_there, ok}
use Rattle.iom_c.specs.Looks.{is_write}
use Rattle.iom_c.specs.Reasons.{plain_way, way_of}
use Rattle.iom_c.specs.declared.why.StepReason.{StepReason}

-- a reason with nothing but its step's number and its kind
abbrev pub plain_reason : ℕ → ℕ → StepReason
plain_reason number kind = record {
  way = plain_way 0;
  number = number;
  iova = 0;
  context = 0;
  walk = 0;
  current = 0;
  did = 0;
  kind = kind;
  is_write = false;
  is_stale = false;
  address = 0;
  reserved = 0 ∷ 0 ∷ 0 ∷ [];
}

-- a reason of a step that asked this
abbrev pub asked_by : ℕ → ℕ → Request → StepReason
asked_by number kind request = record (plain_reason number kind) {
  iova = request.iova;
  did = request.did;
  is_write = is_write request.kind;
}

-- of one whose access was let through
abbrev pub led_by : ℕ → Request → NumberedWarrant → StepReason
led_by number request origin.Register = asked_by number 2 request
led_by number request (origin.Context context) = record (asked_by number 3 request) { context = context }
led_by number request (origin.Walked context walk current) =
    record (asked_by number 4 request) { context = context; walk = walk; current = current }

-- what a step asked, and where the translation came from that it used
abbrev pub used_by : ℕ → Option Request → Option NumberedWarrant → StepReason
used_by number None used = plain_reason number 0
used_by number (Some request) None = asked_by number 1 request
used_by number (Some request) (Some found) = led_by number request found

-- where it was stale, the way that the tables said
abbrev pub beside_tables : Option Request → Option Way → StepReason → StepReason
beside_tables None stale reason = reason
beside_tables (Some request) None reason = reason
beside_tables (Some request) (Some way) reason = record reason { way = way_of request.did way; is_stale = true }

-- with the physical address that its access was led to
abbrev pub led_to : Option ℕ → StepReason → StepReason
led_to address reason = record reason { address = unwrap_or address 0 }

abbrev pub reason_of : Reason → StepReason
reason_of reason =
    beside_tables reason.request reason.stale (led_to reason.address (used_by reason.number reason.request reason.origin))

-- of a step that there is, why it went as it did
abbrev pub WhyTold : Option Reason → ℕ → StepReason → StepReason → Type 0
WhyTold (Some reason) answer old new = (answer ≡ ok) × (new ≡ reason_of reason)
WhyTold None answer old new = (answer ≡ not_there) × (new ≡ old)

-- of a place that there is, the number of the step that filled it
abbrev pub OriginTold : Option ℕ → ℕ → ℕ → ℕ → Type 0
OriginTold (Some number) answer old new = (answer ≡ ok) × (new ≡ number)
OriginTold None answer old new = (answer ≡ not_there) × (new ≡ old)

-- of a place of the translation cache, the numbers of the step that filled the context under which it was filled, and of that which
-- filled it
abbrev pub PageOriginTold : Option FilledBy → ℕ → ℕ → ℕ → ℕ → ℕ → Type 0
PageOriginTold (Some filled) answer old new old_walk new_walk =
    (answer ≡ ok) × (new ≡ filled.context) × (new_walk ≡ filled.walk)
PageOriginTold None answer old new old_walk new_walk = (answer ≡ not_there) × (new ≡ old) × (new_walk ≡ old_walk)
