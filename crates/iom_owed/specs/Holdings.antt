-- What is kept beside a platform: the entries that an IOMMU may hold after its steps, and the requests that the steps made. RISC-V IOMMU
-- Architecture 1.0, "Caching in-memory data structures". Besides the requests of devices it may read some requests ahead.
use Rattle.std.specs.Prelude.{ℕ, ◌≡◌, ◌⊎◌, ◌↔◌, ◌*◌, ◌/◌, true, List, [], ◌∷◌, map, Option, Some, None}
use Rattle.std.specs.Option.{option_map}
use Rattle.iom_choices.specs.Models.{end_of}
use Rattle.iom_choices.specs.Settled.{IsRead}
use Rattle.iom_choices.specs.Systems.{IsAmong}
use Rattle.iom_core.specs.State.{State}
use Rattle.iom_core.specs.Table.{executed, request_of_step}
use Rattle.iom_choices.specs.Late.{is_fence_by}
use Rattle.iom_every.specs.Drops.{drops_by}
use Rattle.iom_core.specs.declared.access.Request.{Request}
use Rattle.iom_core.specs.declared.step.Step.{Step}
use Rattle.iom_every.specs.declared.entry.Entry.{Entry}
use Rattle.iom_every.specs.Every.{MayAhead, MayReadAhead, OutlastsAhead, iommu, is_listed, none_ahead, platform, queue_commands}
use Rattle.iom_every.specs.Rows.{bare}
use Rattle.iom_held.specs.Kept.{HasNoneTwice, entries_in}
use Rattle.iom_owed.specs.Newest.{steps_of}
use Rattle.iom_held.specs.declared.kept.Kept.{Kept}
use Rattle.iom_owed.specs.declared.noting.Made.{Made}

pub record HoldingsView : Type 0 where
  pub ahead : List Request
  pub entries : List Kept
  pub requests : List Made

abbrev pub request_of : Made → Request
request_of made = made.request

abbrev pub requests_in : List Made → List Request
requests_in made = map request_of made

-- a request for the first byte of its page stands for all that the same device makes of this page and kind
abbrev pub at_page : Request → Request
at_page request = record request { iova = request.iova / 4096 * 4096 }

-- A step after these could read the entry for its own access: a walk of it reads the entry, over entries that may be held.
abbrev pub CouldRead : List Request → State → List Step → Step → Entry → Type 0
CouldRead ahead start steps last entry = IsRead (iommu none_ahead) (MayAhead (is_listed ahead) start steps) (bare (end_of platform start steps)) last entry

-- The step or, behind it, what is read ahead could read it.
abbrev pub CouldReadBy : List Request → State → List Step → Step → Entry → Type 0
CouldReadBy ahead start steps last entry = CouldRead ahead start steps last entry ⊎ MayReadAhead (is_listed ahead) start (last ∷ steps) entry

-- The number of the newest step that could read the entry, or behind which it could be read ahead; 0 if there is none: it was read ahead before
-- the first step.
abbrev pub IsReadIn : List Request → State → List (Step × ℕ) → Entry → ℕ → Type 0
IsReadIn ahead start [] entry number = number ≡ 0
IsReadIn ahead start (last ∷ taken) entry number =
    (CouldReadBy ahead start (steps_of taken) last.0 entry → number ≡ last.1)
    × (CouldReadBy ahead start (steps_of taken) last.0 entry ⊎ IsReadIn ahead start taken entry number)

-- A step's command names the entry.
abbrev pub Names : State → List Step → Step → Entry → Type 0
Names start steps last entry = drops_by (executed (end_of platform start steps) last) entry ≡ true

-- A fence is executed in it, or it could read the entry: then no command before it is left that names the entry.
abbrev pub Clears : List Request → State → List Step → Step → Entry → Type 0
Clears ahead start steps last entry = (is_fence_by queue_commands (executed (end_of platform start steps) last) ≡ true) ⊎ CouldRead ahead start steps last entry

-- The number of the newest step whose command names the entry, if no step behind it clears that and nothing that is read ahead behind it; None:
-- there is none.
abbrev pub IsUnfenced : List Request → State → List (Step × ℕ) → Entry → Option ℕ → Type 0
IsUnfenced ahead start [] entry number = number ≡ None
IsUnfenced ahead start (last ∷ taken) entry number =
    (MayReadAhead (is_listed ahead) start (steps_of (last ∷ taken)) entry → number ≡ None)
    × (MayReadAhead (is_listed ahead) start (steps_of (last ∷ taken)) entry
    ⊎ ((Names start (steps_of taken) last.0 entry × (number ≡ Some last.1))
    ⊎ ((Names start (steps_of taken) last.0 entry → ⊥)
    × ((Clears ahead start (steps_of taken) last.0 entry × (number ≡ None))
    ⊎ ((Clears ahead start (steps_of taken) last.0 entry → ⊥) × IsUnfenced ahead start taken entry number)))))

-- a step after these makes the request
abbrev pub Makes : State → List Step → Step → Request → Type 0
Makes start steps last request = option_map at_page (request_of_step (end_of platform start steps) last) ≡ Some request

-- The number of the newest step that made the request, which is for the first byte of its page; 0 if none did, and it is one that is read ahead.
abbrev pub IsMadeLast : List Request → State → List (Step × ℕ) → Request → ℕ → Type 0
IsMadeLast ahead start [] request number = IsAmong (map at_page ahead) request × (number ≡ 0)
IsMadeLast ahead start (last ∷ taken) request number =
    (Makes start (steps_of taken) last.0 request × (number ≡ last.1))
    ⊎ ((Makes start (steps_of taken) last.0 request → ⊥) × IsMadeLast ahead start taken request number)

-- one of these steps makes the request, for this very byte
abbrev pub IsMadeIn : State → List Step → Request → Type 0
IsMadeIn start [] request = ⊥
IsMadeIn start (last ∷ steps) request = (request_of_step (end_of platform start steps) last ≡ Some request) ⊎ IsMadeIn start steps request

-- The entries that may be held after these steps, each once, with the number of the newest step that could read it and that of the command, not
-- fenced yet, that names it: without one a fence that comes now leaves it. An IOMMU may also read these requests ahead, between any two steps. And
-- these and the requests that the steps made, each once and with the number of the newest step that made it.
pub record Keeps (ahead : List Request) (held : HoldingsView) (state start : State) (taken : List (Step × ℕ)) : Type 0 where
  pub reached : state ≡ end_of platform start (steps_of taken)
  pub ahead_is : held.ahead ≡ ahead
  pub entries : (entry : Entry) → IsAmong (entries_in held.entries) entry ↔ MayAhead (is_listed ahead) start (steps_of taken) entry
  pub reads : (kept : Kept) → IsAmong held.entries kept → IsReadIn ahead start taken kept.entry kept.number
  pub outlasts : (kept : Kept) → IsAmong held.entries kept → (kept.unfenced ≡ None) ↔ OutlastsAhead (is_listed ahead) start (steps_of taken) kept.entry
  pub unfenced : (kept : Kept) → IsAmong held.entries kept → IsUnfenced ahead start taken kept.entry kept.unfenced
  pub entries_once : HasNoneTwice (entries_in held.entries)
  pub requests : (made : Made) → IsAmong held.requests made ↔ IsMadeLast ahead start taken made.request made.number
  pub requests_once : HasNoneTwice (requests_in held.requests)
