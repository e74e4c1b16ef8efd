-- Where held entries lead a request, together and each alone. The tables lead it by `tables`. Ways are compared by where they take it, or as a whole.
use Rattle.std.specs.Prelude.{ℕ, ◌≡◌, ◌≤◌, ◌⊎◌, Bool, true, false, List, [], ◌∷◌, Option, Some, None, IfSome}
use Rattle.iom_choices.specs.Systems.{IsAmong}
use Rattle.iom_choices.specs.Trees.{ways_over}
use Rattle.iom_core.specs.Looking.{by_tables}
use Rattle.iom_core.specs.State.{State}
use Rattle.iom_core.specs.declared.access.Request.{Request}
use Rattle.iom_core.specs.declared.way.Way.{Way as Led}
use Rattle.iom_every.specs.Rows.{bare}
use Rattle.iom_every.specs.declared.entry.Entry.{Entry}
use Rattle.iom_every.specs.Trees.{tree_of}
use Rattle.iom_held.specs.Kept.{entries_in}
use Rattle.iom_held.specs.declared.kept.Kept.{Kept}
use Rattle.iom_ways.specs.Ways.{leads}
use Rattle.iom_owed.specs.Alike.{IsAlike}
use Rattle.iom_owed.specs.declared.settling.Judgement.{Judgement}
use Rattle.iom_owed.specs.declared.settling.Unsettled.{Unsettled}

abbrev pub leads_over : State → Request → List Entry → List Led
leads_over state request held = leads (ways_over held (tree_of state request))

-- an entry alone leads the request by no other way
abbrev pub LeadsAlike : Bool → State → Request → Led → Kept → Type 0
LeadsAlike whole state request tables kept =
    (way : Led) → IsAmong (leads_over state request (kept.entry ∷ [])) way → IsAlike whole request.iova way tables

-- this entry alone leads it otherwise
pub record Serves (whole : Bool) (state : State) (request : Request) (tables : Led) (kept : Kept) (found : Unsettled) : Type 0 where
  pub by : found.serving ≡ Some kept
  pub led : IsAmong (leads_over state request (kept.entry ∷ [])) found.elsewhere
  pub told : found.tables ≡ tables
  pub differs : IsAlike whole request.iova found.elsewhere tables → ⊥

-- one of these entries alone leads it otherwise, and none with a smaller number does
pub record ServesAlone (whole : Bool) (state : State) (request : Request) (tables : Led) (held : List Kept) (found : Unsettled) : Type 0 where
  pub kept : Kept
  pub among : IsAmong held kept
  pub serves : Serves whole state request tables kept found
  pub oldest : (other : Kept) → IsAmong held other → LeadsAlike whole state request tables other ⊎ (kept.number ≤ other.number)

-- None: none of them does
abbrev pub IsSoughtAlone : Bool → State → Request → Led → List Kept → Option Unsettled → Type 0
IsSoughtAlone whole state request tables held None = (kept : Kept) → IsAmong held kept → LeadsAlike whole state request tables kept
IsSoughtAlone whole state request tables held (Some found) = ServesAlone whole state request tables held found

-- what was found has at most this number
abbrev pub IsUpTo : Option Kept → ℕ → Type 0
IsUpTo None number = ⊥
IsUpTo (Some own) number = own.number ≤ number

abbrev pub IsOlder : Option Unsettled → ℕ → Type 0
IsOlder None number = ⊥
IsOlder (Some found) number = IsUpTo found.serving number

-- an entry is tried after what was found: the one with the smaller number is found
pub record Tries (whole : Bool) (state : State) (request : Request) (tables : Led) (kept : Kept) (before after : Option Unsettled) : Type 0 where
  pub tried : LeadsAlike whole state request tables kept ⊎ IsOlder after kept.number
  pub still : (number : ℕ) → IsOlder before number → IsOlder after number
  pub found : (after ≡ before) ⊎ IfSome after (λ found. Serves whole state request tables kept found)

-- together they lead it otherwise, and none does alone
pub record ServeTogether (whole : Bool) (state : State) (request : Request) (tables : Led) (held : List Kept) (found : Unsettled) : Type 0 where
  pub by : found.serving ≡ None
  pub led : IsAmong (leads_over state request (entries_in held)) found.elsewhere
  pub told : found.tables ≡ tables
  pub differs : IsAlike whole request.iova found.elsewhere tables → ⊥
  pub none : IsSoughtAlone whole state request tables held None

-- what is told of a request; None: each of its ways is like the tables'
abbrev pub IsTold : Bool → State → List Kept → Request → Option Unsettled → Type 0
IsTold whole state held request None =
    (way : Led) → IsAmong (leads_over (bare state) request (entries_in held)) way → IsAlike whole request.iova way (by_tables state.machine request)
IsTold whole state held request (Some found) =
    ServesAlone whole (bare state) request (by_tables state.machine request) held found
    ⊎ ServeTogether whole (bare state) request (by_tables state.machine request) held found

-- whole ways are compared where each takes the request to the same place
abbrev pub IsBesideTold : State → List Kept → Request → Option Unsettled → Option Unsettled → Type 0
IsBesideTold state held request None beside = IsTold true state held request beside
IsBesideTold state held request (Some elsewhere) beside = beside ≡ None

pub record AreTold (state : State) (held : List Kept) (request : Request) (judged : Judgement) : Type 0 where
  pub unsettled : IsTold false state held request judged.unsettled
  pub beside : IsBesideTold state held request judged.unsettled judged.beside

-- of a step's request, if it makes one
abbrev pub AreStepTold : State → List Kept → Option Request → Judgement → Type 0
AreStepTold state held None judged = (judged.unsettled ≡ None) × (judged.beside ≡ None)
AreStepTold state held (Some request) judged = AreTold state held request judged
