-- What the line `owed` is answered: the requests that the steps made and that aren't settled now, so that an invalidation is owed. RISC-V IOMMU
-- Architecture 1.0, "Caching in-memory data structures".
use Rattle.std.specs.Prelude.{ℕ, ◌≡◌, ◌⊎◌, ◌++◌, Bool, true, false, List, [], ◌∷◌, codes, length, take, Option, Some, None}
use Rattle.iom_text.specs.Texts.{numeral}
use Rattle.iom_core.specs.State.{State}
use Rattle.iom_core.specs.declared.access.Request.{Request}
use Rattle.iom_owed.specs.declared.noting.Made.{Made}
use Rattle.iom_owed.specs.declared.settling.Owed.{Owed}
use Rattle.iom_tool.specs.Room.{answer_room}
use Rattle.iom_debug.specs.Marks.{MarksView, named_at}
use Rattle.iom_debug.specs.Settling.{AreOwedBy, SettlingView, elsewhere_at, request_text}
use Rattle.iom_debug.specs.declared.invalidations.Invalidation.{Invalidation}

-- a request and the line that made it, as `read 0x40202000 of device 5, as in line 12,`
unfoldable pub made_text : List ℕ → Made → List ℕ
made_text line made = request_text made.request ++ codes ", as in " ++ line ++ codes ","

-- how many there are and the first, as `2, the first read 0x40202000 of device 5, as in line 12, may still go to addr=0x80011000, read in line 3,
-- the tables now say denied 13`, of which at most `answer_room` bytes are told; `none` where there is none. The last invalidation is this; lines are
-- named as they stand.
unfoldable pub owed_text : MarksView → Option Invalidation → List Owed → List ℕ
owed_text marks last [] = codes "none"
owed_text marks last (first ∷ more) =
    take answer_room (numeral 10 (length (first ∷ more)) ++ codes ", the first " ++ made_text (named_at marks first.made.number) first.made
    ++ elsewhere_at marks last first.unsettled first.made.request.iova)

-- why it isn't known: what any IOMMU may hold isn't kept, or memory was refused for it
abbrev pub unknown_text : Option SettlingView → List ℕ
unknown_text None = codes "unknown, it needs --settled"
unknown_text (Some settling) = codes "unknown, memory was refused"

abbrev pub first_request : List Owed → Option Request
first_request [] = None
first_request (first ∷ more) = Some first.made.request

-- This is the answer, and this the request that it names. Where what any IOMMU may hold isn't kept, the answer is that it isn't known, which names
-- none. Where it is kept, the answer is that memory was refused, which names none; or what is owed, which names the first request that is owed.
abbrev pub NamesFirst : MarksView → Option Invalidation → Option SettlingView → State → List ℕ → Option Request → Type 0
NamesFirst marks last None state answer first = (answer ≡ unknown_text None) × (first ≡ None)
NamesFirst marks last (Some settling) state answer first =
    ((answer ≡ unknown_text (Some settling)) × (first ≡ None))
    ⊎ ((settling.is_lost ≡ false) × (owed : List Owed) × (answer ≡ owed_text marks last owed) × (first ≡ first_request owed)
    × AreOwedBy (Some settling) state owed)

-- the answer, whichever request it names
abbrev pub IsOwedAnswer : MarksView → Option Invalidation → Option SettlingView → State → List ℕ → Type 0
IsOwedAnswer marks last settling state answer = (first : Option Request) × NamesFirst marks last settling state answer first

-- Of a line that asks what is owed its answer names a request so; of any other none.
abbrev pub NamesOwed : Bool → MarksView → Option Invalidation → Option SettlingView → State → List ℕ → Option Request → Type 0
NamesOwed false marks last settling state answer first = first ≡ None
NamesOwed true marks last settling state answer first = NamesFirst marks last settling state answer first
