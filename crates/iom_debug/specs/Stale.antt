-- An access of a device that was stale: what is kept of it, and how it is told. RISC-V IOMMU Architecture 1.0, "Caching in-memory data
-- structures".
use Rattle.std.specs.Prelude.{ℕ, ◌++◌, ◌==◌, Bool, false, not, List, [], ◌∷◌, codes, length, nat_lt, slice_get, Option, Some, None, Result, Ok, Err, if◌then◌else◌}
use Rattle.std.specs.Option.{option_map, unwrap_or}
use Rattle.iom_bits.specs.Bits.{flag}
use Rattle.iom_bits.specs.Causes.{cause_number}
use Rattle.iom_bits.specs.declared.causes.Kind.{Kind}
use Rattle.iom_bits.specs.declared.causes.Kind.TheVariants as kind
use Rattle.iom_text.specs.Texts.{hexadecimal, numeral}
use Rattle.iom_ddt.specs.declared.context.Context.{Context}
use Rattle.iom_nested.specs.declared.translation.Hit.{Hit}
use Rattle.iom_cache.specs.Keys.{same_did}
use Rattle.iom_cache.specs.Places.{place_of}
use Rattle.iom_core.specs.Access.{address_on}
use Rattle.iom_core.specs.Looking.{seen_in}
use Rattle.iom_core.specs.State.{Machine, State}
use Rattle.iom_core.specs.declared.access.Denial.{Denial}
use Rattle.iom_core.specs.declared.access.Request.{Request}
use Rattle.iom_core.specs.declared.looking.Lookup.{Lookup}
use Rattle.iom_core.specs.declared.witness.Source.{Source}
use Rattle.iom_core.specs.declared.witness.Source.TheVariants as source
use Rattle.iom_core.specs.declared.way.Way.{Way}
use Rattle.iom_core.specs.declared.way.Way.TheVariants as way
use Rattle.iom_account.specs.Account.{stale_in}
use Rattle.iom_account.specs.Following.{HistoryView}
use Rattle.iom_account.specs.declared.origin.NumberedWarrant.{NumberedWarrant}
use Rattle.iom_account.specs.declared.origin.NumberedWarrant.TheVariants as origin
use Rattle.iom_items.specs.Lines.{Pair, operand}
use Rattle.iom_items.specs.Reading.{context_pairs}
use Rattle.iom_debug.specs.Ways.{address_text}
use Rattle.iom_debug.specs.declared.stale.Led.{Led}
use Rattle.iom_debug.specs.declared.stale.StaleAccess.{StaleAccess}

-- the line that filled the live context of a device id; 0: there is none
abbrev pub filler : HistoryView → Machine → ℕ → ℕ
filler history m did = unwrap_or (slice_get history.contexts (place_of (same_did did) m.contexts)) 0

-- and that for the device of a request
abbrev pub filler_for : HistoryView → Machine → Option Request → ℕ
filler_for history m None = 0
filler_for history m (Some request) = filler history m request.did

-- a request, what was seen of its access, and the line that filled the live context of its device
abbrev pub led_as : Option Request → Lookup → ℕ → Option Led
led_as None seen line = None
led_as (Some request) seen line = Some (record { request = request; seen = seen; line = line })

-- what leads the access of a step that asks this, before the step
abbrev pub led_by : HistoryView → State → Option Request → Option Led
led_by history state None = None
led_by history state (Some request) = led_as (Some request) (seen_in state.machine request) (filler history state.machine request.did)

-- the line whose walk found the page that an access used, where that page was cached
abbrev pub page_line : Option Source → Option NumberedWarrant → Option ℕ
page_line None used = None
page_line (Some source.Read) used = None
page_line (Some source.Found) None = None
page_line (Some source.Found) (Some origin.Register) = None
page_line (Some source.Found) (Some (origin.Context context)) = None
page_line (Some source.Found) (Some (origin.Walked context walk current)) = Some walk

-- what is kept of an access, by where its translation came from, and the way that the tables said; nothing of one that wasn't stale
abbrev pub kept_of : Led → Option NumberedWarrant → Way → StaleAccess
kept_of led used tables = record {
  request = led.request;
  context = led.line;
  page = page_line led.seen.page used;
  used = led.seen.way;
  tables = tables;
}

abbrev pub kept_by : Option Led → Option NumberedWarrant → Option Way → Option StaleAccess
kept_by None used tables = None
kept_by (Some led) used tables = option_map (kept_of led used) tables

-- the access of a step that asks this, where it is stale: by the history before the step, and where its translation came from
abbrev pub stale_access : HistoryView → State → Option Request → Option NumberedWarrant → Option StaleAccess
stale_access history state asked used = kept_by (led_by history state asked) used (stale_in state asked)

-- an access is led to the same physical address, or denied for the same cause
abbrev pub is_same_address : Result ℕ Denial → Result ℕ Denial → Bool
is_same_address (Ok addr) (Ok other) = addr == other
is_same_address (Ok addr) (Err denial) = false
is_same_address (Err denial) (Ok other) = false
is_same_address (Err denial) (Err other) = cause_number denial.cause == cause_number other.cause

-- of the operands of an item those that differ, as they are now
abbrev pub changed : ℕ → Pair → List ℕ
changed before now = if before == now.1 then [] else operand now.0 now.1

abbrev pub with_changes : List ℕ → List Pair → List Pair → List ℕ
with_changes text [] now = text
with_changes text (pair ∷ before) [] = text
with_changes text (pair ∷ before) (own ∷ now) = with_changes (text ++ changed pair.1 own) before now

abbrev pub changes : List Pair → List Pair → List ℕ
changes before now = with_changes [] before now

abbrev pub context_changes : Context → Context → List ℕ
context_changes before now = changes (context_pairs before) (context_pairs now)

-- what else is known of a page
abbrev pub page_pairs : Hit → List Pair
page_pairs hit = (codes "level", hit.level) ∷ (codes "global", flag hit.global) ∷ (codes "napot", flag hit.napot) ∷ []

-- what else is known of a denial: of a guest page fault its address, and the DTF of the context whose stage refused it
abbrev pub denial_pairs : Denial → List Pair
denial_pairs denial = (codes "iotval2", denial.iotval2) ∷ (codes "dtf", flag (not denial.reported)) ∷ []

-- what differs of the contexts, and of the pages, that two ways go by
abbrev pub way_changes : Way → Way → List ℕ
way_changes (way.Context context) (way.Context now) = context_changes context now
way_changes (way.Context context) (way.Walked now hit) = context_changes context now
way_changes (way.Walked context page) (way.Context now) = context_changes context now
way_changes (way.Walked context page) (way.Walked now hit) = context_changes context now
way_changes _ _ = []

abbrev pub page_changes : Way → Way → List ℕ
page_changes (way.Walked context page) (way.Walked now hit) = changes (page_pairs page) (page_pairs hit)
page_changes _ _ = []

-- the tables lead it alike by another context, or else by another page
abbrev pub alike_text : List ℕ → List ℕ → List ℕ
alike_text context page =
    if nat_lt 0 (length context) then codes ", same address, another context:" ++ context else codes ", same address, another page:" ++ page

-- what differs where the address or the cause is the same
abbrev pub same_text : Way → Way → List ℕ
same_text (way.Denied denial) (way.Denied now) = codes ", same cause, another record:" ++ changes (denial_pairs denial) (denial_pairs now)
same_text used tables = alike_text (way_changes used tables) (page_changes used tables)

abbrev pub difference_text : Way → Way → ℕ → List ℕ
difference_text used tables iova =
    if is_same_address (address_on used iova) (address_on tables iova)
    then same_text used tables
    else codes ", the tables now say " ++ address_text (address_on tables iova)

-- the line that filled what served an access, or denied it: its context, where the tables have another one, and else its page, if that was cached
abbrev pub served_line : StaleAccess → ℕ
served_line stale =
    if nat_lt 0 (length (way_changes stale.used stale.tables)) then stale.context else unwrap_or stale.page stale.context

abbrev pub kind_text : Kind → List ℕ
kind_text kind.Read = codes "read "
kind_text kind.Write = codes "write "

abbrev pub served_text : Result ℕ Denial → List ℕ
served_text (Ok addr) = codes " served by "
served_text (Err denial) = codes " denied by "

-- a line of the script itself, as it is named
abbrev pub own_named : ℕ → List ℕ
own_named number = codes "line " ++ numeral 10 number

-- as `read 0x40202abc served by line 12, the tables now say denied 13`, where the line that filled what served it is named so
unfoldable pub access_text : List ℕ → StaleAccess → List ℕ
access_text line stale =
    kind_text stale.request.kind ++ hexadecimal stale.request.iova ++ served_text (address_on stale.used stale.request.iova)
    ++ line ++ difference_text stale.used stale.tables stale.request.iova
