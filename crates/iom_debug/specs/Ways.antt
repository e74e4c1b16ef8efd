-- Where the tables lead a request, and what they say now of what is cached, as texts.
use Rattle.std.specs.Prelude.{ℕ, ◌++◌, Bool, List, [], codes, slice_get, Option, Some, None, Result, Ok, Err, if◌then◌else◌}
use Rattle.std.specs.Option.{option_map}
use Rattle.iom_bits.specs.Bits.{flag}
use Rattle.iom_bits.specs.Causes.{cause_number}
use Rattle.iom_text.specs.Texts.{numeral, hexadecimal}
use Rattle.iom_nested.specs.declared.translation.Hit.{Hit}
use Rattle.iom_cache.specs.Keys.{gscid_of, pscid_of}
use Rattle.iom_cache.specs.Places.{place_in}
use Rattle.iom_core.specs.Access.{address_on}
use Rattle.iom_core.specs.State.{Machine}
use Rattle.iom_core.specs.declared.access.Denial.{Denial}
use Rattle.iom_core.specs.declared.access.Request.{Request}
use Rattle.iom_core.specs.Looking.{by_tables}
use Rattle.iom_tables.specs.Stale.{stale_way}
use Rattle.iom_tables.specs.Standing.{found_now, is_context_now, is_hit_now, request_of, standing_of}
use Rattle.iom_tables.specs.declared.standing.Located.{Located}
use Rattle.iom_tables.specs.declared.standing.Located.TheVariants as found
use Rattle.iom_tables.specs.declared.standing.Standing.{Standing}
use Rattle.iom_tables.specs.declared.standing.Standing.TheVariants as standing
use Rattle.iom_core.specs.declared.way.Way.{Way}
use Rattle.iom_core.specs.declared.way.Way.TheVariants as way
use Rattle.iom_ddt.specs.Formats.{context_format}
use Rattle.iom_ddt.specs.declared.formats.ContextFormat.{ContextFormat}
use Rattle.iom_items.specs.Lines.{context_text, operand}

-- where the tables lead a request that is stale; None: it isn't
abbrev pub stale_address : Machine → Request → Option (Result ℕ Denial)
stale_address m request = option_map (λ way. address_on way request.iova) (stale_way m request)

abbrev pub denied_text : Denial → List ℕ
denied_text denial = codes "denied " ++ numeral 10 (cause_number denial.cause)

abbrev pub address_text : Result ℕ Denial → List ℕ
address_text (Ok addr) = codes "addr=" ++ hexadecimal addr
address_text (Err denial) = denied_text denial

abbrev pub stale_text : Option (Result ℕ Denial) → List ℕ
stale_text None = codes "same"
stale_text (Some address) = address_text address

-- a place of a cache beside the tables: what they say now, by the text of that
abbrev pub standing_text : {T : Type 0} → (T → List ℕ) → Standing T → List ℕ
standing_text say standing.Beyond = codes "none"
standing_text say standing.Empty = codes "empty"
standing_text say standing.Current = codes "same"
standing_text say (standing.Stale now) = say now

-- what the directory says of a device
abbrev pub found_text : ContextFormat → Located → List ℕ
found_text format found.NoDirectory = codes "no directory"
found_text format (found.Context context) = context_text format context
found_text format (found.Fault why) = codes "denied " ++ numeral 10 (cause_number why)

abbrev pub stale_context_text : Machine → ℕ → List ℕ
stale_context_text m i =
    standing_text (found_text (context_format m.registers.features)) (standing_of (is_context_now m) (found_now m) (place_in (slice_get m.contexts i)))

-- a key and a value, or `-` where there is none
abbrev pub id_operand : List ℕ → Option ℕ → List ℕ
id_operand key None = codes " " ++ key ++ codes "=-"
id_operand key (Some id) = operand key id

abbrev pub napot_text : Bool → List ℕ
napot_text napot = if napot then operand (codes "napot") 1 else []

abbrev pub hit_text : Hit → List ℕ
hit_text hit =
    operand (codes "frame") hit.frame ++ operand (codes "level") hit.level ++ operand (codes "global") (flag hit.global)
    ++ napot_text hit.napot

-- what the tables say of a page: the ids that its key would have, and its hit
abbrev pub page_text : Way → List ℕ
page_text way.Register = codes "register"
page_text (way.Context context) = codes "context"
page_text (way.Walked context hit) =
    codes "page" ++ id_operand (codes "pscid") (pscid_of context) ++ id_operand (codes "gscid") (gscid_of context) ++ hit_text hit
page_text (way.Denied denial) = denied_text denial

abbrev pub stale_page_text : Machine → ℕ → List ℕ
stale_page_text m i =
    standing_text page_text
    (standing_of (is_hit_now m) (λ key. by_tables m (request_of key)) (place_in (slice_get m.pages i)))
