-- Which lines of a checked script pass and which fail, and what is said of them.
use Rattle.std.specs.Prelude.{ℕ, ◌≡◌, ◌++◌, ◌&&◌, ◌||◌, Bool, true, false, not, nat_lt, List, [], length, codes, bytes_eq, Option, Some, None, is_some, if◌then◌else◌}
use Rattle.std.specs.Option.{option_map}
use Rattle.iom_core.specs.declared.access.Request.{Request}
use Rattle.iom_owed.specs.Settled.{read_number}
use Rattle.iom_owed.specs.declared.settling.Unsettled.{Unsettled}
use Rattle.iom_debug.specs.Invalidations.{invalidation_text}
use Rattle.iom_debug.specs.Places.{IsNamed, IsNamedIf, PlaceView}
use Rattle.iom_debug.specs.Settling.{unsettled_text}
use Rattle.iom_debug.specs.Stale.{access_text, served_line}
use Rattle.iom_debug.specs.declared.invalidations.Invalidation.{Invalidation}
use Rattle.iom_debug.specs.declared.settling.UnsettledAccess.{UnsettledAccess}
use Rattle.iom_debug.specs.declared.stale.StaleAccess.{StaleAccess}
use Rattle.iom_debug.specs.Escaping.{escaped}
use Rattle.iom_debug.specs.Telling.{before_comment, slip_text}
use Rattle.iom_check.specs.Wanted.{has_arrow, is_wanted, wanted, wants_stale, wants_unsettled}
use Rattle.iom_check.specs.declared.rules.Rules.{Rules}

-- This is told of a line's last access that was stale, where stale accesses are judged. Where lines stand is known or not.
abbrev pub IsStaleTold : Option (ℕ → PlaceView) → Bool → Option StaleAccess → List ℕ → Type 0
IsStaleTold known false stale text = text ≡ []
IsStaleTold known true None text = text ≡ []
IsStaleTold known true (Some stale) text = (line : List ℕ) × IsNamed known (served_line stale) line × (text ≡ access_text line stale)

-- The answer is the wanted one, and an access is stale, or isn't settled, where that is wanted and judged. Where nothing is wanted, the answer
-- isn't `bad`. `tables` is empty where no stale access is to be told, `elsewhere` where none is to be told that isn't settled.
abbrev pub meets : Rules → Option (List ℕ) → List ℕ → List ℕ → List ℕ → Bool
meets rules None answer tables elsewhere = not (bytes_eq answer (codes "bad"))
meets rules (Some wish) answer tables elsewhere =
    is_wanted wish answer && ((nat_lt 0 (length tables) || not (rules.fails_if_stale && wants_stale wish))
    && (nat_lt 0 (length elsewhere) || not (rules.fails_if_unsettled && wants_unsettled wish)))

-- This is told of the invalidations behind the step that read the entry which leads elsewhere; the last one is this. Where lines stand is known or not.
abbrev pub IsInvalidationTold : Option (ℕ → PlaceView) → Option Invalidation → Unsettled → List ℕ → Type 0
IsInvalidationTold known last found text =
    (named : ℕ → List ℕ) × ((number : ℕ) → IsNamed known number (named number)) × (text ≡ invalidation_text named last found.serving)

-- This is told of a line's last access that wasn't settled, where settledness is judged; the last invalidation is this.
abbrev pub IsUnsettledTold : Option (ℕ → PlaceView) → Bool → Option Invalidation → Option UnsettledAccess → List ℕ → Type 0
IsUnsettledTold known false last access text = text ≡ []
IsUnsettledTold known true last None text = text ≡ []
IsUnsettledTold known true last (Some access) text =
    (line : Option (List ℕ)) × IsNamedIf known (read_number access.unsettled.serving) line
    × ((behind : List ℕ) × IsInvalidationTold known last access.unsettled behind × (text ≡ unsettled_text line access ++ behind))

-- This is told of a line's last access that was settled and that an IOMMU may lead by another way, where settledness is judged.
abbrev pub IsBesideTold : Option (ℕ → PlaceView) → Bool → Option UnsettledAccess → List ℕ → Type 0
IsBesideTold known false access text = text ≡ []
IsBesideTold known true None text = text ≡ []
IsBesideTold known true (Some access) text =
    (line : Option (List ℕ)) × IsNamedIf known (read_number access.unsettled.serving) line × (text ≡ unsettled_text line access)

-- the requests of these accesses, where they are judged
abbrev pub stale_request : Bool → Option StaleAccess → Option Request
stale_request is_judged stale = if is_judged then option_map (λ access. access.request) stale else None

abbrev pub unsettled_request : Bool → Option UnsettledAccess → Option Request
unsettled_request is_judged access = if is_judged then option_map (λ access. access.request) access else None

-- a failure is about the first of these: a request of an access that isn't settled, and one that the line's answer names as owed
abbrev pub told_request : Option Request → Option Request → Option Request
told_request None owed = owed
told_request (Some request) owed = Some request

-- a wish for an access that isn't settled allows a stale one: one that goes elsewhere never is settled
abbrev pub allows_stale : Option (List ℕ) → Bool
allows_stale None = false
allows_stale (Some wish) = wants_stale wish || wants_unsettled wish

abbrev pub allows_unsettled : Option (List ℕ) → Bool
allows_unsettled None = false
allows_unsettled (Some wish) = wants_unsettled wish

-- A line with an answer fails where its wish isn't met, and where an access is stale, or isn't settled, and its wish doesn't allow that.
abbrev pub fails : Rules → Option (List ℕ) → List ℕ → List ℕ → List ℕ → Bool
fails rules wish answer tables elsewhere =
    nat_lt 0 (length answer) && (not (meets rules wish answer tables elsewhere) || ((nat_lt 0 (length tables) && not (allows_stale wish))
    || (nat_lt 0 (length elsewhere) && not (allows_unsettled wish))))

-- a line passes where it has a wish and an answer, and doesn't fail
abbrev pub passes : Rules → Option (List ℕ) → List ℕ → List ℕ → List ℕ → Bool
passes rules wish answer tables elsewhere =
    nat_lt 0 (length answer) && (is_some wish && not (fails rules wish answer tables elsewhere))

-- the wish that isn't met
abbrev pub wish_text : Rules → Option (List ℕ) → List ℕ → List ℕ → List ℕ → List ℕ
wish_text rules None answer tables elsewhere = []
wish_text rules (Some wish) answer tables elsewhere =
    if meets rules (Some wish) answer tables elsewhere then [] else codes ", wanted " ++ escaped wish

abbrev pub tables_text : List ℕ → List ℕ
tables_text tables = if nat_lt 0 (length tables) then codes ", stale: " ++ tables else []

abbrev pub elsewhere_text : List ℕ → List ℕ
elsewhere_text elsewhere = if nat_lt 0 (length elsewhere) then codes ", unsettled: " ++ elsewhere else []

-- a line as it is told
abbrev pub title : List ℕ → List ℕ
title line = escaped (before_comment line)

-- what is said of a line that fails; the slip is why it is bad, and empty where it isn't
unfoldable pub message : Rules → List ℕ → List ℕ → List ℕ → List ℕ → List ℕ → List ℕ
message rules line answer slip tables elsewhere =
    title line ++ codes " -> " ++ escaped answer ++ slip_text slip ++ wish_text rules (wanted line) answer tables elsewhere
    ++ tables_text tables ++ elsewhere_text elsewhere

-- a write that the IOMMU ignored
abbrev pub ignored_text : Bool → List ℕ
ignored_text ignored = if ignored then codes "the register is busy, and ignores the write" else []

-- a step was refused: an access has a size, an alignment or a value that doesn't fit, or is outside memory or the registers, or of no device;
-- or it was ignored
abbrev pub refusal : List ℕ → Bool → List ℕ
refusal answer ignored =
    if bytes_eq answer (codes "misuse") then codes "the answer is misuse, and no wish expects it"
    else if bytes_eq answer (codes "bad access") then codes "the answer is bad access, and no wish expects it"
    else if bytes_eq answer (codes "bus error") then codes "the answer is bus error, and no wish expects it"
    else if bytes_eq answer (codes "no device") then codes "the answer is no device, and no wish expects it"
    else ignored_text ignored

-- what would go unnoticed: a wish on a line that has no answer; a comment that looks like a wish and is none; without a wish a step that was
-- refused; and a write that was ignored
abbrev pub remark_by : Option (List ℕ) → List ℕ → List ℕ → Bool → List ℕ
remark_by (Some wish) line answer ignored =
    if nat_lt 0 (length answer) then ignored_text ignored else codes "the wish is on a line without an answer"
remark_by None line answer ignored =
    if has_arrow line then codes "the comment isn't a wish, which is # => ANSWER" else refusal answer ignored

unfoldable pub remark : List ℕ → List ℕ → Bool → List ℕ
remark line answer ignored = remark_by (wanted line) line answer ignored
