-- The search of the directory is never denied by a guest page fault, if it enters at an entry that may be held.
use Rattle.std.proofs.Common.{◌≡◌, ◌-◌, ◌==◌, ◌&&◌, ℕ, Bool, true, false, not, List, [], ◌∷◌, get_or, Option, Some, None, Result, Ok, Err, if◌then◌else◌, refl, sym, subst}
use Rattle.std.specs.Prelude.{filter_map}
use Rattle.std.specs.List.{cons_option}
use Rattle.iom_bits.specs.Bits.{field_of, has_bit}
use Rattle.iom_bits.specs.declared.causes.Cause.{Cause}
use Rattle.iom_bits.specs.declared.causes.Cause.TheVariants.{DirBad, DirInvalid, TooWide}
use Rattle.iom_bits.specs.Features.{Features}
use Rattle.iom_mem.specs.Memory.{Memory}
use Rattle.iom_regs.specs.Table.{Registers}
use Rattle.iom_regs.specs.Views.{mode_of, root_of}
use Rattle.iom_ddt.specs.Contexts.{has_modes, is_well_formed}
use Rattle.iom_ddt.specs.Directory.{decided_by, fault_in, first_of, is_too_wide, levels_of, located, path_from, pointed_by, verdict_on, with_modes}
use Rattle.iom_ddt.specs.Formats.{context_format}
use Rattle.iom_ddt.specs.Words.{are_words_of, context_in, fields_in}
use Rattle.iom_ddt.specs.declared.context.Context.{Context}
use Rattle.iom_ddt.specs.declared.formats.ContextFormat.{ContextFormat}
use Rattle.iom_ddt.specs.declared.met.Met.{Met}
use Rattle.iom_ddt.specs.declared.met.Met.TheVariants as listed
use Rattle.iom_core.specs.State.{Machine}
use Rattle.iom_choices.specs.Settled.{EachUse}
use Rattle.iom_every.specs.Entries.{Entry, OfDevice, OfDirectory, OfFile, OfFirst, OfPage, OfSecond}
use Rattle.iom_every.specs.Guards.{IsValid}
use Rattle.iom_every.specs.Pages.{is_guest_fault}
use Rattle.iom_every.specs.Uses.{AtLeaf, Below, Entered, ForAccess, ForDevice, ForEntry, ForFirst, ForPage, Look, device_use, or_else, used_by, where_fits}
use Rattle.iom_every.specs.Ways.{depth_of, entered, located_by}

abbrev pub IsPlain : {X : Type 0} → Result X Cause → Type 0
IsPlain (Ok found) = Unit {0}
IsPlain (Err why) = is_guest_fault why ≡ false

abbrev DecidesPlain : Option (Result Context Cause) → Type 0
DecidesPlain None = Unit {0}
DecidesPlain (Some found) = IsPlain found

context_plain : (words : List ℕ) → IsPlain (context_in words)
unfolding context_in
context_plain words =
    let formed : Bool = is_well_formed (fields_in words) && are_words_of words (fields_in words) in
    elim (has_bit (get_or words 0 0) 0) as (λ b. IsPlain (if not b then Err DirInvalid else if formed then Ok (fields_in words) else Err DirBad)) [
      | true ↦ elim formed as (λ b. IsPlain (if b then Ok (fields_in words) else Err DirBad)) [
        | true ↦ tt
        | false ↦ refl
      ]
      | false ↦ refl
    ]

modes_plain : (features : Features) (found : Result Context Cause) → IsPlain found → IsPlain (with_modes features found)
modes_plain features (Ok context) plain = elim (has_modes features context) as (λ b. IsPlain (if b then Ok context else Err DirBad)) [
  | true ↦ tt
  | false ↦ refl
]
modes_plain features (Err why) plain = plain

pointed_plain : (entry : Option ℕ) → IsPlain (pointed_by entry)
pointed_plain None = refl
pointed_plain (Some entry) =
    let formed : Bool = field_of entry 1 9 == 0 && field_of entry 54 10 == 0 in
    elim (has_bit entry 0) as (λ b. IsPlain (if not b then Err DirInvalid else if not formed then Err DirBad else Ok (field_of entry 10 44))) [
      | true ↦ elim formed as (λ b. IsPlain (if not b then Err DirBad else Ok (field_of entry 10 44))) [
        | true ↦ tt
        | false ↦ refl
      ]
      | false ↦ refl
    ]

fault_plain : (pointed : Result ℕ Cause) → IsPlain pointed → DecidesPlain (fault_in pointed)
fault_plain (Ok table) plain = tt
fault_plain (Err why) plain = plain

decided_plain : (features : Features) (met : Met) → DecidesPlain (decided_by features met)
decided_plain features (listed.Entry place entry) = fault_plain (pointed_by entry) (pointed_plain entry)
decided_plain features (listed.Leaf place None) = refl
decided_plain features (listed.Leaf place (Some words)) = modes_plain features (context_in words) (context_plain words)

path_plain : (features : Features) (path : List Met) → IsPlain (first_of (filter_map (decided_by features) path))
path_plain features [] = refl
path_plain features (met ∷ path) =
    let more : List (Result Context Cause) = filter_map (decided_by features) path in
    let Goal : Option (Result Context Cause) → Type 0 = λ decided. DecidesPlain decided → IsPlain (first_of (cons_option decided more)) in
    let first : (decided : Option (Result Context Cause)) → Goal decided = λ decided. elim decided as Goal [
      | None ↦ λ plain. path_plain features path
      | Some found ↦ λ plain. plain
    ] in first (decided_by features met) (decided_plain features met)

verdict_plain : (features : Features) (path : List Met) → IsPlain (verdict_on features path)
unfolding verdict_on
verdict_plain features path = path_plain features path

directory_plain : (memory : Memory) (registers : Registers) (did : ℕ) → IsPlain (located memory registers did)
unfolding located
directory_plain memory registers did =
    let found : Result Context Cause = verdict_on registers.features (path_from (context_format registers.features) memory did (levels_of (mode_of registers) - 1) (root_of registers)) in
    elim (is_too_wide (context_format registers.features) (levels_of (mode_of registers)) did) as (λ b. IsPlain (if b then Err TooWide else found)) [
      | true ↦ refl
      | false ↦ verdict_plain registers.features _
    ]

-- a held context says what its words say
abbrev EntersPlain : Option Entered → Type 0
EntersPlain None = Unit {0}
EntersPlain (Some (AtLeaf said)) = IsPlain said
EntersPlain (Some (Below level word)) = Unit {0}

fits_plain : (fits : Bool) (level word : ℕ) → EntersPlain (where_fits fits (Below level word))
fits_plain true level word = tt
fits_plain false level word = tt

use_plain : (format : ContextFormat) (depth did : ℕ) (look : Look) (entry : Entry) → IsValid entry → EntersPlain (device_use format depth did look entry)
use_plain format depth did ForDevice (OfDevice own said) valid =
    let plain : IsPlain said = subst (λ (found : Result Context Cause). IsPlain found) (sym valid.3) (modes_plain valid.0 (context_in valid.1) (context_plain valid.1)) in
    elim (did == own) as (λ b. EntersPlain (where_fits b (AtLeaf said))) [
      | true ↦ plain
      | false ↦ tt
    ]
use_plain format depth did ForDevice (OfDirectory level part word) valid = fits_plain _ level word
use_plain format depth did ForDevice (OfFirst gscid pscid held) valid = tt
use_plain format depth did ForDevice (OfSecond gscid held) valid = tt
use_plain format depth did ForDevice (OfFile gscid page word) valid = tt
use_plain format depth did ForDevice (OfPage key hit) valid = tt
use_plain format depth did ForPage entry valid = tt
use_plain format depth did ForFirst entry valid = tt
use_plain format depth did (ForEntry level) entry valid = tt
use_plain format depth did ForAccess entry valid = tt

either_plain : (one other : Option Entered) → EntersPlain one → EntersPlain other → EntersPlain (or_else one other)
either_plain None other plain more = more
either_plain (Some at) other plain more = plain

used_plain : (format : ContextFormat) (depth did : ℕ) (source : List (Look × Entry)) → EachUse IsValid source → EntersPlain (used_by (device_use format depth did) source)
used_plain format depth did [] valid = tt
used_plain format depth did (used ∷ source) valid =
    either_plain (device_use format depth did used.0 used.1) (used_by (device_use format depth did) source) (use_plain format depth did used.0 used.1 valid.0) (used_plain format depth did source valid.1)

entered_plain : (m : Machine) (source : List (Look × Entry)) (did : ℕ) → EachUse IsValid source → EntersPlain (entered m source did)
entered_plain m source did valid = elim (is_too_wide (context_format m.registers.features) (depth_of m) did) as (λ b. EntersPlain (if b then None else used_by (device_use (context_format m.registers.features) (depth_of m) did) source)) [
  | true ↦ tt
  | false ↦ used_plain (context_format m.registers.features) (depth_of m) did source valid
]

by_plain : (m : Machine) (did : ℕ) (at : Option Entered) → EntersPlain at → IsPlain (located_by m did at)
by_plain m did None plain = directory_plain m.memory m.registers did
by_plain m did (Some (AtLeaf said)) plain = plain
by_plain m did (Some (Below level word)) plain = verdict_plain m.registers.features _

pub located_plain : (m : Machine) (source : List (Look × Entry)) (did : ℕ) → EachUse IsValid source → IsPlain (located_by m did (entered m source did))
located_plain m source did valid = by_plain m did (entered m source did) (entered_plain m source did valid)
