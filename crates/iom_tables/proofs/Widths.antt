-- What stands where a table has entries, or where an id or an address is too wide for it; and that it is too wide.
use Rattle.std.proofs.Common.{◌≡◌, ◌%◌, ◌++◌, ℕ, Bool, true, false, not, List, [], ◌∷◌, map, Option, Some, None, Result, Ok, Err, refl, sym, subst}
use Rattle.std.specs.Prelude.{All, flat_map}
use Rattle.std.proofs.lemmas.List.Elements.{All-nil, All-cons, All-append}
use Rattle.iom_bits.specs.declared.causes.Cause.{Cause}
use Rattle.iom_bits.specs.declared.causes.Kind.{Kind}
use Rattle.iom_bits.specs.declared.causes.Kind.TheVariants.{Read}
use Rattle.iom_regs.specs.Views.{mode_of, root_of}
use Rattle.iom_regs.specs.declared.views.Mode.{Mode}
use Rattle.iom_regs.specs.declared.views.Mode.TheVariants as mode
use Rattle.iom_ddt.specs.Directory.{is_too_wide, levels_of, located, path_of}
use Rattle.iom_ddt.specs.Formats.{context_format}
use Rattle.iom_ddt.specs.declared.context.Context.{Context}
use Rattle.iom_ddt.specs.declared.met.Met.{Met}
use Rattle.iom_walk.specs.Shape.{is_in_width}
use Rattle.iom_walk.specs.Told.{path_told}
use Rattle.iom_walk.specs.declared.listing.PathEntry.{PathEntry}
use Rattle.iom_walk.specs.declared.shape.Shape.{Shape}
use Rattle.iom_nested.specs.Faults.{Failure}
use Rattle.iom_nested.specs.Files.{is_of_file}
use Rattle.iom_nested.specs.Nested.{first_stage}
use Rattle.iom_nested.specs.Stages.{first_shape_of, format_of, ram_got, second_shape_of, table_got}
use Rattle.iom_nested.specs.declared.translation.Reached.{Reached}
use Rattle.iom_core.specs.State.{Machine, device_id_end}
use Rattle.iom_core.specs.declared.access.Request.{Request}
use Rattle.iom_tables.specs.Parts.{access_parts, by_width, directory_parts, entry_parts, file_part, first_by, first_parts, parts_by, parts_of, reached_parts, read_at, second_by, second_parts, stage_parts}
use Rattle.iom_tables.specs.Passing.{Breaks, IsBeyond}
use Rattle.iom_core.specs.Looking.{by_tables}
use Rattle.iom_tables.specs.declared.part.Part.{Part}
use Rattle.iom_tables.specs.declared.part.Part.TheVariants as part
use Rattle.iom_tables.specs.declared.part.Wide.{Wide}
use Rattle.iom_tables.specs.declared.part.Wide.TheVariants as wide

pub each_by_width : (P : Part → Type 0) (kept : Bool) (what : Wide) (entries : List Part) → (kept ≡ false → P (part.Wide what)) →
    All P entries → All P (by_width kept what entries)
each_by_width P true what entries wide each = each
each_by_width P false what entries wide each = All-cons P (part.Wide what) [] (wide refl) (All-nil P)

pub not_false : (b : Bool) → not b ≡ false → b ≡ true
not_false true is = refl
not_false false is = absurd (cc)

-- what is reported as too wide is too wide
abbrev pub IsWide : Machine → Request → Part → Type 0
IsWide m request (part.Ddtp own root) = Unit {0}
IsWide m request (part.Directory met) = Unit {0}
IsWide m request (part.Wide what) = Breaks m request what
IsWide m request (part.First entry addr) = Unit {0}
IsWide m request (part.Second guest entry) = Unit {0}
IsWide m request (part.File guest place word) = Unit {0}
IsWide m request (part.End end) = Unit {0}

each_mapped : {X : Type 0} (P : Part → Type 0) (f : X → Part) → ((x : X) → P (f x)) → (xs : List X) → All P (map f xs)
each_mapped P f each [] = All-nil P
each_mapped P f each (x ∷ xs) = All-cons P (f x) (map f xs) (each x) (each_mapped P f each xs)

each_flat : {X : Type 0} (P : Part → Type 0) (f : X → List Part) → ((x : X) → All P (f x)) → (xs : List X) → All P (flat_map f xs)
each_flat P f each [] = All-nil P
each_flat P f each (x ∷ xs) = All-append P (f x) (flat_map f xs) (each x) (each_flat P f each xs)

module _ (m : Machine) (request : Request) where
  -- the stages of the context that was found
  module _ (context : Context) (found : located m.memory m.registers request.did ≡ Ok context) where
    second_by_wide : (kind : Kind) (guest : ℕ) (shape : Option Shape) → second_shape_of context ≡ shape →
        All (IsWide m request) (second_by m.memory m.registers.features context.gppn kind guest shape)
    second_by_wide kind guest None is = All-nil (IsWide m request)
    second_by_wide kind guest (Some shape) is =
        let path : List PathEntry = path_told (ram_got m.memory) (format_of m.registers.features shape) context.gppn guest kind in
        each_by_width (IsWide m request) (is_in_width shape guest) (wide.Second guest) (map (part.Second guest) path)
        (λ beyond. (context, (found, subst (λ s. IsBeyond s guest) (sym is) beyond)))
        (each_mapped (IsWide m request) (part.Second guest) (λ entry. tt) path)

    second_wide : (kind : Kind) (guest : ℕ) → All (IsWide m request) (second_parts m.memory m.registers.features context kind guest)
    unfolding second_parts
    second_wide kind guest = second_by_wide kind guest (second_shape_of context) refl

    entry_wide : (entry : PathEntry) → All (IsWide m request) (entry_parts m.memory m.registers.features context entry)
    entry_wide entry =
        let first : Part = part.First entry (read_at m.memory m.registers.features context entry.place) in
        All-append (IsWide m request) (second_parts m.memory m.registers.features context Read entry.place) (first ∷ [])
        (second_wide Read entry.place) (All-cons (IsWide m request) first [] tt (All-nil (IsWide m request)))

    first_by_wide : (kind : Kind) (shape : Option Shape) → first_shape_of context ≡ shape →
        All (IsWide m request) (first_by m.memory m.registers.features context request.iova kind shape)
    first_by_wide kind None is = All-nil (IsWide m request)
    first_by_wide kind (Some shape) is =
        let path : List PathEntry = path_told (table_got m.memory m.registers.features context) (format_of m.registers.features shape) context.ppn request.iova kind in
        each_by_width (IsWide m request) (is_in_width shape request.iova) (wide.First request.iova) (flat_map (entry_parts m.memory m.registers.features context) path)
        (λ beyond. (refl, (context, (found, subst (λ s. IsBeyond s request.iova) (sym is) beyond))))
        (each_flat (IsWide m request) (entry_parts m.memory m.registers.features context) entry_wide path)

    first_wide : (kind : Kind) → All (IsWide m request) (first_parts m.memory m.registers.features context request.iova kind)
    unfolding first_parts
    first_wide kind = first_by_wide kind (first_shape_of context) refl

    reached_wide : (kind : Kind) (of_file : Bool) (guest : ℕ) →
        All (IsWide m request) (reached_parts m.memory m.registers.features context kind of_file guest)
    reached_wide kind true guest = All-cons (IsWide m request) (file_part m.memory context.msi guest) [] tt (All-nil (IsWide m request))
    reached_wide kind false guest = second_wide kind guest

    access_wide : (kind : Kind) (reached : Result Reached Failure) → All (IsWide m request) (access_parts m.memory m.registers.features context kind reached)
    access_wide kind (Ok reached) = reached_wide kind (is_of_file context.msi reached.addr) reached.addr
    access_wide kind (Err failure) = All-nil (IsWide m request)

  stages_wide : (found : Result Context Cause) → located m.memory m.registers request.did ≡ found →
      All (IsWide m request) (stage_parts m.memory m.registers.features request.iova request.kind found)
  stages_wide (Ok context) is =
      let reached : Result Reached Failure = first_stage m.memory m.registers.features context request.iova request.kind (first_shape_of context) in
      All-append (IsWide m request) (first_parts m.memory m.registers.features context request.iova request.kind) (access_parts m.memory m.registers.features context request.kind reached)
      (first_wide context is request.kind) (access_wide context is request.kind reached)
  stages_wide (Err why) is = All-nil (IsWide m request)

  directory_wide : All (IsWide m request) (directory_parts m request.did)
  directory_wide =
      let items : List Met = path_of m.memory m.registers request.did in
      each_by_width (IsWide m request) (not (is_too_wide (context_format m.registers.features) (levels_of (mode_of m.registers)) request.did)) (wide.Directory (request.did % device_id_end))
      (map part.Directory items) (λ is. (refl, not_false _ is)) (each_mapped (IsWide m request) part.Directory (λ met. tt) items)

  mode_wide : (own : Mode) → All (IsWide m request) (parts_by own m request)
  mode_wide mode.Off = All-nil (IsWide m request)
  mode_wide mode.Bare = All-nil (IsWide m request)
  mode_wide (mode.Levels levels) =
      let found : Result Context Cause = located m.memory m.registers request.did in
      All-append (IsWide m request) (directory_parts m request.did) (stage_parts m.memory m.registers.features request.iova request.kind found)
      directory_wide (stages_wide found refl)

  pub each_is_wide : All (IsWide m request) (parts_of m request)
  unfolding parts_of
  each_is_wide =
      let P : Part → Type 0 = IsWide m request in
      let ddtp : Part = part.Ddtp (mode_of m.registers) (root_of m.registers) in
      let end : Part = part.End (by_tables m request) in
      let between : List Part = parts_by (mode_of m.registers) m request in
      All-cons P ddtp (between ++ end ∷ []) tt
      (All-append P between (end ∷ []) (mode_wide (mode_of m.registers)) (All-cons P end [] tt (All-nil P)))
