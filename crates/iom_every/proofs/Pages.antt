-- Requests for the bytes of a page have one way and read the same entries.
use Rattle.std.proofs.Common.{◌≡◌, ◌∙◌, ◌+◌, ◌++◌, ◌*◌, ◌/◌, ◌%◌, ◌||◌, ℕ, zero, suc, Bool, true, false, List, [], ◌∷◌, map, Option, Some, None, Result, Ok, Err, if◌then◌else◌, refl, ap, sym, arith, ◌&&◌, bit_or, ◌==◌}
use Rattle.std.specs.Prelude.{flat_map}
use Rattle.iom_bits.specs.Bits.{has_bit}
use Rattle.iom_bits.specs.declared.causes.Cause.{Cause}
use Rattle.iom_bits.specs.declared.causes.Kind.{Kind}
use Rattle.iom_bits.specs.declared.causes.Kind.TheVariants.{Read}
use Rattle.iom_bits.specs.Features.{Features}
use Rattle.iom_walk.specs.declared.rules.EntryRules.{EntryRules}
use Rattle.iom_mem.specs.Memory.{Memory}
use Rattle.iom_regs.specs.Views.{mode_of}
use Rattle.iom_regs.specs.declared.views.Mode.{Mode}
use Rattle.iom_regs.specs.declared.views.Mode.TheVariants as mode
use Rattle.iom_ddt.specs.Contexts.{is_bare}
use Rattle.iom_ddt.specs.declared.context.Context.{Context}
use Rattle.iom_walk.specs.Outcome.{verdict_on_path}
use Rattle.iom_walk.specs.Path.{entry_at, next_table, verdict_on}
use Rattle.iom_walk.specs.Shape.{levels}
use Rattle.iom_walk.specs.Verdict.{is_global, is_pointer, word_of}
use Rattle.iom_walk.specs.declared.met.MetEntry.{MetEntry as Met}
use Rattle.iom_walk.specs.declared.outcome.Outcome.{Outcome}
use Rattle.iom_walk.specs.declared.outcome.Outcome.TheVariants as outcome
use Rattle.iom_walk.specs.declared.shape.Format.{Format}
use Rattle.iom_walk.specs.declared.shape.Shape.{Shape}
use Rattle.iom_walk.specs.declared.source.Got.{Got}
use Rattle.iom_walk.proofs.Pages.{same_conclusion, same_index, same_width}
use Rattle.iom_nested.specs.Faults.{EntryOutside, Failure, FileBad, FileInvalid, FileOutside, FirstStage, SecondForAccess, SecondForEntry, without_low_bits}
use Rattle.iom_ddt.specs.declared.context.MsiTable.{MsiTable}
use Rattle.iom_nested.specs.declared.files.FileRuling.{FileRuling}
use Rattle.iom_nested.specs.declared.files.FileRuling.TheVariants as ruling
use Rattle.iom_nested.specs.Files.{entry_frame, file_place, file_word, hit_by_file, hit_ruled, is_of_file, packed, word_ruling}
use Rattle.iom_nested.specs.Nested.{hit_by, reached_by, told_of}
use Rattle.iom_nested.specs.Stages.{first_shape_of, format_of, second_shape_of}
use Rattle.iom_nested.specs.declared.translation.Fault.{Fault}
use Rattle.iom_nested.specs.declared.translation.Hit.{Hit}
use Rattle.iom_nested.specs.declared.translation.Reached.{Reached}
use Rattle.iom_cache.specs.Keys.{gscid_of, key_of}
use Rattle.iom_cache.specs.declared.key.Key.{Key}
use Rattle.iom_core.specs.Access.{address_on, request_key, way_to}
use Rattle.iom_core.specs.State.{Machine}
use Rattle.iom_core.specs.declared.access.Request.{Request}
use Rattle.iom_core.specs.declared.way.Way.{Way as Led}
use Rattle.iom_core.specs.declared.way.Way.TheVariants.{Context as ByContext, Denied, Register as ByRegister, Walked}
use Rattle.iom_choices.specs.Settled.{EachUse}
use Rattle.iom_choices.specs.Systems.{ModelWalk}
use Rattle.iom_every.specs.Entries.{Entry, Held, OfDevice, OfDirectory, OfFile, OfFirst, OfPage, OfSecond}
use Rattle.iom_every.specs.Guards.{IsValid}
use Rattle.iom_every.specs.Pages.{OneGoalAPage, OneWayAPage, SameReadsAPage, at_byte, for_iova, goes_at, in_page}
use Rattle.iom_every.specs.Stages.{access_by, behind_by, file_found, file_kept, file_reads, first_by, first_met, first_reads, in_memory, reads_at, reads_for_access, reads_for_entry, reads_reached, second_by, second_outcome, second_reads, stage_reads, table_by, translation_by}
use Rattle.iom_every.specs.Uses.{ForAccess, ForDevice, ForEntry, ForFirst, ForPage, Look, access_use, file_use, first_use, page_use, second_fits, used_by}
use Rattle.iom_every.specs.Walks.{entry_of, held_in, is_global_use, met, met_by, outcome_by, path_by, with_used}
use Rattle.iom_every.specs.Ways.{by_context, by_mode, directory_reads, entered, located_by, page_by, page_way, under, way_of, whole_of}
use Rattle.iom_every.proofs.Plain.{IsPlain, located_plain}

-- The walk of an address looks at the number of its page alone.
same_path : (at : ℕ → ℕ → Got) (format : Format) (a b table count : ℕ) → a / 4096 ≡ b / 4096 → path_by at format a table count ≡ path_by at format b table count
unfolding path_by
same_path at format a b table zero same = refl
same_path at format a b table (suc count) same =
    rw (same_index format.shape a b count same, same_path at format a b (next_table (entry_at (at count) format b table count)) count same) refl

same_rest : (at : ℕ → ℕ → Got) (format : Format) (root a b : ℕ) (used : Option Held) → a / 4096 ≡ b / 4096 → met_by at format root a used ≡ met_by at format root b used
same_rest at format root a b None same = same_path at format a b root (levels format.shape) same
same_rest at format root a b (Some held) same =
    ap (λ (path : List Met). if is_pointer (verdict_on format.rules Read (entry_of held)) then path else []) (same_path at format a b (next_table (entry_of held)) held.level same)

same_met : (at : ℕ → ℕ → Got) (format : Format) (root a b : ℕ) (used : Option Held) → a / 4096 ≡ b / 4096 → met at format root a used ≡ met at format root b used
unfolding met
same_met at format root a b used same = rw (same_width format.shape a b same, same_rest at format root a b used same) refl

same_verdict : (rules : EntryRules) (kind : Kind) (a b : ℕ) (path : List Met) → a / 4096 ≡ b / 4096 → verdict_on_path rules kind a path ≡ verdict_on_path rules kind b path
unfolding verdict_on_path
same_verdict rules kind a b path same = same_conclusion rules kind _ a b _ same

same_outcome : (at : ℕ → ℕ → Got) (format : Format) (root a b : ℕ) (kind : Kind) (used : Option Held) → a / 4096 ≡ b / 4096 →
    outcome_by at format root a kind used ≡ outcome_by at format root b kind used
unfolding outcome_by
same_outcome at format root a b kind used same =
    rw (same_width format.shape a b same, same_rest at format root a b used same, same_verdict format.rules kind a b (with_used used (met_by at format root b used)) same) refl

same_held : (global : Bool) (a b : ℕ) (path : List Met) → a / 4096 ≡ b / 4096 → held_in global a path ≡ held_in global b path
unfolding held_in
same_held global a b [] same = refl
same_held global a b (entry ∷ path) same = rw (same, same_held (global || is_global (word_of entry.got)) a b path same) refl

-- So do its look-ups.
same_used : {X : Type 0} (fits other : Look → Entry → Option X) → ((look : Look) (entry : Entry) → fits look entry ≡ other look entry) → (source : List (Look × Entry)) →
    used_by fits source ≡ used_by other source
same_used fits other alike [] = refl
same_used fits other alike (used ∷ source) = rw (alike used.0 used.1, same_used fits other alike source) refl

first_alike : (context : Context) (shape : Shape) (a b : ℕ) → a / 4096 ≡ b / 4096 → (look : Look) (entry : Entry) → first_use context shape a look entry ≡ first_use context shape b look entry
first_alike context shape a b same ForDevice entry = refl
first_alike context shape a b same ForPage entry = refl
first_alike context shape a b same ForFirst (OfDirectory level part word) = refl
first_alike context shape a b same ForFirst (OfDevice did said) = refl
first_alike context shape a b same ForFirst (OfFirst gscid pscid held) = rw same refl
first_alike context shape a b same ForFirst (OfSecond gscid held) = refl
first_alike context shape a b same ForFirst (OfFile gscid page word) = refl
first_alike context shape a b same ForFirst (OfPage key hit) = refl
first_alike context shape a b same (ForEntry level) entry = refl
first_alike context shape a b same ForAccess entry = refl

second_alike : (context : Context) (shape : Shape) (a b : ℕ) → a / 4096 ≡ b / 4096 → (entry : Entry) → second_fits context shape a entry ≡ second_fits context shape b entry
second_alike context shape a b same (OfDirectory level part word) = refl
second_alike context shape a b same (OfDevice did said) = refl
second_alike context shape a b same (OfFirst gscid pscid held) = refl
second_alike context shape a b same (OfSecond gscid held) = rw same refl
second_alike context shape a b same (OfFile gscid page word) = refl
second_alike context shape a b same (OfPage key hit) = refl

access_alike : (context : Context) (shape : Shape) (a b : ℕ) → a / 4096 ≡ b / 4096 → (look : Look) (entry : Entry) → access_use context shape a look entry ≡ access_use context shape b look entry
access_alike context shape a b same ForDevice entry = refl
access_alike context shape a b same ForPage entry = refl
access_alike context shape a b same ForFirst entry = refl
access_alike context shape a b same (ForEntry level) entry = refl
access_alike context shape a b same ForAccess entry = second_alike context shape a b same entry

file_alike : (context : Context) (a b : ℕ) → a / 4096 ≡ b / 4096 → (look : Look) (entry : Entry) → file_use context a look entry ≡ file_use context b look entry
file_alike context a b same ForDevice entry = refl
file_alike context a b same ForPage entry = refl
file_alike context a b same ForFirst entry = refl
file_alike context a b same (ForEntry level) entry = refl
file_alike context a b same ForAccess (OfDirectory level part word) = refl
file_alike context a b same ForAccess (OfDevice did said) = refl
file_alike context a b same ForAccess (OfFirst gscid pscid held) = refl
file_alike context a b same ForAccess (OfSecond gscid held) = refl
file_alike context a b same ForAccess (OfFile gscid page word) = rw same refl
file_alike context a b same ForAccess (OfPage key hit) = refl

same_key : (context : Context) (did a b : ℕ) (kind : Kind) → a / 4096 ≡ b / 4096 → key_of context did a kind ≡ key_of context did b kind
unfolding key_of
same_key context did a b kind same = rw same refl

-- Where the stages lead an address of a page: to the address of its offset, or to a failure that tells that address.
abbrev reached_at : ℕ → Reached → Reached
reached_at iova reached = record reached { addr = in_page iova reached.addr }

abbrev failed_at : ℕ → Failure → Failure
failed_at iova EntryOutside = EntryOutside
failed_at iova FirstStage = FirstStage
failed_at iova (SecondForEntry place) = SecondForEntry place
failed_at iova (SecondForAccess address) = SecondForAccess (in_page iova address)
failed_at iova FileOutside = FileOutside
failed_at iova FileInvalid = FileInvalid
failed_at iova FileBad = FileBad

abbrev found_at : ℕ → Result Reached Failure → Result Reached Failure
found_at iova (Ok reached) = Ok (reached_at iova reached)
found_at iova (Err failure) = Err (failed_at iova failure)

abbrev hit_at : ℕ → Result Hit Failure → Result Hit Failure
hit_at iova (Ok hit) = Ok hit
hit_at iova (Err failure) = Err (failed_at iova failure)

same_page : (a b : ℕ) → a / 4096 ≡ b / 4096 → b ≡ in_page b a
same_page a b same = omega (arith, same)

in_frame : (frame a b : ℕ) → frame * 4096 + b % 4096 ≡ in_page b (frame * 4096 + a % 4096)
in_frame frame a b = omega arith

page_kept : (iova address : ℕ) → address / 4096 ≡ in_page iova address / 4096
page_kept iova address = omega arith

abbrev reaching : ℕ → Bool → Bool → ℕ → Result Reached Failure
reaching level global napot addr = Ok (record { addr = addr; level = level; global = global; napot = napot })

reached_moved : (a b : ℕ) (end : Outcome) → reached_by b end ≡ found_at b (reached_by a end)
reached_moved a b (outcome.Leaf leaf) = ap (reaching leaf.level leaf.global leaf.napot) (in_frame leaf.frame a b)
reached_moved a b outcome.Outside = refl
reached_moved a b (outcome.Guest place) = refl
reached_moved a b outcome.Fault = refl

hit_moved : (iova : ℕ) (reached : Reached) (end : Outcome) → hit_by (reached_at iova reached) end ≡ hit_at iova (hit_by reached end)
hit_moved iova reached (outcome.Leaf leaf) = refl
hit_moved iova reached outcome.Outside = refl
hit_moved iova reached (outcome.Guest place) = refl
hit_moved iova reached outcome.Fault = refl

ruled_moved : (iova frame : ℕ) (reached : Reached) (row : FileRuling) → hit_ruled (reached_at iova reached) frame row ≡ hit_at iova (hit_ruled reached frame row)
ruled_moved iova frame reached ruling.Outside = refl
ruled_moved iova frame reached ruling.Invalid = refl
ruled_moved iova frame reached ruling.Custom = refl
ruled_moved iova frame reached ruling.BadMode = refl
ruled_moved iova frame reached ruling.Resident = refl
ruled_moved iova frame reached ruling.Reserved = refl
ruled_moved iova frame reached ruling.Leads = refl

by_file_moved : (iova : ℕ) (reached : Reached) (word : Option ℕ) → hit_by_file (reached_at iova reached) word ≡ hit_at iova (hit_by_file reached word)
by_file_moved iova reached None = refl
by_file_moved iova reached (Some word) = ruled_moved iova (entry_frame word) reached (word_ruling word)

-- what is said of the page of an address
of_page : (msi : MsiTable) (a b : ℕ) → a / 4096 ≡ b / 4096 → is_of_file msi a ≡ is_of_file msi b
of_page msi a b same = ap (λ (page : ℕ). msi.flat && bit_or page msi.mask == bit_or msi.pattern msi.mask) same

place_of_page : (msi : MsiTable) (a b : ℕ) → a / 4096 ≡ b / 4096 → file_place msi a ≡ file_place msi b
place_of_page msi a b same = ap (λ (page : ℕ). bit_or (msi.ppn * 4096) (packed 52 page msi.mask * 16)) same

found_of_page : (memory : Memory) (context : Context) (a b : ℕ) (used : Option ℕ) → a / 4096 ≡ b / 4096 → file_found memory context a used ≡ file_found memory context b used
found_of_page memory context a b None same = ap (file_word memory) (place_of_page context.msi a b same)
found_of_page memory context a b (Some word) same = refl

kept_of_page : (context : Context) (a b : ℕ) (word : Option ℕ) → a / 4096 ≡ b / 4096 → file_kept context a word ≡ file_kept context b word
kept_of_page context a b None same = refl
kept_of_page context a b (Some word) same = ap (λ (page : ℕ). if has_bit word 0 then OfFile context.gscid page word ∷ [] else []) same

reads_of_page : (memory : Memory) (context : Context) (a b : ℕ) (used : Option ℕ) → a / 4096 ≡ b / 4096 → file_reads memory context a used ≡ file_reads memory context b used
reads_of_page memory context a b None same =
    ap (λ (place : ℕ). file_kept context a (file_word memory place)) (place_of_page context.msi a b same)
    ∙ kept_of_page context a b (file_word memory (file_place context.msi b)) same
reads_of_page memory context a b (Some word) same = refl

module _ (memory : Memory) (features : Features) (source : List (Look × Entry)) (context : Context) where
  first_used : (shape : Shape) (a b : ℕ) → a / 4096 ≡ b / 4096 → used_by (first_use context shape a) source ≡ used_by (first_use context shape b) source
  first_used shape a b same = same_used (first_use context shape a) (first_use context shape b) (first_alike context shape a b same) source

  access_used : (shape : Shape) (a b : ℕ) → a / 4096 ≡ b / 4096 → used_by (access_use context shape a) source ≡ used_by (access_use context shape b) source
  access_used shape a b same = same_used (access_use context shape a) (access_use context shape b) (access_alike context shape a b same) source

  first_moved : (a b : ℕ) (kind : Kind) → a / 4096 ≡ b / 4096 → (shape : Option Shape) →
      first_by memory features source context b kind shape ≡ found_at b (first_by memory features source context a kind shape)
  first_moved a b kind same None = ap (reaching 0 false false) (same_page a b same)
  first_moved a b kind same (Some shape) =
      let at : ℕ → ℕ → Got = table_by memory features source context (second_shape_of context) in
      let format : Format = format_of features shape in
      ap (reached_by b) (sym (same_outcome at format context.ppn a b kind _ same ∙ ap (outcome_by at format context.ppn b kind) (first_used shape a b same)))
      ∙ reached_moved a b (outcome_by at format context.ppn a kind (used_by (first_use context shape a) source))

  second_moved : (iova : ℕ) (kind : Kind) (shape : Option Shape) (reached : Reached) →
      second_by memory features source context kind shape (reached_at iova reached) ≡ hit_at iova (second_by memory features source context kind shape reached)
  second_moved iova kind None reached =
      ap (λ (frame : ℕ). Ok (record { frame = frame; level = reached.level; global = reached.global; napot = reached.napot })) (sym (page_kept iova reached.addr))
  second_moved iova kind (Some shape) reached =
      let address : ℕ = reached.addr in
      let there : ℕ = in_page iova address in
      let same : address / 4096 ≡ there / 4096 = page_kept iova address in
      ap (hit_by (reached_at iova reached)) (sym (same_outcome (in_memory memory) (format_of features shape) context.gppn address there kind _ same
      ∙ ap (second_outcome memory features context shape there kind) (access_used shape address there same)))
      ∙ hit_moved iova reached (second_outcome memory features context shape address kind (used_by (access_use context shape address) source))

  file_used : (a b : ℕ) → a / 4096 ≡ b / 4096 → used_by (file_use context a) source ≡ used_by (file_use context b) source
  file_used a b same = same_used (file_use context a) (file_use context b) (file_alike context a b same) source

  access_moved : (iova : ℕ) (kind : Kind) (is : Bool) (reached : Reached) →
      access_by memory features source context kind is (reached_at iova reached) ≡ hit_at iova (access_by memory features source context kind is reached)
  access_moved iova kind true reached =
      let address : ℕ = reached.addr in
      let there : ℕ = in_page iova address in
      let same : address / 4096 ≡ there / 4096 = page_kept iova address in
      ap (hit_by_file (reached_at iova reached)) (sym (found_of_page memory context address there (used_by (file_use context address) source) same
      ∙ ap (file_found memory context there) (file_used address there same)))
      ∙ by_file_moved iova reached (file_found memory context address (used_by (file_use context address) source))
  access_moved iova kind false reached = second_moved iova kind (second_shape_of context) reached

  behind_moved : (iova : ℕ) (kind : Kind) (found : Result Reached Failure) →
      behind_by memory features source context kind (found_at iova found) ≡ hit_at iova (behind_by memory features source context kind found)
  behind_moved iova kind (Ok reached) =
      ap (λ (is : Bool). access_by memory features source context kind is (reached_at iova reached)) (sym (of_page context.msi reached.addr (in_page iova reached.addr) (page_kept iova reached.addr)))
      ∙ access_moved iova kind (is_of_file context.msi reached.addr) reached
  behind_moved iova kind (Err failure) = refl

  -- the end of both stages for one byte, by that for another
  both_stages : ℕ → Kind → Result Hit Failure
  both_stages iova kind = behind_by memory features source context kind (first_by memory features source context iova kind (first_shape_of context))

  stages_moved : (a b : ℕ) (kind : Kind) → a / 4096 ≡ b / 4096 → both_stages b kind ≡ hit_at b (both_stages a kind)
  unfolding both_stages
  stages_moved a b kind same =
      ap (behind_by memory features source context kind) (first_moved a b kind same (first_shape_of context))
      ∙ behind_moved b kind (first_by memory features source context a kind (first_shape_of context))

  translation_is : (iova : ℕ) (kind : Kind) → translation_by memory features source context iova kind ≡ told_of kind (both_stages iova kind)
  unfolding translation_by both_stages
  translation_is iova kind = refl

  translation_moved : (a b : ℕ) (kind : Kind) → a / 4096 ≡ b / 4096 → translation_by memory features source context b kind ≡ told_of kind (hit_at b (both_stages a kind))
  translation_moved a b kind same = translation_is b kind ∙ ap (told_of kind) (stages_moved a b kind same)

  -- what is read
  second_read : (shape : Shape) (a b : ℕ) (used : Option Held) → a / 4096 ≡ b / 4096 → second_reads memory features context shape a used ≡ second_reads memory features context shape b used
  second_read shape a b used same =
      ap (λ (helds : List Held). map (OfSecond context.gscid) helds)
      (ap (held_in (is_global_use used) a) (same_met (in_memory memory) (format_of features shape) context.gppn a b used same) ∙ same_held (is_global_use used) a b _ same)

  access_read : (iova : ℕ) (second : Option Shape) (reached : Reached) →
      reads_for_access memory features source context second (reached_at iova reached) ≡ reads_for_access memory features source context second reached
  access_read iova None reached = refl
  access_read iova (Some shape) reached =
      let same : reached.addr / 4096 ≡ in_page iova reached.addr / 4096 = page_kept iova reached.addr in
      let used : Option Held = used_by (access_use context shape reached.addr) source in
      sym (second_read shape reached.addr (in_page iova reached.addr) used same
      ∙ ap (second_reads memory features context shape (in_page iova reached.addr)) (access_used shape reached.addr (in_page iova reached.addr) same))

  read_at : (iova : ℕ) (is : Bool) (reached : Reached) →
      reads_at memory features source context is (reached_at iova reached) ≡ reads_at memory features source context is reached
  read_at iova true reached =
      let same : reached.addr / 4096 ≡ in_page iova reached.addr / 4096 = page_kept iova reached.addr in
      sym (reads_of_page memory context reached.addr (in_page iova reached.addr) (used_by (file_use context reached.addr) source) same
      ∙ ap (file_reads memory context (in_page iova reached.addr)) (file_used reached.addr (in_page iova reached.addr) same))
  read_at iova false reached = access_read iova (second_shape_of context) reached

  reached_read : (iova : ℕ) (found : Result Reached Failure) →
      reads_reached memory features source context (found_at iova found) ≡ reads_reached memory features source context found
  reached_read iova (Ok reached) =
      ap (λ (is : Bool). reads_at memory features source context is (reached_at iova reached)) (sym (of_page context.msi reached.addr (in_page iova reached.addr) (page_kept iova reached.addr)))
      ∙ read_at iova (is_of_file context.msi reached.addr) reached
  reached_read iova (Err failure) = refl

  met_first : (shape : Shape) (a b : ℕ) → a / 4096 ≡ b / 4096 → first_met memory features source context a shape ≡ first_met memory features source context b shape
  met_first shape a b same =
      let at : ℕ → ℕ → Got = table_by memory features source context (second_shape_of context) in
      same_met at (format_of features shape) context.ppn a b _ same ∙ ap (met at (format_of features shape) context.ppn b) (first_used shape a b same)

  first_read : (a b : ℕ) → a / 4096 ≡ b / 4096 → (shape : Option Shape) → first_reads memory features source context a shape ≡ first_reads memory features source context b shape
  first_read a b same None = refl
  first_read a b same (Some shape) =
      let of : Option Held → ℕ → List Met → List Entry = λ used iova path. map (OfFirst (gscid_of context) context.pscid) (held_in (is_global_use used) iova path)
      ++ flat_map (reads_for_entry memory features source context (second_shape_of context)) path in
      let path : List Met = first_met memory features source context b shape in
      let used : Option Held = used_by (first_use context shape b) source in
      ap (λ (used : Option Held). of used a (first_met memory features source context a shape)) (first_used shape a b same)
      ∙ ap (of used a) (met_first shape a b same)
      ∙ ap (λ (helds : List Held). map (OfFirst (gscid_of context) context.pscid) helds ++ flat_map (reads_for_entry memory features source context (second_shape_of context)) path)
      (same_held (is_global_use used) a b path same)

  stages_read : (a b : ℕ) (kind : Kind) → a / 4096 ≡ b / 4096 → stage_reads memory features source context b kind ≡ stage_reads memory features source context a kind
  unfolding stage_reads
  stages_read a b kind same =
      let firsts : ℕ → List Entry = λ iova. first_reads memory features source context iova (first_shape_of context) in
      let found : ℕ → Result Reached Failure = λ iova. first_by memory features source context iova kind (first_shape_of context) in
      ap (λ (reads : List Entry). reads ++ reads_reached memory features source context (found b)) (sym (first_read a b same (first_shape_of context)))
      ∙ ap (λ (reads : List Entry). firsts a ++ reads)
      (ap (reads_reached memory features source context) (first_moved a b kind same (first_shape_of context)) ∙ reached_read b (found a))

-- what is told of a failure
entry_marked : (address : ℕ) → has_bit (without_low_bits address + 1) 0 ≡ true
unfolding has_bit
entry_marked address = let odd : (without_low_bits address + 1) / 1 % 2 ≡ 1 = omega arith in rw odd refl

access_unmarked : (address : ℕ) → has_bit (without_low_bits address) 0 ≡ false
unfolding has_bit
access_unmarked address = let even : without_low_bits address / 1 % 2 ≡ 0 = omega arith in rw even refl

told_moved : (iova address : ℕ) → without_low_bits (in_page iova address) ≡ without_low_bits (in_page iova (without_low_bits address))
told_moved iova address = let same : address / 4096 ≡ without_low_bits address / 4096 = omega arith in ap (λ (page : ℕ). without_low_bits (page * 4096 + iova % 4096)) same

way_moved : (context : Context) (kind : Kind) (iova : ℕ) (found : Result Hit Failure) → way_to context (told_of kind (hit_at iova found)) ≡ at_byte iova (way_to context (told_of kind found))
way_moved context kind iova (Ok hit) = refl
way_moved context kind iova (Err EntryOutside) = refl
way_moved context kind iova (Err FirstStage) = refl
way_moved context kind iova (Err FileOutside) = refl
way_moved context kind iova (Err FileInvalid) = refl
way_moved context kind iova (Err FileBad) = refl
way_moved context kind iova (Err (SecondForEntry place)) = rw (entry_marked place) refl
way_moved context kind iova (Err (SecondForAccess address)) = rw (access_unmarked address) (rw (told_moved iova address) refl)

whole_moved : (request : Request) (context : Context) (iova : ℕ) (found : Result Hit Failure) →
    whole_of request context (told_of request.kind (hit_at iova found)) ≡ whole_of request context (told_of request.kind found)
whole_moved request context iova (Ok hit) = refl
whole_moved request context iova (Err failure) = refl

whole_of_page : (request : Request) (context : Context) (other : ℕ) (found : Result Hit Fault) → request.iova / 4096 ≡ other / 4096 →
    whole_of request context found ≡ whole_of (for_iova request other) context found
whole_of_page request context other (Ok hit) same = ap (λ (key : Key). OfPage key hit ∷ []) (same_key context request.did request.iova other request.kind same)
whole_of_page request context other (Err fault) same = refl

-- The way of a request, by that of another of its page.
module _ (memory : Memory) (features : Features) (source : List (Look × Entry)) (request : Request) (other : ℕ) (same : request.iova / 4096 ≡ other / 4096) where
  abbrev iova : ℕ
  iova = request.iova

  abbrev kind : Kind
  kind = request.kind

  abbrev there : Request
  there = for_iova request other

  page_led : (context : Context) (used : Option Hit) →
      way_to context (page_by memory features source request context used).led ≡ at_byte iova (way_to context (page_by memory features source there context used).led)
  page_led context (Some hit) = refl
  page_led context None =
      ap (way_to context) (translation_moved memory features source context other iova kind (sym same))
      ∙ way_moved context kind iova (both_stages memory features source context other kind)
      ∙ ap (λ (found : Result Hit Fault). at_byte iova (way_to context found)) (sym (translation_is memory features source context other kind))

  page_read : (context : Context) (used : Option Hit) → (page_by memory features source request context used).reads ≡ (page_by memory features source there context used).reads
  page_read context (Some hit) = refl
  page_read context None =
      let found : ℕ → Result Hit Fault = λ iova. translation_by memory features source context iova kind in
      ap (λ (reads : List Entry). reads ++ whole_of request context (found iova)) (stages_read memory features source context other iova kind (sym same))
      ∙ ap (λ (reads : List Entry). stage_reads memory features source context other kind ++ reads)
      (ap (whole_of request context) (translation_moved memory features source context other iova kind (sym same))
      ∙ whole_moved request context iova (both_stages memory features source context other kind)
      ∙ ap (whole_of request context) (sym (translation_is memory features source context other kind))
      ∙ whole_of_page request context other (found other) same)

  key_is : (context : Context) → request_key request context ≡ request_key there context
  key_is context = same_key context request.did iova other kind same

  abbrev page_with : Context → Key → ModelWalk Entry (Result Hit Fault)
  page_with context key = page_by memory features source there context (used_by (page_use key) source)

  under_led : (context : Context) → (under memory features source request context).led ≡ at_byte iova (under memory features source there context).led
  under_led context =
      let of : Bool → Request → ModelWalk Entry Led = λ b request. if b then record { led = ByContext context; reads = [] }
      else record { led = way_to context (page_way memory features source request context).led; reads = (page_way memory features source request context).reads } in
      elim (is_bare context) as (λ b. (of b request).led ≡ at_byte iova (of b there).led) [
        | true ↦ refl
        | false ↦ page_led context (used_by (page_use (request_key request context)) source)
            ∙ ap (λ (key : Key). at_byte iova (way_to context (page_with context key).led)) (key_is context)
      ]

  under_read : (context : Context) → (under memory features source request context).reads ≡ (under memory features source there context).reads
  under_read context =
      let of : Bool → Request → ModelWalk Entry Led = λ b request. if b then record { led = ByContext context; reads = [] }
      else record { led = way_to context (page_way memory features source request context).led; reads = (page_way memory features source request context).reads } in
      elim (is_bare context) as (λ b. (of b request).reads ≡ (of b there).reads) [
        | true ↦ refl
        | false ↦ page_read context (used_by (page_use (request_key request context)) source) ∙ ap (λ (key : Key). (page_with context key).reads) (key_is context)
      ]

  context_led : (reads : List Entry) (found : Result Context Cause) → IsPlain found →
      (by_context memory features source request reads found).led ≡ at_byte iova (by_context memory features source there reads found).led
  context_led reads (Ok context) plainly = under_led context
  context_led reads (Err why) plainly = rw plainly refl

  context_read : (reads : List Entry) (found : Result Context Cause) → (by_context memory features source request reads found).reads ≡ (by_context memory features source there reads found).reads
  context_read reads (Ok context) = ap (λ (more : List Entry). reads ++ more) (under_read context)
  context_read reads (Err why) = refl

mode_led : (by : Mode) (m : Machine) (source : List (Look × Entry)) (request : Request) (other : ℕ) → request.iova / 4096 ≡ other / 4096 → EachUse IsValid source →
    (by_mode by m source request).led ≡ at_byte request.iova (by_mode by m source (for_iova request other)).led
mode_led mode.Off m source request other same valid = refl
mode_led mode.Bare m source request other same valid = refl
mode_led (mode.Levels levels) m source request other same valid =
    context_led m.memory m.registers.features source request other same (directory_reads m request.did (entered m source request.did))
    (located_by m request.did (entered m source request.did)) (located_plain m source request.did valid)

mode_read : (by : Mode) (m : Machine) (source : List (Look × Entry)) (request : Request) (other : ℕ) → request.iova / 4096 ≡ other / 4096 →
    (by_mode by m source request).reads ≡ (by_mode by m source (for_iova request other)).reads
mode_read mode.Off m source request other same = refl
mode_read mode.Bare m source request other same = refl
mode_read (mode.Levels levels) m source request other same =
    context_read m.memory m.registers.features source request other same (directory_reads m request.did (entered m source request.did))
    (located_by m request.did (entered m source request.did))

pub one_way : OneWayAPage
unfolding way_of
one_way state source request other same valid = mode_led (mode_of state.machine.registers) state.machine source request other same valid

-- and where it goes
goes_moved : (way : Led) (iova other : ℕ) → iova / 4096 ≡ other / 4096 → address_on (at_byte iova way) iova ≡ goes_at iova (address_on way other)
goes_moved ByRegister iova other same = ap (λ (address : ℕ). Ok address) (same_page other iova (sym same))
goes_moved (ByContext context) iova other same = ap (λ (address : ℕ). Ok address) (same_page other iova (sym same))
goes_moved (Walked context hit) iova other same = ap (λ (address : ℕ). Ok address) (in_frame hit.frame other iova)
goes_moved (Denied denial) byte other same = refl

pub one_goal : OneGoalAPage
one_goal state source request other same valid =
    ap (λ (way : Led). address_on way request.iova) (one_way state source request other same valid)
    ∙ goes_moved (way_of state source (for_iova request other)).led request.iova other same

pub same_reads : SameReadsAPage
unfolding way_of
same_reads state source request other same = mode_read (mode_of state.machine.registers) state.machine source request other same
