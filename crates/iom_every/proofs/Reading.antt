-- What a walk reads: each valid entry that it meets, and no other.
use Rattle.std.proofs.Common.{◌≡◌, ◌+◌, ◌++◌, ◌||◌, ◌-◌, ◌*◌, ◌/◌, ◌^◌, ℕ, Bool, true, false, List, [], ◌∷◌, get_or, map, Option, Some, None, Result, Ok, Err, if◌then◌else◌, refl, ap, sym, subst, inl, inr}
use Rattle.std.specs.Prelude.{flat_map}
use Rattle.std.specs.List.{AllByRecursion, range_with_len}
use Rattle.iom_bits.specs.Bits.{has_bit}
use Rattle.iom_bits.specs.declared.causes.Cause.{Cause}
use Rattle.iom_bits.specs.declared.causes.Kind.{Kind}
use Rattle.iom_bits.specs.Features.{Features}
use Rattle.iom_mem.specs.Memory.{Memory}
use Rattle.iom_regs.specs.Views.{mode_of}
use Rattle.iom_regs.specs.declared.views.Mode.{Mode}
use Rattle.iom_regs.specs.declared.views.Mode.TheVariants.{Off, Bare, Levels}
use Rattle.iom_ddt.specs.Contexts.{is_bare}
use Rattle.iom_ddt.specs.declared.context.Context.{Context}
use Rattle.iom_ddt.specs.declared.met.Met.{Met as Listed}
use Rattle.iom_ddt.specs.declared.met.Met.TheVariants as listed
use Rattle.iom_ddt.specs.Directory.{path_of, with_modes}
use Rattle.iom_ddt.specs.Formats.{context_format, id_part}
use Rattle.iom_ddt.specs.Words.{context_in}
use Rattle.iom_walk.specs.declared.met.MetEntry.{MetEntry as Met}
use Rattle.iom_walk.specs.Verdict.{is_global, is_valid, word_of}
use Rattle.iom_walk.specs.declared.shape.Shape.{Shape}
use Rattle.iom_nested.specs.Faults.{Failure}
use Rattle.iom_nested.specs.Files.{file_place, file_word, is_of_file}
use Rattle.iom_nested.specs.Stages.{first_shape_of, format_of, second_shape_of}
use Rattle.iom_nested.specs.declared.translation.Fault.{Fault}
use Rattle.iom_nested.specs.declared.translation.Hit.{Hit}
use Rattle.iom_nested.specs.declared.translation.Reached.{Reached}
use Rattle.iom_cache.specs.Keys.{gscid_of}
use Rattle.iom_core.specs.Access.{request_key, way_to}
use Rattle.iom_core.specs.State.{Machine, State}
use Rattle.iom_core.specs.declared.access.Request.{Request}
use Rattle.iom_core.specs.declared.step.Step.{Step}
use Rattle.iom_core.specs.declared.way.Way.{Way as Led}
use Rattle.iom_core.specs.declared.way.Way.TheVariants.{Context as ByContext}
use Rattle.iom_choices.specs.Models.{end_of}
use Rattle.iom_choices.specs.Systems.{IsAmong, ModelWalk, aimed, reads_of}
use Rattle.iom_choices.proofs.Lists.{among-left, among-right, each_append}
use Rattle.iom_choices.specs.Late.{MayHoldLate}
use Rattle.iom_choices.specs.Pauses.{paused, paused_at, paused_commands, source_for, taken, with_pauses}
use Rattle.iom_choices.proofs.Outlasting.{held_by}
use Rattle.iom_choices.proofs.Pauses.{reads_paused}
use Rattle.iom_every.specs.Entries.{Entry, Held, OfDirectory, OfDevice, OfFile, OfFirst, OfPage, OfSecond, is_of_sixteen, kept_as, of_sixteen, sixteen_of, split}
use Rattle.iom_every.specs.Every.{May, MayAhead, alone_iommu, iommu, platform, queue_commands}
use Rattle.iom_every.specs.Guards.{IsReadAs, IsValid}
use Rattle.iom_every.specs.Rows.{bare}
use Rattle.iom_every.specs.Stages.{file_kept, file_reads, first_by, first_met, first_reads, in_memory, reads_at, reads_for_access, reads_for_entry, reads_reached, second_reads, stage_reads, translation_by}
use Rattle.iom_every.specs.Uses.{AtLeaf, Below, Entered, Look, access_use, entry_use, file_use, first_use, page_use, used_by}
use Rattle.iom_every.specs.Walks.{held_in, is_global_use, kept_of, met}
use Rattle.iom_every.specs.Ways.{below, by_context, by_mode, depth_of, directory_in, directory_reads, entered, located_by, page_by, page_way, under, way_of, whole_of}

-- of each of a list
each_map : {X Y : Type 0} (P : Y → Type 0) (f : X → Y) (xs : List X) → AllByRecursion (λ (x : X). P (f x)) xs → AllByRecursion P (map f xs)
each_map P f [] h = tt
each_map P f (x ∷ xs) h = (h.0, each_map P f xs h.1)

each_flat : {X Y : Type 0} (P : Y → Type 0) (f : X → List Y) (xs : List X) → ((x : X) → AllByRecursion P (f x)) → AllByRecursion P (flat_map f xs)
each_flat P f [] h = tt
each_flat P f (x ∷ xs) h = each_append P (f x) (flat_map f xs) (h x) (each_flat P f xs h)

pub of_each : {X : Type 0} (P : X → Type 0) (xs : List X) (x : X) → AllByRecursion P xs → IsAmong xs x → P x
of_each P [] x h among = absurd among
of_each P (y ∷ xs) x h (inl same) = subst P same h.0
of_each P (y ∷ xs) x h (inr among) = of_each P xs x h.1 among

among_map : {X Y : Type 0} (f : X → Y) (xs : List X) (x : X) → IsAmong xs x → IsAmong (map f xs) (f x)
among_map f [] x among = absurd among
among_map f (y ∷ xs) x (inl same) = inl (ap f same)
among_map f (y ∷ xs) x (inr among) = inr (among_map f xs x among)

among_flat_map : {X Y : Type 0} (f : X → List Y) (xs : List X) (x : X) (y : Y) → IsAmong xs x → IsAmong (f x) y → IsAmong (flat_map f xs) y
among_flat_map f [] x y among has = absurd among
among_flat_map {X} {Y} f (z ∷ xs) x y (inl same) has = among-left (f z) (flat_map f xs) y (subst (λ (x : X). IsAmong (f x) y) (sym same) has)
among_flat_map f (z ∷ xs) x y (inr among) has = among-right (f z) (flat_map f xs) y (among_flat_map f xs x y among has)

-- each entry that is kept of a path is valid
held_valid : (global : Bool) (address : ℕ) (path : List Met) → AllByRecursion (λ (held : Held). is_valid held.word ≡ true) (held_in global address path)
unfolding held_in
held_valid global address [] = tt
held_valid global address (entry ∷ path) =
    let here : Bool = global || is_global (word_of entry.got) in
    let rest : List Held = held_in here address path in
    let kept : Held = kept_of here address entry in
    let P : Held → Type 0 = λ held. is_valid held.word ≡ true in
    let Goal : Bool → Type 0 = λ b. is_valid (word_of entry.got) ≡ b → AllByRecursion P (if b then kept ∷ rest else rest) in
    let by_valid : (b : Bool) → Goal b = λ b. elim b as Goal [
      | true ↦ λ is. (is, held_valid here address path)
      | false ↦ λ is. held_valid here address path
    ] in by_valid (is_valid (word_of entry.got)) refl

-- each valid entry of a path is kept
pub record IsHeldAs (global : Bool) (address : ℕ) (entry : Met) (helds : List Held) : Type 0 where
  pub held : Held
  pub among : IsAmong helds held
  pub level : held.level ≡ entry.level
  pub part : held.part ≡ address / 4096 / 2 ^ (9 * held.level)
  pub word : held.word ≡ word_of entry.got
  pub own : is_global (word_of entry.got) ≡ true → held.global ≡ true

or_right : (a b : Bool) → b ≡ true → (a || b) ≡ true
or_right true b is = refl
or_right false b is = is

held_has : (global : Bool) (address : ℕ) (path : List Met) (entry : Met) → IsAmong path entry → is_valid (word_of entry.got) ≡ true → IsHeldAs global address entry (held_in global address path)
unfolding held_in
held_has global address [] entry among valid = absurd among
held_has global address (first ∷ path) entry (inl same) valid =
    let is : is_valid (word_of first.got) ≡ true = subst (λ (met : Met). is_valid (word_of met.got) ≡ true) (sym same) valid in
    let here : Bool = global || is_global (word_of first.got) in
    let rest : List Held = held_in here address path in
    let kept : Held = kept_of here address first in
    record {
      held = kept;
      among = subst (λ (b : Bool). IsAmong (if b then kept ∷ rest else rest) kept) (sym is) (inl refl);
      level = ap (λ (met : Met). met.level) same;
      part = refl;
      word = ap (λ (met : Met). word_of met.got) same;
      own = λ g. or_right global _ (subst (λ (met : Met). is_global (word_of met.got) ≡ true) (sym same) g);
    }
held_has global address (first ∷ path) entry (inr among) valid =
    let here : Bool = global || is_global (word_of first.got) in
    let rest : List Held = held_in here address path in
    let kept : Held = kept_of here address first in
    let h : IsHeldAs here address entry rest = held_has here address path entry among valid in
    record {
      held = h.held;
      among = elim (is_valid (word_of first.got)) as (λ b. IsAmong (if b then kept ∷ rest else rest) h.held) [
        | true ↦ inr h.among
        | false ↦ h.among
      ];
      level = h.level;
      part = h.part;
      word = h.word;
      own = h.own;
    }

-- an entry that is kept, with its tags, among all that is read
read_as : (tagged : Held → Entry) (address : ℕ) (entry : Met) (global : Bool) (path : List Met) (reads : List Entry) → IsAmong path entry → is_valid (word_of entry.got) ≡ true →
    ((e : Entry) → IsAmong (map tagged (held_in global address path)) e → IsAmong reads e) → IsReadAs tagged address entry reads
read_as tagged address entry global path reads among valid more =
    let h : IsHeldAs global address entry (held_in global address path) = held_has global address path entry among valid in
    record { held = h.held; among = more (tagged h.held) (among_map tagged (held_in global address path) h.held h.among); level = h.level; part = h.part; word = h.word; global = h.own }

-- the entries of the first stage
pub first_read : (memory : Memory) (features : Features) (source : List (Look × Entry)) (context : Context) (iova : ℕ) (kind : Kind) (shape : Shape) (entry : Met) → first_shape_of context ≡ Some shape →
    IsAmong (first_met memory features source context iova shape) entry → is_valid (word_of entry.got) ≡ true →
    IsReadAs (OfFirst (gscid_of context) context.pscid) iova entry (stage_reads memory features source context iova kind)
unfolding stage_reads
first_read memory features source context iova kind shape entry stage among valid =
    let reached : List Entry = reads_reached memory features source context (first_by memory features source context iova kind (first_shape_of context)) in
    let own : List Entry = map (OfFirst (gscid_of context) context.pscid) (held_in (is_global_use (used_by (first_use context shape iova) source)) iova (first_met memory features source context iova shape)) in
    let behind : List Entry = flat_map (reads_for_entry memory features source context (second_shape_of context)) (first_met memory features source context iova shape) in
    read_as (OfFirst (gscid_of context) context.pscid) iova entry (is_global_use (used_by (first_use context shape iova) source)) (first_met memory features source context iova shape) _ among valid
    (λ e has. among-left (first_reads memory features source context iova (first_shape_of context)) reached e
    (subst (λ (o : Option Shape). IsAmong (first_reads memory features source context iova o) e) (sym stage) (among-left own behind e has)))

-- those of the second that are met for an entry of the first
pub second_read : (memory : Memory) (features : Features) (source : List (Look × Entry)) (context : Context) (iova : ℕ) (kind : Kind) (shape second : Shape) (first entry : Met) → first_shape_of context ≡ Some shape → second_shape_of context ≡ Some second →
    IsAmong (first_met memory features source context iova shape) first →
    IsAmong (met (in_memory memory) (format_of features second) context.gppn first.place (used_by (entry_use context second first.level first.place) source)) entry → is_valid (word_of entry.got) ≡ true →
    IsReadAs (OfSecond context.gscid) first.place entry (stage_reads memory features source context iova kind)
unfolding stage_reads
second_read memory features source context iova kind shape second first entry stage behind_it among_first among valid =
    let reached : List Entry = reads_reached memory features source context (first_by memory features source context iova kind (first_shape_of context)) in
    let own : List Entry = map (OfFirst (gscid_of context) context.pscid) (held_in (is_global_use (used_by (first_use context shape iova) source)) iova (first_met memory features source context iova shape)) in
    let behind : List Entry = flat_map (reads_for_entry memory features source context (second_shape_of context)) (first_met memory features source context iova shape) in
    let used : Option Held = used_by (entry_use context second first.level first.place) source in
    read_as (OfSecond context.gscid) first.place entry (is_global_use used) (met (in_memory memory) (format_of features second) context.gppn first.place used) _ among valid
    (λ e has. among-left (first_reads memory features source context iova (first_shape_of context)) reached e
    (subst (λ (o : Option Shape). IsAmong (first_reads memory features source context iova o) e) (sym stage)
    (among-right own behind e (among_flat_map (reads_for_entry memory features source context (second_shape_of context)) (first_met memory features source context iova shape) first e among_first
    (subst (λ (o : Option Shape). IsAmong (reads_for_entry memory features source context o first) e) (sym behind_it) has)))))

-- and for the access itself
reached_read : (memory : Memory) (features : Features) (source : List (Look × Entry)) (context : Context) (iova : ℕ) (kind : Kind) (reached : Reached) (is : Bool) (e : Entry) →
    first_by memory features source context iova kind (first_shape_of context) ≡ Ok reached → is_of_file context.msi reached.addr ≡ is →
    IsAmong (reads_at memory features source context is reached) e → IsAmong (stage_reads memory features source context iova kind) e
unfolding stage_reads
reached_read memory features source context iova kind reached is e leads of has =
    among-right (first_reads memory features source context iova (first_shape_of context)) (reads_reached memory features source context (first_by memory features source context iova kind (first_shape_of context))) e
    (subst (λ (r : Result Reached Failure). IsAmong (reads_reached memory features source context r) e) (sym leads)
    (subst (λ (b : Bool). IsAmong (reads_at memory features source context b reached) e) (sym of) has))

pub access_read : (memory : Memory) (features : Features) (source : List (Look × Entry)) (context : Context) (iova : ℕ) (kind : Kind) (second : Shape) (reached : Reached) (entry : Met) → second_shape_of context ≡ Some second →
    first_by memory features source context iova kind (first_shape_of context) ≡ Ok reached → is_of_file context.msi reached.addr ≡ false →
    IsAmong (met (in_memory memory) (format_of features second) context.gppn reached.addr (used_by (access_use context second reached.addr) source)) entry → is_valid (word_of entry.got) ≡ true →
    IsReadAs (OfSecond context.gscid) reached.addr entry (stage_reads memory features source context iova kind)
access_read memory features source context iova kind second reached entry behind_it leads of among valid =
    let used : Option Held = used_by (access_use context second reached.addr) source in
    read_as (OfSecond context.gscid) reached.addr entry (is_global_use used) (met (in_memory memory) (format_of features second) context.gppn reached.addr used) _ among valid
    (λ e has. reached_read memory features source context iova kind reached false e leads of
    (subst (λ (o : Option Shape). IsAmong (reads_for_access memory features source context o reached) e) (sym behind_it) has))

kept_file : (context : Context) (address word : ℕ) → has_bit word 0 ≡ true → IsAmong (file_kept context address (Some word)) (OfFile context.gscid (address / 4096) word)
kept_file context address word valid = rw valid (inl refl)

-- what is kept of a word tells it
word_in : Entry → ℕ
word_in (OfFile gscid page word) = word
word_in (OfDirectory level part word) = word
word_in (OfDevice did said) = 0
word_in (OfFirst gscid pscid held) = held.word
word_in (OfSecond gscid held) = held.word
word_in (OfPage key hit) = 0

one_word : (context : Context) (address word found : ℕ) (valid : Bool) → IsAmong (if valid then OfFile context.gscid (address / 4096) found ∷ [] else []) (OfFile context.gscid (address / 4096) word) → word ≡ found
unfolding word_in
one_word context address word found true (inl same) = sym (ap word_in same)
one_word context address word found true (inr among) = absurd among
one_word context address word found false among = absurd among

pub same_word : (context : Context) (address word : ℕ) (found : Option ℕ) → IsAmong (file_kept context address found) (OfFile context.gscid (address / 4096) word) → Some word ≡ found
same_word context address word None among = absurd among
same_word context address word (Some found) among = ap Some (one_word context address word found (has_bit found 0) among)

pub file_read : (memory : Memory) (features : Features) (source : List (Look × Entry)) (context : Context) (iova : ℕ) (kind : Kind) (reached : Reached) (word : ℕ) →
    first_by memory features source context iova kind (first_shape_of context) ≡ Ok reached → is_of_file context.msi reached.addr ≡ true →
    used_by (file_use context reached.addr) source ≡ None → file_word memory (file_place context.msi reached.addr) ≡ Some word → has_bit word 0 ≡ true →
    IsAmong (stage_reads memory features source context iova kind) (OfFile context.gscid (reached.addr / 4096) word)
file_read memory features source context iova kind reached word leads of none found valid =
    let own : Entry = OfFile context.gscid (reached.addr / 4096) word in
    reached_read memory features source context iova kind reached true own leads of
    (subst (λ (used : Option ℕ). IsAmong (file_reads memory context reached.addr used) own) (sym none)
    (subst (λ (w : Option ℕ). IsAmong (file_kept context reached.addr w) own) (sym found) (kept_file context reached.addr word valid)))

-- Nothing else is read.
second_valid : (memory : Memory) (features : Features) (context : Context) (shape : Shape) (address : ℕ) (used : Option Held) → AllByRecursion IsValid (second_reads memory features context shape address used)
second_valid memory features context shape address used = each_map IsValid (OfSecond context.gscid) _ (held_valid (is_global_use used) address (met (in_memory memory) (format_of features shape) context.gppn address used))

entry_valid : (memory : Memory) (features : Features) (source : List (Look × Entry)) (context : Context) (second : Option Shape) (entry : Met) → AllByRecursion IsValid (reads_for_entry memory features source context second entry)
entry_valid memory features source context None entry = tt
entry_valid memory features source context (Some shape) entry = second_valid memory features context shape entry.place (used_by (entry_use context shape entry.level entry.place) source)

access_valid : (memory : Memory) (features : Features) (source : List (Look × Entry)) (context : Context) (second : Option Shape) (reached : Reached) → AllByRecursion IsValid (reads_for_access memory features source context second reached)
access_valid memory features source context None reached = tt
access_valid memory features source context (Some shape) reached = second_valid memory features context shape reached.addr (used_by (access_use context shape reached.addr) source)

kept_file_valid : (context : Context) (address : ℕ) (word : Option ℕ) → AllByRecursion IsValid (file_kept context address word)
kept_file_valid context address None = tt
kept_file_valid context address (Some word) =
    let Goal : Bool → Type 0 = λ b. has_bit word 0 ≡ b → AllByRecursion IsValid (if b then OfFile context.gscid (address / 4096) word ∷ [] else []) in
    let by_valid : (b : Bool) → Goal b = λ b. elim b as Goal [
      | true ↦ λ is. (is, tt)
      | false ↦ λ is. tt
    ] in by_valid (has_bit word 0) refl

file_valid : (memory : Memory) (context : Context) (address : ℕ) (used : Option ℕ) → AllByRecursion IsValid (file_reads memory context address used)
file_valid memory context address None = kept_file_valid context address (file_word memory (file_place context.msi address))
file_valid memory context address (Some word) = tt

at_valid : (memory : Memory) (features : Features) (source : List (Look × Entry)) (context : Context) (is : Bool) (reached : Reached) → AllByRecursion IsValid (reads_at memory features source context is reached)
at_valid memory features source context true reached = file_valid memory context reached.addr (used_by (file_use context reached.addr) source)
at_valid memory features source context false reached = access_valid memory features source context (second_shape_of context) reached

reached_valid : (memory : Memory) (features : Features) (source : List (Look × Entry)) (context : Context) (found : Result Reached Failure) → AllByRecursion IsValid (reads_reached memory features source context found)
reached_valid memory features source context (Ok reached) = at_valid memory features source context (is_of_file context.msi reached.addr) reached
reached_valid memory features source context (Err failure) = tt

first_valid : (memory : Memory) (features : Features) (source : List (Look × Entry)) (context : Context) (iova : ℕ) (first : Option Shape) → AllByRecursion IsValid (first_reads memory features source context iova first)
first_valid memory features source context iova None = tt
first_valid memory features source context iova (Some shape) = each_append IsValid _ _
    (each_map IsValid (OfFirst (gscid_of context) context.pscid) _ (held_valid (is_global_use (used_by (first_use context shape iova) source)) iova (first_met memory features source context iova shape)))
    (each_flat IsValid (reads_for_entry memory features source context (second_shape_of context)) (first_met memory features source context iova shape) (entry_valid memory features source context (second_shape_of context)))

stages_valid : (memory : Memory) (features : Features) (source : List (Look × Entry)) (context : Context) (iova : ℕ) (kind : Kind) → AllByRecursion IsValid (stage_reads memory features source context iova kind)
unfolding stage_reads
stages_valid memory features source context iova kind = each_append IsValid _ _
    (first_valid memory features source context iova (first_shape_of context))
    (reached_valid memory features source context (first_by memory features source context iova kind (first_shape_of context)))

whole_valid : (request : Request) (context : Context) (found : Result Hit Fault) → AllByRecursion IsValid (whole_of request context found)
whole_valid request context (Ok hit) = (tt, tt)
whole_valid request context (Err fault) = tt

page_valid : (memory : Memory) (features : Features) (source : List (Look × Entry)) (request : Request) (context : Context) (found : Option Hit) → AllByRecursion IsValid (page_by memory features source request context found).reads
page_valid memory features source request context (Some hit) = tt
page_valid memory features source request context None = each_append IsValid _ _
    (stages_valid memory features source context request.iova request.kind)
    (whole_valid request context (translation_by memory features source context request.iova request.kind))

under_valid : (memory : Memory) (features : Features) (source : List (Look × Entry)) (request : Request) (context : Context) → AllByRecursion IsValid (under memory features source request context).reads
under_valid memory features source request context =
    let ours : ModelWalk Entry Led = record { led = way_to context (page_way memory features source request context).led; reads = (page_way memory features source request context).reads } in
    let direct : ModelWalk Entry Led = record { led = ByContext context; reads = [] } in
    let reads : ModelWalk Entry Led → List Entry = λ way. way.reads in
    elim (is_bare context) as (λ b. AllByRecursion IsValid (reads (if b then direct else ours))) [
      | true ↦ tt
      | false ↦ page_valid memory features source request context _
    ]

directory_valid : (features : Features) (did level : ℕ) (path : List Listed) → AllByRecursion IsValid (directory_in features did level path)
directory_valid features did level [] = tt
directory_valid features did level (listed.Entry place None ∷ more) = tt
directory_valid features did level (listed.Entry place (Some word) ∷ more) =
    let rest : List Entry = directory_in features did (level - 1) more in
    let Goal : Bool → Type 0 = λ b. has_bit word 0 ≡ b → AllByRecursion IsValid (if b then OfDirectory level (id_part (context_format features) level did) word ∷ rest else []) in
    let by_valid : (b : Bool) → Goal b = λ b. elim b as Goal [
      | true ↦ λ is. (is, directory_valid features did (level - 1) more)
      | false ↦ λ is. tt
    ] in by_valid (has_bit word 0) refl
directory_valid features did level (listed.Leaf place None ∷ more) = tt
directory_valid features did level (listed.Leaf place (Some words) ∷ more) =
    let Goal : Bool → Type 0 = λ b. has_bit (get_or words 0 0) 0 ≡ b → AllByRecursion IsValid (if b then OfDevice did (with_modes features (context_in words)) ∷ [] else []) in
    let by_valid : (b : Bool) → Goal b = λ b. elim b as Goal [
      | true ↦ λ is. ((features, words, is, refl), tt)
      | false ↦ λ is. tt
    ] in by_valid (has_bit (get_or words 0 0) 0) refl

entered_valid : (m : Machine) (did : ℕ) (found : Option Entered) → AllByRecursion IsValid (directory_reads m did found)
entered_valid m did None = directory_valid m.registers.features did (depth_of m - 1) (path_of m.memory m.registers did)
entered_valid m did (Some (AtLeaf said)) = tt
entered_valid m did (Some (Below level word)) = directory_valid m.registers.features did (level - 1) (below m did level word)

by_valid : (memory : Memory) (features : Features) (source : List (Look × Entry)) (request : Request) (reads : List Entry) (found : Result Context Cause) → AllByRecursion IsValid reads → AllByRecursion IsValid (by_context memory features source request reads found).reads
by_valid memory features source request reads (Ok context) h = each_append IsValid reads _ h (under_valid memory features source request context)
by_valid memory features source request reads (Err why) h = h

mode_valid : (mode : Mode) (m : Machine) (source : List (Look × Entry)) (request : Request) → AllByRecursion IsValid (by_mode mode m source request).reads
mode_valid Off m source request = tt
mode_valid Bare m source request = tt
mode_valid (Levels levels) m source request =
    by_valid m.memory m.registers.features source request _ (located_by m request.did (entered m source request.did)) (entered_valid m request.did (entered m source request.did))

pub way_valid : (state : State) (source : List (Look × Entry)) (request : Request) → AllByRecursion IsValid (way_of state source request).reads
unfolding way_of
way_valid state source request = mode_valid (mode_of state.machine.registers) state.machine source request

-- in whichever form it is kept
pages_valid : (tagged : Held → Entry) (held : Held) (pages : List ℕ) → ((page : ℕ) → IsValid (tagged (record held { part = page }))) →
    AllByRecursion IsValid (map tagged (map (of_sixteen held) pages))
pages_valid tagged held [] each = tt
pages_valid tagged held (page ∷ pages) each = (each (held.part / 16 * 16 + page), pages_valid tagged held pages each)

split_valid : (features : Features) (tagged : Held → Entry) (held : Held) → IsValid (tagged held) → ((page : ℕ) → IsValid (tagged (record held { part = page }))) →
    AllByRecursion IsValid (map tagged (split features held))
split_valid features tagged held valid each = elim (is_of_sixteen features held) as (λ b. AllByRecursion IsValid (map tagged (if b then sixteen_of held else held ∷ []))) [
  | true ↦ pages_valid tagged held (range_with_len 0 16) each
  | false ↦ (valid, tt)
]

form_valid : (features : Features) (entry : Entry) → IsValid entry → AllByRecursion IsValid (kept_as features entry)
form_valid features (OfDirectory level part word) valid = (valid, tt)
form_valid features (OfDevice did said) valid = (valid, tt)
form_valid features (OfFirst gscid pscid held) valid = split_valid features (OfFirst gscid pscid) held valid (λ page. valid)
form_valid features (OfSecond gscid held) valid = split_valid features (OfSecond gscid) held valid (λ page. valid)
form_valid features (OfFile gscid page word) valid = (valid, tt)
form_valid features (OfPage key hit) valid = (valid, tt)

kept_valid : (features : Features) (reads : List Entry) → AllByRecursion IsValid reads → AllByRecursion IsValid (flat_map (kept_as features) reads)
kept_valid features [] each = tt
kept_valid features (entry ∷ reads) each =
    each_append IsValid (kept_as features entry) (flat_map (kept_as features) reads) (form_valid features entry each.0) (kept_valid features reads each.1)

reads_valid : (ahead : Request → Bool) (state : State) (source : List (Look × Entry)) (request : Option Request) → AllByRecursion IsValid (reads_of (iommu ahead) state source request)
reads_valid ahead state source None = tt
reads_valid ahead state source (Some request) = kept_valid state.machine.registers.features (way_of state source request).reads (way_valid state source request)

-- so nothing else may be held
pub may_valid : (ahead : Request → Bool) (start : State) (steps : List Step) (entry : Entry) → May ahead start steps entry → IsValid entry
may_valid ahead start [] entry may = absurd may.may
may_valid ahead start (last ∷ steps) entry may = elim (held_by (iommu ahead) queue_commands (λ steps. bare (end_of platform start steps)) last steps entry may) [
  | inl before ↦ may_valid ahead start steps entry before
  | inr read ↦ of_each IsValid _ entry (reads_valid ahead (bare (end_of platform start steps)) read.source (aimed (iommu ahead) (bare (end_of platform start steps)) last read.target)) read.among
]

-- nor if memory is read ahead between the steps
alone_valid : (ahead : Request → Bool) (state : State) (source : List (Look × Entry)) (asked : Option (Bool × Request)) → AllByRecursion IsValid (reads_of (alone_iommu ahead) state source asked)
alone_valid ahead state source None = tt
alone_valid ahead state source (Some request) = reads_valid ahead state (source_for request.0 source) (Some request.1)

paused_valid : (ahead : Request → Bool) (start : State) (steps : List (Option Step)) (entry : Entry) →
    MayHoldLate (paused (alone_iommu ahead)) (paused_commands queue_commands) (paused_at (λ steps. bare (end_of platform start steps))) steps entry → IsValid entry
paused_valid ahead start [] entry may = absurd may.may
paused_valid ahead start (last ∷ steps) entry may =
    let at : List Step → State = λ steps. bare (end_of platform start steps) in
    elim (held_by (paused (alone_iommu ahead)) (paused_commands queue_commands) (paused_at at) last steps entry may) [
      | inl before ↦ paused_valid ahead start steps entry before
      | inr read ↦
          let asked : Option (Bool × Request) = aimed (paused (alone_iommu ahead)) (at (taken steps)) last read.target in
          of_each IsValid _ entry (alone_valid ahead (at (taken steps)) read.source asked)
          (subst (λ (reads : List Entry). IsAmong reads entry) (sym (reads_paused (alone_iommu ahead) (at (taken steps)) read.source asked)) read.among)
    ]

pub ahead_valid : (ahead : Request → Bool) (start : State) (steps : List Step) (entry : Entry) → MayAhead ahead start steps entry → IsValid entry
ahead_valid ahead start steps entry may = paused_valid ahead start (with_pauses may.count steps) entry may.may

-- What a request reads: the entries of the directory, and below a context those of both stages and the whole translation.
in_context : (memory : Memory) (features : Features) (source : List (Look × Entry)) (request : Request) (reads : List Entry) (found : Result Context Cause) (e : Entry) → IsAmong reads e → IsAmong (by_context memory features source request reads found).reads e
in_context memory features source request reads (Ok context) e among = among-left reads (under memory features source request context).reads e among
in_context memory features source request reads (Err why) e among = among

pub directory_read : (state : State) (source : List (Look × Entry)) (request : Request) (levels : ℕ) → mode_of state.machine.registers ≡ Levels levels → (e : Entry) →
    IsAmong (directory_reads state.machine request.did (entered state.machine source request.did)) e → IsAmong (way_of state source request).reads e
unfolding way_of
directory_read state source request levels is e among =
    subst (λ (mode : Mode). IsAmong (by_mode mode state.machine source request).reads e) (sym is)
    (in_context state.machine.memory state.machine.registers.features source request _ (located_by state.machine request.did (entered state.machine source request.did)) e among)

pub page_reads : (state : State) (source : List (Look × Entry)) (request : Request) (context : Context) (levels : ℕ) → mode_of state.machine.registers ≡ Levels levels →
    located_by state.machine request.did (entered state.machine source request.did) ≡ Ok context → is_bare context ≡ false → used_by (page_use (request_key request context)) source ≡ None →
    (e : Entry) → IsAmong (page_by state.machine.memory state.machine.registers.features source request context None).reads e → IsAmong (way_of state source request).reads e
unfolding way_of
page_reads state source request context levels is located bare_not none e among =
    let m : Machine = state.machine in
    let dir : List Entry = directory_reads m request.did (entered m source request.did) in
    let ours : ModelWalk Entry Led = record { led = way_to context (page_way m.memory m.registers.features source request context).led; reads = (page_way m.memory m.registers.features source request context).reads } in
    let direct : ModelWalk Entry Led = record { led = ByContext context; reads = [] } in
    let reads : ModelWalk Entry Led → List Entry = λ way. way.reads in
    let here : IsAmong (page_way m.memory m.registers.features source request context).reads e =
    subst (λ (found : Option Hit). IsAmong (page_by m.memory m.registers.features source request context found).reads e) (sym none) among in
    let below_it : IsAmong (under m.memory m.registers.features source request context).reads e =
    subst (λ (b : Bool). IsAmong (reads (if b then direct else ours)) e) (sym bare_not) here in
    subst (λ (mode : Mode). IsAmong (by_mode mode m source request).reads e) (sym is)
    (subst (λ (found : Result Context Cause). IsAmong (by_context m.memory m.registers.features source request dir found).reads e) (sym located)
    (among-right dir (under m.memory m.registers.features source request context).reads e below_it))

pub stages_read : (state : State) (source : List (Look × Entry)) (request : Request) (context : Context) (levels : ℕ) → mode_of state.machine.registers ≡ Levels levels →
    located_by state.machine request.did (entered state.machine source request.did) ≡ Ok context → is_bare context ≡ false → used_by (page_use (request_key request context)) source ≡ None →
    (e : Entry) → IsAmong (stage_reads state.machine.memory state.machine.registers.features source context request.iova request.kind) e → IsAmong (way_of state source request).reads e
stages_read state source request context levels is located bare_not none e among =
    page_reads state source request context levels is located bare_not none e (among-left (stage_reads state.machine.memory state.machine.registers.features source context request.iova request.kind) _ e among)

pub whole_read : (state : State) (source : List (Look × Entry)) (request : Request) (context : Context) (levels : ℕ) (hit : Hit) → mode_of state.machine.registers ≡ Levels levels →
    located_by state.machine request.did (entered state.machine source request.did) ≡ Ok context → is_bare context ≡ false → used_by (page_use (request_key request context)) source ≡ None →
    translation_by state.machine.memory state.machine.registers.features source context request.iova request.kind ≡ Ok hit → IsAmong (way_of state source request).reads (OfPage (request_key request context) hit)
whole_read state source request context levels hit is located bare_not none hits =
    let stages : List Entry = stage_reads state.machine.memory state.machine.registers.features source context request.iova request.kind in
    page_reads state source request context levels is located bare_not none (OfPage (request_key request context) hit)
    (subst (λ (found : Result Hit Fault). IsAmong (stages ++ whole_of request context found) (OfPage (request_key request context) hit)) (sym hits)
    (among-right stages (OfPage (request_key request context) hit ∷ []) _ (inl refl)))
