-- The words of a board, of a memory and of a history are those of no other.
use Rattle.std.proofs.Common.{◌≡◌, ◌==◌, ◌++◌, ◌∙◌, ℕ, Bool, true, false, List, [], ◌∷◌, length, get_or, drop, append_assoc, refl, sym, ap, ap₂, arith, Option, Some, None, if◌then◌else◌}
use Rattle.std.specs.List.{flat_map}
use Rattle.iom_bits.specs.Bits.{flag}
use Rattle.iom_bits.specs.Causes.{cause_number}
use Rattle.iom_bits.specs.declared.causes.Cause.{Cause}
use Rattle.iom_bits.specs.declared.causes.Cause.TheVariants as cause
use Rattle.iom_bits.specs.declared.causes.Kind.{Kind}
use Rattle.iom_bits.specs.declared.causes.Kind.TheVariants.{Read, Write}
use Rattle.iom_messages.specs.Messages.{Messages}
use Rattle.iom_messages.specs.declared.messages.Message.{Message}
use Rattle.iom_messages.specs.declared.window.Window.{Window}
use Rattle.iom_regs.specs.Table.{Registers}
use Rattle.iom_ddt.specs.declared.context.Context.{Context}
use Rattle.iom_nested.specs.declared.translation.Hit.{Hit}
use Rattle.iom_cache.specs.declared.key.Key.{Key}
use Rattle.iom_virtq.specs.Chains.{DescriptorChain}
use Rattle.iom_virtq.specs.declared.parts.ChainFault.{ChainFault}
use Rattle.iom_virtq.specs.declared.parts.ChainFault.TheVariants as fault
use Rattle.iom_virtq.specs.declared.parts.ChainPart.{ChainPart}
use Rattle.iom_virtq.specs.declared.parts.Side.{Side}
use Rattle.iom_virtq.specs.declared.parts.Side.TheVariants as side
use Rattle.iom_blk.specs.Device.{Device}
use Rattle.iom_blk.specs.declared.broken.Broken.{Broken}
use Rattle.iom_blk.specs.declared.broken.Broken.TheVariants as broken
use Rattle.iom_blk.specs.declared.phase.Phase.{Phase}
use Rattle.iom_blk.specs.declared.phase.Phase.TheVariants as phase
use Rattle.iom_core.specs.State.{Board}
use Rattle.iom_account.specs.Following.{HistoryView}
use Rattle.iom_saved.specs.Boards.{board_words, devices_words, own_words}
use Rattle.iom_saved.specs.Bytes.{words_of_bytes}
use Rattle.iom_saved.specs.Caches.{context_place_words, contexts_words, kind_word, page_place_words, pages_words}
use Rattle.iom_saved.specs.Devices.{device_words, front_words, progress_words}
use Rattle.iom_saved.specs.Histories.{number_words}
use Rattle.iom_saved.specs.Messages.{kept_words, message_words, messages_words, window_words}
use Rattle.iom_saved.specs.Laws.{OneBoard, OneHistory, OneMemory}
use Rattle.iom_saved.specs.Whole.{EachWhole, IsWhole}
use Rattle.iom_regs.specs.declared.vectors.MsiVector.{MsiVector}
use Rattle.iom_saved.specs.Registers.{front_words as register_front, register_words, table_words, vector_words}
use Rattle.iom_saved.specs.Requests.{broken_words, chain_words, fault_word, part_words, phase_words, side_word}
use Rattle.iom_saved.proofs.Taken.{messages_same}
use Rattle.iom_saved.proofs.Tells.{Tells, tells_both, tells_by, tells_bytes, tells_counted, tells_numbers}

-- word `i`
abbrev word : List ℕ → ℕ → ℕ
word words i = get_or words i 0

abbrev flag_of : ℕ → Bool
flag_of n = get_or (false ∷ true ∷ []) n false

flag_back : (set : Bool) → flag_of (flag set) ≡ set
flag_back true = refl
flag_back false = refl

abbrev registers_of : List ℕ → Registers
registers_of l = record {
  features = word l 0;
  ddtp = word l 1;
  acting = word l 2;
  cqb = word l 3;
  cqh = word l 4;
  cqt = word l 5;
  fqb = word l 6;
  fqh = word l 7;
  fqt = word l 8;
  cqcsr = word l 9;
  fqcsr = word l 10;
  ipsr = word l 11;
  icvec = word l 12;
  fctl = word l 13;
  table = [];
}

-- the registers without their table, and it
abbrev without_table : Registers → Registers
without_table x = record x { table = [] }

tells_first : Tells without_table register_front
tells_first = tells_by {X = Registers} {Y = Registers} without_table register_front registers_of (λ l. drop 14 l) (λ x r. refl) (λ x r. refl)

abbrev vector_of : List ℕ → MsiVector
vector_of l = record { addr = word l 0; value = word l 1; masked = flag_of (word l 2); owed = flag_of (word l 3) }

vector_back : (x : MsiVector) (r : List ℕ) → vector_of (vector_words x ++ r) ≡ x
vector_back x r = rw (flag_back x.masked, flag_back x.owed) refl

tells_table : Tells (λ (x : List MsiVector). x) table_words
tells_table = tells_counted vector_words (tells_by (λ x. x) vector_words vector_of (λ l. drop 4 l) vector_back (λ x r. refl))

tells_registers : Tells (λ (x : Registers). x) register_words
tells_registers x y r s same =
    let both = tells_both without_table (λ (x : Registers). x.table) register_front (λ (x : Registers). table_words x.table)
    tells_first (λ x y. tells_table x.table y.table) x y r s same in
    (ap (λ (p : Registers × List MsiVector). record p.0 { table = p.1 }) both.0, both.1)

abbrev context_of : List ℕ → Context
context_of l = record {
  gppn = word l 2;
  ppn = word l 3;
  pscid = word l 4;
  gscid = word l 5;
  gmode = word l 6;
  mode = word l 7;
  custom = word l 8;
  dtf = flag_of (word l 9);
  tav = flag_of (word l 10);
  msi = record { ppn = word l 11; mask = word l 12; pattern = word l 13; flat = flag_of (word l 14) };
}

abbrev context_place_of : List ℕ → Option (ℕ × Context)
context_place_of l = get_or (None ∷ Some (word l 1, context_of l) ∷ []) (word l 0) None

abbrev behind_context : List ℕ → List ℕ
behind_context l = get_or (drop 1 l ∷ drop 15 l ∷ []) (word l 0) []

context_place_back : (x : Option (ℕ × Context)) (r : List ℕ) → context_place_of (context_place_words x ++ r) ≡ x
context_place_back None r = refl
context_place_back (Some entry) r = rw (flag_back entry.1.dtf, flag_back entry.1.tav, flag_back entry.1.msi.flat) refl

behind_context_is : (x : Option (ℕ × Context)) (r : List ℕ) → behind_context (context_place_words x ++ r) ≡ r
behind_context_is None r = refl
behind_context_is (Some entry) r = refl

tells_contexts : Tells (λ (x : List (Option (ℕ × Context))). x) contexts_words
tells_contexts = tells_counted context_place_words
    (tells_by (λ x. x) context_place_words context_place_of behind_context context_place_back behind_context_is)

abbrev kind_of : ℕ → Kind
kind_of n = get_or (Read ∷ Write ∷ []) n Read

kind_back : (kind : Kind) → kind_of (kind_word kind) ≡ kind
kind_back Read = refl
kind_back Write = refl

-- an id that there may be, of its two words
abbrev id_of : ℕ → ℕ → Option ℕ
id_of has id = get_or (None ∷ Some id ∷ []) has None

abbrev key_of : List ℕ → Key
key_of l = record { did = word l 1; pscid = id_of (word l 4) (word l 5); gscid = id_of (word l 6) (word l 7); page = word l 2; kind = kind_of (word l 3) }

abbrev hit_of : List ℕ → Hit
hit_of l = record { frame = word l 8; level = word l 9; global = flag_of (word l 10); napot = flag_of (word l 11) }

abbrev page_place_of : List ℕ → Option (Key × Hit)
page_place_of l = get_or (None ∷ Some (key_of l, hit_of l) ∷ []) (word l 0) None

abbrev behind_page : List ℕ → List ℕ
behind_page l = get_or (drop 1 l ∷ drop 12 l ∷ []) (word l 0) []

-- the words of a page whose key has these ids
abbrev with_ids : Key → Option ℕ → Option ℕ → Key
with_ids key pscid gscid = record key { pscid = pscid; gscid = gscid }

entry_back : (key : Key) (hit : Hit) (pscid gscid : Option ℕ) (r : List ℕ) →
    page_place_of (page_place_words (Some (with_ids key pscid gscid, hit)) ++ r) ≡ Some (with_ids key pscid gscid, hit)
entry_back key hit None None r = rw (kind_back key.kind, flag_back hit.global, flag_back hit.napot) refl
entry_back key hit None (Some g) r = rw (kind_back key.kind, flag_back hit.global, flag_back hit.napot) refl
entry_back key hit (Some p) None r = rw (kind_back key.kind, flag_back hit.global, flag_back hit.napot) refl
entry_back key hit (Some p) (Some g) r = rw (kind_back key.kind, flag_back hit.global, flag_back hit.napot) refl

behind_entry : (key : Key) (hit : Hit) (pscid gscid : Option ℕ) (r : List ℕ) →
    behind_page (page_place_words (Some (with_ids key pscid gscid, hit)) ++ r) ≡ r
behind_entry key hit None None r = refl
behind_entry key hit None (Some g) r = refl
behind_entry key hit (Some p) None r = refl
behind_entry key hit (Some p) (Some g) r = refl

page_place_back : (x : Option (Key × Hit)) (r : List ℕ) → page_place_of (page_place_words x ++ r) ≡ x
page_place_back None r = refl
page_place_back (Some entry) r = entry_back entry.0 entry.1 entry.0.pscid entry.0.gscid r

behind_page_is : (x : Option (Key × Hit)) (r : List ℕ) → behind_page (page_place_words x ++ r) ≡ r
behind_page_is None r = refl
behind_page_is (Some entry) r = behind_entry entry.0 entry.1 entry.0.pscid entry.0.gscid r

tells_pages : Tells (λ (x : List (Option (Key × Hit))). x) pages_words
tells_pages = tells_counted page_place_words (tells_by (λ x. x) page_place_words page_place_of behind_page page_place_back behind_page_is)

abbrev window_of : List ℕ → Option Window
window_of l = get_or (None ∷ Some (record { base = word l 1; size = word l 2 }) ∷ []) (word l 0) None

window_back : (x : Option Window) (r : List ℕ) → window_of (window_words x ++ r) ≡ x
window_back None r = refl
window_back (Some window) r = refl

behind_window : (x : Option Window) (r : List ℕ) → drop 3 (window_words x ++ r) ≡ r
behind_window None r = refl
behind_window (Some window) r = refl

abbrev message_of : List ℕ → Message
message_of l = record { addr = word l 0; value = word l 1 }

tells_kept : Tells (λ (x : List Message). x) kept_words
tells_kept = tells_counted message_words (tells_by (λ x. x) message_words message_of (λ l. drop 2 l) (λ x r. refl) (λ x r. refl))

abbrev sent_words : Messages → List ℕ
sent_words messages = messages.sent ∷ kept_words messages.kept

tells_messages : Tells (λ (x : Messages). x) messages_words
tells_messages x y r s same =
    let window : (x.window ≡ y.window) × (sent_words x ++ r ≡ sent_words y ++ s) =
    tells_by (λ (w : Option Window). w) window_words window_of (λ l. drop 3 l) window_back behind_window x.window y.window (sent_words x ++ r) (sent_words y ++ s)
    (sym (append_assoc (window_words x.window) (sent_words x) r) ∙ same ∙ append_assoc (window_words y.window) (sent_words y) s) in
    let sent : x.sent ≡ y.sent = ap (λ (l : List ℕ). get_or l 0 0) window.1 in
    let kept : (x.kept ≡ y.kept) × (r ≡ s) = tells_kept x.kept y.kept r s (ap (λ (l : List ℕ). drop 1 l) window.1) in
    (messages_same x y window.0 sent kept.0, kept.1)

abbrev side_of : ℕ → Side
side_of n = get_or (side.Readable ∷ side.Writable ∷ []) n side.Readable

side_back : (x : Side) → side_of (side_word x) ≡ x
side_back side.Readable = refl
side_back side.Writable = refl

abbrev part_of : List ℕ → ChainPart
part_of l = record { side = side_of (word l 0); addr = word l 1; len = word l 2 }

part_back : (x : ChainPart) (r : List ℕ) → part_of (part_words x ++ r) ≡ x
part_back x r = rw (side_back x.side) refl

tells_parts : Tells (λ (x : List ChainPart). x) (λ (x : List ChainPart). length x ∷ flat_map part_words x)
tells_parts = tells_counted part_words (tells_by (λ x. x) part_words part_of (λ l. drop 3 l) part_back (λ x r. refl))

tells_chain : Tells (λ (x : DescriptorChain). x) chain_words
tells_chain x y r s same =
    let limit : x.limit ≡ y.limit = ap (λ (l : List ℕ). get_or l 0 0) same in
    let told : (x.parts ≡ y.parts) × (r ≡ s) = tells_parts x.parts y.parts r s (ap (λ (l : List ℕ). drop 1 l) same) in
    (ap₂ (λ (n : ℕ) (ps : List ChainPart). record { limit = n; parts = ps }) limit told.0, told.1)

abbrev fault_of : ℕ → ChainFault
fault_of n = get_or (fault.Indirect ∷ fault.ReadAfterWrite ∷ fault.TooLong ∷ fault.BadNext ∷ fault.Wraps ∷ []) n fault.Wraps

fault_back : (x : ChainFault) → fault_of (fault_word x) ≡ x
fault_back fault.Indirect = refl
fault_back fault.ReadAfterWrite = refl
fault_back fault.TooLong = refl
fault_back fault.BadNext = refl
fault_back fault.Wraps = refl

abbrev cause_of : ℕ → Cause
cause_of n = if n == 5 then cause.Access Read else if n == 7 then cause.Access Write else if n == 13 then cause.Page Read
    else if n == 15 then cause.Page Write else if n == 21 then cause.Guest Read else if n == 23 then cause.Guest Write
    else if n == 256 then cause.Off else if n == 257 then cause.DirAccess else if n == 258 then cause.DirInvalid
    else if n == 259 then cause.DirBad else if n == 260 then cause.TooWide
    else if n == 261 then cause.MsiAccess else if n == 262 then cause.MsiInvalid else cause.MsiBad

cause_back : (x : Cause) → cause_of (cause_number x) ≡ x
cause_back (cause.Access Read) = refl
cause_back (cause.Access Write) = refl
cause_back (cause.Page Read) = refl
cause_back (cause.Page Write) = refl
cause_back (cause.Guest Read) = refl
cause_back (cause.Guest Write) = refl
cause_back cause.Off = refl
cause_back cause.DirAccess = refl
cause_back cause.DirInvalid = refl
cause_back cause.DirBad = refl
cause_back cause.TooWide = refl
cause_back cause.MsiAccess = refl
cause_back cause.MsiInvalid = refl
cause_back cause.MsiBad = refl

abbrev broken_of : List ℕ → Option Broken
broken_of l = get_or (None ∷ Some broken.IndexAhead ∷ Some broken.BadHead ∷ Some (broken.Descriptor (fault_of (word l 1)))
    ∷ Some broken.ShortHeader ∷ Some broken.NothingWritable ∷ Some (broken.Denied (cause_of (word l 1))) ∷ Some broken.Outside ∷ []) (word l 0) None

broken_back : (x : Option Broken) (r : List ℕ) → broken_of (broken_words x ++ r) ≡ x
broken_back None r = refl
broken_back (Some broken.IndexAhead) r = refl
broken_back (Some broken.BadHead) r = refl
broken_back (Some (broken.Descriptor why)) r = ap (λ (f : ChainFault). Some (broken.Descriptor f)) (fault_back why)
broken_back (Some broken.ShortHeader) r = refl
broken_back (Some broken.NothingWritable) r = refl
broken_back (Some (broken.Denied why)) r = ap (λ (c : Cause). Some (broken.Denied c)) (cause_back why)
broken_back (Some broken.Outside) r = refl

behind_broken : (x : Option Broken) (r : List ℕ) → drop 2 (broken_words x ++ r) ≡ r
behind_broken None r = refl
behind_broken (Some broken.IndexAhead) r = refl
behind_broken (Some broken.BadHead) r = refl
behind_broken (Some (broken.Descriptor why)) r = refl
behind_broken (Some broken.ShortHeader) r = refl
behind_broken (Some broken.NothingWritable) r = refl
behind_broken (Some (broken.Denied why)) r = refl
behind_broken (Some broken.Outside) r = refl

abbrev phase_of : List ℕ → Phase
phase_of l = get_or (phase.Index ∷ phase.Ring ∷ phase.Descriptor (word l 1) ∷ phase.Header ∷ phase.Data (word l 1) ∷ phase.Status
    ∷ phase.UsedId ∷ phase.UsedLen ∷ phase.UsedIdx ∷ []) (word l 0) phase.Index

phase_back : (x : Phase) (r : List ℕ) → phase_of (phase_words x ++ r) ≡ x
phase_back phase.Index r = refl
phase_back phase.Ring r = refl
phase_back (phase.Descriptor i) r = refl
phase_back phase.Header r = refl
phase_back (phase.Data position) r = refl
phase_back phase.Status r = refl
phase_back phase.UsedId r = refl
phase_back phase.UsedLen r = refl
phase_back phase.UsedIdx r = refl

behind_phase : (x : Phase) (r : List ℕ) → drop 2 (phase_words x ++ r) ≡ r
behind_phase phase.Index r = refl
behind_phase phase.Ring r = refl
behind_phase (phase.Descriptor i) r = refl
behind_phase phase.Header r = refl
behind_phase (phase.Data position) r = refl
behind_phase phase.Status r = refl
behind_phase phase.UsedId r = refl
behind_phase phase.UsedLen r = refl
behind_phase phase.UsedIdx r = refl

-- what words that begin with those of a device's front say
abbrev front_of : List ℕ → Device → Device
front_of l d = record d {
  features_sel = word l 0;
  driver_sel = word l 1;
  features = word l 2;
  queue_sel = word l 3;
  interrupts = word l 4;
  status = word l 5;
  size = word l 6;
  desc = word l 7;
  avail = word l 8;
  used_ring = word l 9;
  seen = word l 10;
  used = word l 11;
  read_only = flag_of (word l 12);
  ready = flag_of (word l 13);
  pending = flag_of (word l 14);
}

-- the rest of a device is of another
abbrev with_front : Device → Device → Device
with_front x d = record x {
  disk = d.disk;
  broken = d.broken;
  phase = d.phase;
  head = d.head;
  chain = d.chain;
  header = d.header;
  answer = d.answer;
  used_length = d.used_length;
}

front_back : (d x : Device) (r : List ℕ) → front_of (front_words x ++ r) d ≡ with_front x d
front_back d x r = rw (flag_back x.read_only, flag_back x.ready, flag_back x.pending) refl

tells_front : (d : Device) → Tells (λ x. with_front x d) front_words
tells_front d = tells_by (λ x. with_front x d) front_words (λ l. front_of l d) (λ l. drop 15 l) (front_back d) (λ x r. refl)

abbrev tail_words : Device → List ℕ
tail_words d = d.head ∷ d.answer ∷ d.used_length ∷ []

abbrev Tail : Type 0
Tail = ℕ × (ℕ × ℕ)

abbrev tail_of : Device → Tail
tail_of d = (d.head, (d.answer, d.used_length))

abbrev tail_read : List ℕ → Tail
tail_read l = (word l 0, (word l 1, word l 2))

tells_tail : Tells tail_of tail_words
tells_tail = tells_by tail_of tail_words tail_read (λ l. drop 3 l) (λ x r. refl) (λ x r. refl)

abbrev header_words_and_on : Device → List ℕ
header_words_and_on d = number_words d.header ++ tail_words d

abbrev chain_words_and_on : Device → List ℕ
chain_words_and_on d = chain_words d.chain ++ header_words_and_on d

abbrev phase_words_and_on : Device → List ℕ
phase_words_and_on d = phase_words d.phase ++ chain_words_and_on d

abbrev header_and_on : Device → List ℕ × Tail
header_and_on d = (d.header, tail_of d)

abbrev chain_and_on : Device → DescriptorChain × (List ℕ × Tail)
chain_and_on d = (d.chain, header_and_on d)

abbrev phase_and_on : Device → Phase × (DescriptorChain × (List ℕ × Tail))
phase_and_on d = (d.phase, chain_and_on d)

abbrev Progress : Type 0
Progress = Option Broken × (Phase × (DescriptorChain × (List ℕ × Tail)))

abbrev progress_of : Device → Progress
progress_of d = (d.broken, phase_and_on d)

tells_progress : Tells progress_of progress_words
tells_progress =
    let the_broken : Tells (λ (d : Device). d.broken) (λ (d : Device). broken_words d.broken) =
    λ x y. tells_by (λ (b : Option Broken). b) broken_words broken_of (λ l. drop 2 l) broken_back behind_broken x.broken y.broken in
    let the_phase : Tells (λ (d : Device). d.phase) (λ (d : Device). phase_words d.phase) =
    λ x y. tells_by (λ (p : Phase). p) phase_words phase_of (λ l. drop 2 l) phase_back behind_phase x.phase y.phase in
    let the_chain : Tells (λ (d : Device). d.chain) (λ (d : Device). chain_words d.chain) = λ x y. tells_chain x.chain y.chain in
    let the_header : Tells (λ (d : Device). d.header) (λ (d : Device). number_words d.header) = λ x y. tells_numbers x.header y.header in
    let header : Tells header_and_on header_words_and_on =
    tells_both (λ d. d.header) tail_of (λ d. number_words d.header) tail_words the_header tells_tail in
    let chain : Tells chain_and_on chain_words_and_on =
    tells_both (λ d. d.chain) header_and_on (λ d. chain_words d.chain) header_words_and_on the_chain header in
    let phase : Tells phase_and_on phase_words_and_on =
    tells_both (λ d. d.phase) chain_and_on (λ d. phase_words d.phase)
    chain_words_and_on the_phase chain in
    tells_both (λ d. d.broken) phase_and_on (λ d. broken_words d.broken) phase_words_and_on the_broken phase

-- the device of its front, its progress and its disk
abbrev made_of : Device → Progress → List ℕ → Device
made_of d p disk = record d {
  disk = disk;
  broken = p.0;
  phase = p.1.0;
  chain = p.1.1.0;
  header = p.1.1.1.0;
  head = p.1.1.1.1.0;
  answer = p.1.1.1.1.1.0;
  used_length = p.1.1.1.1.1.1;
}

tells_device : (x y : Device) (r s : List ℕ) → IsWhole x.disk → IsWhole y.disk → device_words x ++ r ≡ device_words y ++ s → (x ≡ y) × (r ≡ s)
tells_device x y r s first second same =
    let parts : ((with_front x x, progress_of x) ≡ (with_front y x, progress_of y)) × (words_of_bytes x.disk ++ r ≡ words_of_bytes y.disk ++ s) =
    tells_both (λ d. with_front d x) progress_of front_words progress_words (tells_front x) tells_progress x y
    (words_of_bytes x.disk ++ r) (words_of_bytes y.disk ++ s)
    (sym (append_assoc (front_words x ++ progress_words x) (words_of_bytes x.disk) r) ∙ same
    ∙ append_assoc (front_words y ++ progress_words y) (words_of_bytes y.disk) s) in
    let disks : (x.disk ≡ y.disk) × (r ≡ s) = tells_bytes x.disk y.disk r s first second parts.1 in
    (ap₂ (λ (p : Device × Progress) (disk : List ℕ). made_of p.0 p.1 disk) parts.0 disks.0, disks.1)

tells_own : (x y : ℕ × Device) (r s : List ℕ) → IsWhole x.1.disk → IsWhole y.1.disk → own_words x ++ r ≡ own_words y ++ s → (x ≡ y) × (r ≡ s)
tells_own x y r s first second same =
    let told : (x.1 ≡ y.1) × (r ≡ s) = tells_device x.1 y.1 r s first second (ap (λ (l : List ℕ). drop 1 l) same) in
    (ap₂ (λ (n : ℕ) (d : Device). (n, d)) (ap (λ (l : List ℕ). get_or l 0 0) same) told.0, told.1)

tells_owns : (xs ys : List (ℕ × Device)) (r s : List ℕ) → EachWhole xs → EachWhole ys → length xs ≡ length ys →
    flat_map own_words xs ++ r ≡ flat_map own_words ys ++ s → (xs ≡ ys) × (r ≡ s)
tells_owns [] [] r s first second count same = (refl, same)
tells_owns [] (y ∷ ys) r s first second count same = absurd (omega (arith, count))
tells_owns (x ∷ xs) [] r s first second count same = absurd (omega (arith, count))
tells_owns (x ∷ xs) (y ∷ ys) r s first second count same =
    let fewer : length xs ≡ length ys = omega (arith, count) in
    let here : (x ≡ y) × (flat_map own_words xs ++ r ≡ flat_map own_words ys ++ s) =
    tells_own x y (flat_map own_words xs ++ r) (flat_map own_words ys ++ s) first.0 second.0
    (sym (append_assoc (own_words x) (flat_map own_words xs) r) ∙ same ∙ append_assoc (own_words y) (flat_map own_words ys) s) in
    let there : (xs ≡ ys) × (r ≡ s) = tells_owns xs ys r s first.1 second.1 fewer here.1 in
    (ap₂ (λ a b. a ∷ b) here.0 there.0, there.1)

abbrev Caches : Type 0
Caches = (Registers × List (Option (ℕ × Context))) × List (Option (Key × Hit))

abbrev first_of : Board → Registers × List (Option (ℕ × Context))
first_of board = (board.iommu.registers, board.iommu.contexts)

abbrev first_words : Board → List ℕ
first_words board = register_words board.iommu.registers ++ contexts_words board.iommu.contexts

abbrev caches_of : Board → Caches
caches_of board = ((board.iommu.registers, board.iommu.contexts), board.iommu.pages)

abbrev caches_words : Board → List ℕ
caches_words board = (register_words board.iommu.registers ++ contexts_words board.iommu.contexts) ++ pages_words board.iommu.pages

tells_caches : Tells caches_of caches_words
tells_caches =
    let the_registers : Tells (λ (b : Board). b.iommu.registers) (λ (b : Board). register_words b.iommu.registers) =
    λ x y. tells_registers x.iommu.registers y.iommu.registers in
    let the_contexts : Tells (λ (b : Board). b.iommu.contexts) (λ (b : Board). contexts_words b.iommu.contexts) =
    λ x y. tells_contexts x.iommu.contexts y.iommu.contexts in
    let the_pages : Tells (λ (b : Board). b.iommu.pages) (λ (b : Board). pages_words b.iommu.pages) =
    λ x y. tells_pages x.iommu.pages y.iommu.pages in
    let both : Tells first_of first_words =
    tells_both (λ b. b.iommu.registers) (λ b. b.iommu.contexts) (λ b. register_words b.iommu.registers)
    (λ b. contexts_words b.iommu.contexts) the_registers the_contexts in
    tells_both first_of (λ b. b.iommu.pages) first_words (λ b. pages_words b.iommu.pages) both the_pages

abbrev Front : Type 0
Front = Caches × Messages

abbrev front_of_board : Board → Front
front_of_board board = (caches_of board, board.messages)

abbrev board_front_words : Board → List ℕ
board_front_words board = caches_words board ++ messages_words board.messages

tells_board_front : Tells front_of_board board_front_words
tells_board_front =
    let the_messages : Tells (λ (b : Board). b.messages) (λ (b : Board). messages_words b.messages) = λ x y. tells_messages x.messages y.messages in
    tells_both caches_of (λ b. b.messages) caches_words (λ b. messages_words b.messages) tells_caches the_messages

abbrev board_made : Front → List (ℕ × Device) → Board
board_made front devices = record {
  iommu = record { registers = front.0.0.0; contexts = front.0.0.1; pages = front.0.1 };
  messages = front.1;
  devices = devices;
}

-- the words of a board in other brackets
board_split : (board : Board) (r : List ℕ) → board_words board ++ r ≡ board_front_words board ++ (devices_words board.devices ++ r)
board_split board r =
    let front : board_words board ≡ board_front_words board ++ devices_words board.devices =
    sym (append_assoc (first_words board) (pages_words board.iommu.pages) (messages_words board.messages ++ devices_words board.devices))
    ∙ sym (append_assoc (caches_words board) (messages_words board.messages) (devices_words board.devices)) in
    ap (λ (l : List ℕ). l ++ r) front ∙ append_assoc (board_front_words board) (devices_words board.devices) r

pub one_board : OneBoard
one_board x y r s first second same =
    let front : (front_of_board x ≡ front_of_board y) × (devices_words x.devices ++ r ≡ devices_words y.devices ++ s) =
    tells_board_front x y (devices_words x.devices ++ r) (devices_words y.devices ++ s) (sym (board_split x r) ∙ same ∙ board_split y s) in
    let devices : (x.devices ≡ y.devices) × (r ≡ s) =
    tells_owns x.devices y.devices r s first second (ap (λ (l : List ℕ). get_or l 0 0) front.1) (ap (λ (l : List ℕ). drop 1 l) front.1) in
    (ap₂ board_made front.0 devices.0, devices.1)

pub one_memory : OneMemory
one_memory x y r s first second same =
    let told : (x.bytes ≡ y.bytes) × (r ≡ s) = tells_bytes x.bytes y.bytes r s first second (ap (λ (l : List ℕ). drop 1 l) same) in
    (ap₂ (λ (n : ℕ) (bytes : List ℕ). record { base = n; bytes = bytes }) (ap (λ (l : List ℕ). get_or l 0 0) same) told.0, told.1)

abbrev walks_of : HistoryView → List ℕ × List ℕ
walks_of history = (history.walks, history.walk_contexts)

abbrev walk_words : HistoryView → List ℕ
walk_words history = number_words history.walks ++ number_words history.walk_contexts

abbrev numbers_of : HistoryView → List ℕ × (List ℕ × List ℕ)
numbers_of history = (history.contexts, walks_of history)

abbrev history_made : List ℕ × (List ℕ × List ℕ) → HistoryView
history_made numbers = record { contexts = numbers.0; walks = numbers.1.0; walk_contexts = numbers.1.1 }

pub one_history : OneHistory
one_history x y r s same =
    let the_contexts : Tells (λ (h : HistoryView). h.contexts) (λ (h : HistoryView). number_words h.contexts) = λ a b. tells_numbers a.contexts b.contexts in
    let the_walks : Tells (λ (h : HistoryView). h.walks) (λ (h : HistoryView). number_words h.walks) = λ a b. tells_numbers a.walks b.walks in
    let the_walk_contexts : Tells (λ (h : HistoryView). h.walk_contexts) (λ (h : HistoryView). number_words h.walk_contexts) =
    λ a b. tells_numbers a.walk_contexts b.walk_contexts in
    let walks : Tells walks_of walk_words =
    tells_both (λ h. h.walks) (λ h. h.walk_contexts) (λ h. number_words h.walks) (λ h. number_words h.walk_contexts) the_walks the_walk_contexts in
    let all : (numbers_of x ≡ numbers_of y) × (r ≡ s) =
    tells_both (λ h. h.contexts) walks_of (λ h. number_words h.contexts) walk_words the_contexts walks x y r s same in
    (ap history_made all.0, all.1)
