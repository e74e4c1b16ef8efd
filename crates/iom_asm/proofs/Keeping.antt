-- What the statements make stays an image.
use Rattle.std.proofs.Common.{◌≡◌, ℕ, ◌+◌, ◌*◌, ◌≤◌, ◌<◌, ◌==◌, Bool, true, false, ◌&&◌, nat_lt, nat_le, List, [], ◌∷◌, ◌++◌, length, map, codes, bytes_eq, not, Option, Some, None, Result, Ok, Err, refl, sym, subst, append_assoc, append-nil, length-append, arith}
use Rattle.std.specs.Prelude.{IfSome, IfOk, is_some}
use Rattle.std.specs.List.{list_any}
use Rattle.std.specs.Option.{option_map}
use Rattle.std.proofs.lemmas.Bool.{cond_both, and_from, and_parts, or_parts, ltb-true, ltb-false, leb-true}
use Rattle.iom_text.specs.Words.{number, words_of}
use Rattle.iom_mem.specs.Sizes.{is_paged, is_good_size}
use Rattle.iom_asm.specs.declared.asm_fault.AsmFault.{AsmFault}
use Rattle.iom_asm.specs.declared.asm_fault.AsmFault.TheVariants.{Outside, Overlap}
use Rattle.iom_bits.specs.Features.{Features, is_offer, no_features}
use Rattle.iom_messages.specs.declared.window.Window.{Window}
use Rattle.iom_image.specs.declared.version.Version.{Version}
use Rattle.iom_image.specs.declared.version.Version.TheVariants.{First, Second, Third, Fourth}
use Rattle.iom_image.specs.Versions.{CanState, is_beside, is_flagged, is_window, flagged, features_of, is_third, stating, window_of}
use Rattle.iom_image.specs.Image.{Chunk, Disk, IsChunk, AreChunks, IsDisk, AreDisks, IsImage, end_of, is_new_id, is_disk_size, is_next_disk}
use Rattle.iom_items.specs.Capabilities.{features_for}
use Rattle.iom_items.specs.Forms.{where_so}
use Rattle.iom_items.specs.Operands.{◌>>=◌}
use Rattle.iom_asm.specs.Assembly.{ImageDraftView, meets, insert, is_inside, may_offer, with_bytes, placed, with_disk, disk_for, joined, offering, offered, window_for, with_window, is_next_window, windowed, moved_to, moved, empty_draft, ram_draft, opened, bytes_for, or_bad, then_so, stated, started, after_words, after_lines}
use Rattle.iom_items.proofs.Capable.{capable}
use Rattle.iom_image.proofs.Flags.{with_flags}
use Rattle.iom_image.proofs.Stated.{can_have, can_offer}
use Rattle.iom_asm.proofs.Full.{some_byte}

-- chunks
before_it : (addr len : ℕ) (first : Chunk) → 0 < length first.bytes → addr < first.addr → meets addr len first ≡ false → addr + len ≤ first.addr
before_it addr len first some lt none = grind (arith, some, lt, none)

after_it : (addr len : ℕ) (first : Chunk) → 0 < len → first.addr ≤ addr → meets addr len first ≡ false → end_of first ≤ addr
after_it addr len first some le none = grind (arith, some, le, none)

pub kept_in_order : (base size end : ℕ) (chunk : Chunk) (chunks : List Chunk) → IsChunk base size end chunk → AreChunks base size end chunks →
    list_any (meets chunk.addr (length chunk.bytes)) chunks ≡ false → AreChunks base size end (insert chunk chunks)
kept_in_order base size end chunk [] new good none = (new, tt)
kept_in_order base size end chunk (first ∷ others) new good none =
    let apart = or_parts (meets chunk.addr (length chunk.bytes) first) (list_any (meets chunk.addr (length chunk.bytes)) others) none in
    cond_both (nat_lt chunk.addr first.addr) (chunk ∷ first ∷ others) (first ∷ insert chunk others) (AreChunks base size end)
    (λ lt. (
      new,
      (
        record {
          after = before_it chunk.addr (length chunk.bytes) first good.0.some (ltb-true _ _ lt) apart.0;
          some = good.0.some;
          above = good.0.above;
          below = good.0.below;
        },
        good.1,
      ),
    ))
    (λ ge. (
      good.0,
      kept_in_order base size (end_of first) chunk others
          (record {
            after = after_it chunk.addr (length chunk.bytes) first new.some (ltb-false _ _ ge) apart.0;
            some = new.some;
            above = new.above;
            below = new.below;
          })
          good.1 apart.1,
    ))

-- disks
pub one_more : (has_flags : Bool) (ids : List ℕ) (disks : List Disk) (disk : Disk) → AreDisks has_flags ids disks →
    IsDisk has_flags (ids ++ map (λ other. other.id) disks) disk → AreDisks has_flags ids (disks ++ disk ∷ [])
one_more has_flags ids [] disk good new = (subst (λ (ids : List ℕ). IsDisk has_flags ids disk) (append-nil ids) new, tt)
one_more has_flags ids (first ∷ others) disk good new = (
  good.0,
  one_more has_flags (ids ++ first.id ∷ []) others disk good.1
      (subst (λ (ids : List ℕ). IsDisk has_flags ids disk) (sym (append_assoc ids (first.id ∷ []) (map (λ other. other.id) others))) new),
)

-- statements
abbrev pub Good : ImageDraftView → Type 0
Good draft = IsImage draft.image

abbrev pub Fine : Option ImageDraftView → Type 0
Fine draft = IfSome draft Good

abbrev OkGood : Result ImageDraftView AsmFault → Type 0
OkGood made = IfOk made Good

or_bad_good : (line : ℕ) (found : Option ImageDraftView) → Fine found → OkGood (or_bad line found)
or_bad_good line None good = tt
or_bad_good line (Some draft) good = good

pub placed_good : (line : ℕ) (draft : ImageDraftView) (bytes : List ℕ) → Good draft → 0 < length bytes → OkGood (placed line draft bytes)
unfolding placed
placed_good line draft bytes good some =
    let image = draft.image in
    let chunk : Chunk = record { addr = draft.next_address; bytes = bytes } in
    cond_both (is_inside image draft.next_address (length bytes)) _ (Err (Outside line)) OkGood
    (λ inside.
    let parts = and_parts _ _ inside in
    let new : IsChunk image.base image.size 0 chunk = record {
      after = omega arith;
      some = some;
      above = leb-true _ _ parts.0;
      below = leb-true _ _ parts.1;
    } in
    cond_both (list_any (meets draft.next_address (length bytes)) image.chunks) (Err (Overlap line)) (Ok (with_bytes draft bytes)) OkGood
    (λ _. tt)
    (λ none. record {
      base = good.base;
      size = good.size;
      chunks = kept_in_order image.base image.size 0 chunk image.chunks new good.chunks none;
      few = good.few;
      disks = good.disks;
      stated = good.stated;
      beside = good.beside;
    }))
    (λ _. tt)

no_flags : (version : Version) (read_only : Bool) → is_flagged (flagged version read_only) ≡ false → (is_flagged version ≡ false) × (read_only ≡ false)
no_flags First true none = absurd cc
no_flags First false none = (refl, refl)
no_flags Second read_only none = absurd cc
no_flags (Third features) read_only none = absurd cc
no_flags (Fourth features window) read_only none = absurd cc

still_stated : (version : Version) (asked : Bool) → CanState version → CanState (flagged version asked)
still_stated First true can = tt
still_stated First false can = tt
still_stated Second asked can = tt
still_stated (Third features) asked can = can
still_stated (Fourth features window) asked can = can

same_window : (version : Version) (asked : Bool) → window_of (flagged version asked) ≡ window_of version
same_window First true = refl
same_window First false = refl
same_window Second asked = refl
same_window (Third features) asked = refl
same_window (Fourth features window) asked = refl

with_disk_good : (draft : ImageDraftView) (disk : Disk) → Good draft → is_next_disk draft.image.disks disk ≡ true → Good (with_disk draft disk)
with_disk_good draft disk good next =
    let image = draft.image in
    let a = and_parts (nat_lt (length image.disks) 8) _ next in
    let b = and_parts (is_new_id (map (λ other. other.id) image.disks) disk.id) _ a.1 in
    let c = and_parts (is_disk_size disk.sectors) (nat_le (length disk.bytes) (disk.sectors * 512)) b.1 in
    record {
      base = good.base;
      size = good.size;
      chunks = good.chunks;
      few = omega (arith, ltb-true (length image.disks) 8 a.0, length-append image.disks (disk ∷ []));
      disks = one_more (is_flagged (flagged image.version disk.read_only)) [] image.disks disk
          (with_flags (is_flagged image.version) (is_flagged (flagged image.version disk.read_only)) [] image.disks (λ none. (no_flags image.version disk.read_only none).0) good.disks)
          (record {
            id = b.0;
            sectors = c.0;
            room = leb-true _ _ c.1;
            writable = λ none. (no_flags image.version disk.read_only none).1;
          });
      stated = still_stated image.version disk.read_only good.stated;
      beside = rw (same_window image.version disk.read_only) good.beside;
    }

joined_good : (draft : ImageDraftView) (found : Option Disk) → Good draft →
    Fine (found >>= λ disk. where_so (is_next_disk draft.image.disks disk) (Some (with_disk draft disk)))
joined_good draft None good = tt
joined_good draft (Some disk) good =
    cond_both (is_next_disk draft.image.disks disk) (Some (with_disk draft disk)) None Fine (λ next. with_disk_good draft disk good next) (λ _. tt)

-- features that are an offer can be stated
can_state : (features : Features) (window : Option Window) → is_offer features ≡ true → is_window window ≡ true → CanState (stating features window)
can_state features None offer right = cond_both (is_third features) (Third features) (Fourth features None) CanState
    (λ fits. and_from (is_third features) (is_offer features) fits offer) (λ _. (offer, right))
can_state features (Some window) offer right = (offer, right)

stating_flagged : (features : Features) (window : Option Window) → is_flagged (stating features window) ≡ true
stating_flagged features None = cond_both (is_third features) (Third features) (Fourth features None) (λ version. is_flagged version ≡ true)
    (λ _. refl) (λ _. refl)
stating_flagged features (Some window) = refl

stating_window : (features : Features) (window : Option Window) → window_of (stating features window) ≡ window
stating_window features None = cond_both (is_third features) (Third features) (Fourth features None) (λ version. window_of version ≡ None)
    (λ _. refl) (λ _. refl)
stating_window features (Some window) = refl

offering_good : (draft : ImageDraftView) (features : Features) → is_offer features ≡ true → Good draft → Good (offering draft features)
offering_good draft features offer good = record {
  base = good.base;
  size = good.size;
  chunks = good.chunks;
  few = good.few;
  disks = with_flags (is_flagged draft.image.version) (is_flagged (stating features (window_of draft.image.version))) [] draft.image.disks
      (λ none. absurd (cc (stating_flagged features (window_of draft.image.version)))) good.disks;
  stated = can_state features (window_of draft.image.version) offer (can_have draft.image.version good.stated);
  beside = rw (stating_window features (window_of draft.image.version)) good.beside;
}

offered_good : (draft : ImageDraftView) (found : Option Features) → IfSome found (λ features. is_offer features ≡ true) → Good draft →
    Fine (found >>= λ features. where_so (may_offer draft.image features) (Some (offering draft features)))
offered_good draft None offer good = tt
offered_good draft (Some features) offer good =
    cond_both (may_offer draft.image features) (Some (offering draft features)) None Fine (λ _. offering_good draft features offer good) (λ _. tt)

-- a window beside memory
with_window_good : (draft : ImageDraftView) (window : Window) → Good draft → is_next_window draft.image window ≡ true → Good (with_window draft window)
with_window_good draft window good next =
    let a = and_parts (not (is_some (window_of draft.image.version))) _ next in
    let b = and_parts (is_window (Some window)) (is_beside (Some window) draft.image.base draft.image.size) a.1 in
    record {
      base = good.base;
      size = good.size;
      chunks = good.chunks;
      few = good.few;
      disks = with_flags (is_flagged draft.image.version) true [] draft.image.disks (λ none. absurd cc) good.disks;
      stated = (can_offer draft.image.version good.stated, b.0);
      beside = b.1;
    }

windowed_good : (draft : ImageDraftView) (found : Option Window) → Good draft →
    Fine (found >>= λ window. where_so (is_next_window draft.image window) (Some (with_window draft window)))
windowed_good draft None good = tt
windowed_good draft (Some window) good =
    cond_both (is_next_window draft.image window) (Some (with_window draft window)) None Fine (λ next. with_window_good draft window good next) (λ _. tt)

found_good : (draft : ImageDraftView) (place : Option ℕ) → Good draft → Fine (option_map (moved_to draft) place)
found_good draft None good = tt
found_good draft (Some place) good = good

moved_good : (draft : ImageDraftView) (words : List (List ℕ)) → Good draft → Fine (moved draft words)
unfolding moved
moved_good draft [] good = tt
moved_good draft (place ∷ []) good = found_good draft (number place) good
moved_good draft (place ∷ more ∷ others) good = tt

bytes_good : (line : ℕ) (draft : ImageDraftView) (name : List ℕ) (operands : List (List ℕ)) → Good draft → (found : Option (List ℕ)) →
    bytes_for (features_of draft.image.version) name operands ≡ found → OkGood (then_so (or_bad line found) (placed line draft))
bytes_good line draft name operands good None is = tt
bytes_good line draft name operands good (Some bytes) is = placed_good line draft bytes good (some_byte (features_of draft.image.version) name operands bytes is)

stated_good : (line : ℕ) (draft : ImageDraftView) (name : List ℕ) (operands : List (List ℕ)) → Good draft → OkGood (stated line draft name operands)
unfolding stated joined offered windowed
stated_good line draft name operands good =
    cond_both (bytes_eq name (codes "at")) _ _ OkGood
    (λ _. or_bad_good line (moved draft operands) (moved_good draft operands good))
    (λ _. cond_both (bytes_eq name (codes "disk")) _ _ OkGood
    (λ _. or_bad_good line (joined draft false operands) (joined_good draft (disk_for false operands) good))
    (λ _. cond_both (bytes_eq name (codes "rodisk")) _ _ OkGood
    (λ _. or_bad_good line (joined draft true operands) (joined_good draft (disk_for true operands) good))
    (λ _. cond_both (bytes_eq name (codes "capabilities")) _ _ OkGood
    (λ _. or_bad_good line (offered draft operands) (offered_good draft (features_for operands) (capable operands) good))
    (λ _. cond_both (bytes_eq name (codes "window")) _ _ OkGood
    (λ _. or_bad_good line (windowed draft operands) (windowed_good draft (window_for operands) good))
    (λ _. bytes_good line draft name operands good (bytes_for (features_of draft.image.version) name operands) refl)))))

head_good : (base size : ℕ) → (is_paged base && is_good_size base size) ≡ true → Good (empty_draft base size)
head_good base size accepted =
    let parts = and_parts (is_paged base) (is_good_size base size) accepted in
    record { base = parts.0; size = parts.1; chunks = tt; few = omega arith; disks = tt; stated = tt; beside = refl }

sized_good : (base : ℕ) (size : Option ℕ) → Fine (size >>= λ size. where_so (is_paged base && is_good_size base size) (Some (empty_draft base size)))
sized_good base None = tt
sized_good base (Some size) =
    cond_both (is_paged base && is_good_size base size) (Some (empty_draft base size)) None Fine (λ accepted. head_good base size accepted) (λ _. tt)

based_good : (base size : Option ℕ) →
    Fine (base >>= λ base. size >>= λ size. where_so (is_paged base && is_good_size base size) (Some (empty_draft base size)))
based_good None size = tt
based_good (Some base) size = sized_good base size

opened_good : (words : List (List ℕ)) → Fine (opened words)
unfolding opened ram_draft
opened_good [] = tt
opened_good (base ∷ []) = tt
opened_good (base ∷ size ∷ []) = based_good (number base) (number size)
opened_good (base ∷ size ∷ more ∷ others) = tt

started_good : (line : ℕ) (name : List ℕ) (operands : List (List ℕ)) → OkGood (started line name operands)
unfolding started
started_good line name operands =
    or_bad_good line (where_so (bytes_eq name (codes "ram")) (opened operands))
    (cond_both (bytes_eq name (codes "ram")) (opened operands) None Fine (λ _. opened_good operands) (λ _. tt))

-- lines
abbrev pub OkFine : Result (Option ImageDraftView) AsmFault → Type 0
OkFine made = IfOk made Fine

some_good : (made : Result ImageDraftView AsmFault) → OkGood made → OkFine (then_so made (λ draft. Ok (Some draft)))
some_good (Ok draft) good = good
some_good (Err fault) good = tt

pub words_good : (line : ℕ) (draft : Option ImageDraftView) (words : List (List ℕ)) → Fine draft → OkFine (after_words line draft words)
unfolding after_words
words_good line draft [] good = good
words_good line None (name ∷ operands) good = some_good (started line name operands) (started_good line name operands)
words_good line (Some draft) (name ∷ operands) good = some_good (stated line draft name operands) (stated_good line draft name operands good)

next_good : (line : ℕ) (made : Result (Option ImageDraftView) AsmFault) (texts : List (List ℕ)) → OkFine made →
    ((draft : Option ImageDraftView) → Fine draft → OkFine (after_lines (line + 1) draft texts)) →
    OkFine (then_so made (λ next. after_lines (line + 1) next texts))
next_good line (Ok draft) texts good others = others draft good
next_good line (Err fault) texts good others = tt

pub lines_good : (line : ℕ) (draft : Option ImageDraftView) (texts : List (List ℕ)) → Fine draft → OkFine (after_lines line draft texts)
unfolding after_lines
lines_good line draft [] good = good
lines_good line draft (text ∷ texts) good =
    next_good line (after_words line draft (words_of text)) texts (words_good line draft (words_of text) good)
    (λ next good. lines_good (line + 1) next texts good)
