-- What lasts from one line to the last: a chunk that was placed, and a feature that was stated.
use Rattle.std.proofs.Common.{◌≡◌, ◌⊎◌, ◌∙◌, sym, subst, arith, ℕ, ◌+◌, ◌<◌, ◌&&◌, ◌||◌, Bool, true, false, not, nat_lt, List, [], ◌∷◌, length, codes, bytes_eq, ◌==◌, Option, Some, None, Result, Ok, Err, refl, inl, inr}
use Rattle.std.specs.Prelude.{IfSome, IfOk}
use Rattle.std.specs.List.{list_any}
use Rattle.std.specs.Option.{option_map}
use Rattle.std.proofs.lemmas.Bool.{and_parts, cases_Bool, cond_both, eqb-true}
use Rattle.iom_text.specs.Words.{words_of, number}
use Rattle.iom_asm.specs.declared.asm_fault.AsmFault.{AsmFault}
use Rattle.iom_asm.specs.declared.asm_fault.AsmFault.TheVariants.{Outside, Overlap}
use Rattle.iom_bits.specs.Bits.{has_bit}
use Rattle.iom_bits.specs.Features.{Features, msi_flat_bit, no_features}
use Rattle.iom_ddt.specs.Formats.{context_format}
use Rattle.iom_ddt.specs.declared.formats.ContextFormat.TheVariants.{Base}
use Rattle.iom_messages.specs.declared.window.Window.{Window}
use Rattle.iom_image.specs.declared.version.Version.{Version}
use Rattle.iom_image.specs.declared.version.Version.TheVariants.{First, Second, Third, Fourth}
use Rattle.iom_image.specs.Versions.{flagged, features_of, is_third, stating, window_of}
use Rattle.iom_image.specs.Image.{Chunk, Disk, is_next_disk}
use Rattle.iom_items.specs.Capabilities.{features_for}
use Rattle.iom_items.specs.Forms.{where_so}
use Rattle.iom_items.specs.Operands as maybe
use Rattle.iom_asm.specs.Assembly.{ImageDraftView, meets, insert, is_inside, may_offer, with_bytes, placed, with_disk, disk_for, joined, offering, offered, window_for, with_window, is_next_window, windowed, moved_to, moved, bytes_for, or_bad, then_so, stated, after_words, after_lines}
use Rattle.iom_asm.proofs.Standing.{IsIn}

-- a chunk that was placed stays
kept : (chunk new first : Chunk) (others : List Chunk) → (IsIn chunk others → IsIn chunk (insert new others)) → IsIn chunk (first ∷ others) →
    IsIn chunk (first ∷ insert new others)
kept chunk new first others still (inl same) = inl same
kept chunk new first others still (inr later) = inr (still later)

still_in : (chunk new : Chunk) (chunks : List Chunk) → IsIn chunk chunks → IsIn chunk (insert new chunks)
still_in chunk new [] is = absurd is
still_in chunk new (first ∷ others) is =
    cond_both (nat_lt new.addr first.addr) (new ∷ first ∷ others) (first ∷ insert new others) (IsIn chunk) (λ _. inr is)
    (λ _. kept chunk new first others (still_in chunk new others) is)

pub now_in : (new : Chunk) (chunks : List Chunk) → IsIn new (insert new chunks)
now_in new [] = inl refl
now_in new (first ∷ others) =
    cond_both (nat_lt new.addr first.addr) (new ∷ first ∷ others) (first ∷ insert new others) (IsIn new) (λ _. inl refl) (λ _. inr (now_in new others))

-- it holds of a draft whatever the next statement does
pub record Lasts (Holds : ImageDraftView → Type 0) : Type 0 where
  pub placing : (draft : ImageDraftView) (bytes : List ℕ) → Holds draft → Holds (with_bytes draft bytes)
  pub moving : (draft : ImageDraftView) (place : ℕ) → Holds draft → Holds (moved_to draft place)
  pub joining : (draft : ImageDraftView) (disk : Disk) → Holds draft → Holds (with_disk draft disk)
  pub stating : (draft : ImageDraftView) (features : Features) → may_offer draft.image features ≡ true → Holds draft → Holds (offering draft features)
  pub opening : (draft : ImageDraftView) (window : Window) → Holds draft → Holds (with_window draft window)

or_bad_lasts : (Holds : ImageDraftView → Type 0) (line : ℕ) (found : Option ImageDraftView) → IfSome found Holds → IfOk (or_bad line found) Holds
or_bad_lasts Holds line None holds = tt
or_bad_lasts Holds line (Some draft) holds = holds

placed_lasts : (Holds : ImageDraftView → Type 0) → Lasts Holds → (line : ℕ) (draft : ImageDraftView) (bytes : List ℕ) → Holds draft → IfOk (placed line draft bytes) Holds
unfolding placed
placed_lasts Holds lasts line draft bytes holds =
    cond_both (is_inside draft.image draft.next_address (length bytes)) _ (Err (Outside line)) (λ made. IfOk made Holds)
    (λ _. cond_both (list_any (meets draft.next_address (length bytes)) draft.image.chunks) (Err (Overlap line)) (Ok (with_bytes draft bytes)) (λ made. IfOk made Holds)
    (λ _. tt) (λ _. lasts.placing draft bytes holds))
    (λ _. tt)

joined_lasts : (Holds : ImageDraftView → Type 0) → Lasts Holds → (draft : ImageDraftView) (found : Option Disk) → Holds draft →
    IfSome (maybe.◌>>=◌ found (λ disk. where_so (is_next_disk draft.image.disks disk) (Some (with_disk draft disk)))) Holds
joined_lasts Holds lasts draft None holds = tt
joined_lasts Holds lasts draft (Some disk) holds =
    cond_both (is_next_disk draft.image.disks disk) (Some (with_disk draft disk)) None (λ found. IfSome found Holds) (λ _. lasts.joining draft disk holds) (λ _. tt)

offered_lasts : (Holds : ImageDraftView → Type 0) → Lasts Holds → (draft : ImageDraftView) (found : Option Features) → Holds draft →
    IfSome (maybe.◌>>=◌ found (λ features. where_so (may_offer draft.image features) (Some (offering draft features)))) Holds
offered_lasts Holds lasts draft None holds = tt
offered_lasts Holds lasts draft (Some features) holds =
    cond_both (may_offer draft.image features) (Some (offering draft features)) None (λ found. IfSome found Holds)
    (λ first. lasts.stating draft features first holds) (λ _. tt)

windowed_lasts : (Holds : ImageDraftView → Type 0) → Lasts Holds → (draft : ImageDraftView) (found : Option Window) → Holds draft →
    IfSome (maybe.◌>>=◌ found (λ window. where_so (is_next_window draft.image window) (Some (with_window draft window)))) Holds
windowed_lasts Holds lasts draft None holds = tt
windowed_lasts Holds lasts draft (Some window) holds =
    cond_both (is_next_window draft.image window) (Some (with_window draft window)) None (λ found. IfSome found Holds)
    (λ _. lasts.opening draft window holds) (λ _. tt)

place_lasts : (Holds : ImageDraftView → Type 0) → Lasts Holds → (draft : ImageDraftView) (place : Option ℕ) → Holds draft → IfSome (option_map (moved_to draft) place) Holds
place_lasts Holds lasts draft None holds = tt
place_lasts Holds lasts draft (Some place) holds = lasts.moving draft place holds

moved_lasts : (Holds : ImageDraftView → Type 0) → Lasts Holds → (draft : ImageDraftView) (words : List (List ℕ)) → Holds draft → IfSome (moved draft words) Holds
unfolding moved
moved_lasts Holds lasts draft [] holds = tt
moved_lasts Holds lasts draft (place ∷ []) holds = place_lasts Holds lasts draft (number place) holds
moved_lasts Holds lasts draft (place ∷ more ∷ others) holds = tt

bytes_last : (Holds : ImageDraftView → Type 0) → Lasts Holds → (line : ℕ) (draft : ImageDraftView) (found : Option (List ℕ)) → Holds draft →
    IfOk (then_so (or_bad line found) (placed line draft)) Holds
bytes_last Holds lasts line draft None holds = tt
bytes_last Holds lasts line draft (Some bytes) holds = placed_lasts Holds lasts line draft bytes holds

stated_lasts : (Holds : ImageDraftView → Type 0) → Lasts Holds → (line : ℕ) (draft : ImageDraftView) (name : List ℕ) (operands : List (List ℕ)) → Holds draft →
    IfOk (stated line draft name operands) Holds
unfolding stated joined offered windowed
stated_lasts Holds lasts line draft name operands holds =
    let Goal : Result ImageDraftView AsmFault → Type 0 = λ made. IfOk made Holds in
    cond_both (bytes_eq name (codes "at")) _ _ Goal
    (λ _. or_bad_lasts Holds line (moved draft operands) (moved_lasts Holds lasts draft operands holds))
    (λ _. cond_both (bytes_eq name (codes "disk")) _ _ Goal
    (λ _. or_bad_lasts Holds line (joined draft false operands) (joined_lasts Holds lasts draft (disk_for false operands) holds))
    (λ _. cond_both (bytes_eq name (codes "rodisk")) _ _ Goal
    (λ _. or_bad_lasts Holds line (joined draft true operands) (joined_lasts Holds lasts draft (disk_for true operands) holds))
    (λ _. cond_both (bytes_eq name (codes "capabilities")) _ _ Goal
    (λ _. or_bad_lasts Holds line (offered draft operands) (offered_lasts Holds lasts draft (features_for operands) holds))
    (λ _. cond_both (bytes_eq name (codes "window")) _ _ Goal
    (λ _. or_bad_lasts Holds line (windowed draft operands) (windowed_lasts Holds lasts draft (window_for operands) holds))
    (λ _. bytes_last Holds lasts line draft (bytes_for (features_of draft.image.version) name operands) holds)))))

-- a draft is there, and it holds of it
abbrev pub There : (ImageDraftView → Type 0) → Option ImageDraftView → Type 0
There Holds None = ⊥
There Holds (Some draft) = Holds draft

some_lasts : (Holds : ImageDraftView → Type 0) (made : Result ImageDraftView AsmFault) → IfOk made Holds → IfOk (then_so made (λ draft. Ok (Some draft))) (There Holds)
some_lasts Holds (Ok draft) holds = holds
some_lasts Holds (Err fault) holds = tt

words_last : (Holds : ImageDraftView → Type 0) → Lasts Holds → (line : ℕ) (draft : ImageDraftView) (words : List (List ℕ)) → Holds draft →
    IfOk (after_words line (Some draft) words) (There Holds)
unfolding after_words
words_last Holds lasts line draft [] holds = holds
words_last Holds lasts line draft (name ∷ operands) holds =
    some_lasts Holds (stated line draft name operands) (stated_lasts Holds lasts line draft name operands holds)

next_lasts : (Holds : ImageDraftView → Type 0) (line : ℕ) (made : Result (Option ImageDraftView) AsmFault) (texts : List (List ℕ)) → IfOk made (There Holds) →
    ((draft : ImageDraftView) → Holds draft → IfOk (after_lines (line + 1) (Some draft) texts) (There Holds)) →
    IfOk (then_so made (λ next. after_lines (line + 1) next texts)) (There Holds)
next_lasts Holds line (Ok None) texts holds others = absurd holds
next_lasts Holds line (Ok (Some draft)) texts holds others = others draft holds
next_lasts Holds line (Err fault) texts holds others = tt

lines_last : (Holds : ImageDraftView → Type 0) → Lasts Holds → (line : ℕ) (draft : ImageDraftView) (texts : List (List ℕ)) → Holds draft →
    IfOk (after_lines line (Some draft) texts) (There Holds)
unfolding after_lines
lines_last Holds lasts line draft [] holds = holds
lines_last Holds lasts line draft (text ∷ texts) holds =
    next_lasts Holds line (after_words line (Some draft) (words_of text)) texts (words_last Holds lasts line draft (words_of text) holds)
    (λ next holds. lines_last Holds lasts (line + 1) next texts holds)

abbrev pub Has : Chunk → ImageDraftView → Type 0
Has chunk draft = IsIn chunk draft.image.chunks

pub lines_has : (chunk : Chunk) (line : ℕ) (draft : ImageDraftView) (texts : List (List ℕ)) → Has chunk draft →
    IfOk (after_lines line (Some draft) texts) (There (Has chunk))
lines_has chunk = lines_last (Has chunk) (record {
  placing = λ draft bytes has. still_in chunk (record { addr = draft.next_address; bytes = bytes }) draft.image.chunks has;
  moving = λ draft place has. has;
  joining = λ draft disk has. has;
  stating = λ draft features first has. has;
  opening = λ draft window has. has;
})

-- what was offered at a line where something is placed is offered at the end, and contexts have the same format: no line takes a feature
-- away
abbrev pub Grows : Features → Features → Type 0
Grows before after = (before ≡ after) ⊎ ((before ≡ no_features) × (context_format after ≡ Base))

abbrev pub GrowsTo : Features → ImageDraftView → Type 0
GrowsTo before draft = Grows before (features_of draft.image.version) × (0 < length draft.image.chunks)

pub more_placed : (new : Chunk) (chunks : List Chunk) → 0 < length (insert new chunks)
more_placed new [] = omega arith
more_placed new (first ∷ others) =
    cond_both (nat_lt new.addr first.addr) (new ∷ first ∷ others) (first ∷ insert new others) (λ chunks. 0 < length chunks) (λ _. omega arith) (λ _. omega arith)

no_format : (features : Features) → has_bit features msi_flat_bit ≡ false → context_format features ≡ Base
unfolding context_format
no_format features is = rw is refl

same_format : (features : Features) (chunks : List Chunk) → 0 < length chunks → (not (has_bit features msi_flat_bit) || length chunks == 0) ≡ true →
    context_format features ≡ Base
same_format features chunks some is = elim (cases_Bool (has_bit features msi_flat_bit)) as (λ _. context_format features ≡ Base) [
  | inl has ↦ absurd (let none : (length chunks == 0) ≡ true = rw has at is in omega (arith, some, eqb-true (length chunks) 0 none))
  | inr lacks ↦ no_format features lacks
]

from_first : (draft : ImageDraftView) (before after : Features) → may_offer draft.image after ≡ true → GrowsTo before draft → Grows before after
from_first draft before after first grows =
    let now = features_of draft.image.version in
    let parts = and_parts (now == no_features) (not (has_bit after msi_flat_bit) || length draft.image.chunks == 0) first in
    let format : context_format after ≡ Base = same_format after draft.image.chunks grows.1 parts.1 in
    elim grows.0 as (λ _. Grows before after) [
      | inl same ↦ inr (same ∙ eqb-true now no_features parts.0, format)
      | inr none ↦ inr (none.0, format)
    ]

flags_same : (version : Version) (asked : Bool) → features_of (flagged version asked) ≡ features_of version
flags_same First true = refl
flags_same First false = refl
flags_same Second asked = refl
flags_same (Third features) asked = refl
flags_same (Fourth features window) asked = refl

with_flags : (before : Features) (version : Version) (asked : Bool) → Grows before (features_of version) → Grows before (features_of (flagged version asked))
with_flags before version asked grows = subst (Grows before) (sym (flags_same version asked)) grows

stating_same : (features : Features) (window : Option Window) → features_of (stating features window) ≡ features
stating_same features None = cond_both (is_third features) (Third features) (Fourth features None) (λ version. features_of version ≡ features) (λ _. refl) (λ _. refl)
stating_same features (Some window) = refl

pub lines_grow : (before : Features) (line : ℕ) (draft : ImageDraftView) (texts : List (List ℕ)) → GrowsTo before draft →
    IfOk (after_lines line (Some draft) texts) (There (GrowsTo before))
lines_grow before = lines_last (GrowsTo before) (record {
  placing = λ draft bytes grows. (grows.0, more_placed (record { addr = draft.next_address; bytes = bytes }) draft.image.chunks);
  moving = λ draft place grows. grows;
  joining = λ draft disk grows. (with_flags before draft.image.version disk.read_only grows.0, grows.1);
  stating = λ draft features first grows. (
    subst (Grows before) (sym (stating_same features (window_of draft.image.version))) (from_first draft before features first grows),
    grows.1,
  );
  opening = λ draft window grows. (
    subst (Grows before) (sym (stating_same (features_of draft.image.version) (Some window))) grows.0,
    grows.1,
  );
})
