-- A table of vectors in which one is replaced.
use Rattle.std.proofs.Common.{◌≡◌, ◌∙◌, ◌+◌, ℕ, zero, suc, true, false, List, [], ◌∷◌, length, slice_set, if◌then◌else◌, refl, subst, ap, arith}
use Rattle.std.proofs.lemmas.Bool.{and_parts, and_from}
use Rattle.std.proofs.lemmas.Grind.{common_steps}
use Rattle.iom_bits.specs.Features.{Features}
use Rattle.iom_regs.specs.Interrupts.{owing}
use Rattle.iom_regs.specs.Sound.{IsSound}
use Rattle.iom_regs.specs.Table.{Registers, with_pending}
use Rattle.iom_regs.specs.Vectors.{are_kept, is_kept, is_vector, msi_addr_of, vector_at}
use Rattle.iom_regs.specs.declared.vectors.MsiVector.{MsiVector}

pub kept_set : (features : Features) (from x : ℕ) (vector : MsiVector) (table : List MsiVector) → is_kept features (from + x) vector ≡ true →
    are_kept features from table ≡ true → are_kept features from (slice_set table x vector) ≡ true
kept_set features from x vector [] fits kept = refl
kept_set features from zero vector (first ∷ table) fits kept =
    let parts = and_parts (is_kept features from first) (are_kept features (from + 1) table) kept in
    let own : is_kept features from vector ≡ true = subst (λ n. is_kept features n vector ≡ true) {x = from + 0} {y = from} (omega arith) fits in
    and_from (is_kept features from vector) (are_kept features (from + 1) table) own parts.1
kept_set features from (suc x) vector (first ∷ table) fits kept =
    let parts = and_parts (is_kept features from first) (are_kept features (from + 1) table) kept in
    let own : is_kept features (from + 1 + x) vector ≡ true = subst (λ n. is_kept features n vector ≡ true) {x = from + suc x} {y = from + 1 + x} (omega arith) fits in
    and_from (is_kept features from first) (are_kept features (from + 1) (slice_set table x vector)) parts.0 (kept_set features (from + 1) x vector table own parts.1)

-- what a table may have, from its first entry on
pub kept_set_first : (features : Features) (x : ℕ) (vector : MsiVector) (table : List MsiVector) → is_vector features x ≡ true →
    (is_vector features x ≡ true → msi_addr_of vector.addr ≡ vector.addr) → are_kept features 0 table ≡ true → are_kept features 0 (slice_set table x vector) ≡ true
kept_set_first features x vector table there fits kept =
    let own : is_kept features x vector ≡ true = grind (arith, common_steps, there, fits there) in
    kept_set features 0 x vector table (subst (λ n. is_kept features n vector ≡ true) {x = x} {y = 0 + x} (omega arith) own) kept

kept_from : (features : Features) (from x : ℕ) (table : List MsiVector) → are_kept features from table ≡ true → is_vector features (from + x) ≡ true →
    msi_addr_of (vector_at table x).addr ≡ (vector_at table x).addr
kept_from features from x [] kept there = refl
kept_from features from zero (first ∷ table) kept there =
    let parts = and_parts (is_kept features from first) (are_kept features (from + 1) table) kept in
    let own : is_vector features from ≡ true = subst (λ n. is_vector features n ≡ true) {x = from + 0} {y = from} (omega arith) there in
    grind (arith, common_steps, parts.0, own)
kept_from features from (suc x) (first ∷ table) kept there =
    let parts = and_parts (is_kept features from first) (are_kept features (from + 1) table) kept in
    kept_from features (from + 1) x table parts.1 (subst (λ n. is_vector features n ≡ true) {x = from + suc x} {y = from + 1 + x} (omega arith) there)

pub kept_at : (features : Features) (x : ℕ) (table : List MsiVector) → are_kept features 0 table ≡ true → is_vector features x ≡ true →
    msi_addr_of (vector_at table x).addr ≡ (vector_at table x).addr
kept_at features x table kept there = kept_from features 0 x table kept (subst (λ n. is_vector features n ≡ true) {x = x} {y = 0 + x} (omega arith) there)

pub owing_settled : (x : ℕ) (r : Registers) → with_pending r ≡ r → with_pending (owing x r) ≡ owing x r
owing_settled x r settled = elim (is_vector r.features x) as (λ b. with_pending (if b then record r { table = slice_set r.table x (record (vector_at r.table x) { owed = true }) } else r) ≡ (if b then record r { table = slice_set r.table x (record (vector_at r.table x) { owed = true }) } else r)) [
  | true ↦ ap (λ (s : Registers). record s { table = slice_set r.table x (record (vector_at r.table x) { owed = true }) }) settled
  | false ↦ settled
]

length_set : (table : List MsiVector) (x : ℕ) (vector : MsiVector) → length (slice_set table x vector) ≡ length table
length_set [] x vector = refl
length_set (first ∷ table) zero vector = refl
length_set (first ∷ table) (suc x) vector = ap suc (length_set table x vector)

pub vector_set : (r : Registers) (x : ℕ) (vector : MsiVector) → IsSound r → is_vector r.features x ≡ true →
    (is_vector r.features x ≡ true → msi_addr_of vector.addr ≡ vector.addr) → IsSound (record r { table = slice_set r.table x vector })
vector_set r x vector sound there fits = record {
  offer = sound.offer;
  mode = sound.mode;
  ddtp = sound.ddtp;
  acting_mode = sound.acting_mode;
  acting = sound.acting;
  cqb = sound.cqb;
  fqb = sound.fqb;
  cqh_below = sound.cqh_below;
  cqt_below = sound.cqt_below;
  fqh_below = sound.fqh_below;
  fqt_below = sound.fqt_below;
  cqcsr = sound.cqcsr;
  cqon = sound.cqon;
  cmd_to = sound.cmd_to;
  fqcsr = sound.fqcsr;
  fqon = sound.fqon;
  at_once = λ quick. record { directory = (sound.at_once quick).directory; acting = (sound.at_once quick).acting; commands = (sound.at_once quick).commands; faults = (sound.at_once quick).faults };
  ipsr = sound.ipsr;
  icvec = sound.icvec;
  fctl = sound.fctl;
  room = length_set r.table x vector ∙ sound.room;
  table = kept_set_first r.features x vector r.table there fits sound.table;
}
