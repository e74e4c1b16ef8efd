-- No write changes what an IOMMU offers.
use Rattle.std.proofs.Common.{◌≡◌, ◌==◌, ◌||◌, ℕ, Bool, true, false, if◌then◌else◌, refl}
use Rattle.iom_regs.specs.Table.{Registers, Name, Slot, Capabilities, Fctl, Ddtp, Cqb, Cqh, Cqt, Fqb, Fqh, Fqt, Cqcsr, Fqcsr, Ipsr, Icvec, MsiAddr, MsiData, MsiControl, Whole, Low, High, Free, is_busy, is_ddtp_busy, is_mode, is_on, is_slow, slot_at, takes_wsi, with_ddtp, with_ddtp_high, with_high, with_write, written_at, written_wide, after_write}
use Rattle.iom_regs.specs.Vectors.{is_vector}

either : (b : Bool) (r new old : Registers) → new.features ≡ r.features → old.features ≡ r.features →
    (if b then new else old).features ≡ r.features
either true r new old first second = first
either false r new old first second = second

kept_by_ddtp : (value : ℕ) (r : Registers) → (with_ddtp value r).features ≡ r.features
kept_by_ddtp value r =
    either (is_slow r) r _ _ (either (is_ddtp_busy r.ddtp) r r _ refl refl) (either (is_mode value) r _ r refl refl)

kept_by_ddtp_high : (value : ℕ) (r : Registers) → (with_ddtp_high value r).features ≡ r.features
kept_by_ddtp_high value r = either (is_slow r) r _ _ (either (is_ddtp_busy r.ddtp) r r _ refl refl) (kept_by_ddtp value r)

kept_by : (name : Name) (value : ℕ) (r : Registers) → (with_write name value r).features ≡ r.features
kept_by Capabilities value r = refl
kept_by Fctl value r = either (takes_wsi r) r _ r refl refl
kept_by Ddtp value r = kept_by_ddtp value r
kept_by Cqb value r = either (is_on r.cqcsr || is_busy r.cqcsr) r r _ refl refl
kept_by Cqh value r = refl
kept_by Cqt value r = refl
kept_by Fqb value r = either (is_on r.fqcsr || is_busy r.fqcsr) r r _ refl refl
kept_by Fqh value r = refl
kept_by Fqt value r = refl
kept_by Cqcsr value r = either (is_busy r.cqcsr) r r _ refl refl
kept_by Fqcsr value r = either (is_busy r.fqcsr) r r _ refl refl
kept_by Ipsr value r = refl
kept_by Icvec value r = refl
kept_by (MsiAddr x) value r = either (is_vector r.features x) r _ r refl refl
kept_by (MsiData x) value r = either (is_vector r.features x) r _ r refl refl
kept_by (MsiControl x) value r = either (is_vector r.features x) r _ r refl refl

kept_by_high : (name : Name) (value : ℕ) (r : Registers) → (with_high name value r).features ≡ r.features
kept_by_high Capabilities value r = refl
kept_by_high Fctl value r = kept_by Fctl value r
kept_by_high Ddtp value r = kept_by_ddtp_high value r
kept_by_high Cqb value r = kept_by Cqb value r
kept_by_high Cqh value r = refl
kept_by_high Cqt value r = refl
kept_by_high Fqb value r = kept_by Fqb value r
kept_by_high Fqh value r = refl
kept_by_high Fqt value r = refl
kept_by_high Cqcsr value r = kept_by Cqcsr value r
kept_by_high Fqcsr value r = kept_by Fqcsr value r
kept_by_high Ipsr value r = refl
kept_by_high Icvec value r = refl
kept_by_high (MsiAddr x) value r = kept_by (MsiAddr x) value r
kept_by_high (MsiData x) value r = kept_by (MsiData x) value r
kept_by_high (MsiControl x) value r = kept_by (MsiControl x) value r

kept_by_four : (slot : Slot) (value : ℕ) (r : Registers) → (written_at slot value r).features ≡ r.features
kept_by_four (Whole name) value r = kept_by name value r
kept_by_four (Low name) value r = kept_by name _ r
kept_by_four (High name) value r = kept_by_high name _ r
kept_by_four Free value r = refl

kept_by_eight : (slot : Slot) (value : ℕ) (r : Registers) → (written_wide slot value r).features ≡ r.features
kept_by_eight (Whole name) value r = refl
kept_by_eight (Low name) value r = kept_by name value r
kept_by_eight (High name) value r = refl
kept_by_eight Free value r = refl

pub features_kept : (r : Registers) (off size value : ℕ) → (after_write r off size value).features ≡ r.features
features_kept r off size value =
    either (size == 4) r (written_at (slot_at r.features off) value r) (written_wide (slot_at r.features off) value r)
    (kept_by_four (slot_at r.features off) value r) (kept_by_eight (slot_at r.features off) value r)
