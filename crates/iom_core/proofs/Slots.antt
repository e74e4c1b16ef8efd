-- The devices in their places.
use Rattle.std.proofs.Common.{◌≡◌, ◌∙◌, ◌<◌, ◌≤◌, length, ℕ, zero, suc, List, [], ◌∷◌, Option, Some, refl, sym, ap, subst}
use Rattle.std.specs.Prelude.{slice_get, slice_set}
use Rattle.std.specs.Option.{option_map}
use Rattle.iom_blk.specs.Device.{Device}
use Rattle.iom_core.specs.State.{EachFits, device_id_end, most_devices}
use Rattle.iom_core.specs.Reach.{ChangesDevice}

pub fits_at : (devices : List (ℕ × Device)) (n : ℕ) (own : ℕ × Device) → EachFits devices → slice_get devices n ≡ Some own → own.0 < device_id_end
fits_at [] n own fits is = absurd (cc)
fits_at (first ∷ more) zero own fits is = let same : first ≡ own = cc in subst (λ (o : ℕ × Device). o.0 < device_id_end) same fits.0
fits_at (first ∷ more) (suc n) own fits is = fits_at more n own fits.1 is

pub fits_set : (devices : List (ℕ × Device)) (n : ℕ) (own : ℕ × Device) → EachFits devices → own.0 < device_id_end → EachFits (slice_set devices n own)
fits_set [] n own fits small = tt
fits_set (first ∷ more) zero own fits small = (small, fits.1)
fits_set (first ∷ more) (suc n) own fits small = (fits.0, fits_set more n own fits.1 small)

length_set : (devices : List (ℕ × Device)) (n : ℕ) (own : ℕ × Device) → length (slice_set devices n own) ≡ length devices
length_set [] n own = refl
length_set (first ∷ more) zero own = refl
length_set (first ∷ more) (suc n) own = ap suc (length_set more n own)

pub few_set : (devices : List (ℕ × Device)) (n : ℕ) (own : ℕ × Device) → length devices ≤ most_devices → length (slice_set devices n own) ≤ most_devices
few_set devices n own few = rw (length_set devices n own) few

-- what stands at a place, put there again
pub set_same : (devices : List (ℕ × Device)) (n : ℕ) (own : ℕ × Device) → slice_get devices n ≡ Some own → slice_set devices n own ≡ devices
set_same [] n own is = refl
set_same (first ∷ more) zero own is = let same : own ≡ first = cc in ap (λ (o : ℕ × Device). o ∷ more) same
set_same (first ∷ more) (suc n) own is = ap (λ (rest : List (ℕ × Device)). first ∷ rest) (set_same more n own is)

set_other : (devices : List (ℕ × Device)) (n k : ℕ) (own : ℕ × Device) → (k ≡ n → ⊥) → slice_get (slice_set devices n own) k ≡ slice_get devices k
set_other [] n k own other = refl
set_other (first ∷ more) zero zero own other = absurd (other refl)
set_other (first ∷ more) zero (suc k) own other = refl
set_other (first ∷ more) (suc n) zero own other = refl
set_other (first ∷ more) (suc n) (suc k) own other = set_other more n k own (λ same. other (ap suc same))

pub get_set : (devices : List (ℕ × Device)) (n : ℕ) (own new : ℕ × Device) → slice_get devices n ≡ Some own → slice_get (slice_set devices n new) n ≡ Some new
get_set [] n own new is = absurd (cc)
get_set (first ∷ more) zero own new is = refl
get_set (first ∷ more) (suc n) own new is = get_set more n own new is

pub changes_device : (devices : List (ℕ × Device)) (n : ℕ) (own : ℕ × Device) (device : Device) → slice_get devices n ≡ Some own →
    ChangesDevice n devices (slice_set devices n (own.0, device))
changes_device devices n own device is =
    let did : Option (ℕ × Device) → Option ℕ = λ o. option_map (λ (own : ℕ × Device). own.0) o in
    record {
      others = λ k other. set_other devices n k (own.0, device) other;
      id = ap did (get_set devices n own (own.0, device) is) ∙ sym (ap did is);
    }

pub same_devices : (devices : List (ℕ × Device)) (n : ℕ) → ChangesDevice n devices devices
same_devices devices n = record { others = λ k other. refl; id = refl }
