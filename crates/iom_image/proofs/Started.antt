-- The devices that an image starts are those of a platform.
use Rattle.std.proofs.Common.{◌≡◌, ℕ, suc, ◌^◌, ◌≤◌, ◌<◌, ◌==◌, Bool, true, false, ◌||◌, not, nat_lt, List, [], ◌∷◌, ◌++◌, length, get_or, map, Result, Ok, Err, refl, sym, subst, ap, ◌∙◌}
use Rattle.std.proofs.lemmas.Bool.{and_parts, ltb-true, not-true, eq-eqb, ne_eqb, true≢false}
use Rattle.iom_blk.specs.Device.{Device}
use Rattle.iom_core.specs.State.{State, AreDevices, AreDistinct, EachFits, is_id_among, ids_of}
use Rattle.iom_image.specs.declared.fault.LoadFault.{LoadFault}
use Rattle.iom_image.specs.Versions.{is_flagged}
use Rattle.iom_image.specs.Image.{Disk, Image, AreDisks, AreBytes}
use Rattle.iom_image.specs.Loading.{started, opening_of, devices_of, state_from}
use Rattle.iom_image.specs.Reading.{mapped, image_of}
use Rattle.iom_image.proofs.Found.{read_is}
use Rattle.iom_image.proofs.Oks.{ok_is}

-- the devices of some disks
abbrev devices_from : List Disk → List (ℕ × Device)
devices_from disks = devices_of (map started disks)

met_either : (first rest more : Bool) → (first || rest) ≡ true → (rest ≡ true → more ≡ true) → (first || more) ≡ true
met_either true rest more met others = refl
met_either false rest more met others = others met

met_later : (first rest : Bool) → rest ≡ true → (first || rest) ≡ true
met_later true rest met = refl
met_later false rest met = met

met_more : (id other : ℕ) (ids : List ℕ) → is_id_among ids id ≡ true → is_id_among (ids ++ other ∷ []) id ≡ true
met_more id other [] met = absurd cc
met_more id other (first ∷ ids) met = met_either (first == id) (is_id_among ids id) (is_id_among (ids ++ other ∷ []) id) met (met_more id other ids)

met_last : (id : ℕ) (ids : List ℕ) → is_id_among (ids ++ id ∷ []) id ≡ true
met_last id [] = rw (eq-eqb id id refl) refl
met_last id (first ∷ ids) = met_later (first == id) (is_id_among (ids ++ id ∷ []) id) (met_last id ids)

none_either : (first rest : Bool) → first ≡ false → rest ≡ false → (first || rest) ≡ false
none_either true rest one others = absurd cc
none_either false rest one others = others

-- an id that stands before some disks is none of theirs
others_other : (has_flags : Bool) (ids : List ℕ) (disks : List Disk) (id : ℕ) → is_id_among ids id ≡ true → AreDisks has_flags ids disks →
    is_id_among (ids_of (devices_from disks)) id ≡ false
others_other has_flags ids [] id met good = refl
others_other has_flags ids (disk ∷ disks) id met good =
    let new = not-true (is_id_among ids disk.id) (and_parts (nat_lt disk.id (2 ^ 24)) (not (is_id_among ids disk.id)) good.0.id).1 in
    none_either (disk.id == id) (is_id_among (ids_of (devices_from disks)) id)
    (ne_eqb disk.id id (λ same. true≢false (sym met ∙ ap (is_id_among ids) (sym same) ∙ new)))
    (others_other has_flags (ids ++ disk.id ∷ []) disks id (met_more id disk.id ids met) good.1)

each_fits : (has_flags : Bool) (ids : List ℕ) (disks : List Disk) → AreDisks has_flags ids disks → EachFits (devices_from disks)
each_fits has_flags ids [] good = tt
each_fits has_flags ids (disk ∷ disks) good = (
  ltb-true disk.id (2 ^ 24) (and_parts (nat_lt disk.id (2 ^ 24)) _ good.0.id).0,
  each_fits has_flags (ids ++ disk.id ∷ []) disks good.1,
)

are_distinct : (has_flags : Bool) (ids : List ℕ) (disks : List Disk) → AreDisks has_flags ids disks → AreDistinct (ids_of (devices_from disks))
are_distinct has_flags ids [] good = tt
are_distinct has_flags ids (disk ∷ disks) good = (
  others_other has_flags (ids ++ disk.id ∷ []) disks disk.id (met_last disk.id ids) good.1,
  are_distinct has_flags (ids ++ disk.id ∷ []) disks good.1,
)

as_many : (disks : List Disk) → length (devices_from disks) ≡ length disks
as_many [] = refl
as_many (disk ∷ disks) = ap suc (as_many disks)

are_devices : (has_flags : Bool) (disks : List Disk) → length disks ≤ 8 → AreDisks has_flags [] disks → AreDevices (devices_from disks)
are_devices has_flags disks few good = record {
  few = subst (λ (n : ℕ). n ≤ 8) (sym (as_many disks)) few;
  fit = each_fits has_flags [] disks good;
  distinct = are_distinct has_flags [] disks good;
}

pub are_bytes : (bytes : List ℕ) → ((i : ℕ) → get_or bytes i 0 < 256) → AreBytes bytes
are_bytes [] fits = tt
are_bytes (b ∷ bytes) fits = (fits 0, are_bytes bytes (λ i. fits (suc i)))

image_started : (bytes : List ℕ) (read : Result Image LoadFault) (state : State) → AreBytes bytes → image_of bytes ≡ read →
    mapped state_from read ≡ Ok state → AreDevices state.devices
unfolding opening_of
image_started bytes (Err fault) state are is made = absurd cc
image_started bytes (Ok image) state are is made =
    let good = (read_is bytes image are is).good in
    let devices : devices_from image.disks ≡ state.devices = ap (λ (state : State). state.devices) (ok_is (state_from image) state made) in
    subst AreDevices devices (are_devices (is_flagged image.version) image.disks good.few good.disks)

pub devices_started : (bytes : List ℕ) (state : State) → ((i : ℕ) → get_or bytes i 0 < 256) →
    mapped state_from (image_of bytes) ≡ Ok state → AreDevices state.devices
devices_started bytes state fits made = image_started bytes (image_of bytes) state (are_bytes bytes fits) refl made
