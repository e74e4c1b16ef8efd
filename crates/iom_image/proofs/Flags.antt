-- Disks without flags may stand among those that have some.
use Rattle.std.proofs.Common.{◌≡◌, ℕ, ◌++◌, Bool, false, List, [], ◌∷◌}
use Rattle.iom_image.specs.Image.{Disk, AreDisks}

pub with_flags : (has_flags others : Bool) (ids : List ℕ) (disks : List Disk) → (others ≡ false → has_flags ≡ false) →
    AreDisks has_flags ids disks → AreDisks others ids disks
with_flags has_flags others ids [] fewer good = tt
with_flags has_flags others ids (disk ∷ disks) fewer good = (
  record {
    id = good.0.id;
    sectors = good.0.sectors;
    room = good.0.room;
    writable = λ none. good.0.writable (fewer none);
  },
  with_flags has_flags others (ids ++ disk.id ∷ []) disks fewer good.1,
)
