-- The caches of a platform that an image starts hold nothing.
use Rattle.std.proofs.Common.{◌≡◌, ℕ, List, Ok, subst, sym}
use Rattle.iom_core.specs.State.{State}
use Rattle.iom_core.specs.Warrants.{IsUncached}
use Rattle.iom_image.specs.Image.{Image}
use Rattle.iom_image.specs.Loading.{state_from}
use Rattle.iom_image.specs.Reading.{image_of, mapped}
use Rattle.iom_image.proofs.Found.{read_as}

of_image : (image : Image) → IsUncached (state_from image)
of_image image = record { contexts = tt; pages = tt }

pub uncached : (bytes : List ℕ) (platform : State) → mapped state_from (image_of bytes) ≡ Ok platform → IsUncached platform
uncached bytes platform is =
    let from = read_as state_from (image_of bytes) platform is in
    subst IsUncached (sym from.2) (of_image from.0)
