-- An image of version 1, 2 or 3 as one of version 4.
use Rattle.std.specs.Prelude.{ℕ, ◌≡◌, ◌++◌, true, List, Option, Result, Ok}
use Rattle.iom_bits.specs.Features.{Features}
use Rattle.iom_messages.specs.declared.window.Window.{Window}
use Rattle.iom_image.specs.declared.fault.LoadFault.{LoadFault}
use Rattle.iom_image.specs.declared.version.Version.TheVariants.{Fourth}
use Rattle.iom_image.specs.Versions.{features_of, window_of}
use Rattle.iom_image.specs.Image.{Chunk, Disk, Image, chunks_bytes, disks_bytes, image_bytes}
use Rattle.iom_image.specs.Reading.{◌>>=◌, Read, image_of}

-- an image in version 4, with its memory, chunks, disks, features and window; one of version 4 stays as it is
abbrev pub upgraded : Image → Image
upgraded image = record image { version = Fourth (features_of image.version) (window_of image.version) }

abbrev pub upgraded_bytes : Image → List ℕ
upgraded_bytes image = image_bytes (upgraded image)

-- these bytes are an image of version 4 already
pub record IsUpgraded (bytes : List ℕ) : Type 0 where
  pub image : Image
  pub read : image_of bytes ≡ Ok image
  pub features : Features
  pub window : Option Window
  pub fourth : image.version ≡ Fourth features window

-- bytes, and behind them those of the chunks that were read
abbrev pub chunks_behind : List ℕ → Read (List Chunk) → Result (List ℕ × List ℕ) LoadFault
chunks_behind before read = read >>= λ x. Ok (before ++ chunks_bytes x.0, x.1)

-- bytes, and behind them those of the disks that were read, with flags
abbrev pub disks_behind : List ℕ → Read (List Disk) → Result (List ℕ) LoadFault
disks_behind before read = read >>= λ x. Ok (before ++ disks_bytes true x.0)
