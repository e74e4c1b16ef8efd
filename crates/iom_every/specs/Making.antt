-- What a whole translation is made from: RISC-V IOMMU Architecture 1.0, "Caching in-memory data structures".
use Rattle.std.specs.Prelude.{Bool, true, false}
use Rattle.iom_choices.specs.Thorough.{Making}
use Rattle.iom_every.specs.Drops.{is_leaf}
use Rattle.iom_every.specs.Entries.{Entry, OfDevice, OfDirectory, OfFile, OfFirst, OfPage, OfSecond}

-- the leaves of both stages, and the entries of interrupt files
abbrev pub is_leaf_of_stage : Entry → Bool
is_leaf_of_stage (OfFirst gscid pscid held) = is_leaf held
is_leaf_of_stage (OfSecond gscid held) = is_leaf held
is_leaf_of_stage (OfFile gscid page word) = true
is_leaf_of_stage (OfDirectory level part word) = false
is_leaf_of_stage (OfDevice did said) = false
is_leaf_of_stage (OfPage key hit) = false

abbrev pub is_whole : Entry → Bool
is_whole (OfPage key hit) = true
is_whole (OfDirectory level part word) = false
is_whole (OfDevice did said) = false
is_whole (OfFirst gscid pscid held) = false
is_whole (OfSecond gscid held) = false
is_whole (OfFile gscid page word) = false

abbrev pub translations : Making Entry
translations = record { lends = is_leaf_of_stage; is_made = is_whole }
