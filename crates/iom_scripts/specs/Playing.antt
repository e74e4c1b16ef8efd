-- Lines that are played for what they name: nothing is said of what that leaves.
use Rattle.std.specs.Prelude.{ℕ, List}
use Rattle.iom_reader.specs.Answering.{Answering}

abbrev pub anyhow : Answering
anyhow = record {
  State = Unit {0};
  whole = λ before after lines. Unit {0};
  half = λ before after lines. Unit {0};
}
