use Rattle.std.proofs.Common.{◌≡◌, ◌++◌, ℕ, List, length}
use Rattle.std.specs.List.{AllByRecursion, flat_map}
use Rattle.iom_blk.specs.Device.{Device}
use Rattle.iom_core.specs.State.{EachFits}
use Rattle.iom_saved.specs.Boards.{own_words}
use Rattle.iom_saved.specs.Kept.{IsOwn}
use Rattle.iom_saved.specs.Whole.{EachWhole}
use Rattle.iom_saved.proofs.Taken.{Went}
use Rattle.iom_saved.proofs.boards.take_devices.Given as goal

-- what was read is the devices so far, and of words that were put those of the others are left
abbrev pub invariant-loop : goal.invariant-loop
invariant-loop l = record {
  read : l.initial.words ≡ flat_map own_words l.devices.items ++ l.words;
  count : length l.devices.items ≡ l.counter;
  fit : EachFits l.devices.items;
  whole : EachWhole l.devices.items;
  went : (devices : List (ℕ × Device)) (rest : List ℕ) → l.initial.words ≡ flat_map own_words devices ++ rest → length devices ≡ l.count → AllByRecursion IsOwn devices →
      Went own_words IsOwn devices l.devices.items rest l.words;
}
