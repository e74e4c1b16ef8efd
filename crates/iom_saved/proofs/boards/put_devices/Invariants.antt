use Rattle.std.proofs.Common.{◌≡◌, ◌++◌, ℕ, take}
use Rattle.std.specs.List.{AllByRecursion, flat_map}
use Rattle.iom_blk.specs.Device.{Device}
use Rattle.iom_saved.specs.Boards.{own_words}
use Rattle.iom_saved.specs.Kept.{IsDevice}
use Rattle.iom_saved.specs.Whole.{EachWhole}
use Rattle.iom_saved.proofs.boards.put_devices.Given as goal

-- the devices so far were put
abbrev pub invariant-loop-n : goal.invariant-loop-n
invariant-loop-n l = record {
  put : l.out.items ≡ l.initial.out.items ++ flat_map own_words (take l.n l.board.devices);
  whole : EachWhole (take l.n l.board.devices);
  kept : AllByRecursion (λ (own : ℕ × Device). IsDevice own.1) (take l.n l.board.devices);
}
