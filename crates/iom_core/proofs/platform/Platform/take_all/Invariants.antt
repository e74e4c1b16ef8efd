use Rattle.std.proofs.Common.{◌≡◌, ◌++◌, length, take, drop}
use Rattle.iom_core.specs.Run.{answers, end_of}
use Rattle.iom_core.proofs.platform.Platform.take_all.Given as goal

-- the answers so far and those to what is left are those to all
abbrev pub invariant-loop-i : goal.invariant-loop-i
invariant-loop-i l = record {
  told : answers l.fn.self l.steps ≡ take l.i l.out ++ answers l.self (drop l.i l.steps);
  end : end_of l.fn.self l.steps ≡ end_of l.self (drop l.i l.steps);
  len : length l.out ≡ length l.steps;
}
