use Rattle.std.proofs.Common.{◌≡◌, suc, take}
use Rattle.iom_core.specs.Warrants.{moment}
use Rattle.iom_account.specs.Following.{counted, notes_at}
use Rattle.iom_account.proofs.explaining.explain.Given as goal

-- this is moment k, and the history has what the steps before it noted
abbrev pub invariant-loop-k : goal.invariant-loop-k
invariant-loop-k l = record {
  items : l.step-items ≡ take l.n l.steps;
  at : l.platform ≡ moment l.start l.steps l.k;
  kept : l.history ≡ notes_at l.start l.steps (counted (suc l.n)) l.k;
}
