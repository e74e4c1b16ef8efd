use Rattle.std.proofs.Common.{◌≡◌, []}
use Rattle.std.specs.Io.KnownBytes.{Keeps}
use Rattle.iom_include.specs.Reading.{fault_of, remaining_of}
use Rattle.iom_include.proofs.including.Including.refill.Given as goal

abbrev pub invariant-loop-turn : goal.invariant-loop-turn
invariant-loop-turn g l = record {
  kept : Keeps (remaining_of g.T.Texts.known g.R.Read.remaining l.initial.self) (remaining_of g.T.Texts.known g.R.Read.remaining l.self);
  none : l.self.expansion.text.items ≡ [];
  given : l.self.given ≡ 0;
  faultless : fault_of l.self ≡ fault_of l.initial.self;
}
