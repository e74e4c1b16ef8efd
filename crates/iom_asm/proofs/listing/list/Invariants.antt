use Rattle.std.proofs.Common.{◌≡◌, ◌-◌}
use Rattle.std.specs.String.{string_bytes}
use Rattle.iom_asm.specs.Listing.{listed}
use Rattle.iom_asm.proofs.Spans.{behind}
use Rattle.iom_asm.proofs.listing.list.Given as goal

abbrev pub invariant-loop : goal.invariant-loop
invariant-loop l = record {
  so_far : behind (string_bytes l.text) (listed l.ram l.features l.item l.at (l.count - l.counter)) ≡ listed l.ram l.features l.item l.addr l.count;
}
