use Rattle.std.proofs.lemmas.Str.{IsUtf8-from_ascii}
use Rattle.iom_asm.proofs.listing.push_line.Goals as goal

pub unreachable-requires : goal.unreachable-requires
unreachable-requires c = c.in-Err.ensures.cases.0 (IsUtf8-from_ascii _ c.requires)
