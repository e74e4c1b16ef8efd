use Rattle.std.proofs.Common.{◌≡◌, ◌++◌, take}
use Rattle.std.specs.List.{AllByRecursion, flat_map}
use Rattle.iom_saved.specs.Kept.{IsPart}
use Rattle.iom_saved.specs.Requests.{part_words}
use Rattle.iom_saved.proofs.parts.put_parts.Given as goal

-- the parts so far were put
abbrev pub invariant-loop-part : goal.invariant-loop-part
invariant-loop-part l = record {
  put : l.out.items ≡ l.initial.out.items ++ flat_map part_words (take l.part-index l.parts);
  fit : AllByRecursion IsPart (take l.part-index l.parts);
}
