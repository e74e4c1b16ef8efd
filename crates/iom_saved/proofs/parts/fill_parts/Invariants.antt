use Rattle.std.proofs.Common.{◌≡◌, ◌++◌, ℕ, List, length, take}
use Rattle.std.specs.List.{AllByRecursion, flat_map}
use Rattle.iom_virtq.specs.declared.parts.ChainPart.{ChainPart}
use Rattle.iom_saved.specs.Kept.{IsPart}
use Rattle.iom_saved.specs.Requests.{part_words}
use Rattle.iom_saved.proofs.Taken.{Went}
use Rattle.iom_saved.proofs.parts.fill_parts.Given as goal

-- what was read is the parts so far, and of words that were put those of the others are left
abbrev pub invariant-loop-i : goal.invariant-loop-i
invariant-loop-i l = record {
  read : l.initial.words ≡ flat_map part_words (take l.i l.parts) ++ l.words;
  went : (list : List ChainPart) (rest : List ℕ) → l.initial.words ≡ flat_map part_words list ++ rest → length list ≡ length l.parts →
      AllByRecursion IsPart list → Went part_words IsPart list (take l.i l.parts) rest l.words;
}
