use Rattle.std.proofs.Common.{◌≡◌, ◌<◌, ◌^◌}
use Rattle.std.specs.List.{fold}
use Rattle.iom_walk.specs.Noted.{verdict_below}
use Rattle.iom_walk.specs.Path.{path_from}
use Rattle.iom_walk.proofs.Noted.{rest}
use Rattle.iom_walk.proofs.walking.walk_from.Given as goal

-- the verdict on what is left, below what was met, is that on the whole; and so are the notes
abbrev pub invariant-loop-level : goal.invariant-loop-level
invariant-loop-level g l =
    let at = g.W.Words.at l.words in
    record {
      table_fits : l.table < 2 ^ 44;
      left : verdict_below l.format.rules l.kind l.global l.addr (path_from at l.format l.addr l.table l.level)
          ≡ verdict_below l.format.rules l.kind l.fn.global l.addr (path_from at l.format l.addr l.fn.table l.count);
      unnoted : fold g.N.Notes.next l.notes (rest at l.format l.addr l.kind l.table l.level)
          ≡ fold g.N.Notes.next l.fn.notes (rest at l.format l.addr l.kind l.fn.table l.count);
    }
