use Rattle.std.proofs.Common.{◌≡◌, ◌+◌, ◌*◌, ◌≤◌, ◌++◌, drop}
use Rattle.std.specs.Prelude.{flat_map}
use Rattle.arrayvec.specs.ArrayVec.{array_vec_len}
use Rattle.iom_nested.specs.Stages.{second_shape_of}
use Rattle.iom_every.specs.Trees.{reads_behind}
use Rattle.iom_ways.proofs.found.first_read.Given as goal

-- what is read, and then what is left, is all
abbrev pub invariant-loop-met : goal.invariant-loop-met
invariant-loop-met g l =
    let behind = reads_behind (g.M.Region.memory l.under.ram.now) l.under.features l.under.context (second_shape_of l.under.context) in
    record {
      room : array_vec_len l.read ≤ 5 + 5 * l.met-index;
      left : l.read.items ++ flat_map behind (drop l.met-index l.path) ≡ l.initial.read.items ++ flat_map behind l.path;
    }
