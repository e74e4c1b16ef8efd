-- A bus of bytes that takes a number of accesses, and refuses all later ones.
use Rattle.std.specs.Prelude.{ℕ, zero, suc, List, [], length, Option, Some, None}
use Rattle.iom_mem.specs.Memory.{Memory, bytes_at, put}
use Rattle.iom_virtq.specs.Bus.{Ask, Read, Write, BusReply}
use Rattle.iom_virtq.specs.declared.access.Access.TheVariants.{Ok, Outside}

pub record Tape : Type 0 where
  pub memory : Memory
  pub left : ℕ

pub record Taped : Type 0 where
  pub reply : BusReply
  pub tape : Tape

abbrev pub tape : Memory → ℕ → Tape
tape memory left = record { memory = memory; left = left }

abbrev pub refused : Tape → Taped
refused t = record { reply = record { access = Outside; bytes = [] }; tape = t }

abbrev pub read_of : Tape → Option (List ℕ) → ℕ → Taped
read_of t (Some bytes) left =
    record { reply = record { access = Ok; bytes = bytes }; tape = record t { left = left } }
read_of t None left = refused t

abbrev pub write_of : Tape → Option (List ℕ) → ℕ → List ℕ → ℕ → Taped
write_of t (Some before) iova bytes left =
    record { reply = record { access = Ok; bytes = [] }; tape = tape (put t.memory iova bytes) left }
write_of t None iova bytes left = refused t

-- the answer to an access; `left` is one more than the accesses left after it
abbrev pub taped_with : Tape → ℕ → Ask → Taped
taped_with t zero ask = refused t
taped_with t (suc left) (Read iova count) = read_of t (bytes_at t.memory iova count) left
taped_with t (suc left) (Write iova bytes) = write_of t (bytes_at t.memory iova (length bytes)) iova bytes left

unfoldable pub taped : Tape → Ask → Taped
taped t ask = taped_with t t.left ask
