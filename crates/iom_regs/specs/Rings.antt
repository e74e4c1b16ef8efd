-- The registers of one queue, as the code keeps them: a new base is ignored while the queue is on or busy.
use Rattle.std.specs.Prelude.{ℕ, ◌%◌, ◌||◌, if◌then◌else◌}
use Rattle.iom_regs.specs.Table.{entries_of, queue_base_of, is_busy, is_on}
use Rattle.iom_regs.specs.declared.ring.Ring.{Ring}

abbrev pub with_base : ℕ → Ring → Ring
with_base value ring =
    if is_on ring.control || is_busy ring.control then ring
    else record ring {
      base = queue_base_of value;
      head = ring.head % entries_of value;
      tail = ring.tail % entries_of value;
    }
