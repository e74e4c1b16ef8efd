-- A step of the command unit: RISC-V IOMMU Architecture 1.0, "Command-Queue (CQ)". It takes one command and carries it out
-- whole.
use Rattle.std.specs.Prelude.{Bool, true, false, Option, Some, None, if◌then◌else◌}
use Rattle.iom_bits.specs.Bytes.{bytes_of_number}
use Rattle.iom_mem.specs.Memory.{Memory}
use Rattle.iom_messages.specs.Messages.{Messages, can_put, memory_put, messages_put}
use Rattle.iom_regs.specs.Table.{Registers}
use Rattle.iom_regs.specs.Queues.{command_passed, with_cqmf, with_cmd_ill, with_fence}
use Rattle.iom_queue.specs.Fetching.{fetch_of}
use Rattle.iom_queue.specs.declared.command.Command.{Command}
use Rattle.iom_queue.specs.declared.command.Command.TheVariants.{Vma, Gvma, Fence, Iodir}
use Rattle.iom_queue.specs.declared.fetch.Fetch.{Fetch}
use Rattle.iom_queue.specs.declared.fetch.Fetch.TheVariants as fetch
use Rattle.iom_cache.specs.Drops.{drops_page, drops_context}
use Rattle.iom_cache.specs.Places.{emptied_by}
use Rattle.iom_core.specs.State.{Iommu, Machine}

-- what the command unit finds
abbrev pub fetched : Machine → Fetch
fetched m = fetch_of m.registers m.memory

-- whether there is a command to take, also where its memory can't be read
abbrev pub is_taken : Fetch → Bool
is_taken fetch.Idle = false
is_taken fetch.Fault = true
is_taken fetch.Illegal = true
is_taken (fetch.Ready command) = true

-- a fence with AV stores DATA in four bytes, or sends it as a message: it can't be executed where it can do neither
abbrev pub can_execute : Memory → Messages → Command → Bool
can_execute memory messages (Fence true wsi pr pw value addr) = can_put memory messages addr (bytes_of_number 4 value)
can_execute memory messages _ = true

-- the command that is executed, where there is one
abbrev pub executed_of : Memory → Messages → Fetch → Option Command
executed_of memory messages fetch.Idle = None
executed_of memory messages fetch.Fault = None
executed_of memory messages fetch.Illegal = None
executed_of memory messages (fetch.Ready command) = if can_execute memory messages command then Some command else None

unfoldable pub executed_by : Machine → Messages → Option Command
executed_by m messages = executed_of m.memory messages (fetched m)

-- a fence's store, or its message
abbrev pub memory_after : Command → Memory → Memory
memory_after (Fence true wsi pr pw value addr) memory = memory_put memory addr (bytes_of_number 4 value)
memory_after _ memory = memory

abbrev pub messages_after : Command → Memory → Messages → Messages
messages_after (Fence true wsi pr pw value addr) memory messages = messages_put memory messages addr (bytes_of_number 4 value)
messages_after _ memory messages = messages

-- a fence with WSI sets fence_w_ip
abbrev pub fenced : Command → Registers → Registers
fenced (Fence av true pr pw value addr) registers = with_fence registers
fenced _ registers = registers

abbrev pub after_fence : Machine → Command → Machine
after_fence m command = record m { memory = memory_after command m.memory; registers = fenced command m.registers }

abbrev pub memory_left : Memory → Option Command → Memory
memory_left memory None = memory
memory_left memory (Some command) = memory_after command memory

abbrev pub messages_left : Memory → Messages → Option Command → Messages
messages_left memory messages None = messages
messages_left memory messages (Some command) = messages_after command memory messages

-- the commands that drop translations, and those that drop contexts
abbrev pub is_for_pages : Command → Bool
is_for_pages (Vma av page pscv pscid gv gscid nl s) = true
is_for_pages (Gvma av page pscid gv gscid nl s) = true
is_for_pages _ = false

abbrev pub is_for_contexts : Command → Bool
is_for_contexts (Iodir dv did) = true
is_for_contexts _ = false

-- each cache loses the places that the command drops
abbrev pub without_dropped : Iommu → Option Command → Iommu
without_dropped iommu command = record iommu {
  contexts = emptied_by drops_context command iommu.contexts;
  pages = emptied_by drops_page command iommu.pages;
}

-- where no command is executed: the queue's memory could not be read, or a fence's not be written, or the command is illegal
abbrev pub stopped : Fetch → Registers → Registers
stopped fetch.Idle registers = registers
stopped fetch.Fault registers = with_cqmf registers
stopped fetch.Illegal registers = with_cmd_ill registers
stopped (fetch.Ready command) registers = with_cqmf registers

-- the head goes on behind a command that is executed, and behind no other
abbrev pub registers_after : Fetch → Option Command → Registers → Registers
registers_after found None registers = stopped found registers
registers_after found (Some command) registers = command_passed (fenced command registers)

-- what a command step leaves, by what it found and what of that it executes; each cache loses the places that the command drops
abbrev pub left_by : Machine → Fetch → Option Command → Machine
left_by m found command = record {
  memory = memory_left m.memory command;
  registers = registers_after found command m.registers;
  contexts = emptied_by drops_context command m.contexts;
  pages = emptied_by drops_page command m.pages;
}

unfoldable pub after_command : Machine → Messages → Machine
after_command m messages = left_by m (fetched m) (executed_by m messages)

unfoldable pub messages_after_command : Machine → Messages → Messages
messages_after_command m messages = messages_left m.memory messages (executed_by m messages)
