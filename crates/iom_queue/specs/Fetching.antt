-- Which command comes next: RISC-V IOMMU Architecture 1.0, "Command-Queue (CQ)" and "Command-queue control and status"
-- and "IOMMU Command-queue Fence commands".
use Rattle.std.specs.Prelude.{ℕ, ◌≡◌, ◌≢◌, ◌+◌, ◌*◌, ◌==◌, ◌&&◌, ◌||◌, Bool, true, false, not, List, Option, Some, None, IsSome, if◌then◌else◌}
use Rattle.iom_bits.specs.Bits.{has_bit, field_of}
use Rattle.iom_mem.specs.Memory.{Memory, words_at}
use Rattle.iom_regs.specs.Interrupts.{is_wired}
use Rattle.iom_regs.specs.Table.{Registers, is_on}
use Rattle.iom_queue.specs.Commands.{CommandFits, is_offered, command_words, command_of}
use Rattle.iom_queue.specs.declared.command.Command.{Command}
use Rattle.iom_queue.specs.declared.command.Command.TheVariants.{Vma, Gvma, Fence, Iodir}
use Rattle.iom_queue.specs.declared.fetch.Fetch.{Fetch}
use Rattle.iom_queue.specs.declared.fetch.Fetch.TheVariants.{Idle, Fault, Illegal, Ready}

-- the queue is off, cqmf (8) or cmd_ill (10) stands, or it is empty; fence_w_ip stops nothing
abbrev pub is_idle : Registers → Bool
is_idle registers =
    not (is_on registers.cqcsr) || has_bit registers.cqcsr 8 || has_bit registers.cqcsr 10 || registers.cqh == registers.cqt

-- the physical address of the command at the head: the queue begins at a page's start, a command has 16 bytes
abbrev pub command_addr : Registers → ℕ
command_addr registers = field_of registers.cqb 10 44 * 4096 + registers.cqh * 16

-- the two words there; None: a byte of them is outside memory
abbrev pub words_at_head : Registers → Memory → Option (List ℕ)
words_at_head registers memory = words_at memory (command_addr registers) 2

-- WSI of an IOFENCE.C asks for an interrupt by wire: where interrupts are messages it is illegal
abbrev pub is_wired_command : Registers → Command → Bool
is_wired_command registers (Fence av wsi pr pw value addr) = is_wired registers || not wsi
is_wired_command registers (Vma av page pscv pscid gv gscid nl s) = true
is_wired_command registers (Gvma av page pscid gv gscid nl s) = true
is_wired_command registers (Iodir dv did) = true

-- the IOMMU offers the command, as its registers are
abbrev pub is_legal : Registers → Command → Bool
is_legal registers command = is_offered registers.features command && is_wired_command registers command

-- words that stand for no command, or for one that isn't legal, are illegal
abbrev pub fetched_command : Registers → Option Command → Fetch
fetched_command registers (Some command) = if is_legal registers command then Ready command else Illegal
fetched_command registers None = Illegal

-- words outside memory are a fault of the queue
abbrev pub fetched : Registers → Option (List ℕ) → Fetch
fetched registers (Some words) = fetched_command registers (command_of words)
fetched registers None = Fault

-- what the command unit finds
unfoldable pub fetch_of : Registers → Memory → Fetch
fetch_of registers memory = if is_idle registers then Idle else fetched registers (words_at_head registers memory)

-- the words are those of no command that is legal
abbrev pub IsIllegal : Registers → Option (List ℕ) → Type 0
IsIllegal registers words =
    (command : Command) → CommandFits command → is_legal registers command ≡ true → words ≢ Some (command_words command)

-- what the command unit finds, without a decoder: by the words at the head, and the command that has these words
abbrev pub IsFetch : Registers → Memory → Fetch → Type 0
IsFetch registers memory Idle = is_idle registers ≡ true
IsFetch registers memory Fault =
    (is_idle registers ≡ false) × (words_at_head registers memory ≡ None)
IsFetch registers memory Illegal =
    (is_idle registers ≡ false) × IsSome (words_at_head registers memory)
    × IsIllegal registers (words_at_head registers memory)
IsFetch registers memory (Ready command) =
    (is_idle registers ≡ false) × CommandFits command × (is_legal registers command ≡ true)
    × (words_at_head registers memory ≡ Some (command_words command))
