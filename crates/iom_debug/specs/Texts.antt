-- The texts of answers.
use Rattle.std.specs.Prelude.{ℕ, ◌+◌, ◌*◌, ◌++◌, ◌==◌, nat_le, List, [], length, take, drop, codes, Option, Some, None, if◌then◌else◌}
use Rattle.hex.specs.Hex.{encode_lower}
use Rattle.iom_bits.specs.Bits.{flag}
use Rattle.iom_bits.specs.Causes.{cause_number}
use Rattle.iom_text.specs.Texts.{hexadecimal, numeral}
use Rattle.iom_regs.specs.Table.{Registers}
use Rattle.iom_regs.specs.Interrupts.{is_high}
use Rattle.iom_regs.specs.Views.{command_errors_of, fault_errors_of, queue_of}
use Rattle.iom_regs.specs.declared.views.Queue.{Queue}
use Rattle.iom_regs.specs.declared.views.Which.{Which}
use Rattle.iom_regs.specs.declared.views.Which.TheVariants.{Commands, Faults}
use Rattle.iom_virtq.specs.Bus.{Ask, Read, Write}
use Rattle.iom_virtq.specs.declared.parts.ChainFault.TheVariants as chain
use Rattle.iom_blk.specs.Device.{Device}
use Rattle.iom_blk.specs.Phases.{asks}
use Rattle.iom_blk.specs.declared.broken.Broken.{Broken}
use Rattle.iom_blk.specs.declared.broken.Broken.TheVariants as broke
use Rattle.iom_blk.specs.declared.phase.Phase.{Phase}
use Rattle.iom_blk.specs.declared.phase.Phase.TheVariants as phase
use Rattle.iom_core.specs.State.{disk_of}
use Rattle.iom_items.specs.Lines.{operand}

-- What stopped a queue. RISC-V IOMMU Architecture 1.0, "Command-queue CSR (cqcsr)": cmd_ill and cqmf; "Fault queue CSR (fqcsr)": fqof and
-- fqmf
unfoldable pub stop_text : Registers → Which → List ℕ
stop_text r Commands =
    if (command_errors_of r).illegal then codes "illegal"
    else if (command_errors_of r).memory_fault then codes "fault" else codes "none"
stop_text r Faults =
    if (fault_errors_of r).overflow then codes "full"
    else if (fault_errors_of r).memory_fault then codes "fault" else codes "none"

-- a queue by its registers; its base is a physical address
unfoldable pub view_text : Queue → List ℕ
view_text queue =
    codes "on=" ++ hexadecimal (flag queue.on) ++ operand (codes "base") (4096 * queue.base) ++ operand (codes "entries") queue.entries
    ++ operand (codes "head") queue.head ++ operand (codes "tail") queue.tail

abbrev pub queue_text : Registers → Which → List ℕ
queue_text r which = view_text (queue_of r which) ++ codes " stop=" ++ stop_text r which

-- the lines in a text, with a blank between two; line `vector` behind them where it is high
abbrev pub with_blank : List ℕ → List ℕ
with_blank text = if length text == 0 then text else text ++ codes " "

abbrev pub with_line : Registers → ℕ → List ℕ → List ℕ
with_line r vector text = if is_high r vector then with_blank text ++ hexadecimal vector else text

abbrev pub or_none : List ℕ → List ℕ
or_none text = if length text == 0 then codes "none" else text

-- the interrupt lines that are high: there are four at most
abbrev pub vectors_text : Registers → List ℕ
vectors_text r = or_none (with_line r 3 (with_line r 2 (with_line r 1 (with_line r 0 []))))

-- bytes, where all of them are there
abbrev pub bytes_text : Option (List ℕ) → List ℕ
bytes_text None = codes "outside"
bytes_text (Some bytes) = encode_lower bytes

-- so many bytes of a disk from byte `at` on; None: one of them is past its end
abbrev pub part_of : List ℕ → ℕ → ℕ → Option (List ℕ)
part_of disk at count = if nat_le (at + count) (length disk) then Some (take count (drop at disk)) else None

abbrev pub disk_text : Option (ℕ × Device) → ℕ → ℕ → List ℕ
disk_text None at count = codes "none"
disk_text (Some own) at count = bytes_text (part_of (disk_of own) at count)

-- what a block device's next access is for
unfoldable pub phase_text : Phase → List ℕ
phase_text phase.Index = codes "index"
phase_text phase.Ring = codes "ring"
phase_text (phase.Descriptor i) = codes "descriptor"
phase_text phase.Header = codes "header"
phase_text (phase.Data position) = codes "data"
phase_text phase.Status = codes "status"
phase_text phase.UsedId = codes "used-id"
phase_text phase.UsedLen = codes "used-len"
phase_text phase.UsedIdx = codes "used-idx"

-- the access itself, at an IOVA
abbrev pub ask_text : Option Ask → List ℕ
ask_text None = codes " next=none"
ask_text (Some (Read iova count)) = codes " next=read" ++ operand (codes "iova") iova ++ operand (codes "len") count
ask_text (Some (Write iova bytes)) =
    codes " next=write" ++ operand (codes "iova") iova ++ operand (codes "len") (length bytes)

-- the head of the request, and how many were taken and given back
abbrev pub counts_text : Device → List ℕ
counts_text device =
    operand (codes "head") device.head ++ operand (codes "seen") device.seen ++ operand (codes "used") device.used

-- what broke it
unfoldable pub reason_text : Broken → List ℕ
reason_text broke.IndexAhead = codes "index-ahead"
reason_text broke.BadHead = codes "bad-head"
reason_text (broke.Descriptor chain.Indirect) = codes "indirect"
reason_text (broke.Descriptor chain.ReadAfterWrite) = codes "readable-after-writable"
reason_text (broke.Descriptor chain.TooLong) = codes "loop"
reason_text (broke.Descriptor chain.BadNext) = codes "bad-next"
reason_text (broke.Descriptor chain.Wraps) = codes "wraps"
reason_text broke.ShortHeader = codes "short-header"
reason_text broke.NothingWritable = codes "nothing-writable"
reason_text (broke.Denied cause) = codes "denied"
reason_text broke.Outside = codes "bus-error"

-- of a denial its cause, and of a descriptor how many of its chain were taken before it
unfoldable pub detail_text : Device → Broken → List ℕ
detail_text device (broke.Denied cause) = codes " " ++ numeral 10 (cause_number cause)
detail_text device (broke.Descriptor fault) = operand (codes "after") (length device.chain.parts)
detail_text device broke.IndexAhead = []
detail_text device broke.BadHead = []
detail_text device broke.ShortHeader = []
detail_text device broke.NothingWritable = []
detail_text device broke.Outside = []

abbrev pub broken_text : Device → Option Broken → List ℕ
broken_text device None = []
broken_text device (Some reason) = codes " broken=" ++ reason_text reason ++ detail_text device reason

unfoldable pub blk_text : Device → List ℕ
blk_text device =
    codes " phase=" ++ phase_text device.phase ++ ask_text (asks device) ++ counts_text device ++ broken_text device device.broken

-- a block device, with its id
abbrev pub device_text : Option (ℕ × Device) → List ℕ
device_text None = codes "none"
device_text (Some own) = codes "did=" ++ hexadecimal own.0 ++ blk_text own.1
