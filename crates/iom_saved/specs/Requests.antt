-- The words of a block device's request: VIRTIO 1.2, "Split Virtqueues", "Block Device".
use Rattle.std.specs.Prelude.{ℕ, List, [], ◌∷◌, ◌++◌, length, Option, Some, None}
use Rattle.std.specs.List.{flat_map}
use Rattle.iom_bits.specs.Causes.{cause_number}
use Rattle.iom_saved.specs.Histories.{number_words}
use Rattle.iom_virtq.specs.Chains.{DescriptorChain}
use Rattle.iom_virtq.specs.declared.parts.ChainFault.{ChainFault}
use Rattle.iom_virtq.specs.declared.parts.ChainFault.TheVariants as fault
use Rattle.iom_virtq.specs.declared.parts.ChainPart.{ChainPart}
use Rattle.iom_virtq.specs.declared.parts.Side.{Side}
use Rattle.iom_virtq.specs.declared.parts.Side.TheVariants as side
use Rattle.iom_blk.specs.declared.broken.Broken.{Broken}
use Rattle.iom_blk.specs.declared.broken.Broken.TheVariants as broken
use Rattle.iom_blk.specs.declared.request.BlockRequest.{BlockRequest}
use Rattle.iom_blk.specs.declared.phase.Phase.{Phase}
use Rattle.iom_blk.specs.declared.phase.Phase.TheVariants as phase

abbrev pub side_word : Side → ℕ
side_word side.Readable = 0
side_word side.Writable = 1

-- a part of a chain ("The Virtqueue Descriptor Table")
abbrev pub part_words : ChainPart → List ℕ
part_words part = side_word part.side ∷ part.addr ∷ part.len ∷ []

-- the queue's size, and how many parts there are, and these
abbrev pub chain_words : DescriptorChain → List ℕ
chain_words chain = chain.limit ∷ length chain.parts ∷ flat_map part_words chain.parts

-- a request as far as it was read, and its result
abbrev pub request_words : BlockRequest → List ℕ
request_words request = chain_words request.chain
    ++ (number_words request.header.items ++ (request.head ∷ request.answer ∷ request.used_length ∷ []))

-- the number of the next access's purpose, and the index or the position that goes with it
abbrev pub phase_words : Phase → List ℕ
phase_words phase.Index = 0 ∷ 0 ∷ []
phase_words phase.Ring = 1 ∷ 0 ∷ []
phase_words (phase.Descriptor at) = 2 ∷ at ∷ []
phase_words phase.Header = 3 ∷ 0 ∷ []
phase_words (phase.Data position) = 4 ∷ position ∷ []
phase_words phase.Status = 5 ∷ 0 ∷ []
phase_words phase.UsedId = 6 ∷ 0 ∷ []
phase_words phase.UsedLen = 7 ∷ 0 ∷ []
phase_words phase.UsedIdx = 8 ∷ 0 ∷ []

abbrev pub fault_word : ChainFault → ℕ
fault_word fault.Indirect = 0
fault_word fault.ReadAfterWrite = 1
fault_word fault.TooLong = 2
fault_word fault.BadNext = 3
fault_word fault.Wraps = 4

-- the number of the reason for which a device broke, and what goes with it ("Device Status Field")
abbrev pub broken_words : Option Broken → List ℕ
broken_words None = 0 ∷ 0 ∷ []
broken_words (Some broken.IndexAhead) = 1 ∷ 0 ∷ []
broken_words (Some broken.BadHead) = 2 ∷ 0 ∷ []
broken_words (Some (broken.Descriptor why)) = 3 ∷ fault_word why ∷ []
broken_words (Some broken.ShortHeader) = 4 ∷ 0 ∷ []
broken_words (Some broken.NothingWritable) = 5 ∷ 0 ∷ []
broken_words (Some (broken.Denied cause)) = 6 ∷ cause_number cause ∷ []
broken_words (Some broken.Outside) = 7 ∷ 0 ∷ []
