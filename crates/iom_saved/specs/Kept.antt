-- The facts that hold of what a running board holds. Words are those of such things alone.
use Rattle.std.specs.Prelude.{ℕ, ◌≡◌, ◌<◌, ◌≤◌, ◌^◌, true, List, length, get_or, Option, Some, None}
use Rattle.std.specs.List.{AllByRecursion}
use Rattle.iom_mem.specs.Memory.{Memory}
use Rattle.iom_mem.specs.Sizes.{IsLegal}
use Rattle.iom_messages.specs.Messages.{Messages, messages_room}
use Rattle.iom_messages.specs.declared.messages.Message.{Message}
use Rattle.iom_regs.specs.Sound.{IsSettled}
use Rattle.iom_regs.specs.Table.{Registers}
use Rattle.iom_ddt.specs.Contexts.{IsWellFormed}
use Rattle.iom_ddt.specs.declared.context.Context.{Context}
use Rattle.iom_nested.specs.declared.translation.Hit.{Hit}
use Rattle.iom_cache.specs.Index.{AreApart}
use Rattle.iom_cache.specs.declared.key.Key.{Key}
use Rattle.iom_virtq.specs.Chains.{DescriptorChain, is_chain}
use Rattle.iom_virtq.specs.declared.parts.ChainPart.{ChainPart}
use Rattle.iom_blk.specs.Device.{Device}
use Rattle.iom_blk.specs.Sound.{IsSound}
use Rattle.iom_blk.specs.declared.request.BlockRequest.{BlockRequest}
use Rattle.iom_blk.specs.declared.phase.Phase.{Phase}
use Rattle.iom_blk.specs.declared.phase.Phase.TheVariants as phase
use Rattle.iom_core.specs.State.{Board, context_room, device_id_end, most_devices, page_room}
use Rattle.iom_account.specs.Following.{HistoryView}
use Rattle.iom_saved.specs.Registers.{AreVectors}
use Rattle.iom_saved.specs.Whole.{IsWhole}

-- a place of the context cache: the id has 32 bits, the fields are well formed
abbrev pub IsContextPlace : Option (ℕ × Context) → Type 0
IsContextPlace None = Unit {0}
IsContextPlace (Some entry) = (entry.0 < 2 ^ 32) × IsWellFormed entry.1

pub record AreContexts (places : List (Option (ℕ × Context))) : Type 0 where
  pub few : length places ≤ context_room
  pub each : AllByRecursion IsContextPlace places

-- an id that there may be is below an end
abbrev pub IsIdBelow : ℕ → Option ℕ → Type 0
IsIdBelow end None = Unit {0}
IsIdBelow end (Some id) = id < end

pub record IsKey (key : Key) : Type 0 where
  pub did : key.did < 2 ^ 32
  pub pscid : IsIdBelow (2 ^ 32) key.pscid
  pub gscid : IsIdBelow (2 ^ 16) key.gscid

pub record IsHit (hit : Hit) : Type 0 where
  pub frame : hit.frame < 2 ^ 52
  pub level : hit.level < 5

-- a place of the translation cache
abbrev pub IsPagePlace : Option (Key × Hit) → Type 0
IsPagePlace None = Unit {0}
IsPagePlace (Some entry) = IsKey entry.0 × IsHit entry.1

-- no two live places have one key
pub record ArePages (places : List (Option (Key × Hit))) : Type 0 where
  pub few : length places ≤ page_room
  pub apart : AreApart places
  pub each : AllByRecursion IsPagePlace places

-- the value of a message has 32 bits
abbrev pub IsMessage : Message → Type 0
IsMessage message = message.value < 2 ^ 32

-- a message that there may be
abbrev pub IsMessageSeen : Option Message → Type 0
IsMessageSeen None = Unit {0}
IsMessageSeen (Some message) = IsMessage message

-- the count of all that were sent has 64 bits, and no more are kept than there is room for
pub record AreMessages (messages : Messages) : Type 0 where
  pub sent : messages.sent < 2 ^ 64
  pub few : length messages.kept ≤ messages_room
  pub each : AllByRecursion IsMessage messages.kept

-- the length of a part has 32 bits
abbrev pub IsPart : ChainPart → Type 0
IsPart part = part.len < 2 ^ 32

pub record IsChain (chain : DescriptorChain) : Type 0 where
  pub legal : is_chain chain.limit chain.parts ≡ true
  pub fit : AllByRecursion IsPart chain.parts

-- at most 16 bytes
pub record IsHeader (bytes : List ℕ) : Type 0 where
  pub few : length bytes ≤ 16
  pub small : (i : ℕ) → get_or bytes i 0 < 256

pub record IsRequest (request : BlockRequest) : Type 0 where
  pub chain : IsChain request.chain
  pub header : IsHeader request.header.items
  pub head : request.head < 2 ^ 16
  pub answer : request.answer < 2 ^ 8
  pub used_length : request.used_length < 2 ^ 32

-- the request that a device has
pub record IsRequestOf (d : Device) (request : BlockRequest) : Type 0 where
  pub chain : request.chain ≡ d.chain
  pub header : request.header.items ≡ d.header
  pub head : request.head ≡ d.head
  pub answer : request.answer ≡ d.answer
  pub used_length : request.used_length ≡ d.used_length

-- the index of a descriptor has 16 bits
abbrev pub IsPhase : Phase → Type 0
IsPhase phase.Index = Unit {0}
IsPhase phase.Ring = Unit {0}
IsPhase (phase.Descriptor at) = at < 2 ^ 16
IsPhase phase.Header = Unit {0}
IsPhase (phase.Data position) = Unit {0}
IsPhase phase.Status = Unit {0}
IsPhase phase.UsedId = Unit {0}
IsPhase phase.UsedLen = Unit {0}
IsPhase phase.UsedIdx = Unit {0}

-- the counters of requests have 16 bits, and what is under way is a request
pub record IsUnderWay (d : Device) : Type 0 where
  pub seen : d.seen < 2 ^ 16
  pub used : d.used < 2 ^ 16
  pub phase : IsPhase d.phase
  pub chain : IsChain d.chain
  pub header : IsHeader d.header
  pub head : d.head < 2 ^ 16
  pub answer : d.answer < 2 ^ 8
  pub used_length : d.used_length < 2 ^ 32

-- a block device, whose disk is whole words
pub record IsDevice (d : Device) : Type 0 where
  pub sound : IsSound d
  pub under_way : IsUnderWay d
  pub whole : IsWhole d.disk

-- a device behind its id, which has 24 bits
abbrev pub IsOwn : ℕ × Device → Type 0
IsOwn own = (own.0 < device_id_end) × IsDevice own.1

-- a device that there may be
abbrev pub IsDeviceIf : Option (ℕ × Device) → Type 0
IsDeviceIf None = Unit {0}
IsDeviceIf (Some own) = IsDevice own.1

pub record AreKept (devices : List (ℕ × Device)) : Type 0 where
  pub few : length devices ≤ most_devices
  pub each : AllByRecursion IsOwn devices

-- the registers are sound, an enabled interrupt is pending while one of its causes is set, and msi_data has 32 bits
pub record AreRegisters (r : Registers) : Type 0 where
  pub settled : IsSettled r
  pub vectors : AreVectors r.table

-- the registers are such; neither cache has too many places, and no two
-- live places of the translation cache have one key; no more messages are kept than there is room for; each block device is one
pub record IsBoard (board : Board) : Type 0 where
  pub registers : AreRegisters board.iommu.registers
  pub contexts : AreContexts board.iommu.contexts
  pub pages : ArePages board.iommu.pages
  pub messages : AreMessages board.messages
  pub devices : AreKept board.devices

-- a memory of a platform: a base and a size that there may be, and whole words
pub record IsMemory (memory : Memory) : Type 0 where
  pub legal : IsLegal memory
  pub whole : IsWhole memory.bytes

-- no more numbers than the caches have places
pub record IsHistory (history : HistoryView) : Type 0 where
  pub contexts : length history.contexts ≤ context_room
  pub walks : length history.walks ≤ page_room
  pub walk_contexts : length history.walk_contexts ≤ page_room
