-- The register table: VIRTIO 1.2, "MMIO Device Register Layout"; from 0x100 on "Device configuration layout" of "Block Device". A
-- register that is not named here reads 0 and ignores writes.
use Rattle.std.specs.Prelude.{ℕ, ◌+◌, ◌-◌, ◌*◌, ◌%◌, ◌^◌, ◌==◌, ◌&&◌, ◌||◌, Bool, true, false, not, Option, Some, None, nat_le, nat_lt, if◌then◌else◌}
use Rattle.iom_bits.specs.Bits.{has_bit, field_of, with_field_of}
use Rattle.iom_blk.specs.declared.phase.Phase.TheVariants as phase
use Rattle.iom_blk.specs.Device.{Device, at_reset, sectors}

-- "Feature bits": VIRTIO_BLK_F_FLUSH, bit 9, and of a read-only disk VIRTIO_BLK_F_RO, bit 5; "Reserved Feature Bits":
-- VIRTIO_F_VERSION_1, bit 32, VIRTIO_F_ACCESS_PLATFORM, bit 33
abbrev pub offered : Bool → ℕ → ℕ
offered read_only sel = if sel == 0 then (if read_only then 0x220 else 0x200) else if sel == 1 then 3 else 0

-- whether bits 32 and 33 are accepted, and no bit that is not offered
unfoldable pub is_accepted : Bool → ℕ → Bool
is_accepted read_only features =
    field_of features 0 5 == 0 && (read_only || not (has_bit features 5)) && field_of features 6 3 == 0
    && field_of features 10 22 == 0 && field_of features 32 32 == 3

-- the value of four bytes below 0x100
unfoldable pub read_value : Device → ℕ → ℕ
read_value d off =
    if off == 0x00 then 0x74726976  -- MagicValue
    else if off == 0x04 then 2  -- Version
    else if off == 0x08 then 2  -- DeviceID: block device
    else if off == 0x10 then offered d.read_only d.features_sel  -- DeviceFeatures
    else if off == 0x34 then (if d.queue_sel == 0 then 64 else 0)  -- QueueNumMax
    else if off == 0x44 then (if d.queue_sel == 0 && d.ready then 1 else 0)  -- QueueReady
    else if off == 0x60 then d.interrupts  -- InterruptStatus
    else if off == 0x70 then d.status  -- Status
    else if off == 0xb0 then 0xffffffff  -- SHMLenLow, SHMLenHigh, SHMBaseLow, SHMBaseHigh: no region
    else if off == 0xb4 then 0xffffffff
    else if off == 0xb8 then 0xffffffff
    else if off == 0xbc then 0xffffffff
    else 0

-- capacity, the first eight bytes of the configuration, in sectors of 512 bytes
unfoldable pub configured : Device → ℕ → ℕ → ℕ
configured d off size =
    if nat_lt off 0x108 then field_of (sectors d.disk) (8 * (off - 0x100)) (8 * size) else 0

-- an access: four aligned bytes below 0x100; one, two or four aligned ones from there to 0xfff
unfoldable pub is_legal : ℕ → ℕ → Bool
is_legal off size =
    (size == 4 || ((size == 1 || size == 2) && nat_le 0x100 off)) && off % size == 0 && nat_lt off 0x1000

-- None: the access is not legal
unfoldable pub read : Device → ℕ → ℕ → Option ℕ
read d off size =
    if is_legal off size then Some (if nat_lt off 0x100 then read_value d off else configured d off size) else None

-- the registers of a queue are those of queue 0, while it is not ready
abbrev pub is_free : Device → Bool
is_free d = d.queue_sel == 0 && not d.ready

-- "The Virtqueue Descriptor Table" and the rings: a size that is a power of two up to 64, and three aligned areas below 2^64
unfoldable pub is_power : ℕ → Bool
is_power size = size == 1 || size == 2 || size == 4 || size == 8 || size == 16 || size == 32 || size == 64

unfoldable pub is_queue : Device → Bool
is_queue d =
    is_power d.size && d.desc % 16 == 0 && d.avail % 2 == 0 && d.used_ring % 4 == 0 && nat_le (d.desc + 16 * d.size) (2 ^ 64)
    && nat_le (d.avail + (4 + 2 * d.size)) (2 ^ 64) && nat_le (d.used_ring + (4 + 8 * d.size)) (2 ^ 64)

-- QueueReady: bit 0 makes the queue ready if it may be; without it a request that is under way is abandoned
unfoldable pub with_ready : Device → Bool → Device
with_ready d true = if is_queue d then record d { ready = true } else d
with_ready d false = record d { ready = false; phase = phase.Index; seen = 0; used = 0 }

-- DriverFeatures: sets a half of the features, while FEATURES_OK is not set
unfoldable pub accepting : Device → ℕ → Device
accepting d value =
    if has_bit d.status 3 then d
    else if d.driver_sel == 0 then record d { features = with_field_of d.features 0 32 value }
    else if d.driver_sel == 1 then record d { features = with_field_of d.features 32 32 value }
    else d

-- "Device Status Field": ACKNOWLEDGE, DRIVER and DRIVER_OK, bits 2:0, and FAILED, bit 7, are as written; FEATURES_OK, bit 3, only
-- if the features are accepted; DEVICE_NEEDS_RESET, bit 6, stays
unfoldable pub status_after : Bool → ℕ → ℕ → ℕ → ℕ
status_after read_only status features value =
    field_of value 0 3 + (if has_bit value 3 && is_accepted read_only features then 8 else 0) + 64 * field_of status 6 1
    + 128 * field_of value 7 1

-- the value 0 resets all but the disk
unfoldable pub with_status : Device → ℕ → Device
with_status d value =
    if value == 0 then at_reset d.disk d.read_only
    else record d { status = status_after d.read_only d.status d.features value }

-- InterruptACK: a written 1 clears each of the two bits of InterruptStatus
unfoldable pub acknowledged : ℕ → ℕ → ℕ
acknowledged interrupts value =
    (if has_bit value 0 then 0 else field_of interrupts 0 1) + 2 * (if has_bit value 1 then 0 else field_of interrupts 1 1)

-- QueueNum; QueueDescLow and QueueDescHigh; QueueDriverLow and QueueDriverHigh, the available ring; QueueDeviceLow and
-- QueueDeviceHigh, the used ring
unfoldable pub with_queue : Device → ℕ → ℕ → Device
with_queue d off value =
    if off == 0x38 then record d { size = value }
    else if off == 0x80 then record d { desc = with_field_of d.desc 0 32 value }
    else if off == 0x84 then record d { desc = with_field_of d.desc 32 32 value }
    else if off == 0x90 then record d { avail = with_field_of d.avail 0 32 value }
    else if off == 0x94 then record d { avail = with_field_of d.avail 32 32 value }
    else if off == 0xa0 then record d { used_ring = with_field_of d.used_ring 0 32 value }
    else if off == 0xa4 then record d { used_ring = with_field_of d.used_ring 32 32 value }
    else d

-- the device after a write of four bytes
unfoldable pub with_write : Device → ℕ → ℕ → Device
with_write d off value =
    if nat_le 0x100 off then d  -- the configuration
    else if off == 0x14 then record d { features_sel = value }  -- DeviceFeaturesSel
    else if off == 0x20 then accepting d value  -- DriverFeatures
    else if off == 0x24 then record d { driver_sel = value }  -- DriverFeaturesSel
    else if off == 0x30 then record d { queue_sel = value }  -- QueueSel
    else if off == 0x44 then (if d.queue_sel == 0 then with_ready d (has_bit value 0) else d)  -- QueueReady
    else if off == 0x50 then (if value == 0 then record d { pending = true } else d)  -- QueueNotify
    else if off == 0x64 then record d { interrupts = acknowledged d.interrupts value }  -- InterruptACK
    else if off == 0x70 then with_status d value  -- Status
    else if is_free d then with_queue d off value
    else d
