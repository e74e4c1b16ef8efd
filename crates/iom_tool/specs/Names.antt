-- The names of registers, in the standards' spelling, each with the offset and the size of its register, in bytes.
use Rattle.std.specs.Prelude.{ℕ, List, [], ◌∷◌, codes, bytes_eq, Option, Some, None, if◌then◌else◌}

pub record Register : Type 0 where
  pub name : List ℕ
  pub off : ℕ
  pub size : ℕ

abbrev pub register : List ℕ → ℕ → ℕ → Register
register name off size = record { name = name; off = off; size = size }

-- RISC-V IOMMU Architecture 1.0, "Memory-mapped register interface": the registers that this model has
unfoldable pub registers : List Register
registers =
    register (codes "capabilities") 0 8
    ∷ register (codes "fctl") 8 4
    ∷ register (codes "ddtp") 16 8
    ∷ register (codes "cqb") 24 8
    ∷ register (codes "cqh") 32 4
    ∷ register (codes "cqt") 36 4
    ∷ register (codes "fqb") 40 8
    ∷ register (codes "fqh") 48 4
    ∷ register (codes "fqt") 52 4
    ∷ register (codes "cqcsr") 72 4
    ∷ register (codes "fqcsr") 76 4
    ∷ register (codes "ipsr") 84 4
    ∷ register (codes "icvec") 760 8
    ∷ register (codes "msi_addr_0") 768 8
    ∷ register (codes "msi_data_0") 776 4
    ∷ register (codes "msi_vec_ctl_0") 780 4
    ∷ register (codes "msi_addr_1") 784 8
    ∷ register (codes "msi_data_1") 792 4
    ∷ register (codes "msi_vec_ctl_1") 796 4
    ∷ register (codes "msi_addr_2") 800 8
    ∷ register (codes "msi_data_2") 808 4
    ∷ register (codes "msi_vec_ctl_2") 812 4
    ∷ register (codes "msi_addr_3") 816 8
    ∷ register (codes "msi_data_3") 824 4
    ∷ register (codes "msi_vec_ctl_3") 828 4
    ∷ []

-- VIRTIO 1.2, "MMIO Device Register Layout"; from QueueNumMax on those of the queue that QueueSel names
unfoldable pub block_registers : List Register
block_registers =
    register (codes "MagicValue") 0x00 4
    ∷ register (codes "Version") 0x04 4
    ∷ register (codes "DeviceID") 0x08 4
    ∷ register (codes "VendorID") 0x0c 4
    ∷ register (codes "DeviceFeatures") 0x10 4
    ∷ register (codes "DeviceFeaturesSel") 0x14 4
    ∷ register (codes "DriverFeatures") 0x20 4
    ∷ register (codes "DriverFeaturesSel") 0x24 4
    ∷ register (codes "InterruptStatus") 0x60 4
    ∷ register (codes "InterruptACK") 0x64 4
    ∷ register (codes "Status") 0x70 4
    ∷ register (codes "ConfigGeneration") 0xfc 4
    ∷ register (codes "QueueSel") 0x30 4
    ∷ register (codes "QueueNumMax") 0x34 4
    ∷ register (codes "QueueNum") 0x38 4
    ∷ register (codes "QueueReady") 0x44 4
    ∷ register (codes "QueueNotify") 0x50 4
    ∷ register (codes "QueueDescLow") 0x80 4
    ∷ register (codes "QueueDescHigh") 0x84 4
    ∷ register (codes "QueueDriverLow") 0x90 4
    ∷ register (codes "QueueDriverHigh") 0x94 4
    ∷ register (codes "QueueDeviceLow") 0xa0 4
    ∷ register (codes "QueueDeviceHigh") 0xa4 4
    ∷ []

-- the register of a name
abbrev pub named_in : List Register → List ℕ → Option (ℕ × ℕ)
named_in [] name = None
named_in (register ∷ more) name = if bytes_eq name register.name then Some (register.off, register.size) else named_in more name
