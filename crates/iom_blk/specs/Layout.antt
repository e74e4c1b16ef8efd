-- The offsets of the registers, in bytes from the first one: VIRTIO 1.2, "MMIO Device Register Layout". Each has four bytes, except
-- the configuration, which begins at its offset.
use Rattle.std.specs.Prelude.{ℕ}

pub data Register : Type 0 where
  MagicValue : Register
  Version : Register
  DeviceID : Register
  VendorID : Register
  DeviceFeatures : Register
  DeviceFeaturesSel : Register
  DriverFeatures : Register
  DriverFeaturesSel : Register
  QueueSel : Register
  QueueNumMax : Register
  QueueNum : Register
  QueueReady : Register
  QueueNotify : Register
  InterruptStatus : Register
  InterruptACK : Register
  Status : Register
  QueueDescLow : Register
  QueueDescHigh : Register
  QueueDriverLow : Register
  QueueDriverHigh : Register
  QueueDeviceLow : Register
  QueueDeviceHigh : Register
  SHMLenLow : Register
  SHMLenHigh : Register
  SHMBaseLow : Register
  SHMBaseHigh : Register
  ConfigGeneration : Register
  Configuration : Register

abbrev pub offset_of : Register → ℕ
offset_of MagicValue = 0x000
offset_of Version = 0x004
offset_of DeviceID = 0x008
offset_of VendorID = 0x00c
offset_of DeviceFeatures = 0x010
offset_of DeviceFeaturesSel = 0x014
offset_of DriverFeatures = 0x020
offset_of DriverFeaturesSel = 0x024
offset_of QueueSel = 0x030
offset_of QueueNumMax = 0x034
offset_of QueueNum = 0x038
offset_of QueueReady = 0x044
offset_of QueueNotify = 0x050
offset_of InterruptStatus = 0x060
offset_of InterruptACK = 0x064
offset_of Status = 0x070
offset_of QueueDescLow = 0x080
offset_of QueueDescHigh = 0x084
offset_of QueueDriverLow = 0x090
offset_of QueueDriverHigh = 0x094
offset_of QueueDeviceLow = 0x0a0
offset_of QueueDeviceHigh = 0x0a4
offset_of SHMLenLow = 0x0b0
offset_of SHMLenHigh = 0x0b4
offset_of SHMBaseLow = 0x0b8
offset_of SHMBaseHigh = 0x0bc
offset_of ConfigGeneration = 0x0fc
offset_of Configuration = 0x100
