-- The control and status registers after a write, bit by bit: "Command-queue control and status" and "Fault-queue control and
-- status".
use Rattle.std.specs.Prelude.{ℕ, Bool, ◌≡◌, ◌<◌, ◌^◌, ◌==◌, ◌||◌, if◌then◌else◌}
use Rattle.std.specs.Int.{bit_at}
use Rattle.iom_bits.specs.Bits.{field_of, flag}
use Rattle.iom_regs.specs.Table.{turns_on}

-- a flag: cleared if the write turns the queue on or has a 1 there, else as it was
abbrev pub flag_bit : ℕ → ℕ → ℕ → ℕ
flag_bit old value bit = if turns_on old value || bit_at value bit == 1 then 0 else bit_at old bit

-- whether a control and status register is on after a write: at once as it is enabled, with delays as it was
abbrev pub on_bit : Bool → ℕ → ℕ → ℕ
on_bit delays old value = if delays then bit_at old 16 else bit_at value 0

-- `new` is cqcsr after `value` was written over `old`, which wasn't busy
pub record IsCqcsr (delays : Bool) (old value new : ℕ) : Type 0 where
  pub cqen : bit_at new 0 ≡ bit_at value 0
  pub cie : bit_at new 1 ≡ bit_at value 1
  pub reserved_low : field_of new 2 6 ≡ 0
  pub cqmf : bit_at new 8 ≡ flag_bit old value 8
  pub cmd_to : bit_at new 9 ≡ flag_bit old value 9
  pub cmd_ill : bit_at new 10 ≡ flag_bit old value 10
  pub fence_w_ip : bit_at new 11 ≡ flag_bit old value 11
  pub reserved_middle : field_of new 12 4 ≡ 0
  pub cqon : bit_at new 16 ≡ on_bit delays old value
  pub busy : bit_at new 17 ≡ flag delays
  pub above : new < 2 ^ 18

-- `new` is fqcsr after `value` was written over `old`, which wasn't busy
pub record IsFqcsr (delays : Bool) (old value new : ℕ) : Type 0 where
  pub fqen : bit_at new 0 ≡ bit_at value 0
  pub fie : bit_at new 1 ≡ bit_at value 1
  pub reserved_low : field_of new 2 6 ≡ 0
  pub fqmf : bit_at new 8 ≡ flag_bit old value 8
  pub fqof : bit_at new 9 ≡ flag_bit old value 9
  pub reserved_middle : field_of new 10 6 ≡ 0
  pub fqon : bit_at new 16 ≡ on_bit delays old value
  pub busy : bit_at new 17 ≡ flag delays
  pub above : new < 2 ^ 18
