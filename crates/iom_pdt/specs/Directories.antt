-- Process directories: RISC-V IOMMU Architecture 1.0, "Process-directory-table" and "Process to locate the Process-context".
use Rattle.std.specs.Prelude.{ℕ, zero, suc, ◌^◌, Bool, false, nat_le}
use Rattle.iom_bits.specs.Bits.{field_of}
use Rattle.iom_pdt.specs.declared.directory.Depth.{Depth}
use Rattle.iom_pdt.specs.declared.directory.Depth.TheVariants.{One, Two, Three}

-- the levels of tables: PD8 has one, PD17 two, PD20 three
abbrev pub levels_of : Depth → ℕ
levels_of One = 1
levels_of Two = 2
levels_of Three = 3

-- the parts of a process id: the index into the last table, and into those above it
abbrev pub pdi : ℕ → ℕ → ℕ
pdi id zero = field_of id 0 8
pdi id (suc zero) = field_of id 8 9
pdi id (suc (suc above)) = field_of id 17 3

-- an id that is wider than the mode supports: 8 bits with PD8, 17 with PD17, and 20, which every id has, with PD20
abbrev pub is_too_wide : Depth → ℕ → Bool
is_too_wide One id = nat_le (2 ^ 8) id
is_too_wide Two id = nat_le (2 ^ 17) id
is_too_wide Three id = false
