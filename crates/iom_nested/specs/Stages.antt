-- The two stages of a context, and what stands at an address of each: RISC-V IOMMU Architecture 1.0, "Process to translate
-- an IOVA"; RISC-V Privileged Architecture 1.12, "Two-Stage Address Translation".
use Rattle.std.specs.Prelude.{ℕ, ◌+◌, ◌*◌, ◌%◌, ◌==◌, Option, Some, None, if◌then◌else◌}
use Rattle.iom_bits.specs.declared.causes.Kind.TheVariants.{Read}
use Rattle.iom_bits.specs.Features.{Features}
use Rattle.iom_mem.specs.Memory.{Memory, word}
use Rattle.iom_ddt.specs.declared.context.Context.{Context}
use Rattle.iom_walk.specs.Outcome.{outcome_of}
use Rattle.iom_walk.specs.Shape.{user_format}
use Rattle.iom_walk.specs.declared.source.Got.{Got}
use Rattle.iom_walk.specs.declared.source.Got.TheVariants as got
use Rattle.iom_walk.specs.declared.shape.Format.{Format}
use Rattle.iom_walk.specs.declared.shape.Shape.{Shape}
use Rattle.iom_walk.specs.declared.shape.Shape.TheVariants.{Sv39, Sv39x4, Sv48, Sv48x4, Sv57, Sv57x4}
use Rattle.iom_walk.specs.declared.outcome.Outcome.{Outcome}
use Rattle.iom_walk.specs.declared.outcome.Outcome.TheVariants as outcome

-- The shape of a stage's tables, by its mode: that of mode 8, of mode 9 or of mode 10, which are all but 0 that a well-formed
-- context has. None: the stage is Bare, which mode 0 alone says.
abbrev pub shape_by : ℕ → Shape → Shape → Shape → Option Shape
shape_by mode eight nine ten =
    if mode == 0 then None else if mode == 8 then Some eight else if mode == 9 then Some nine else Some ten

-- the first stage's mode is that of fsc
abbrev pub first_shape_of : Context → Option Shape
first_shape_of context = shape_by context.mode Sv39 Sv48 Sv57

-- the second stage's is that of iohgatp
abbrev pub second_shape_of : Context → Option Shape
second_shape_of context = shape_by context.gmode Sv39x4 Sv48x4 Sv57x4

-- the format of tables of some shape: each access is one of user mode
abbrev pub format_of : Features → Shape → Format
format_of features shape = user_format shape features

-- what memory has at a physical address
abbrev pub got_word : Option ℕ → Got
got_word (Some word) = got.Word word
got_word None = got.Outside

abbrev pub ram_got : Memory → ℕ → Got
ram_got memory addr = got_word (word memory addr)

-- what a guest has at an address of its own: memory, behind the second stage's translation of that address for a read
abbrev pub got_behind : Memory → ℕ → Outcome → Got
got_behind memory addr (outcome.Leaf leaf) = ram_got memory (leaf.frame * 4096 + addr % 4096)
got_behind memory addr outcome.Outside = got.Outside
got_behind memory addr (outcome.Guest place) = got.Guest
got_behind memory addr outcome.Fault = got.Guest

abbrev pub guest_got : Memory → Format → ℕ → ℕ → Got
guest_got memory format root addr = got_behind memory addr (outcome_of (ram_got memory) format root addr Read)

-- where the first stage's tables stand: in a guest's memory, or in memory itself under a Bare second stage
abbrev pub table_got_by : Memory → Features → ℕ → Option Shape → ℕ → Got
table_got_by memory features root (Some shape) = guest_got memory (format_of features shape) root
table_got_by memory features root None = ram_got memory

abbrev pub table_got : Memory → Features → Context → ℕ → Got
table_got memory features context = table_got_by memory features context.gppn (second_shape_of context)
