-- The way to a process context: RISC-V IOMMU Architecture 1.0, "Process to locate the Process-context".
use Rattle.std.specs.Prelude.{ℕ, zero, suc, ◌+◌, ◌-◌, ◌*◌, List, Option, Some, None, Result, Ok, Err, if◌then◌else◌}
use Rattle.iom_bits.specs.Bits.{field_of}
use Rattle.iom_bits.specs.declared.causes.Kind.TheVariants.{Read}
use Rattle.iom_bits.specs.Features.{Features}
use Rattle.iom_mem.specs.Memory.{Memory, word, words_at}
use Rattle.iom_ddt.specs.declared.context.Context.{Context}
use Rattle.iom_ddt.specs.declared.refusal.Refusal.{Refusal}
use Rattle.iom_ddt.specs.declared.refusal.Refusal.TheVariants as refusal
use Rattle.iom_ddt.specs.Refusals.{entry_refusal}
use Rattle.iom_walk.specs.Outcome.{outcome_of}
use Rattle.iom_walk.specs.Shape.{user_format}
use Rattle.iom_walk.specs.declared.outcome.Outcome.{Outcome}
use Rattle.iom_walk.specs.declared.outcome.Outcome.TheVariants as outcome
use Rattle.iom_walk.specs.declared.shape.Shape.{Shape}
use Rattle.iom_nested.specs.Stages.{ram_got, second_shape_of}
use Rattle.iom_pdt.specs.declared.context.ProcessFields.{ProcessFields}
use Rattle.iom_pdt.specs.declared.directory.ProcessDirectory.{ProcessDirectory}
use Rattle.iom_pdt.specs.declared.locating.Unlocated.{Unlocated}
use Rattle.iom_pdt.specs.declared.locating.Unlocated.TheVariants.{TooWide, SecondOutside, Guest, Refused}
use Rattle.iom_pdt.specs.Contexts.{context_in, unless}
use Rattle.iom_pdt.specs.Directories.{is_too_wide, levels_of, pdi}

-- The page of memory that has a table. Under a second stage the table's address is guest-physical, and that stage translates it as an
-- implicit read.
abbrev pub page_behind : ℕ → Outcome → Result ℕ Unlocated
page_behind table (outcome.Leaf leaf) = Ok leaf.frame
page_behind table outcome.Outside = Err SecondOutside
page_behind table (outcome.Guest place) = Err (Guest (table * 4096))
page_behind table outcome.Fault = Err (Guest (table * 4096))

abbrev pub page_by : Memory → Features → ℕ → ℕ → Option Shape → Result ℕ Unlocated
page_by memory features root table None = Ok table
page_by memory features root table (Some shape) =
    page_behind table (outcome_of (ram_got memory) (user_format shape features) root (table * 4096) Read)

abbrev pub page_of : Memory → Features → Context → ℕ → Result ℕ Unlocated
page_of memory features context table = page_by memory features context.gppn table (second_shape_of context)

abbrev pub refused : {X : Type 0} → Result X Refusal → Result X Unlocated
refused (Ok found) = Ok found
refused (Err why) = Err (Refused why)

-- the table that a non-leaf entry points to, by its PPN, bits 53:10
abbrev pub pointed_by : Option ℕ → Result ℕ Unlocated
pointed_by None = Err (Refused refusal.Outside)
pointed_by (Some entry) = refused (unless (entry_refusal entry) (field_of entry 10 44))

-- the context with these words
abbrev pub context_at : Features → Option (List ℕ) → Result ProcessFields Unlocated
context_at features None = Err (Refused refusal.Outside)
context_at features (Some words) = refused (context_in features words)

abbrev pub behind : Result ℕ Unlocated → (ℕ → Result ProcessFields Unlocated) → Result ProcessFields Unlocated
behind (Ok found) from = from found
behind (Err why) from = Err why

-- the way from a table on, with so many levels of tables below it: entries of 8 bytes, and contexts of 16 in the last table
abbrev pub located_from : Memory → Features → Context → ℕ → ℕ → ℕ → Result ProcessFields Unlocated
located_from memory features context id zero table =
    behind (page_of memory features context table) (λ page. context_at features (words_at memory (page * 4096 + pdi id 0 * 16) 2))
located_from memory features context id (suc level) table =
    behind (page_of memory features context table) (λ page.
    behind (pointed_by (word memory (page * 4096 + pdi id (suc level) * 8))) (located_from memory features context id level))

-- the context of a process id, or why there is none
unfoldable pub located : Memory → Features → Context → ProcessDirectory → ℕ → Result ProcessFields Unlocated
located memory features context directory id =
    if is_too_wide directory.depth id then Err TooWide
    else located_from memory features context id (levels_of directory.depth - 1) directory.root
