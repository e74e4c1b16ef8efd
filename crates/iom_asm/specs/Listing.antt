-- The lines of items that stand one after the other, on a machine with some features.
use Rattle.std.specs.Prelude.{ℕ, zero, suc, ◌≡◌, ◌+◌, ◌*◌, ◌++◌, List, [], ◌∷◌, Option, Some, Result, Ok, Err}
use Rattle.std.specs.Prelude.{String}
use Rattle.std.specs.Global.{Global}
use Rattle.std.specs.String.{string_bytes}
use Rattle.iom_bits.specs.Features.{Features}
use Rattle.iom_ddt.specs.Formats.{context_format}
use Rattle.iom_mem.specs.Memory.{Memory}
use Rattle.iom_items.specs.declared.item.Item.{Item}
use Rattle.iom_asm.specs.declared.list_fault.ListFault.{ListFault}
use Rattle.iom_asm.specs.declared.list_fault.ListFault.TheVariants as listing
use Rattle.iom_items.specs.Items.{words_in}
use Rattle.iom_items.specs.Lines.{item_line_on}
use Rattle.iom_items.specs.Operands.{◌>>=◌}

-- the lines of `count` items from a physical address on, each with its line end; None: a byte of them is outside
unfoldable pub listed : Memory → Features → Item → ℕ → ℕ → Option (List ℕ)
listed memory features item addr zero = Some []
listed memory features item addr (suc count) = do
  line ← item_line_on memory features item addr
  others ← listed memory features item (addr + 8 * words_in (context_format features) item) count
  Some ((line ++ 10 ∷ []) ++ others)

-- a listing is this text, or there was no memory for it
abbrev pub Lists : Result (String Global) ListFault → List ℕ → Type 0
Lists (Ok text) lines = string_bytes text ≡ lines
Lists (Err fault) lines = fault ≡ listing.OutOfMemory
