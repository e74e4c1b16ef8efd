-- Where the way to a process context ends before its last table.
use Rattle.std.proofs.Common.{◌≡◌, ◌+◌, ◌-◌, ◌*◌, ◌≤◌, ◌∙◌, ℕ, zero, suc, false, Ok, Err, refl, sym, arith}
use Rattle.iom_bits.specs.Features.{Features}
use Rattle.iom_mem.specs.Memory.{Memory, word}
use Rattle.iom_ddt.specs.declared.context.Context.{Context}
use Rattle.iom_pdt.specs.declared.directory.ProcessDirectory.{ProcessDirectory}
use Rattle.iom_pdt.specs.declared.locating.Unlocated.{Unlocated}
use Rattle.iom_pdt.specs.Directories.{is_too_wide, levels_of, pdi}
use Rattle.iom_pdt.specs.Located.{located, located_from, page_of, pointed_by}

-- the way from a table on is the whole way
abbrev pub IsWhole : Memory → Features → Context → ProcessDirectory → ℕ → ℕ → ℕ → Type 0
IsWhole memory features context directory id level table =
    located_from memory features context id level table
    ≡ located_from memory features context id (levels_of directory.depth - 1) directory.root

whole : (memory : Memory) (features : Features) (context : Context) (directory : ProcessDirectory) (id level table : ℕ) →
    is_too_wide directory.depth id ≡ false → IsWhole memory features context directory id level table →
    located memory features context directory id ≡ located_from memory features context id level table
unfolding located
whole memory features context directory id level table fits is = rw fits (sym is)

page_ends : (memory : Memory) (features : Features) (context : Context) (id level table : ℕ) (why : Unlocated) →
    page_of memory features context table ≡ Err why → located_from memory features context id level table ≡ Err why
page_ends memory features context id zero table why is = rw is refl
page_ends memory features context id (suc level) table why is = rw is refl

entry_ends : (memory : Memory) (features : Features) (context : Context) (id level table page : ℕ) (why : Unlocated) → 1 ≤ level →
    page_of memory features context table ≡ Ok page → pointed_by (word memory (page * 4096 + pdi id level * 8)) ≡ Err why →
    located_from memory features context id level table ≡ Err why
entry_ends memory features context id zero table page why some found is = absurd (omega (arith, some))
entry_ends memory features context id (suc level) table page why some found is = rw (found, is) refl

-- at a table whose page isn't reached
pub no_page : (memory : Memory) (features : Features) (context : Context) (directory : ProcessDirectory) (id level table : ℕ) (why : Unlocated) →
    is_too_wide directory.depth id ≡ false → IsWhole memory features context directory id level table →
    page_of memory features context table ≡ Err why → Err why ≡ located memory features context directory id
no_page memory features context directory id level table why fits is isnt =
    sym (whole memory features context directory id level table fits is ∙ page_ends memory features context id level table why isnt)

-- at an entry that points to no table
pub no_table : (memory : Memory) (features : Features) (context : Context) (directory : ProcessDirectory) (id level table page : ℕ) (why : Unlocated) →
    is_too_wide directory.depth id ≡ false → IsWhole memory features context directory id level table → 1 ≤ level →
    page_of memory features context table ≡ Ok page → pointed_by (word memory (page * 4096 + pdi id level * 8)) ≡ Err why →
    Err why ≡ located memory features context directory id
no_table memory features context directory id level table page why fits is some found isnt =
    sym (whole memory features context directory id level table fits is ∙ entry_ends memory features context id level table page why some found isnt)
