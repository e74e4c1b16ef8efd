-- Addresses of one page have one hit.
use Rattle.std.proofs.Common.{◌≡◌, ◌+◌, ◌*◌, ◌/◌, ◌%◌, ℕ, Bool, Option, Some, None, Result, Ok, Err, true, false, refl, ap, subst, arith, ◌==◌, ◌&&◌, bit_or}
use Rattle.iom_bits.specs.declared.causes.Kind.{Kind}
use Rattle.iom_bits.specs.Features.{Features}
use Rattle.iom_mem.specs.Memory.{Memory}
use Rattle.iom_ddt.specs.declared.context.Context.{Context}
use Rattle.iom_walk.specs.declared.shape.Shape.{Shape}
use Rattle.iom_walk.specs.declared.outcome.Outcome.{Outcome}
use Rattle.iom_walk.specs.declared.outcome.Outcome.TheVariants as outcome
use Rattle.iom_walk.specs.Outcome.{outcome_of}
use Rattle.iom_walk.proofs.Pages.{one_end}
use Rattle.iom_nested.specs.declared.translation.Hit.{Hit}
use Rattle.iom_nested.specs.Faults.{Failure}
use Rattle.iom_nested.specs.Stages.{first_shape_of, format_of, second_shape_of, ram_got, table_got}
use Rattle.iom_nested.specs.declared.translation.Reached.{Reached}
use Rattle.iom_ddt.specs.declared.context.MsiTable.{MsiTable}
use Rattle.iom_nested.specs.declared.files.FileRuling.{FileRuling}
use Rattle.iom_nested.specs.declared.files.FileRuling.TheVariants as ruling
use Rattle.iom_nested.specs.Files.{entry_frame, file_place, file_stage, file_word, hit_by_file, hit_ruled, is_of_file, packed, word_ruling}
use Rattle.iom_nested.specs.Nested.{access_stage, behind_first, first_stage, hit_by, reached_by, second_stage, told_of, translation}
use Rattle.iom_nested.specs.Pages.{OneHitAPage}

told_hit : (kind : Kind) (found : Result Hit Failure) (hit : Hit) → told_of kind found ≡ Ok hit → found ≡ Ok hit
told_hit kind (Ok found) hit told = cc
told_hit kind (Err failure) hit told = cc

abbrev at : ℕ → ℕ → Bool → Bool → Reached
at addr level global napot = record { addr = addr; level = level; global = global; napot = napot }

-- the second stage's end is that of the page
same_frame : (a b level : ℕ) (global napot : Bool) (end : Outcome) (hit : Hit) →
    hit_by (at a level global napot) end ≡ Ok hit → hit_by (at b level global napot) end ≡ Ok hit
same_frame a b level global napot (outcome.Leaf leaf) hit told = told
same_frame a b level global napot outcome.Outside hit told = told
same_frame a b level global napot (outcome.Guest place) hit told = cc
same_frame a b level global napot outcome.Fault hit told = cc

-- an entry leads the offset of each address of a page
same_ruled : (a b level frame : ℕ) (global napot : Bool) (row : FileRuling) (hit : Hit) →
    hit_ruled (at a level global napot) frame row ≡ Ok hit → hit_ruled (at b level global napot) frame row ≡ Ok hit
same_ruled a b level frame global napot ruling.Outside hit told = told
same_ruled a b level frame global napot ruling.Invalid hit told = told
same_ruled a b level frame global napot ruling.Custom hit told = told
same_ruled a b level frame global napot ruling.BadMode hit told = told
same_ruled a b level frame global napot ruling.Resident hit told = told
same_ruled a b level frame global napot ruling.Reserved hit told = told
same_ruled a b level frame global napot ruling.Leads hit told = told

same_by_file : (a b level : ℕ) (global napot : Bool) (word : Option ℕ) (hit : Hit) →
    hit_by_file (at a level global napot) word ≡ Ok hit → hit_by_file (at b level global napot) word ≡ Ok hit
same_by_file a b level global napot None hit told = told
same_by_file a b level global napot (Some word) hit told = same_ruled a b level (entry_frame word) global napot (word_ruling word) hit told

of_same_place : (memory : Memory) (here there a b level : ℕ) (global napot : Bool) (hit : Hit) → here ≡ there →
    hit_by_file (at a level global napot) (file_word memory here) ≡ Ok hit → hit_by_file (at b level global napot) (file_word memory there) ≡ Ok hit
of_same_place memory here there a b level global napot hit same told =
    subst (λ (place : ℕ). hit_by_file (at b level global napot) (file_word memory place) ≡ Ok hit) same
    (same_by_file a b level global napot (file_word memory here) hit told)

same_second : (memory : Memory) (features : Features) (context : Context) (kind : Kind) (shape : Option Shape) (a b level : ℕ) (global napot : Bool) (hit : Hit) →
    a / 4096 ≡ b / 4096 → second_stage memory features context kind shape (at a level global napot) ≡ Ok hit →
    second_stage memory features context kind shape (at b level global napot) ≡ Ok hit
same_second memory features context kind None a b level global napot hit same told = rw (← same) told
same_second memory features context kind (Some shape) a b level global napot hit same told =
    rw (← one_end (ram_got memory) (format_of features shape) context.gppn a b kind same)
    (same_frame a b level global napot (outcome_of (ram_got memory) (format_of features shape) context.gppn a kind) hit told)

same_file : (memory : Memory) (msi : MsiTable) (a b level : ℕ) (global napot : Bool) (hit : Hit) → a / 4096 ≡ b / 4096 →
    file_stage memory msi (at a level global napot) ≡ Ok hit → file_stage memory msi (at b level global napot) ≡ Ok hit
same_file memory msi a b level global napot hit same told =
    of_same_place memory (file_place msi a) (file_place msi b) a b level global napot hit (ap (λ (page : ℕ). bit_or (msi.ppn * 4096) (packed 52 page msi.mask * 16)) same) told

same_access : (memory : Memory) (features : Features) (context : Context) (kind : Kind) (is : Bool) (a b level : ℕ) (global napot : Bool) (hit : Hit) → a / 4096 ≡ b / 4096 →
    access_stage memory features context kind is (at a level global napot) ≡ Ok hit → access_stage memory features context kind is (at b level global napot) ≡ Ok hit
same_access memory features context kind true a b level global napot hit same told = same_file memory context.msi a b level global napot hit same told
same_access memory features context kind false a b level global napot hit same told =
    same_second memory features context kind (second_shape_of context) a b level global napot hit same told

same_behind_at : (memory : Memory) (features : Features) (context : Context) (kind : Kind) (a b level : ℕ) (global napot : Bool) (hit : Hit) → a / 4096 ≡ b / 4096 →
    behind_first memory features context kind (Ok (at a level global napot)) ≡ Ok hit → behind_first memory features context kind (Ok (at b level global napot)) ≡ Ok hit
same_behind_at memory features context kind a b level global napot hit same told =
    subst (λ (is : Bool). access_stage memory features context kind is (at b level global napot) ≡ Ok hit)
    (ap (λ (page : ℕ). context.msi.flat && bit_or page context.msi.mask == bit_or context.msi.pattern context.msi.mask) same)
    (same_access memory features context kind (is_of_file context.msi a) a b level global napot hit same told)

-- behind a leaf of the first stage the offset is the same as before
page_behind : (frame a b : ℕ) → (frame * 4096 + a % 4096) / 4096 ≡ (frame * 4096 + b % 4096) / 4096
page_behind frame a b = omega arith

same_behind : (memory : Memory) (features : Features) (context : Context) (kind : Kind) (a b : ℕ) (end : Outcome) (hit : Hit) →
    behind_first memory features context kind (reached_by a end) ≡ Ok hit → behind_first memory features context kind (reached_by b end) ≡ Ok hit
same_behind memory features context kind a b (outcome.Leaf leaf) hit told =
    same_behind_at memory features context kind (leaf.frame * 4096 + a % 4096) (leaf.frame * 4096 + b % 4096)
    leaf.level leaf.global leaf.napot hit (page_behind leaf.frame a b) told
same_behind memory features context kind a b outcome.Outside hit told = told
same_behind memory features context kind a b (outcome.Guest place) hit told = told
same_behind memory features context kind a b outcome.Fault hit told = told

same_hit : (memory : Memory) (features : Features) (context : Context) (kind : Kind) (shape : Option Shape) (a b : ℕ) (hit : Hit) → a / 4096 ≡ b / 4096 →
    behind_first memory features context kind (first_stage memory features context a kind shape) ≡ Ok hit →
    behind_first memory features context kind (first_stage memory features context b kind shape) ≡ Ok hit
same_hit memory features context kind None a b hit same told = same_behind_at memory features context kind a b 0 false false hit same told
same_hit memory features context kind (Some shape) a b hit same told =
    rw (← one_end (table_got memory features context) (format_of features shape) context.ppn a b kind same)
    (same_behind memory features context kind a b (outcome_of (table_got memory features context) (format_of features shape) context.ppn a kind) hit told)

pub one_hit : OneHitAPage
unfolding translation
one_hit memory features context iova other kind hit same told =
    let found : behind_first memory features context kind (first_stage memory features context other kind (first_shape_of context)) ≡ Ok hit =
    same_hit memory features context kind (first_shape_of context) iova other hit same (told_hit kind _ hit told) in
    rw found refl
