-- The walk of an access that the caches don't lead by themselves, part by part, as the tables stand before its step.
use Rattle.std.specs.Prelude.{ℕ, ◌++◌, Bool, List, [], ◌∷◌, codes, Option, Some, None, if◌then◌else◌}
use Rattle.std.specs.List.{flat_map}
use Rattle.iom_regs.specs.Views.{mode_of}
use Rattle.iom_ddt.specs.Directory.{located}
use Rattle.iom_ddt.specs.declared.context.Context.{Context}
use Rattle.iom_core.specs.State.{Machine}
use Rattle.iom_core.specs.Looking.{is_cached}
use Rattle.iom_core.specs.declared.access.Request.{Request}
use Rattle.iom_core.specs.declared.looking.Lookup.{Lookup}
use Rattle.iom_core.specs.declared.witness.Source.{Source}
use Rattle.iom_core.specs.declared.witness.Source.TheVariants as source
use Rattle.iom_tables.specs.Parts.{parts_of, parts_under}
use Rattle.iom_tables.specs.Standing.{found_by, is_found}
use Rattle.iom_tables.specs.declared.part.Part.{Part}
use Rattle.iom_ddt.specs.Formats.{context_format}
use Rattle.iom_items.specs.Lines.{context_text}
use Rattle.iom_debug.specs.Walks.{part_text}

abbrev pub walk_line : List ℕ → List ℕ
walk_line text = codes "    walk: " ++ text ++ 10 ∷ []

abbrev pub walk_lines : Machine → Request → List Part → List ℕ
walk_lines m request parts = flat_map (λ part. walk_line (part_text m request part)) parts

-- the directory has this context of a request's device
abbrev pub is_still : Machine → Request → Context → Bool
is_still m request context = is_found (found_by (mode_of m.registers) (located m.memory m.registers request.did)) context

-- the walk below a cached context
abbrev pub walk_under : Machine → Request → Context → List ℕ
walk_under m request context =
    walk_line (codes "cached " ++ context_text (context_format m.registers.features) context)
    ++ walk_lines m request (parts_under m.memory m.registers.features request context)

-- the whole walk, but of a cached context that the directory doesn't have any more the walk below it
abbrev pub walk_by : Option (Source × Context) → Machine → Request → List ℕ
walk_by None m request = walk_lines m request (parts_of m request)
walk_by (Some (source.Read, context)) m request = walk_lines m request (parts_of m request)
walk_by (Some (source.Found, context)) m request =
    if is_still m request context then walk_lines m request (parts_of m request) else walk_under m request context

-- nothing of an access that is seen to be led by the caches alone
abbrev pub walk_text : Lookup → Machine → Request → List ℕ
walk_text seen m request = if is_cached seen then [] else walk_by seen.context m request
