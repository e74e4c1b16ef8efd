-- What is said of each part below a context that is cached.
use Rattle.std.proofs.Common.{◌≡◌, [], ◌∷◌, List, Ok, sym, subst}
use Rattle.std.specs.Prelude.{All}
use Rattle.std.proofs.lemmas.List.Elements.{All-nil, All-cons, All-append}
use Rattle.iom_bits.specs.Features.{Features}
use Rattle.iom_mem.specs.Memory.{Memory}
use Rattle.iom_ddt.specs.Formats.{context_format}
use Rattle.iom_ddt.specs.declared.context.Context.{Context}
use Rattle.iom_core.specs.Access.{led_under}
use Rattle.iom_core.specs.declared.access.Request.{Request}
use Rattle.iom_tables.specs.Bounds.{PartFits}
use Rattle.iom_tables.specs.Fetches.{IsRead}
use Rattle.iom_tables.specs.Parts.{parts_under, stage_parts}
use Rattle.iom_tables.specs.Passing.{IsGranted, Passes}
use Rattle.iom_tables.specs.declared.part.Part.{Part}
use Rattle.iom_tables.specs.declared.part.Part.TheVariants as part
use Rattle.iom_tables.proofs.Fetches.{stages_read}
use Rattle.iom_tables.proofs.Passing.{context_passes}

-- of the stages and of the end
each_under : (P : Part → Type 0) (memory : Memory) (features : Features) (request : Request) (context : Context) (parts : List Part) →
    parts ≡ parts_under memory features request context → All P (stage_parts memory features request.iova request.kind (Ok context)) →
    P (part.End (led_under memory features [] request context).way) → All P parts
unfolding parts_under
each_under P memory features request context parts are stages last =
    let end : Part = part.End (led_under memory features [] request context).way in
    subst (All P) (sym are)
    (All-append P (stage_parts memory features request.iova request.kind (Ok context)) (end ∷ []) stages (All-cons P end [] last (All-nil P)))

pub under_read : (memory : Memory) (features : Features) (request : Request) (context : Context) (parts : List Part) → parts ≡ parts_under memory features request context →
    All (IsRead (context_format features) memory) parts
under_read memory features request context parts are =
    each_under (IsRead (context_format features) memory) memory features request context parts are (stages_read memory features request.iova request.kind (Ok context)) tt

pub under_passes : (memory : Memory) (features : Features) (request : Request) (context : Context) (parts : List Part) → parts ≡ parts_under memory features request context →
    IsGranted (led_under memory features [] request context).way → All (Passes features) parts
under_passes memory features request context parts are granted =
    each_under (Passes features) memory features request context parts are (context_passes memory features request context granted) granted

pub under_fits : (memory : Memory) (features : Features) (request : Request) (context : Context) (parts : List Part) → parts ≡ parts_under memory features request context →
    All PartFits (stage_parts memory features request.iova request.kind (Ok context)) → All PartFits parts
under_fits memory features request context parts are stages = each_under PartFits memory features request context parts are stages tt
