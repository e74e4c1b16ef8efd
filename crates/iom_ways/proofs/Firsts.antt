-- The first of the ways is memory's.
use Rattle.std.proofs.Common.{◌∙◌, ◌++◌, List, [], ◌∷◌, Some, None, refl, ap}
use Rattle.std.specs.Prelude.{filter, flat_map}
use Rattle.iom_core.specs.State.{State}
use Rattle.iom_core.specs.declared.access.Request.{Request}
use Rattle.iom_core.specs.declared.way.Way.{Way as Led}
use Rattle.iom_choices.specs.Systems.{ModelWalk}
use Rattle.iom_choices.specs.Trees.{Ends, Looks, way_over, ways_over}
use Rattle.iom_every.specs.Trees.{Walk, tree_of}
use Rattle.iom_every.specs.Ways.{way_of}
use Rattle.iom_every.specs.declared.entry.Entry.{Entry}
use Rattle.iom_every.proofs.Trees.{tree_is}
use Rattle.iom_ways.specs.Ways.{BeginsWith}

first_over : (held : List Entry) (tree : Walk) → BeginsWith (way_over [] tree) (ways_over held tree)
first_over held (Ends way) = record { others = []; is = refl }
first_over held (Looks look fits more) =
    let first : BeginsWith (way_over [] (more None)) (ways_over held (more None)) = first_over held (more None) in
    let behind : List (ModelWalk Entry Led) = flat_map (λ (entry : Entry). ways_over held (more (Some entry))) (filter (fits look) held) in
    record { others = first.others ++ behind; is = ap (λ (ways : List (ModelWalk Entry Led)). ways ++ behind) first.is }

pub memory_first : (held : List Entry) (state : State) (request : Request) → BeginsWith (way_of state [] request) (ways_over held (tree_of state request))
memory_first held state request =
    let first : BeginsWith (way_over [] (tree_of state request)) (ways_over held (tree_of state request)) = first_over held (tree_of state request) in
    record { others = first.others; is = first.is ∙ ap (λ (way : ModelWalk Entry Led). way ∷ first.others) (tree_is state [] request) }
