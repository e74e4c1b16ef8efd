use Rattle.std.proofs.Common.{◌≡◌, ◌++◌, map, take, drop}
use Rattle.iom_cache.specs.Places.{dropped_by}
use Rattle.iom_cache.specs.Drops.{drops_context}
use Rattle.iom_cache.proofs.contexts.empty_matching.Given as goal

-- the places so far are those of the command's drop, the rest as they were
abbrev pub invariant-loop-place : goal.invariant-loop-place
invariant-loop-place l =
    let drops = dropped_by (drops_context l.command) in
    l.places ≡ map drops (take l.place-index l.fn.places) ++ drop l.place-index l.fn.places
