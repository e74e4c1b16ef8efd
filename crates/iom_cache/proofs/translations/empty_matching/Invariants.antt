use Rattle.std.proofs.Common.{◌≡◌, ◌++◌, map, take, drop}
use Rattle.iom_cache.specs.Places.{dropped_by}
use Rattle.iom_cache.specs.Drops.{drops_page}
use Rattle.iom_cache.proofs.translations.empty_matching.Given as goal

-- the places so far are those of the command's drop, the rest as they were
abbrev pub invariant-loop-place : goal.invariant-loop-place
invariant-loop-place l =
    let drops = dropped_by (drops_page l.command) in
    l.places ≡ map drops (take l.place-index l.fn.places) ++ drop l.place-index l.fn.places
