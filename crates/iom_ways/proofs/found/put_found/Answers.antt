use Rattle.std.proofs.Common.{◌∙◌}
use Rattle.iom_nested.specs.Stages.{second_shape_of}
use Rattle.iom_ways.proofs.Paths.{levels_of}
use Rattle.iom_ways.proofs.found.put_found.Goals as goal

pub first_found-reached-requires-clause-levels : goal.first_found-reached-requires-clause-levels
first_found-reached-requires-clause-levels g c =
    levels_of (second_shape_of c.args.under.now.context) c.args.path.now _ (c.deref.ensures.0 ∙ c.entries_of-entries.ensures.entries) c.requires.levels

pub first_read-first-requires-clause-entry_levels : goal.first_read-first-requires-clause-entry_levels
first_read-first-requires-clause-entry_levels g c =
    levels_of (second_shape_of c.args.under.now.context) c.args.path.now _ (c.deref-2.ensures.0 ∙ c.entries_of-entries.ensures.entries) c.requires.levels
