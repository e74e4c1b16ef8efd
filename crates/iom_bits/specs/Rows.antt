-- A row of the code as one of the definitions.
use Rattle.iom_bits.specs.declared.features.Row.{Row}
use Rattle.iom_bits.specs.Features.{Feature, feature}

abbrev pub as_feature : Row → Feature
as_feature row = feature row.name.now row.bit row.shown
