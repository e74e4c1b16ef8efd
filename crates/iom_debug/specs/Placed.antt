-- A place, of what the code keeps.
use Rattle.std.specs.Option.{option_map}
use Rattle.iom_debug.specs.Places.{PlaceView}
use Rattle.iom_debug.specs.declared.places.Place.{Place}

abbrev pub placed : Place → PlaceView
placed place = record { text = option_map (λ text. text.items) place.text; line = place.line }
