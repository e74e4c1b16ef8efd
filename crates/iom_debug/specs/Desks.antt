-- What a debugger drives, and which references it holds.
use Rattle.std.specs.Prelude.{ℕ, List, [], ◌∷◌}
use Rattle.iom_debug.specs.Taking.{Desk, desk}
use Rattle.iom_debug.specs.declared.debugger.Debugger.{Debugger}

abbrev pub desk_of : Debugger → Desk
desk_of d = desk d.platform.now d.trace.now d.reasons.now d.names d.marks

abbrev pub names_of : Debugger → List ℕ
names_of d = d.platform.ghost_name ∷ d.trace.ghost_name ∷ d.reasons.ghost_name ∷ []
