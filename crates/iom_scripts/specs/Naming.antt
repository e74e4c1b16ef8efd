-- The name from whose folder a script names texts.
use Rattle.std.specs.Prelude.{ℕ, List, [], Option}
use Rattle.std.specs.Option.{unwrap_or}

abbrev pub folder_name : Option (List ℕ) → List ℕ
folder_name name = unwrap_or name []
