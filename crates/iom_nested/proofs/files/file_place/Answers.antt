use Rattle.std.proofs.Common.{refl}
use Rattle.iom_nested.proofs.files.file_place.Goals as goal

pub returns : goal.returns
returns c = rw (c.packed.ensures.packed, c.context.view_is) refl
