use Rattle.std.proofs.Common.{[], ◌∷◌, refl}
use Rattle.iom_saved.proofs.Pieces.{put_behind}
use Rattle.iom_saved.proofs.boards.put_own.Goals as goal

pub returns-clause-words : goal.returns-clause-words
returns-clause-words c =
    put_behind _ (c.args.own.now.0 ∷ []) _ _ _ _ (rw c.from.ensures at c.in_ok-extend_from_slice.ensures.items) c.in_ok-put_device.ensures.words refl
