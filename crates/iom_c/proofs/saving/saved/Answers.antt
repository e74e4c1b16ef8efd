use Rattle.iom_c.proofs.Saves.{saved_by}
use Rattle.iom_c.proofs.saving.saved.Goals as goal

pub returns-clause-bytes : goal.returns-clause-bytes
returns-clause-bytes c =
    saved_by c.args.own.now c.in_ok-words.words.items c.deref.result.now _ c.in_ok-words.ensures.words c.deref.ensures.value
    c.in_ok-bytes.ensures.bytes c.in_ok-bytes.ensures.fit c.in_ok-words.ensures.whole
