use Rattle.std.proofs.Common.{sym}
use Rattle.iom_saved.proofs.Bytes.{put_based, whole_of_words}
use Rattle.iom_saved.proofs.memory.put_memory.Goals as goal

pub returns-clause-words : goal.returns-clause-words
returns-clause-words c =
    put_based c.args.ram.now _ _ _ _ c.base.result c.base.ensures.value c.as_words.ensures.bytes c.in_ok-push.ensures.items
    c.in_ok-put_words.ensures

pub returns-clause-whole : goal.returns-clause-whole
returns-clause-whole c = whole_of_words c.as_words.result.now _ (sym c.as_words.ensures.bytes)

pub returns-clause-kept : goal.returns-clause-kept
returns-clause-kept c =
    record { legal = c.base.ensures.legal; whole = whole_of_words c.as_words.result.now _ (sym c.as_words.ensures.bytes) }
