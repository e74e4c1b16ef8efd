use Rattle.iom_mem.specs.Words.{bytes_of_words}
use Rattle.iom_saved.proofs.Bytes.{bytes_put}
use Rattle.iom_saved.proofs.byte_words.bytes_of.Goals as goal

pub loop-word-init : goal.loop-word-init
unfolding bytes_of_words
loop-word-init c = c.new-bytes.ensures.items

pub loop-word-preserved : goal.loop-word-preserved
loop-word-preserved c =
    bytes_put c.args.words.now c.loop-word.word-index _ _ c.loop-word-test.true c.loop-word.invariant c.in_ok-push_word.ensures
