use Rattle.std.proofs.Common.{sym, append-nil}
use Rattle.iom_saved.specs.Bytes.{words_in}
use Rattle.iom_saved.proofs.Bytes.{put_more}
use Rattle.iom_saved.proofs.byte_words.put_words_in.Goals as goal

pub loop-i-init : goal.loop-i-init
unfolding words_in
loop-i-init c = sym (append-nil c.args.out.now.items)

pub loop-i-preserved : goal.loop-i-preserved
loop-i-preserved c =
    put_more c.loop-i.i c.args.bytes.now c.args.out.now.items _ _ c.word_at.result c.loop-i.invariant c.word_at.ensures c.in_ok-push.ensures.items
