use Rattle.iom_saved.proofs.Bytes.{put_counted}
use Rattle.iom_saved.proofs.memory.put_words.Goals as goal

pub returns : goal.returns
returns c =
    put_counted c.args.words.now _ _ _ (λ i. (c.type_inv.words i).fits) c.in_ok-push.ensures.items c.in_ok-extend_from_slice.ensures.items
