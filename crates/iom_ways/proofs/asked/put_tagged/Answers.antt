use Rattle.iom_held.specs.Tags.{tag_of}
use Rattle.iom_ways.specs.Asked.{answers}
use Rattle.iom_ways.proofs.Usable.{begun, done, none_left, shelf_put}
use Rattle.iom_ways.proofs.asked.put_tagged.Goals as goal

pub loop-tag-init : goal.loop-tag-init
loop-tag-init c = begun _ _ _ _ (λ kept among is. c.requires.tags kept.entry is)

pub loop-tag-preserved : goal.loop-tag-preserved
loop-tag-preserved c =
    shelf_put c.args.held.now c.tagged-shelf.result.now (answers c.args.asked.now) c.args.tags.now c.loop-tag.tag-index _ _ _ _ c.loop-tag-test.true
    c.tagged-shelf.ensures.among c.tagged-shelf.ensures.all c.loop-tag.invariant c.in_ok-put_fitting.ensures

pub returns : goal.returns
returns c = done _ _ _ _ _ (λ kept left. none_left _ _ (tag_of kept.entry) c.loop-tag-test.false left) c.loop-tag.invariant
