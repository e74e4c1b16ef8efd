use Rattle.std.proofs.Common.{◌+◌, List, subst, sym, take}
use Rattle.iom_every.specs.declared.entry.Entry.{Entry}
use Rattle.iom_held.specs.Kept.{AreNew}
use Rattle.iom_held.proofs.Each.{false_not}
use Rattle.iom_held.proofs.New.{missing_next, there_next}
use Rattle.iom_held.proofs.entries.new_ones.Goals as goal
use Rattle.iom_held.proofs.entries.new_ones.Goals.{then-not-has+in_ok-push, else-not-has}

pub loop-entry-preserved : goal.loop-entry-preserved
loop-entry-preserved c = elim c.if-not-has.branch [
  | then-not-has+in_ok-push w ↦
      subst (λ (news : List Entry). AreNew (take (c.loop-entry.entry-index + 1) c.args.entries.now) c.args.held.now news) (sym (λ i. (w.news-is i).items))
      (missing_next c.args.entries.now c.loop-entry.news.items c.args.held.now c.loop-entry.entry-index c.entry-item.result c.loop-entry-test.true c.entry-item.is c.loop-entry.invariant
      w.push.new.self.items w.in_ok-push.ensures.items (λ h. false_not c.has.result w.if-not-has.true (c.has.ensures.1 h)))
  | else-not-has w ↦
      subst (λ (news : List Entry). AreNew (take (c.loop-entry.entry-index + 1) c.args.entries.now) c.args.held.now news) (sym (λ i. (w.news-is i).items))
      (there_next c.args.entries.now c.loop-entry.news.items c.args.held.now c.loop-entry.entry-index c.entry-item.result c.loop-entry-test.true c.entry-item.is c.loop-entry.invariant
      (c.has.ensures.0 w.if-not-has.false))
]
