use Rattle.std.proofs.Common.{◌≡◌, ◌∙◌, ◌++◌, ◌+◌, ◌<◌, ◌≤◌, ℕ, suc, Bool, subst, sym, inl, arith}
use Rattle.std.specs.Bool.{OnFalse}
use Rattle.iom_choices.specs.Traces.{onward}
use Rattle.iom_judge.specs.Candidates.{AreCandidates}
use Rattle.iom_judge.specs.Seen.{unseen}
use Rattle.iom_judge.specs.Unseen.{up_to}
use Rattle.iom_judge.proofs.Judged.{too_many}
use Rattle.iom_judge.proofs.Times.{any_time, closes, next_time}
use Rattle.iom_judge.proofs.unseen.close.Goals as goal

within : (i n : ℕ) → i < 64 → 64 ≤ n → i ≤ n
within i n less most = omega (arith, less, most)

one_more : (i : ℕ) → suc i ≡ i + 1
one_more i = omega arith

pub loop-preserved : goal.loop-preserved
loop-preserved c = (
  c.in_ok-add_behind.ensures.apart,
  λ start traces are. subst (λ (i : ℕ). AreCandidates start (up_to i c.args.step.now traces) c.add_behind.new.all.items) (one_more c.loop.counter)
      (next_time start traces c.args.step.now c.loop.counter c.add_behind.new.all.items
      (c.in_ok-add_behind.ensures.added start (up_to c.loop.counter c.args.step.now traces) (c.loop.invariant.1 start traces are))),
)

pub returns-then-not-branch-clause-closed : goal.returns-then-not-branch-clause-closed
returns-then-not-branch-clause-closed c = λ start traces are n most.
    let same : c.add_behind.new.all.items ≡ c.loop.all.items =
    subst (λ (b : Bool). OnFalse b (c.add_behind.new.all.items ≡ c.loop.all.items)) c.if-not-branch.true c.in_ok-add_behind.ensures.there in
    subst (AreCandidates start (up_to n c.args.step.now traces)) (sym same)
    (any_time start traces c.args.step.now c.loop.counter n c.loop.all.items (within c.loop.counter n c.loop-test.true most) (c.loop.invariant.1 start traces are)
    (λ traces are. subst (AreCandidates start (traces ++ onward (c.args.step.now, unseen) traces)) same (c.in_ok-add_behind.ensures.added start traces are)))

pub returns-then-are_too_many-clause-closed : goal.returns-then-are_too_many-clause-closed
returns-then-are_too_many-clause-closed c = λ start traces are. inl (record {
  times = suc c.loop.counter;
  within = omega (arith, c.loop-test.true);
  many = too_many start (up_to (suc c.loop.counter) c.args.step.now traces) c.add_behind.new.all.items c.len.result
      (next_time start traces c.args.step.now c.loop.counter c.add_behind.new.all.items
      (c.in_ok-add_behind.ensures.added start (up_to c.loop.counter c.args.step.now traces) (c.loop.invariant.1 start traces are)))
      c.in_ok-add_behind.ensures.apart (c.are_too_many.ensures.0 c.if-are_too_many.true) (c.len.ensures ∙ c.add_behind.new.all.ok.0);
})

pub returns-clause-closed : goal.returns-clause-closed
returns-clause-closed c = λ start traces are.
    let end : c.loop.counter ≡ 64 = omega (arith, c.loop-test.false, c.loop.auto.counter-end) in
    closes start traces c.args.step.now c.loop.counter c.loop.all.items c.add_behind-2.new.all.items c.in_ok-add_behind-2.field-0 end (c.loop.invariant.1 start traces are)
    (λ traces are. c.in_ok-add_behind-2.ensures.added start traces are) c.in_ok-add_behind-2.ensures.there c.in_ok-add_behind-2.ensures.new
