use Rattle.iom_blk.specs.Breaking.{broken_by}
use Rattle.iom_blk.specs.Phases.{asks, took}
use Rattle.std.proofs.Common.{◌≡◌, arith, rules, subst}
use Rattle.std.proofs.lemmas.Bool.{OnTrue_from}
use Rattle.iom_blk.specs.Sound.{IsSound}
use Rattle.iom_blk.proofs.Kept.{goes_on}
use Rattle.iom_blk.proofs.Reasons.{asked_is_whole, broken_tells, granted_tells}
use Rattle.iom_blk.proofs.device.Blk.take.Goals as goal

pub returns-in-Ok-clause-broken : goal.returns-in-Ok-clause-broken
returns-in-Ok-clause-broken c =
    let d = c.args.self.now in
    rw c.go_on.ensures (granted_tells d c.args.answer c.args.bytes.now c.in-Ok.is
    (asked_is_whole d (subst IsSound c.self.view_is c.self.invariant) c.requires.asked))

pub returns-in-Ok-clause-disk : goal.returns-in-Ok-clause-disk
returns-in-Ok-clause-disk c =
    OnTrue_from c.args.self.now.read_only (c.go_on.new.self.disk ≡ c.args.self.now.disk)
    (λ only. rw c.go_on.ensures (goes_on c.args.self.now c.args.bytes.now (subst IsSound c.self.view_is c.self.invariant) only))

pub returns-in-Denied-clause-device : goal.returns-in-Denied-clause-device
unfolding asks took broken_by
returns-in-Denied-clause-device c = search rules

pub returns-in-Denied-clause-broken : goal.returns-in-Denied-clause-broken
unfolding asks took broken_by
returns-in-Denied-clause-broken c = grind (arith, broken_tells)
