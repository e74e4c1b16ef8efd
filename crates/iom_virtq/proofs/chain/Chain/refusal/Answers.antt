use Rattle.iom_virtq.specs.Adding.{refusal_of}
use Rattle.std.proofs.Common.{rules}
use Rattle.iom_virtq.proofs.chain.Chain.refusal.Goals as goal

pub returns-then-has_written-clause-refusal : goal.returns-then-has_written-clause-refusal
unfolding refusal_of
returns-then-has_written-clause-refusal c = search rules

pub returns-then-next-self-clause-refusal : goal.returns-then-next-self-clause-refusal
unfolding refusal_of
returns-then-next-self-clause-refusal c = search rules

pub returns-then-addr-len-clause-refusal : goal.returns-then-addr-len-clause-refusal
unfolding refusal_of
returns-then-addr-len-clause-refusal c = search rules

pub returns-else-addr-len-clause-refusal : goal.returns-else-addr-len-clause-refusal
unfolding refusal_of
returns-else-addr-len-clause-refusal c = search rules

pub returns-else-addr-len-clause-room : goal.returns-else-addr-len-clause-room
unfolding refusal_of
returns-else-addr-len-clause-room c = search rules

pub returns-else-addr-len-clause-fits : goal.returns-else-addr-len-clause-fits
unfolding refusal_of
returns-else-addr-len-clause-fits c = search rules

pub returns-then-self-clause-refusal : goal.returns-then-self-clause-refusal
unfolding refusal_of
returns-then-self-clause-refusal c = search rules
