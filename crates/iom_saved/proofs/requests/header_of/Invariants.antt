use Rattle.std.proofs.Common.{◌≡◌, take}
use Rattle.iom_saved.proofs.requests.header_of.Given as goal

-- the bytes so far
abbrev pub invariant-loop-word : goal.invariant-loop-word
invariant-loop-word l = l.header.items ≡ take l.word-index l.words
