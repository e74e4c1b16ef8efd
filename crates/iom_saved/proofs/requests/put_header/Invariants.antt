use Rattle.std.proofs.Common.{◌≡◌, ◌++◌, take}
use Rattle.iom_saved.proofs.requests.put_header.Given as goal

-- the bytes so far were put
abbrev pub invariant-loop-byte : goal.invariant-loop-byte
invariant-loop-byte l = l.out.items ≡ l.initial.out.items ++ take l.byte-index l.header
