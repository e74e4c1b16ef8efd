use Rattle.std.proofs.Common.{sym}
use Rattle.iom_asm.proofs.Full.{some_byte}
use Rattle.iom_asm.proofs.draft.ImageDraft.state.Goals as goal

pub put-requires-clause-some : goal.put-requires-clause-some
put-requires-clause-some c = some_byte _ _ _ c.in-Some-2.bytes.items (sym (rw c.in-Some-2.is at c.in_ok-bytes.ensures))
