-- The answers to the questions that `debug` alone has. None of them is a step.
use Rattle.std.specs.Prelude.{ℕ, ◌≡◌, Bool, true, false, List, codes, slice_get}
use Rattle.iom_mem.specs.Memory.{bytes_at}
use Rattle.iom_core.specs.State.{State}
use Rattle.iom_debug.specs.Walks.{walk_text}
use Rattle.iom_debug.specs.Reasons.{LineAccountView, context_origin_text, page_origin_text, why_text}
use Rattle.iom_debug.specs.Freeing.{IsFreeAnswer}
use Rattle.iom_debug.specs.Owing.{IsOwedAnswer}
use Rattle.iom_debug.specs.Marks.{MarksView}
use Rattle.iom_debug.specs.Ways.{stale_address, stale_context_text, stale_page_text, stale_text}
use Rattle.iom_debug.specs.Texts.{bytes_text, device_text, disk_text, queue_text, vectors_text}
use Rattle.iom_tool.specs.declared.language.Inquiry.{Inquiry}
use Rattle.iom_tool.specs.declared.language.Inquiry.TheVariants as inquiry

-- by what is told of the last steps, of which steps filled the caches, and of what any IOMMU may hold; lines are named as they stand
abbrev pub IsInquired : MarksView → State → LineAccountView → Inquiry → List ℕ → Type 0
IsInquired marks state reasons (inquiry.Stale request) answer = answer ≡ stale_text (stale_address state.machine request)
IsInquired marks state reasons (inquiry.StaleContext i) answer = answer ≡ stale_context_text state.machine i
IsInquired marks state reasons (inquiry.StalePage i) answer = answer ≡ stale_page_text state.machine i
IsInquired marks state reasons (inquiry.Why i) answer = answer ≡ why_text (slice_get reasons.account.reasons i)
IsInquired marks state reasons (inquiry.ContextOrigin i) answer = answer ≡ context_origin_text reasons.account.history i
IsInquired marks state reasons (inquiry.PageOrigin i) answer = answer ≡ page_origin_text reasons.account.history i
IsInquired marks state reasons (inquiry.Walk request i) answer = answer ≡ walk_text state.machine request i
IsInquired marks state reasons (inquiry.Queue which) answer = answer ≡ queue_text state.machine.registers which
IsInquired marks state reasons inquiry.Vectors answer = answer ≡ vectors_text state.machine.registers
IsInquired marks state reasons (inquiry.Dump addr count) answer = answer ≡ bytes_text (bytes_at state.machine.memory addr count)
IsInquired marks state reasons (inquiry.Disk dev at count) answer = answer ≡ disk_text (slice_get state.devices dev) at count
IsInquired marks state reasons (inquiry.Device dev) answer = answer ≡ device_text (slice_get state.devices dev)
IsInquired marks state reasons inquiry.Owed answer = IsOwedAnswer marks reasons.last_invalidation reasons.settling state answer
IsInquired marks state reasons (inquiry.Free addr len) answer = IsFreeAnswer marks reasons.settling state addr len answer
IsInquired marks state reasons (inquiry.Ahead did iova len) answer = answer ≡ codes "ok"

-- whether it asks what is owed
abbrev pub is_owed : Inquiry → Bool
is_owed inquiry.Owed = true
is_owed _ = false
