use Rattle.std.proofs.Common.{◌≡◌, ◌∙◌, not, Bool, List, [], ap, map, subst}
use Rattle.std.specs.Prelude.{filter, flat_map}
use Rattle.iom_bits.specs.Features.{Features}
use Rattle.iom_core.specs.State.{State}
use Rattle.iom_every.specs.Entries.{kept_as}
use Rattle.iom_every.specs.Making.{is_whole}
use Rattle.iom_every.specs.declared.entry.Entry.{Entry}
use Rattle.iom_held.specs.Kept.{AddsDue, Renews, entries_in, entry_of, kept_of}
use Rattle.iom_held.specs.declared.kept.Kept.{Kept}
use Rattle.iom_regs.specs.Table.{Registers}
use Rattle.iom_ways.specs.Ways.{AreAdded}
use Rattle.iom_judge.specs.Behind.{reads_over}
use Rattle.iom_judge.proofs.Parts.{HasParts, has_parts, parts_read}
use Rattle.iom_judge.proofs.putting.put_apart.Goals as goal

pub returns-clause-reads : goal.returns-clause-reads
returns-clause-reads c =
    let held : List Kept = c.args.held.now in
    let first : List Kept = c.put_reads.new.held in
    let mid : List Kept = c.renew_all.new.self in
    let after : List Kept = c.add_due.new.self in
    let reads : List Entry = c.args.ways.now.reads.items in
    let lent : List Entry = c.find_lent.new.lent.reads.items in
    let features : Features = c.features-features.result in
    let is_other : Entry → Bool = λ entry. not (is_whole entry) in
    let own : features ≡ c.args.platform.now.machine.registers.features =
    c.features-features.ensures ∙ ap (λ (registers : Registers). registers.features) c.registers.ensures ∙ ap (λ (s : State). s.machine.registers.features) c.platform.view_is in
    let put : Renews entry_of (map (kept_of 0) (flat_map (kept_as features) (filter is_other reads))) held first =
    subst (λ (before : List Kept). Renews entry_of (map (kept_of 0) (flat_map (kept_as features) (filter is_other reads))) before first) c.in_ok-all.ensures
    (subst (λ (part : List Entry). Renews entry_of (map (kept_of 0) (flat_map (kept_as features) part)) c.in_ok-all.all first) (c.deref-2.ensures.value ∙ c.in_ok-take_others.ensures ∙ ap (filter is_other) c.deref.ensures.value) c.in_ok-put_reads.ensures.entries) in
    let wholes : Renews entry_of (map (kept_of 0) (filter is_whole lent)) first mid =
    subst (λ (part : List Entry). Renews entry_of (map (kept_of 0) part) first mid)
    (c.deref-4.ensures.value ∙ c.in_ok-take_wholes.ensures ∙ ap (filter is_whole) c.deref-3.ensures.value) c.in_ok-renew_all.ensures.renewed in
    let due : AddsDue 0 (filter is_whole reads) mid after =
    subst (λ (part : List Entry). AddsDue 0 part mid after) (c.deref-6.ensures.value ∙ c.in_ok-take_wholes-2.ensures ∙ ap (filter is_whole) c.deref-5.ensures.value) c.in_ok-add_due.ensures.added in
    parts_read c.args.platform.now c.args.step.now held after reads lent c.requires.added
    (subst (λ (lenders : List Kept). AreAdded (reads_over c.args.platform.now (entries_in lenders) c.args.step.now) [] lent) c.requires.lend c.in_ok-find_lent.ensures)
    (subst (λ (features : Features). HasParts features reads lent held after) own (has_parts features reads lent held first mid after put wholes due))
