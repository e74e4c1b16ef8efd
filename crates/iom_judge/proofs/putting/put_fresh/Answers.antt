use Rattle.std.proofs.Common.{◌∙◌, List, ap, map, subst}
use Rattle.std.proofs.lemmas.Result.{on_ok_weaker}
use Rattle.std.specs.Prelude.{flat_map}
use Rattle.iom_core.specs.State.{State, state_on}
use Rattle.iom_core.specs.Table.{request_of_step}
use Rattle.iom_every.specs.Entries.{kept_as}
use Rattle.iom_every.specs.declared.entry.Entry.{Entry}
use Rattle.iom_held.specs.Kept.{Renews, entry_of, kept_of}
use Rattle.iom_regs.specs.Table.{Registers}
use Rattle.iom_judge.proofs.Parts.{all_read}
use Rattle.iom_judge.proofs.Reading.{reads_are_put}
use Rattle.iom_judge.proofs.putting.put_fresh.Goals as goal

pub returns-clause-reads : goal.returns-clause-reads
returns-clause-reads c =
    let state : State = state_on c.platform.inside.ram c.platform.inside.board in
    on_ok_weaker c.put_reads.result (λ put.
    all_read c.args.platform.now c.args.step.now c.args.held.now c.put_reads.new.held c.requires.lend
    (reads_are_put state c.args.platform.now c.features-features.result (request_of_step c.args.platform.now c.args.step.now) c.args.ways.now.reads.items c.args.held.now c.put_reads.new.held c.platform.view_is
    (c.features-features.ensures ∙ ap (λ (registers : Registers). registers.features) c.registers.ensures) c.requires.added
    (subst (λ (reads : List Entry). Renews entry_of (map (kept_of 0) (flat_map (kept_as c.features-features.result) reads)) c.args.held.now c.put_reads.new.held) c.deref.ensures.value put))) c.put_reads.ensures.entries
