use Rattle.std.proofs.Common.{[], Some, refl, subst, ◌∙◌, ap}
use Rattle.iom_regs.specs.Table.{Registers}
use Rattle.iom_core.specs.State.{State, state_on}
use Rattle.iom_every.specs.Rows.{bare}
use Rattle.iom_held.specs.Kept.{entries_in}
use Rattle.iom_ways.specs.Ways.{AreAdded}
use Rattle.iom_owed.specs.Holdings.{HoldingsView}
use Rattle.iom_owed.specs.Keys.{made_in}
use Rattle.iom_owed.specs.Notes.{Adds}
use Rattle.iom_choices.specs.Trees.{reads_in, ways_of}
use Rattle.iom_every.specs.Trees.{tree_of}
use Rattle.iom_owed.proofs.Followed.{adds}
use Rattle.iom_owed.proofs.Results.{on_both}
use Rattle.iom_owed.proofs.holdings.Holdings.add.Goals as goal

pub returns-clause-added : goal.returns-clause-added
returns-clause-added g c =
    let state : State = bare (state_on (g.M.Region.memory c.args.ram.now) c.args.board.now) in
    let after : HoldingsView = record { ahead = c.self.inside.ahead.items; entries = c.note.new.held; requests = made_in c.note.new.numbers.entries } in
    let added : AreAdded (reads_in (ways_of tree_of state (entries_in c.self.inside.entries) (Some c.in-Some.request))) [] c.deref.result.now =
    rw c.deref.ensures.value c.in_ok-gather.ensures.reads in
    on_both c.note.result _ _ (Adds state c.args.request c.args.number c.args.self.now after)
    (λ kept made. subst (λ (before : HoldingsView). Adds state c.args.request c.args.number before after) c.self.view_is
    (adds state c.features.result c.args.request c.in-Some.request c.args.number (record { ahead = c.self.inside.ahead.items; entries = c.self.inside.entries; requests = made_in c.self.inside.requests.entries }) after
    c.deref.result.now (c.features.ensures ∙ ap (λ (registers : Registers). registers.features) c.registers.ensures) c.in-Some.is refl added kept made))
    c.note.ensures.entries c.note.ensures.requests
