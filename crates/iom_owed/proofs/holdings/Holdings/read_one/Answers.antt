use Rattle.std.proofs.Common.{◌≡◌, ◌∙◌, ◌++◌, ap, refl, List, Some, [], subst}
use Rattle.std.specs.Prelude.{flat_map}
use Rattle.iom_choices.specs.Trees.{reads_in, ways_of}
use Rattle.iom_regs.specs.Table.{Registers}
use Rattle.iom_core.specs.State.{State, state_on}
use Rattle.iom_every.specs.declared.entry.Entry.{Entry}
use Rattle.iom_every.specs.Entries.{kept_as}
use Rattle.iom_every.specs.Rows.{bare}
use Rattle.iom_every.specs.Trees.{tree_of}
use Rattle.iom_held.specs.Kept.{entries_in}
use Rattle.iom_held.specs.declared.kept.Kept.{Kept}
use Rattle.iom_ways.specs.Ways.{AreAdded}
use Rattle.iom_owed.specs.Holdings.{HoldingsView}
use Rattle.iom_owed.specs.Keys.{made_in}
use Rattle.iom_owed.specs.Notes.{AddsAhead}
use Rattle.iom_owed.proofs.Followed.{adds_ahead}
use Rattle.iom_owed.proofs.Results.{on_ok}
use Rattle.iom_owed.proofs.holdings.Holdings.read_one.Goals as goal

pub returns-clause-added : goal.returns-clause-added
returns-clause-added g c =
    let state : State = bare (state_on (g.M.Region.memory c.args.ram.now) c.args.board.now) in
    let before : HoldingsView = record { ahead = c.self.inside.ahead.items; entries = c.self.inside.entries; requests = made_in c.self.inside.requests.entries } in
    let after : HoldingsView = record { ahead = c.self.inside.ahead.items; entries = c.renew_all.new.self; requests = made_in c.self.inside.requests.entries } in
    let added : AreAdded (reads_in (ways_of tree_of state [] (Some c.args.request.now))) [] c.deref.result.now =
    rw c.deref.ensures.value (subst (λ (held : List Kept). AreAdded (reads_in (ways_of tree_of state (entries_in held) (Some c.args.request.now))) [] c.gather.new.ways.reads.items)
    c.new-nothing.ensures c.in_ok-gather.ensures.reads) in
    let forms : c.deref-2.result.now ≡ flat_map (kept_as c.features-features.result) c.deref.result.now =
    c.deref-2.ensures.value ∙ (c.in_ok-put_forms.ensures ∙ ap (λ (xs : List Entry). xs ++ flat_map (kept_as c.features-features.result) c.deref.result.now) c.clear.ensures.items) in
    on_ok c.renew_all.result _ (AddsAhead state c.args.request.now c.args.number c.args.self.now after)
    (λ renewed. subst (λ (held : HoldingsView). AddsAhead state c.args.request.now c.args.number held after) c.self.view_is
    (adds_ahead state c.features-features.result c.args.request.now c.args.number before after c.deref.result.now c.deref-2.result.now
    (c.features-features.ensures ∙ ap (λ (registers : Registers). registers.features) c.registers.ensures) added forms renewed refl refl))
    c.renew_all.ensures.renewed
