use Rattle.std.proofs.Common.{◌∷◌, []}
use Rattle.iom_choices.specs.Systems.{IsAmong}
use Rattle.iom_core.specs.State.{State, state_on}
use Rattle.iom_core.specs.declared.way.Way.{Way as Led}
use Rattle.iom_every.specs.Rows.{bare}
use Rattle.iom_owed.specs.Alike.{IsAlike}
use Rattle.iom_owed.specs.Alone.{leads_over}
use Rattle.iom_owed.proofs.Alone.{tried_alike, tried_new, tried_older}
use Rattle.iom_owed.proofs.Results.{of_none, of_some}
use Rattle.iom_owed.proofs.serving.try_entry.Goals as goal

pub returns-then-not-is_older : goal.returns-then-not-is_older
returns-then-not-is_older g c =
    tried_older c.args.whole (bare (state_on (g.M.Region.memory c.args.ram.now) c.args.board.now)) c.args.request.now c.args.tables.now c.args.kept.now c.args.oldest.now (c.is_older.ensures.not c.if-not-is_older.true)

pub returns-in_default : goal.returns-in_default
returns-in_default g c =
    tried_alike c.args.whole (bare (state_on (g.M.Region.memory c.args.ram.now) c.args.board.now)) c.args.request.now c.args.tables.now c.args.kept.now c.args.oldest.now
    (of_none _ _ c.in_default.is c.in_ok-elsewhere.ensures.none)

pub returns : goal.returns
returns g c =
    let state : State = bare (state_on (g.M.Region.memory c.args.ram.now) c.args.board.now) in
    tried_new c.args.whole state c.args.request.now c.args.tables.now c.args.kept.now c.args.oldest.now c.in-Some.elsewhere (c.is_older.ensures.older c.if-not-is_older.false)
    (of_some _ (IsAmong (leads_over state c.args.request.now (c.args.kept.now.entry ∷ []))) _ c.in-Some.is c.in_ok-elsewhere.ensures.found)
    (of_some _ (λ (way : Led). IsAlike c.args.whole c.args.request.now.iova way c.args.tables.now → ⊥) _ c.in-Some.is c.in_ok-elsewhere.ensures.differs)
