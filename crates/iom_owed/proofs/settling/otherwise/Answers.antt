use Rattle.std.proofs.Common.{◌≡◌, ◌↔◌}
use Rattle.iom_choices.specs.Systems.{IsAmong}
use Rattle.iom_core.specs.Looking.{by_tables}
use Rattle.iom_core.specs.State.{State, state_on}
use Rattle.iom_core.specs.declared.way.Way.{Way as Led}
use Rattle.iom_every.specs.Rows.{bare}
use Rattle.iom_held.specs.Kept.{entries_in}
use Rattle.iom_owed.specs.Alone.{leads_over}
use Rattle.iom_owed.proofs.Alone.{alike_to, told_alike, told_otherwise}
use Rattle.iom_owed.proofs.Lists.{added_to_none}
use Rattle.iom_owed.proofs.settling.otherwise.Goals as goal

pub returns-then-lead_alike : goal.returns-then-lead_alike
returns-then-lead_alike g c =
    let state : State = state_on (g.M.Region.memory c.args.ram.now) c.args.board.now in
    told_alike c.args.whole state c.args.request.now c.args.held.now c.args.led.now c.requires.led (c.lead_alike.ensures c.if-lead_alike.true)

pub returns-in_default : goal.returns-in_default
returns-in_default g c = λ way among.
    let state : State = state_on (g.M.Region.memory c.args.ram.now) c.args.board.now in
    let listed : (way : Led) → IsAmong c.args.led.now way ↔ IsAmong (leads_over (bare state) c.args.request.now (entries_in c.args.held.now)) way =
    added_to_none (leads_over (bare state) c.args.request.now (entries_in c.args.held.now)) c.args.led.now c.requires.led in
    alike_to c.args.whole c.args.request.now.iova way c.way_by_tables-tables.result (by_tables state.machine c.args.request.now)
    (c.in_default.ensures.none way ((listed way).1 among)) c.way_by_tables-tables.ensures

pub returns : goal.returns
returns g c =
    let state : State = state_on (g.M.Region.memory c.args.ram.now) c.args.board.now in
    let told : c.way_by_tables-tables.result ≡ by_tables state.machine c.args.request.now = c.way_by_tables-tables.ensures in
    let listed : (way : Led) → IsAmong c.args.led.now way ↔ IsAmong (leads_over (bare state) c.args.request.now (entries_in c.args.held.now)) way =
    added_to_none (leads_over (bare state) c.args.request.now (entries_in c.args.held.now)) c.args.led.now c.requires.led in
    rw c.unwrap_or.ensures (told_otherwise c.args.whole state c.args.request.now c.args.held.now c.way_by_tables-tables.result c.in-Some.elsewhere c.in_ok-alone.alone told
    ((listed c.in-Some.elsewhere).0 c.in-Some.ensures.found) c.in-Some.ensures.differs c.in_ok-alone.ensures)
