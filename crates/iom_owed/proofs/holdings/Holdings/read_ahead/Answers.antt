use Rattle.std.proofs.Common.{arith, ◌≡◌, ◌∙◌, ◌<◌, ◌≤◌, ap, sym, subst, inl, inr, List, Some, length}
use Rattle.std.specs.Prelude.{slice_get}
use Rattle.std.proofs.lemmas.List.{drop_all}
use Rattle.std.proofs.lemmas.Option.{slice_get-get_or}
use Rattle.iom_choices.specs.Systems.{IsAmong}
use Rattle.iom_choices.proofs.Lists.{among_at}
use Rattle.iom_core.specs.State.{State, state_on}
use Rattle.iom_core.specs.declared.access.Request.{Request}
use Rattle.iom_every.specs.Rows.{bare}
use Rattle.iom_owed.specs.Holdings.{HoldingsView}
use Rattle.iom_owed.specs.Notes.{AddsAhead, HasReadAll}
use Rattle.iom_owed.proofs.There.{read_adds, read_all, read_still}
use Rattle.iom_owed.proofs.holdings.Holdings.read_ahead.Goals as goal

pub loop-i-preserved : goal.loop-i-preserved
loop-i-preserved g c =
    let state : State = state_on (g.M.Region.memory c.args.ram.now) c.args.board.now in
    let before : HoldingsView = c.loop-i.self in
    let after : HoldingsView = c.read_one.new.self in
    let own : Request = c.index.result.now in
    let adds : AddsAhead (bare state) own c.args.number before after = c.in_ok-read_one.ensures.added in
    let requests : HoldingsView → List Request = λ held. held.ahead in
    let same : c.self-in-loop-i.inside.ahead.items ≡ c.self.inside.ahead.items = ap requests c.self-in-loop-i.view_is ∙ (c.loop-i.invariant.0 ∙ sym (ap requests c.self.view_is)) in
    let both : length c.self-in-loop-i.inside.ahead.items ≡ length c.self.inside.ahead.items = ap length same in
    let inside : c.loop-i.i < length c.self-in-loop-i.inside.ahead.items = omega (arith, c.loop-i-test.true, c.len-i-end.ensures, c.self.inside.ahead.ok.0, both) in
    let at : slice_get before.ahead c.loop-i.i ≡ Some own =
    ap (λ (held : HoldingsView). slice_get held.ahead c.loop-i.i) (sym c.self-in-loop-i.view_is)
    ∙ (slice_get-get_or c.self-in-loop-i.inside.ahead.items c.loop-i.i own inside ∙ ap Some (sym c.index.ensures)) in (
      adds.ahead ∙ c.loop-i.invariant.0,
      λ ahead start taken newest k.
          let was = c.loop-i.invariant.1 ahead start taken newest k in
          let there : IsAmong ahead own = subst (λ (xs : List Request). IsAmong xs own) was.0.ahead_is (among_at before.ahead c.loop-i.i own at) in (
            read_adds ahead before after state start taken own c.args.number newest there adds was.0,
            read_still (bare state) own c.args.number before after c.loop-i.i adds was.0.entries_once at was.1,
          ),
    )

pub returns-clause-keeps : goal.returns-clause-keeps
returns-clause-keeps g c = λ ahead start taken newest k.
    let state : State = state_on (g.M.Region.memory c.args.ram.now) c.args.board.now in
    let left = c.loop-i.invariant.1 ahead start taken newest k in
    let requests : HoldingsView → List Request = λ held. held.ahead in
    let same : length c.loop-i.self.ahead ≡ length c.self.inside.ahead.items = ap length (c.loop-i.invariant.0 ∙ sym (ap requests c.self.view_is)) in
    let past : length c.loop-i.self.ahead ≤ c.loop-i.i = omega (arith, c.loop-i-test.false, c.len-i-end.ensures, c.self.inside.ahead.ok.0, same) in
    let all : HasReadAll (bare state) c.args.number c.loop-i.self = λ request h. elim (left.1 request h) [
      | inl done ↦ done
      | inr rest ↦ absurd (subst (λ (xs : List Request). IsAmong xs request) (drop_all c.loop-i.i c.loop-i.self.ahead past) rest)
    ] in read_all ahead c.loop-i.self state start taken c.args.number newest left.0 all
