use Rattle.std.proofs.Common.{◌≡◌, ◌∙◌, ◌∷◌, Option, ap, sym, subst}
use Rattle.iom_core.specs.Table.{next, request_of_step}
use Rattle.iom_owed.specs.Behind.{KeepsBehind}
use Rattle.iom_owed.specs.Holdings.{HoldingsView}
use Rattle.iom_owed.specs.Newest.{steps_of}
use Rattle.iom_debug.specs.Settling.{IsFound, IsFoundBeside, SettlingView, later_unsettled}
use Rattle.iom_debug.specs.declared.settling.UnsettledAccess.{UnsettledAccess}
use Rattle.iom_debug.proofs.settling.Settling.take_known.Goals as goal

pub returns-in-Ok : goal.returns-in-Ok
returns-in-Ok c =
    let before : SettlingView = c.args.self.now in
    let after : SettlingView = c.note_beside.new.self in
    let found : Option UnsettledAccess = c.in-Ok.found.unsettled in
    let other : Option UnsettledAccess = c.in-Ok.found.beside in
    let last : after.last ≡ found = c.note_beside.ensures.last ∙ c.note.ensures.last in
    let last_beside : after.last_beside ≡ other = c.note_beside.ensures.last_beside in
    let holdings : after.holdings ≡ c.follow.new.self.holdings = c.note_beside.ensures.holdings ∙ c.note.ensures.holdings in record {
      told = c.note_beside.ensures.told ∙ (c.note.ensures.told ∙ (ap (λ (was : Option UnsettledAccess). later_unsettled was found) c.in-Ok.ensures.unsettled
          ∙ ap (later_unsettled before.unsettled) (sym last)));
      told_beside = c.note_beside.ensures.told_beside ∙ (ap (λ (was : Option UnsettledAccess). later_unsettled was other) (c.note.ensures.told_beside ∙ c.in-Ok.ensures.other)
          ∙ ap (later_unsettled before.beside) (sym last_beside));
      lost = λ lost. absurd (cc (lost, c.requires.known));
      judged = λ known ahead start taken k.
          subst (IsFound ahead before.holdings start (steps_of taken) (request_of_step c.args.platform.now c.args.step.now)) (sym last) (c.in-Ok.ensures.judged ahead start taken k);
      beside = λ known ahead start taken k.
          let told : Option UnsettledAccess → Option UnsettledAccess → Type 0 = IsFoundBeside ahead before.holdings start (steps_of taken) (request_of_step c.args.platform.now c.args.step.now) in
          subst (λ (now : Option UnsettledAccess). told now after.last_beside) (sym last) (subst (told found) (sym last_beside) (c.in-Ok.ensures.beside ahead start taken k));
      keeps = λ known ahead start taken k.
          subst (λ (held : HoldingsView). KeepsBehind ahead held (next c.args.platform.now c.args.step.now).state start ((c.args.step.now, c.args.number) ∷ taken)) (sym holdings)
          (c.in-Ok.ensures.keeps ahead start taken k);
    }
