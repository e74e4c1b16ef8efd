use Rattle.std.proofs.Common.{◌≡◌, ◌∙◌, [], List, sym, subst}
use Rattle.std.proofs.lemmas.Bool.{eqb-true}
use Rattle.std.proofs.lemmas.List.{nil_from_length}
use Rattle.std.specs.Vec.{vec_len}
use Rattle.iom_core.specs.declared.access.Request.{Request}
use Rattle.iom_scripts.specs.Beginning.{BeginsAccount}
use Rattle.iom_scripts.proofs.Begins.{follows_none}
use Rattle.iom_scripts.proofs.beginning.account_ahead.Goals as goal
use Rattle.iom_scripts.proofs.beginning.account_ahead.Goals.{else-follows-via-then-follows+else-not-is_empty, else-follows-via-else-follows}

pub returns-else-follows : goal.returns-else-follows
returns-else-follows c = elim c.else-follows.branch [
  | else-follows-via-then-follows+else-not-is_empty w ↦
      let none : c.args.ahead.items ≡ [] = nil_from_length c.args.ahead.items (sym c.args.ahead.ok.0 ∙ eqb-true (vec_len c.args.ahead) 0 (sym w.if-not-is_empty.ensures)) in
      subst (λ (ahead : List Request). BeginsAccount ahead c.args.follows c.args.platform.now c.account.result) (sym none) c.account.ensures
  | else-follows-via-else-follows w ↦ follows_none c.args.ahead.items c.args.follows c.args.platform.now c.account.result w.if-follows.false c.account.ensures
]
