use Rattle.std.proofs.Common.{◌∙◌, Option, Some, None, refl, sym, subst}
use Rattle.iom_owed.specs.Newest.{steps_of}
use Rattle.iom_owed.specs.Settled.{IsJudged, IsOwedAt}
use Rattle.iom_owed.specs.declared.noting.Made.{Made}
use Rattle.iom_owed.proofs.holdings.Holdings.owed_at.Goals as goal

pub returns-in_default : goal.returns-in_default
returns-in_default g c = λ ahead start taken k.
    subst (λ (made : Option Made). IsOwedAt ahead c.args.self.now start (steps_of taken) made None) (sym c.in_default.is ∙ c.request.ensures) refl

pub returns-in-None : goal.returns-in-None
returns-in-None g c = λ ahead start taken k.
    subst (λ (made : Option Made). IsOwedAt ahead c.args.self.now start (steps_of taken) made None) (sym c.in-Some.is ∙ c.request.ensures)
    (subst (IsJudged ahead c.args.self.now start (steps_of taken) c.in-Some.made.request) c.in-None.is (c.in_ok-unsettled.ensures ahead start taken k))

pub returns-in-Some-2 : goal.returns-in-Some-2
returns-in-Some-2 g c = λ ahead start taken k.
    subst (λ (made : Option Made). IsOwedAt ahead c.args.self.now start (steps_of taken) made (Some (record { made = c.in-Some.made; unsettled = c.in-Some-2.unsettled })))
    (sym c.in-Some.is ∙ c.request.ensures)
    (refl, subst (IsJudged ahead c.args.self.now start (steps_of taken) c.in-Some.made.request) c.in-Some-2.is (c.in_ok-unsettled.ensures ahead start taken k))
