use Rattle.std.proofs.Common.{◌∙◌, ℕ, sym, subst, List, ◌∷◌, [], get_or}
use Rattle.std.proofs.lemmas.List.{take_all, take_more}
use Rattle.iom_bits.specs.declared.causes.Kind.TheVariants.{Read}
use Rattle.iom_core.specs.declared.access.Request.{Request}
use Rattle.iom_held.specs.Kept.{Renews}
use Rattle.iom_held.specs.declared.kept.Kept.{Kept}
use Rattle.iom_owed.specs.Behind.{KeepsBehind}
use Rattle.iom_owed.specs.Holdings.{at_page, request_of}
use Rattle.iom_owed.specs.Keys.{made_in}
use Rattle.iom_owed.specs.Notes.{made_of}
use Rattle.iom_owed.specs.declared.noting.Made.{Made}
use Rattle.iom_owed.specs.declared.noting.RequestKey.{RequestKey}
use Rattle.iom_owed.proofs.Listed.{AreListed, listed_first, one_listed}
use Rattle.iom_owed.proofs.holdings.Holdings.reading_ahead.Goals as goal

pub loop-request-preserved : goal.loop-request-preserved
loop-request-preserved c =
    let items : List Request = c.deref-request-items.result.now in
    let own : Request = get_or items c.loop-request.request-index (record { iova = 0; did = 0; kind = Read }) in
    let after : List Made = made_in c.renew_request.new.numbers.entries in
    let renews : Renews request_of (made_of 0 (at_page own) ∷ []) (made_in c.loop-request.requests.entries) after =
    subst (λ (request : Request). Renews request_of (made_of 0 request ∷ []) (made_in c.loop-request.requests.entries) after) c.at_page.ensures
    (subst (λ (entries : List (RequestKey × ℕ)). Renews request_of (made_of 0 c.at_page.result ∷ []) (made_in entries) after) c.in_ok-reserve.ensures.entries c.renew_request.ensures) in
    subst (λ (requests : List Request). AreListed requests after)
    (sym (take_more items c.loop-request.request-index (record { iova = 0; did = 0; kind = Read }) c.loop-request-test.true))
    (one_listed _ own (made_in c.loop-request.requests.entries) after c.loop-request.invariant renews)

pub returns : goal.returns
returns c = λ start.
    let made : List Made = made_in c.loop-request.requests.entries in
    let all : AreListed c.args.ahead.items made =
    subst (λ (requests : List Request). AreListed requests made)
    (take_all c.loop-request.request-index c.deref-request-items.result.now c.loop-request-test.false ∙ c.deref-request-items.ensures.value) c.loop-request.invariant in
    subst (λ (entries : List Kept). KeepsBehind c.args.ahead.items (record { ahead = c.args.ahead.items; entries = entries; requests = made }) start start [])
    (sym c.new.ensures) (listed_first c.args.ahead.items made start all)
