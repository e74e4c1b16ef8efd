-- What a step of a history that goes along with a platform keeps and returns.
use Rattle.std.proofs.Common.{◌≡◌, ◌∙◌, ◌++◌, ℕ, suc, List, [], ◌∷◌, length, Option, Some, None, refl, sym, ap, subst}
use Rattle.std.specs.Prelude.{◌↔◌, IfSome, slice_get}
use Rattle.std.specs.Option.{option_and_then, option_map}
use Rattle.iom_core.specs.Access.{led}
use Rattle.iom_core.specs.Looking.{nothing_seen, noticed}
use Rattle.iom_core.specs.State.{State}
use Rattle.iom_core.specs.Table.{Asking, asked, next, request_in, request_of_step, told_by_step}
use Rattle.iom_core.specs.Warrants.{IsDenied, IsUncached, moment, request_at, way_at}
use Rattle.iom_core.specs.declared.access.Request.{Request}
use Rattle.iom_core.specs.declared.looking.Lookup.{Lookup}
use Rattle.iom_core.specs.declared.step.Step.{Step}
use Rattle.iom_core.specs.declared.way.Way.{Way}
use Rattle.iom_core.specs.declared.way.Way.TheVariants.{Context as ByContext, Register as ByRegister, Denied, Walked}
use Rattle.iom_core.proofs.Moments.{moment-suc, next_by}
use Rattle.iom_account.specs.Following.{ComesFrom, Follows, HasNoAccess, HistoryView, noted, noted_so, notes_at, number_of, origin_on, origin_so}
use Rattle.iom_account.specs.declared.origin.NumberedWarrant.{NumberedWarrant}
use Rattle.iom_account.proofs.Accessed.{noted_is}
use Rattle.iom_account.proofs.Followed.{bases_kept, contexts_kept, number_last, walks_kept}
use Rattle.iom_account.proofs.Runs.{end_more, item_last, length_more, moment_last}
use Rattle.iom_account.proofs.Told.{by_asked}

-- exactly the accesses that are denied have no origin
none_denied : (notes : HistoryView) (after : State) (request : Request) (number : ℕ) (way : Way) →
    (origin_on notes after request number way ≡ None) ↔ IsDenied way
none_denied notes after request number ByRegister = (λ is. absurd (cc), λ no. absurd no)
none_denied notes after request number (ByContext context) = (λ is. absurd (cc), λ no. absurd no)
none_denied notes after request number (Walked context hit) = (λ is. absurd (cc), λ no. absurd no)
none_denied notes after request number (Denied denial) = (λ is. tt, λ no. refl)

none_asked : (before after : State) (asking : Option Asking) (notes : HistoryView) (seen : Lookup) (number : ℕ) →
    seen ≡ told_by_step noticed nothing_seen before.machine asking →
    (origin_so notes after (option_map request_in asking) number seen.way ≡ None) ↔ HasNoAccess before (option_map request_in asking)
none_asked before after None notes seen number is = (λ same. tt, λ no. refl)
none_asked before after (Some asking) notes seen number is =
    let request = request_in asking in
    let way : seen.way ≡ (led before.machine request).way = ap (λ (s : Lookup). s.way) is in
    subst (λ (w : Way). (origin_on notes after request number w ≡ None) ↔ IsDenied (led before.machine request).way) (sym way)
    (none_denied notes after request number (led before.machine request).way)

pub none_told : (before after : State) (taken : Step) (notes : HistoryView) (seen : Lookup) (number : ℕ) (found : Option NumberedWarrant) →
    seen ≡ told_by_step noticed nothing_seen before.machine (asked before taken) →
    found ≡ origin_so notes after (request_of_step before taken) number seen.way → (found ≡ None) ↔ HasNoAccess before (request_of_step before taken)
none_told before after taken notes seen number found is told =
    subst (λ (o : Option NumberedWarrant). (o ≡ None) ↔ HasNoAccess before (request_of_step before taken)) (sym told)
    (none_asked before after (asked before taken) notes seen number is)

-- what a step notes, and the way that it saw
pub notes_of_step : (history new : HistoryView) (platform after : State) (taken : Step) (request : Option Request) (seen : Lookup) (number : ℕ) →
    request ≡ request_of_step platform taken → seen ≡ told_by_step noticed nothing_seen platform.machine (asked platform taken) →
    new ≡ noted_so after request seen number history → new ≡ noted platform after (request_of_step platform taken) number history
notes_of_step history new platform after taken request seen number own is kept =
    kept ∙ ap (λ (r : Option Request). noted_so after r seen number history) own ∙ noted_is platform after (asked platform taken) seen number history is

pub origin_of_step : (new : HistoryView) (after : State) (request asked : Option Request) (number : ℕ) (seen : Lookup) (found : Option NumberedWarrant) →
    found ≡ origin_so new after request number seen.way → request ≡ asked → found ≡ origin_so new after asked number seen.way
origin_of_step new after request asked number seen found told own = told ∙ ap (λ (r : Option Request). origin_so new after r number seen.way) own

way_seen : (state : State) (asking : Option Asking) (seen : Lookup) → seen ≡ told_by_step noticed nothing_seen state.machine asking →
    IfSome (option_map request_in asking) (λ request. (led state.machine request).way ≡ seen.way)
way_seen state None seen is = tt
way_seen state (Some asking) seen is = sym (ap (λ (s : Lookup). s.way) is)

-- Step k of a run that a history goes along with: what it leaves, and where the translation comes from that it used.
module _ (start : State) (steps : List Step) (numbers : List ℕ) (k : ℕ) (taken : Step) (number : ℕ)
    (is : slice_get steps k ≡ Some taken) (own : number ≡ number_of numbers k)
    (history new : HistoryView) (platform after : State) (seen : Lookup)
    (at : platform ≡ moment start steps k) (kept : history ≡ notes_at start steps numbers k)
    (left : after ≡ (next platform taken).state) (so : seen ≡ told_by_step noticed nothing_seen platform.machine (asked platform taken))
    (notes : new ≡ noted platform after (request_of_step platform taken) number history) where
  asked_there : request_of_step platform taken ≡ request_at start steps k
  asked_there =
      ap (λ (s : State). request_of_step s taken) at
      ∙ sym (ap (option_and_then (request_of_step (moment start steps k))) is)

  pub leaves_moment : after ≡ moment start steps (suc k)
  leaves_moment =
      left ∙ ap (λ (s : State). (next s taken).state) at
      ∙ sym (moment-suc start steps k ∙ ap (next_by (moment start steps k)) is)

  pub leaves_notes : new ≡ notes_at start steps numbers (suc k)
  leaves_notes =
      notes ∙ ap (λ (s : State). noted s after (request_of_step platform taken) number history) at
      ∙ ap (λ (s : State). noted (moment start steps k) s (request_of_step platform taken) number history) leaves_moment
      ∙ ap (λ (r : Option Request). noted (moment start steps k) (moment start steps (suc k)) r number history) asked_there
      ∙ ap (λ (s : ℕ). noted (moment start steps k) (moment start steps (suc k)) (request_at start steps k) s history) own
      ∙ ap (noted (moment start steps k) (moment start steps (suc k)) (request_at start steps k) (number_of numbers k)) kept

  pub origin_there : IsUncached start → (found : Option NumberedWarrant) → found ≡ origin_so new after (request_of_step platform taken) number seen.way →
      ComesFrom start steps numbers k found
  origin_there none found told =
      let led_so : IfSome (request_at start steps k) (λ request. way_at start steps k request ≡ seen.way) =
      subst (λ (r : Option Request). IfSome r (λ request. way_at start steps k request ≡ seen.way)) asked_there
      (subst (λ (s : State). IfSome (request_of_step platform taken) (λ request. (led s.machine request).way ≡ seen.way)) at
      (way_seen platform (asked platform taken) seen so)) in
      subst (ComesFrom start steps numbers k)
      (sym (told ∙ ap (λ (r : Option Request). origin_so new after r number seen.way) asked_there
      ∙ ap (λ (ns : HistoryView). origin_so ns after (request_at start steps k) number seen.way) leaves_notes
      ∙ ap (λ (s : State). origin_so (notes_at start steps numbers (suc k)) s (request_at start steps k) number seen.way) leaves_moment))
      (by_asked start steps numbers none k number (request_at start steps k) seen.way refl led_so)

-- A history goes along with one step more, and its origin for that step is right.
module _ (history new : HistoryView) (platform after : State) (taken : Step) (seen : Lookup) (number : ℕ)
    (left : after ≡ (next platform taken).state)
    (so : seen ≡ told_by_step noticed nothing_seen platform.machine (asked platform taken))
    (notes : new ≡ noted platform after (request_of_step platform taken) number history)
    (start : State) (steps : List Step) (numbers : List ℕ) (h : Follows history platform start steps numbers) where
  abbrev more : List Step
  more = steps ++ taken ∷ []

  abbrev told : List ℕ
  told = numbers ++ number ∷ []

  abbrev n : ℕ
  n = length steps

  own : number ≡ number_of told n
  own = sym (number_last start steps taken numbers number h.numbered)

  at : platform ≡ moment start more n
  at = h.reached ∙ sym (moment_last start steps taken)

  kept : history ≡ notes_at start more told n
  kept = λ i. record {
    contexts = (h.contexts ∙ sym (contexts_kept start steps taken numbers number h.numbered)) i;
    walks = (h.walks ∙ sym (walks_kept start steps taken numbers number h.numbered)) i;
    walk_contexts = (h.walk_contexts ∙ sym (bases_kept start steps taken numbers number h.numbered)) i;
  }

  pub follows_step : Follows new after start more told
  follows_step =
      let is = item_last steps taken in
      let kept_on : new ≡ notes_at start more told (length more) =
      leaves_notes start more told n taken number is own history new platform after seen at kept left so notes
      ∙ ap (notes_at start more told) (sym (length_more steps taken)) in
      record {
        uncached = h.uncached;
        reached = left ∙ ap (λ (s : State). (next s taken).state) h.reached ∙ sym (end_more start steps taken);
        numbered = length_more numbers number ∙ ap suc h.numbered ∙ sym (length_more steps taken);
        contexts = ap (λ (ns : HistoryView). ns.contexts) kept_on;
        walks = ap (λ (ns : HistoryView). ns.walks) kept_on;
        walk_contexts = ap (λ (ns : HistoryView). ns.walk_contexts) kept_on;
      }

  pub origin_step : (found : Option NumberedWarrant) → found ≡ origin_so new after (request_of_step platform taken) number seen.way →
      ComesFrom start more told n found
  origin_step found is =
      origin_there start more told n taken number (item_last steps taken) own history new platform after seen at kept left so notes h.uncached found is
