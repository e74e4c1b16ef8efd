-- The answers that candidates may give are those that some IOMMU may.
use Rattle.std.proofs.Common.{◌≡◌, ◌∙◌, ◌↔◌, ◌||◌, Bool, true, false, List, [], ◌∷◌, Option, Some, map, if◌then◌else◌, refl, sym, ap, subst}
use Rattle.std.specs.List.{list_any}
use Rattle.std.specs.Prelude.{filter}
use Rattle.iom_choices.specs.Marked.{AreMarkedAlike, Marked, holds_behind, marked_behind, outlasts_behind, telling}
use Rattle.iom_choices.specs.Traces.{is_any, leds_of, onward}
use Rattle.iom_choices.proofs.Deciding.{allowed_marked, goes_on, marked_decides}
use Rattle.iom_core.specs.Rows.{bare, row}
use Rattle.iom_core.specs.State.{State}
use Rattle.iom_core.specs.Table.{request_of_step}
use Rattle.iom_core.specs.declared.step.Answer.{Answer}
use Rattle.iom_core.specs.declared.step.Step.{Step}
use Rattle.iom_every.specs.Every.{iommu, is_listed, queue_commands}
use Rattle.iom_every.specs.Judged.{AreJudged, IsOneTraceAllowed}
use Rattle.iom_every.specs.Making.{translations}
use Rattle.iom_every.specs.Trees.{every_tree}
use Rattle.iom_every.specs.Ways.{Goes}
use Rattle.iom_every.specs.declared.entry.Entry.{Entry}
use Rattle.iom_every.proofs.Judged.{judged_ahead, telling_trees}
use Rattle.iom_every.proofs.Kept.{asks_bare}
use Rattle.iom_held.specs.Kept.{entries_in}
use Rattle.iom_judge.specs.Candidates.{AreCandidates, ArePossible, CandidateView, IsListed, goes_over, is_any_fit, marked_of}
use Rattle.iom_judge.specs.Seen.{fits_seen}
use Rattle.iom_judge.specs.Showing.{IsTold, can_any_show, can_show, shows_at}
use Rattle.iom_judge.specs.declared.judge.Verdict.{Verdict}
use Rattle.iom_judge.specs.declared.judge.Verdict.TheVariants.{Allowed, Refused}
use Rattle.iom_ways.specs.Ways.{AreAdded}
use Rattle.iom_judge.specs.declared.possible.Possible.{Possible}
use Rattle.iom_judge.specs.declared.seen.Seen.{Seen}
use Rattle.iom_judge.proofs.Alike.{row_same}
use Rattle.iom_judge.proofs.Any.{added_any, any_alike, any_append, any_filtered, any_mapped}
use Rattle.iom_judge.proofs.Judged.{behind_all}
use Rattle.iom_judge.proofs.Places.{goes_are}

alike_self : (all : List (Marked State Entry)) → AreMarkedAlike all all
alike_self all = record {
  within = λ one h. record { more = one; among = h; is = record { state = refl; holds = λ entry h. h; outlasts = λ entry h. h } };
  enough = λ one h. record { more = one; among = h; is = record { state = refl; holds = λ entry h. h; outlasts = λ entry h. h } };
}

shown_one : (taken : Step) (seen : Seen) (before : CandidateView) →
    is_any (marked_behind (telling (iommu (is_listed []))) queue_commands translations every_tree [] fits_seen (taken, seen) (marked_of before)) ≡ can_show taken seen before
shown_one taken seen before =
    let state : State = before.platform in
    let held : List Entry = entries_in before.held in
    let make : Option Goes → Marked State Entry = λ goes. record {
      state = bare (row (bare state) taken goes).state;
      holds = holds_behind (telling (iommu (is_listed []))) queue_commands translations every_tree [] (marked_of before) taken;
      outlasts = outlasts_behind (telling (iommu (is_listed []))) queue_commands translations every_tree [] (marked_of before) taken;
    } in
    let test : Option Goes → Bool = λ goes. fits_seen ((row (bare state) taken goes).answer, goes) seen in
    let own : Option Goes → Bool = λ goes. fits_seen ((row state taken goes).answer, goes) seen in
    let leds : List (Option Goes) = leds_of every_tree (bare state) held (request_of_step (bare state) taken) in
    let places : List (Option Goes) = goes_over (bare state) held (request_of_step state taken) in
    let same : leds ≡ places = goes_are (bare state) held (request_of_step (bare state) taken) ∙ ap (goes_over (bare state) held) (asks_bare state taken) in
    any_mapped make (filter test leds) ∙ any_filtered test leds ∙ ap (λ (all : List (Option Goes)). list_any test all) same
    ∙ any_alike test own places (λ goes h. ap (λ (answer : Answer). fits_seen (answer, goes) seen) (sym (row_same state held taken goes h).answered))

shown_all : (taken : Step) (seen : Seen) (all : List CandidateView) → is_any (behind_all taken seen all) ≡ can_any_show taken seen all
shown_all taken seen [] = refl
shown_all taken seen (one ∷ all) =
    any_append (marked_behind (telling (iommu (is_listed []))) queue_commands translations every_tree [] fits_seen (taken, seen) (marked_of one)) (behind_all taken seen all)
    ∙ (λ n. shown_one taken seen one n || shown_all taken seen all n)

pub shown_is : (start : State) (traces : List (List (Step × Seen))) (all : List CandidateView) (taken : Step) (seen : Seen) (shown : Bool) → AreCandidates start traces all → shown ≡ can_any_show taken seen all →
    shown ≡ true ↔ IsOneTraceAllowed [] fits_seen start (onward (taken, seen) traces)
shown_is start traces all taken seen shown are is =
    let next : List (Marked State Entry) = behind_all taken seen all in
    let on : AreJudged [] fits_seen start (onward (taken, seen) traces) next =
    goes_on (telling (iommu (is_listed []))) queue_commands translations every_tree (telling_trees (is_listed [])) [] (judged_ahead []) fits_seen (bare start) traces (map marked_of all) are.are (taken, seen) next (alike_self next) in
    let same : is_any next ≡ shown = shown_all taken seen all ∙ sym is in (
      λ any. marked_decides (telling (iommu (is_listed []))) queue_commands translations every_tree fits_seen (bare start) (onward (taken, seen) traces) next on (same ∙ any),
      λ allowed. sym same ∙ allowed_marked (telling (iommu (is_listed []))) queue_commands translations every_tree fits_seen (bare start) (onward (taken, seen) traces) next on allowed,
    )

-- what one may answer, where its access goes to each of its places
pub shown_there : (own before : CandidateView) (places all : List (Option Goes)) (taken : Step) (seen : Seen) (old new : Bool) → own ≡ before → all ≡ places →
    AreAdded (goes_over (bare own.platform) (entries_in own.held) (request_of_step own.platform taken)) [] places → new ≡ (old || shows_at own.platform taken seen all) → new ≡ (old || can_show taken seen before)
shown_there own before places all taken seen old new same is added told =
    told ∙ ap (λ (places : List (Option Goes)). old || shows_at own.platform taken seen places) is
    ∙ ap (λ (b : Bool). old || b) (added_any (λ (goes : Option Goes). fits_seen ((row own.platform taken goes).answer, goes) seen) (goes_over (bare own.platform) (entries_in own.held) (request_of_step own.platform taken)) places added)
    ∙ ap (λ (before : CandidateView). old || can_show taken seen before) same

pub possible_is : (start : State) (traces : List (List (Step × Seen))) (all own : List CandidateView) (taken : Step) (list : List Possible) → AreCandidates start traces all → own ≡ all →
    ((seen : Seen) → is_any_fit seen list ≡ can_any_show taken seen own) → ArePossible start traces taken list
possible_is start traces all own taken list are same told = λ seen. shown_is start traces all taken seen (is_any_fit seen list) are (told seen ∙ ap (can_any_show taken seen) same)

pub taken_listed : (start : State) (traces : List (List (Step × Seen))) (all own : List CandidateView) (taken : Step) (fits : Bool) (verdict : Verdict) (list : List Possible) →
    verdict ≡ (if fits then Allowed else Refused) → AreCandidates start traces all → own ≡ all → IsTold taken (Some fits) own list → IsListed start traces taken verdict list
taken_listed start traces all own taken true verdict list is are same told =
    subst (λ (verdict : Verdict). IsListed start traces taken verdict list) (sym is) told
taken_listed start traces all own taken false verdict list is are same told =
    subst (λ (verdict : Verdict). IsListed start traces taken verdict list) (sym is) (possible_is start traces all own taken list are same told.0, told.1)
