-- The candidates behind a step are, but for order and twins, all that the IOMMU may be there.
use Rattle.std.proofs.Common.{◌≡◌, ◌∙◌, ◌⊎◌, ◌++◌, not, Bool, true, List, [], map, Option, Some, None, if◌then◌else◌, refl, sym, ap, subst, inl, inr}
use Rattle.std.specs.List.{AllByRecursion}
use Rattle.std.specs.Option.{option_map}
use Rattle.std.specs.Prelude.{filter, flat_map}
use Rattle.iom_choices.specs.Late.{is_fence_by}
use Rattle.iom_choices.specs.Marked.{AreMarkedAlike, IsBehindMarked, IsMoreMarked, Marked, fresh_reads, holds_behind, lasting, marked_behind, outlasts_behind, telling}
use Rattle.iom_choices.specs.Systems.{IsAmong}
use Rattle.iom_choices.specs.Traces.{leds_of}
use Rattle.iom_choices.specs.Trees.{reads_at, ways_over}
use Rattle.iom_choices.proofs.Lists.{IsPassed, each_of, passed}
use Rattle.iom_choices.proofs.Traces.{IsImage, among_mapped, image_of}
use Rattle.iom_choices.proofs.Trees.{IsFromOne, among_filter, among_map, from_one}
use Rattle.iom_core.specs.Rows.{bare, row}
use Rattle.iom_core.specs.State.{State}
use Rattle.iom_core.specs.Table.{Asking, asked, executed, request_in, request_of_step}
use Rattle.iom_core.specs.declared.access.Request.{Request}
use Rattle.iom_core.specs.declared.step.Answer.{Answer}
use Rattle.iom_core.specs.declared.step.Step.{Step}
use Rattle.iom_core.specs.declared.way.Way.{Way as Led}
use Rattle.iom_core.specs.Access.{address_on}
use Rattle.iom_queue.specs.declared.command.Command.{Command}
use Rattle.iom_every.specs.Every.{iommu, is_listed, queue_commands}
use Rattle.iom_every.specs.Making.{is_whole, translations}
use Rattle.iom_every.specs.Trees.{every_tree, tree_of}
use Rattle.iom_every.specs.Ways.{Goes}
use Rattle.iom_every.specs.declared.entry.Entry.{Entry}
use Rattle.iom_every.proofs.Kept.{asks_bare, executes_bare}
use Rattle.iom_every.proofs.LedRows.{row_bare, row_bare_none}
use Rattle.iom_every.proofs.Rows.{IsAs}
use Rattle.iom_held.specs.Kept.{HasNoneTwice, entries_in, is_spared, may_lend}
use Rattle.iom_held.specs.declared.kept.Kept.{Kept}
use Rattle.iom_held.proofs.Left.{left_once}
use Rattle.iom_judge.specs.Behind.{AreBehind, behind_one, fresh_over, next_of}
use Rattle.iom_judge.specs.Candidates.{CandidateView, goes_over, marked_of}
use Rattle.iom_judge.specs.Seen.{fits_seen}
use Rattle.iom_judge.specs.declared.seen.Seen.{Seen}
use Rattle.iom_judge.proofs.Held.{AreSame, is_added, lasting_are, same_both, same_self, same_then}
use Rattle.iom_judge.proofs.Left.{left_held, left_spared, same_filtered, same_left, same_right, spares}
use Rattle.iom_judge.proofs.More.{forms_same}
use Rattle.iom_judge.proofs.Places.{goes_are, reads_are}
use Rattle.iom_judge.proofs.One.{one_behind}
use Rattle.iom_owed.specs.Notes.{read_by}
use Rattle.iom_ways.specs.Ways.{leads}

-- where a step may go, its row doesn't depend on this model's caches
no_asking : (asking : Option Asking) → option_map request_in asking ≡ None → asking ≡ None
no_asking None is = refl
no_asking (Some asking) is = absurd (cc)

record IsSomewhere (goes : Option Goes) : Type 0 where
  where_to : Goes
  is : goes ≡ Some where_to

some_or_none : (state : State) (held : List Entry) (request : Option Request) (goes : Option Goes) → IsAmong (goes_over state held request) goes → ((request ≡ None) × (goes ≡ None)) ⊎ IsSomewhere goes
some_or_none state held None goes (inl same) = inl (refl, sym same)
some_or_none state held None goes (inr h) = absurd h
some_or_none state held (Some request) goes h =
    let place : Led → Option Goes = λ led. Some (address_on led request.iova) in
    let m : IsImage place (leads (ways_over held (tree_of state request))) goes = image_of place (leads (ways_over held (tree_of state request))) goes h in
    inr (record { where_to = address_on m.source request.iova; is = sym m.is })

pub row_same : (state : State) (held : List Entry) (taken : Step) (goes : Option Goes) → IsAmong (goes_over (bare state) held (request_of_step state taken)) goes → IsAs (row state taken goes) (row (bare state) taken goes)
row_same state held taken goes h = elim (some_or_none (bare state) held (request_of_step state taken) goes h) [
  | inl none ↦
      let asks : asked (bare state) taken ≡ None = no_asking (asked (bare state) taken) (asks_bare state taken ∙ none.0) in
      subst (λ (goes : Option Goes). IsAs (row state taken goes) (row (bare state) taken goes)) (sym none.1) (row_bare_none state taken asks)
  | inr some ↦ subst (λ (goes : Option Goes). IsAs (row state taken goes) (row (bare state) taken goes)) (sym some.is) (row_bare state taken some.where_to)
]

behind_is : (state : State) (held : List Kept) (taken : Step) (seen : Seen) (goes : Option Goes) → fits_seen ((row state taken goes).answer, goes) seen ≡ true →
    IsAmong (behind_one state held taken seen goes) (next_of state held taken goes)
behind_is state held taken seen goes fits = rw fits (inl refl)

module _ (taken : Step) (seen : Seen) (before : CandidateView) (once : HasNoneTwice (entries_in before.held)) (added : List CandidateView) (b : AreBehind taken seen before added) where
  abbrev state : State
  state = before.platform

  abbrev held : List Entry
  held = entries_in before.held

  abbrev outlasting : List Entry
  outlasting = entries_in (filter is_spared before.held)

  abbrev reads : List Entry
  reads = read_by (bare state) held (request_of_step state taken)

  abbrev fresh : List Entry
  fresh = fresh_reads (telling (iommu (is_listed []))) translations every_tree [] (marked_of before) taken

  -- what the system has behind the step
  abbrev make : Option Goes → Marked State Entry
  make goes = record {
    state = bare (row (bare state) taken goes).state;
    holds = holds_behind (telling (iommu (is_listed []))) queue_commands translations every_tree [] (marked_of before) taken;
    outlasts = outlasts_behind (telling (iommu (is_listed []))) queue_commands translations every_tree [] (marked_of before) taken;
  }

  abbrev test : Option Goes → Bool
  test goes = fits_seen ((row (bare state) taken goes).answer, goes) seen

  abbrev leds : List (Option Goes)
  leds = leds_of every_tree (bare state) held (request_of_step (bare state) taken)

  reads_same : reads_at (telling (iommu (is_listed []))) every_tree [] (bare state) held taken ≡ reads
  reads_same = reads_are (bare state) held taken ∙ ap (read_by (bare state) held) (asks_bare state taken)

  leds_same : leds ≡ goes_over (bare state) held (request_of_step state taken)
  leds_same = goes_are (bare state) held (request_of_step (bare state) taken) ∙ ap (goes_over (bare state) held) (asks_bare state taken)

  mid_has : AreSame (entries_in b.holds.mid) (held ++ reads)
  mid_has = is_added reads held (entries_in b.holds.mid) b.holds.reads.holds

  -- of what is read the system has the same as fresh
  lenders_same : AreSame (entries_in (filter may_lend before.held)) (lasting translations (marked_of before))
  lenders_same = lasting_are before.held

  fresh_same : AreSame (fresh_over state before.held taken) fresh
  fresh_same =
      let lenders : List Entry = entries_in (filter may_lend before.held) in
      let lent : List Entry = read_by (bare state) lenders (request_of_step state taken) in
      let own : List Entry = reads_at (telling (iommu (is_listed []))) every_tree [] (bare state) (lasting translations (marked_of before)) taken in
      let is_own : read_by (bare state) (lasting translations (marked_of before)) (request_of_step state taken) ≡ own =
      sym (reads_are (bare state) (lasting translations (marked_of before)) taken ∙ ap (read_by (bare state) (lasting translations (marked_of before))) (asks_bare state taken)) in
      same_both (filter (λ entry. not (is_whole entry)) reads) (filter is_whole lent) _ (filter is_whole own)
      (same_right _ _ _ (same_self (filter (λ entry. not (is_whole entry)) reads)) (ap (filter (λ entry. not (is_whole entry))) (sym reads_same)))
      (same_filtered is_whole lent own (same_right _ _ _ (forms_same (bare state) lenders (lasting translations (marked_of before)) lenders_same (request_of_step state taken)) is_own))

  mid_lasts : AreSame (entries_in (filter is_spared b.holds.mid)) (outlasting ++ fresh)
  mid_lasts = same_then _ (outlasting ++ fresh_over state before.held taken) _
      (is_added (fresh_over state before.held taken) outlasting (entries_in (filter is_spared b.holds.mid)) (b.holds.reads.outlasts once))
      (same_both outlasting (fresh_over state before.held taken) outlasting fresh (same_self outlasting) fresh_same)

  -- what is left of these, by a command
  abbrev left_lasting : Option Command → List Entry
  left_lasting command = filter (spares command) (outlasting ++ fresh)

  abbrev left_entries : Option Command → List Entry → List Entry
  left_entries command reads = if is_fence_by queue_commands command then left_lasting command else held ++ reads

  lasts : AreSame (entries_in (filter is_spared b.held)) (outlasts_behind (telling (iommu (is_listed []))) queue_commands translations every_tree [] (marked_of before) taken)
  lasts =
      let is : AreSame (entries_in (filter is_spared b.held)) (left_lasting (executed state taken)) =
      same_left _ _ _ (ap (λ (kept : List Kept). entries_in (filter is_spared kept)) b.holds.left) (left_spared 0 (executed state taken) b.holds.mid (outlasting ++ fresh) mid_lasts) in
      same_right _ _ _ is (λ n. left_lasting (sym (executes_bare state taken) n))

  holds : AreSame (entries_in b.held) (holds_behind (telling (iommu (is_listed []))) queue_commands translations every_tree [] (marked_of before) taken)
  holds =
      let is : AreSame (entries_in b.held) (left_entries (executed state taken) reads) =
      same_left _ _ _ (ap (λ (kept : List Kept). entries_in kept) b.holds.left) (left_held 0 (executed state taken) b.holds.mid (outlasting ++ fresh) (held ++ reads) mid_lasts mid_has) in
      same_right _ _ _ is (λ n. left_entries (sym (executes_bare state taken) n) (sym reads_same n))

  there : (goes : Option Goes) → IsAmong b.places goes → IsAmong (goes_over (bare state) held (request_of_step state taken)) goes
  there goes h = elim ((b.goes goes).0 h) [
    | inl none ↦ absurd none
    | inr place ↦ place
  ]

  same_fit : (goes : Option Goes) → IsAmong (goes_over (bare state) held (request_of_step state taken)) goes → fits_seen ((row state taken goes).answer, goes) seen ≡ test goes
  same_fit goes h = ap (λ (answer : Answer). fits_seen (answer, goes) seen) (row_same state held taken goes h).answered

  same_state : (goes : Option Goes) → IsAmong (goes_over (bare state) held (request_of_step state taken)) goes → bare (row state taken goes).state ≡ bare (row (bare state) taken goes).state
  same_state goes h = (row_same state held taken goes h).left

  put_within : (one : CandidateView) → IsAmong added one → IsAmong (flat_map (behind_one state b.held taken seen) b.places) one
  put_within one h = subst (λ (all : List CandidateView). IsAmong all one) b.are h

  within_all : (one : CandidateView) → IsAmong added one → IsBehindMarked (map make (filter test leds)) (marked_of one)
  within_all one h =
      let f : IsFromOne (behind_one state b.held taken seen) b.places one = from_one (behind_one state b.held taken seen) b.places one (put_within one h) in
      let at : IsAmong (goes_over (bare state) held (request_of_step state taken)) f.source = there f.source f.at in
      let k = one_behind state b.held taken seen f.source one f.among in
      let fits : test f.source ≡ true = sym (same_fit f.source at) ∙ k.0 in
      record {
        more = make f.source;
        among = among_mapped make (filter test leds) f.source (among_filter test leds f.source (subst (λ (all : List (Option Goes)). IsAmong all f.source) (sym leds_same) at) fits);
        is = subst (λ (one : CandidateView). IsMoreMarked (marked_of one) (make f.source)) k.1 (record { state = same_state f.source at; holds = holds.within; outlasts = lasts.within });
      }

  enough_all : (one : Marked State Entry) → IsAmong (map make (filter test leds)) one → IsBehindMarked (map marked_of added) one
  enough_all one h =
      let m : IsImage make (filter test leds) one = image_of make (filter test leds) one h in
      let p : IsPassed test leds m.source = passed test leds m.source m.among in
      let at : IsAmong (goes_over (bare state) held (request_of_step state taken)) m.source = subst (λ (all : List (Option Goes)). IsAmong all m.source) leds_same p.among in
      let place : IsAmong b.places m.source = (b.goes m.source).1 (inr at) in
      let next : CandidateView = next_of state b.held taken m.source in
      let among : IsAmong added next = subst (λ (all : List CandidateView). IsAmong all next) (sym b.are)
      (among_map (behind_one state b.held taken seen) b.places m.source next place (behind_is state b.held taken seen m.source (same_fit m.source at ∙ p.passes))) in
      let is : IsMoreMarked (make m.source) (marked_of next) = record { state = sym (same_state m.source at); holds = holds.enough; outlasts = lasts.enough } in
      record {
        more = marked_of next;
        among = among_mapped marked_of added next among;
        is = subst (λ (one : Marked State Entry). IsMoreMarked one (marked_of next)) m.is is;
      }

  pub behind_alike : AreMarkedAlike (map marked_of added) (marked_behind (telling (iommu (is_listed []))) queue_commands translations every_tree [] fits_seen (taken, seen) (marked_of before))
  behind_alike = record {
    within = λ one h.
        let m : IsImage marked_of added one = image_of marked_of added one h in
        subst (IsBehindMarked (map make (filter test leds))) m.is (within_all m.source m.among);
    enough = enough_all;
  }

  -- what is held stands there once
  pub once_behind : AllByRecursion (λ (candidate : CandidateView). HasNoneTwice (entries_in candidate.held)) added
  once_behind = each_of (λ (candidate : CandidateView). HasNoneTwice (entries_in candidate.held)) added (λ one h.
      let f : IsFromOne (behind_one state b.held taken seen) b.places one = from_one (behind_one state b.held taken seen) b.places one (put_within one h) in
      let k = one_behind state b.held taken seen f.source one f.among in
      let single : HasNoneTwice (entries_in b.held) = subst (λ (kept : List Kept). HasNoneTwice (entries_in kept)) (sym b.holds.left) (left_once 0 (executed state taken) b.holds.mid (b.holds.reads.once once)) in
      subst (λ (one : CandidateView). HasNoneTwice (entries_in one.held)) k.1 single)
