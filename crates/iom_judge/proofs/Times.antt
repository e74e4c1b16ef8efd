-- A step that nobody saw, any number of times.
use Rattle.std.proofs.Common.{◌≡◌, ◌∙◌, ◌++◌, ◌+◌, ◌-◌, ◌≤◌, ℕ, zero, suc, not, Bool, true, false, List, [], ◌∷◌, Option, None, IsTrue, refl, sym, ap, subst, inl, inr, arith}
use Rattle.std.specs.Bool.{OnFalse}
use Rattle.iom_choices.specs.Systems.{IsAmong}
use Rattle.iom_choices.specs.Traces.{onward}
use Rattle.iom_choices.specs.Trees.{reads_in, ways_of}
use Rattle.iom_choices.proofs.Lists.{among-left, among-right, among_either}
use Rattle.iom_choices.proofs.Traces.{IsImage, among_mapped, image_of}
use Rattle.iom_core.specs.Rows.{acted_row, bare, row}
use Rattle.iom_core.proofs.Quiet.{still as nothing_signalled}
use Rattle.iom_core.specs.State.{State}
use Rattle.iom_core.specs.declared.access.Request.{Request}
use Rattle.iom_core.specs.declared.step.Step.{Step}
use Rattle.iom_every.specs.Trees.{tree_of}
use Rattle.iom_held.specs.Kept.{entries_in, left_by}
use Rattle.iom_queue.specs.declared.command.Command.{Command}
use Rattle.iom_ways.specs.Ways.{AreAdded}
use Rattle.iom_ways.proofs.Gathering.{added_none}
use Rattle.iom_core.specs.Commands.{after_command, executed_by, executed_of, fetched, left_by as machine_left, messages_after_command, messages_left}
use Rattle.iom_core.specs.State.{with_outside}
use Rattle.iom_core.specs.Table.{acted, asked, executed, next, noted, unwritten, with_signals}
use Rattle.iom_core.specs.declared.step.Step.TheVariants as step
use Rattle.iom_queue.specs.declared.fetch.Fetch.TheVariants as fetch
use Rattle.iom_judge.specs.Behind.{AreBehind, next_of}
use Rattle.iom_judge.specs.Candidates.{AreCandidates, CandidateView, IsCovered, goes_over, most_candidates}
use Rattle.iom_judge.specs.Covering.{AddsThinned, HasNew, IsCoveredIn, IsThinned}
use Rattle.iom_judge.specs.Gathered.{Gathered}
use Rattle.iom_judge.specs.Idle.{EachIdle, IsIdle}
use Rattle.iom_judge.specs.Seen.{unseen}
use Rattle.iom_judge.specs.Unseen.{IsClosed, up_to}
use Rattle.iom_judge.specs.declared.seen.Seen.{Seen}
use Rattle.iom_judge.proofs.Judged.{joins_thin}
use Rattle.iom_judge.proofs.Parts.{none_read}
use Rattle.iom_judge.proofs.Thinned.{covered_self, thinned_self}

abbrev Trace : Type 0
Trace = List (Step × Seen)

same_traces : (start : State) (traces others : List Trace) (list : List CandidateView) → AreCandidates start traces list → ((trace : Trace) → IsAmong traces trace → IsAmong others trace) →
    ((trace : Trace) → IsAmong others trace → IsAmong traces trace) → AreCandidates start others list
same_traces start traces others list are to back = record {
  are = record {
    covers = λ trace among chosen shows. are.are.covers trace (back trace among) chosen shows;
    reached = λ one among. let r = are.are.reached one among in record { trace = r.trace; among = to r.trace r.among; chosen = r.chosen; shows = r.shows; is = r.is };
  };
  once = are.once;
}

module _ (taken : Step) (traces : List Trace) where
  up_more : (n : ℕ) (trace : Trace) → IsAmong (up_to n taken traces) trace → IsAmong (up_to (suc n) taken traces) trace
  up_more zero trace h = among-left traces (onward (taken, unseen) traces) trace h
  up_more (suc n) trace h = elim (among_either traces (onward (taken, unseen) (up_to n taken traces)) trace h) [
    | inl here ↦ among-left traces (onward (taken, unseen) (up_to (suc n) taken traces)) trace here
    | inr there ↦
        let m : IsImage (λ (trace : Trace). (taken, unseen) ∷ trace) (up_to n taken traces) trace = image_of (λ (trace : Trace). (taken, unseen) ∷ trace) (up_to n taken traces) trace there in
        among-right traces (onward (taken, unseen) (up_to (suc n) taken traces)) trace
        (subst (IsAmong (onward (taken, unseen) (up_to (suc n) taken traces))) m.is
        (among_mapped (λ (trace : Trace). (taken, unseen) ∷ trace) (up_to (suc n) taken traces) m.source (up_more n m.source m.among)))
  ]

  up_first : (n : ℕ) (trace : Trace) → IsAmong traces trace → IsAmong (up_to n taken traces) trace
  up_first zero trace h = h
  up_first (suc n) trace h = among-left traces (onward (taken, unseen) (up_to n taken traces)) trace h

  to_next : (n : ℕ) (trace : Trace) → IsAmong (up_to n taken traces ++ onward (taken, unseen) (up_to n taken traces)) trace → IsAmong (up_to (suc n) taken traces) trace
  to_next n trace h = elim (among_either (up_to n taken traces) (onward (taken, unseen) (up_to n taken traces)) trace h) [
    | inl here ↦ up_more n trace here
    | inr there ↦ among-right traces (onward (taken, unseen) (up_to n taken traces)) trace there
  ]

  from_next : (n : ℕ) (trace : Trace) → IsAmong (up_to (suc n) taken traces) trace → IsAmong (up_to n taken traces ++ onward (taken, unseen) (up_to n taken traces)) trace
  from_next n trace h = elim (among_either traces (onward (taken, unseen) (up_to n taken traces)) trace h) [
    | inl here ↦ among-left (up_to n taken traces) (onward (taken, unseen) (up_to n taken traces)) trace (up_first n trace here)
    | inr there ↦ among-right (up_to n taken traces) (onward (taken, unseen) (up_to n taken traces)) trace there
  ]

-- one time more
pub next_time : (start : State) (traces : List Trace) (taken : Step) (n : ℕ) (after : List CandidateView) →
    AreCandidates start (up_to n taken traces ++ onward (taken, unseen) (up_to n taken traces)) after → AreCandidates start (up_to (suc n) taken traces) after
next_time start traces taken n after are =
    same_traces start (up_to n taken traces ++ onward (taken, unseen) (up_to n taken traces)) (up_to (suc n) taken traces) after are (to_next taken traces n) (from_next taken traces n)

-- they are the same behind the step, or before it
abbrev pub Stays : State → Step → List CandidateView → Type 0
Stays start taken all = (traces : List Trace) → AreCandidates start traces all → AreCandidates start (traces ++ onward (taken, unseen) traces) all

-- and any number more, where nothing new comes
abbrev later : ℕ → ℕ → ℕ
later zero n = n
later (suc d) n = suc (later d n)

suc_is : (m d n : ℕ) → m ≡ d + n → suc m ≡ suc d + n
suc_is m d n is = omega (arith, is)

zero_is : (n : ℕ) → n ≡ 0 + n
zero_is n = omega arith

later_is : (d n : ℕ) → later d n ≡ d + n
later_is zero n = zero_is n
later_is (suc d) n = let rest : later d n ≡ d + n = later_is d n in suc_is (later d n) d n rest

still : (start : State) (traces : List Trace) (taken : Step) (d n : ℕ) (all : List CandidateView) → AreCandidates start (up_to n taken traces) all → Stays start taken all →
    AreCandidates start (up_to (later d n) taken traces) all
still start traces taken zero n all are stays = are
still start traces taken (suc d) n all are stays =
    next_time start traces taken (later d n) all (stays (up_to (later d n) taken traces) (still start traces taken d n all are stays))

pub any_time : (start : State) (traces : List Trace) (taken : Step) (n k : ℕ) (all : List CandidateView) → n ≤ k → AreCandidates start (up_to n taken traces) all → Stays start taken all →
    AreCandidates start (up_to k taken traces) all
any_time start traces taken n k all within are stays =
    let sum : later (k - n) n ≡ (k - n) + n = later_is (k - n) n in
    let is : later (k - n) n ≡ k = omega (arith, sum, within) in
    subst (λ (k : ℕ). AreCandidates start (up_to k taken traces) all) is (still start traces taken (k - n) n all are stays)

-- after most times one more brings a new one, or none
pub closes : (start : State) (traces : List Trace) (taken : Step) (n : ℕ) (before after : List CandidateView) (added : Bool) → n ≡ most_candidates → AreCandidates start (up_to n taken traces) before →
    ((traces : List Trace) → AreCandidates start traces before → AreCandidates start (traces ++ onward (taken, unseen) traces) after) →
    OnFalse added (after ≡ before) → (IsTrue added → HasNew before after) → IsClosed start traces taken (not added) after
closes start traces taken n before after true last are goes there new = inr (record {
  times = n;
  last = last;
  list = before;
  more = after;
  are = are;
  next = next_time start traces taken n after (goes (up_to n taken traces) are);
  new = new refl;
})
closes start traces taken n before after false last are goes there new = λ k most.
    let within : n ≤ k = omega (arith, last, most) in
    subst (AreCandidates start (up_to k taken traces)) (sym there)
    (any_time start traces taken n k before within are (λ traces are. subst (AreCandidates start (traces ++ onward (taken, unseen) traces)) there (goes traces are)))

-- where the step leaves each as it is
idle_one : (taken : Step) (before : CandidateView) → IsIdle taken before.platform → AreBehind taken unseen before (next_of before.platform before.held taken None ∷ [])
idle_one taken before idle = record {
  places = None ∷ [];
  held = before.held;
  goes = subst (λ (asked : Option Request). AreAdded (goes_over (bare before.platform) (entries_in before.held) asked) [] (None ∷ [])) (sym idle.asks)
      (λ x. (λ h. inr h, λ h. elim h [ inl none ↦ absurd none | inr there ↦ there ]));
  holds = record {
    mid = before.held;
    reads = none_read before.platform taken before.held [] refl
        (subst (λ (asked : Option Request). AreAdded (reads_in (ways_of tree_of (bare before.platform) (entries_in before.held) asked)) [] []) (sym idle.asks) (added_none []));
    left = ap (λ (command : Option Command). left_by 0 command before.held) (sym idle.executes);
  };
  are = refl;
}

record Idles (taken : Step) (all : List CandidateView) : Type 0 where
  others : List CandidateView
  each : Gathered (AreBehind taken unseen) all others
  thinned : IsThinned (all ++ others) all

idles : (taken : Step) (all : List CandidateView) → EachIdle taken all → Idles taken all
idles taken [] idle = record { others = []; each = refl; thinned = record { within = λ one h. h; enough = λ one h. absurd h } }
idles taken (one ∷ all) idle =
    let after : CandidateView = next_of one.platform one.held taken None in
    let rest : Idles taken all = idles taken all idle.1 in
    let covered : IsCovered after one = record { platform = idle.0.leaves; holds = (covered_self one).holds } in
    record {
      others = after ∷ rest.others;
      each = (after ∷ [], rest.others, refl, idle_one taken one idle.0, rest.each);
      thinned = record {
        within = λ each h. among-left (one ∷ all) (after ∷ rest.others) each h;
        enough = λ each h. elim (among_either (one ∷ all) (after ∷ rest.others) each h) [
          | inl here ↦ record { other = each; among = here; is = covered_self each }
          | inr there ↦ elim there [
            | inl same ↦ record { other = one; among = inl refl; is = subst (λ (each : CandidateView). IsCovered each one) same covered }
            | inr later ↦ let c : IsCoveredIn all each = rest.thinned.enough each (among-right all rest.others each later) in record { other = c.other; among = inr c.among; is = c.is }
          ]
        ];
      };
    }

pub idle_any_time : (start : State) (traces : List Trace) (taken : Step) (k : ℕ) (all : List CandidateView) → EachIdle taken all → AreCandidates start traces all → AreCandidates start (up_to k taken traces) all
idle_any_time start traces taken k all idle are =
    let i : Idles taken all = idles taken all idle in
    let added : AddsThinned (Gathered (AreBehind taken unseen) all) [] i.others = record { added = i.others; holds = i.each; thinned = thinned_self i.others } in
    any_time start traces taken zero k all (omega arith) are (λ traces are. joins_thin start traces all i.others all taken unseen are added i.thinned)

pub command_idle : (state : State) → fetched state.machine ≡ fetch.Idle → IsIdle step.Command state
unfolding executed executed_by after_command messages_after_command asked row acted acted_row noted
command_idle state idle =
    let none : executed_by state.machine state.messages ≡ None = ap (executed_of state.machine.memory state.messages) idle in
    let same : (acted state step.Command).state ≡ state = λ n. with_outside state (machine_left state.machine (idle n) (none n)) (messages_left state.machine.memory state.messages (none n)) in
    record {
      asks = refl;
      executes = none;
      leaves = ap (with_signals (unwritten state.machine.registers)) same ∙ nothing_signalled state.machine.registers.ipsr state refl;
    }
