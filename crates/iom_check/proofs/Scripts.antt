-- Lines of which none fails, one after the other: the access of each step was settled just before it, but where its line's wish allows another.
use Rattle.std.proofs.Common.{◌≡◌, ◌∙◌, ◌++◌, ℕ, true, false, List, [], ◌∷◌, take, reverse, Option, Some, None, refl, sym, ap, subst, append_assoc, append-nil}
use Rattle.std.specs.Prelude.{IsSomeAnd}
use Rattle.std.proofs.lemmas.List.{reverse-append}
use Rattle.iom_choices.specs.Models.{end_of as reached}
use Rattle.iom_core.specs.Run.{end_of}
use Rattle.iom_core.specs.State.{State}
use Rattle.iom_core.specs.declared.access.Request.{Request}
use Rattle.iom_core.specs.declared.step.Step.{Step}
use Rattle.iom_every.specs.Every.{platform}
use Rattle.iom_names.specs.Reading.{line_with, names_after}
use Rattle.iom_names.specs.declared.names.Binding.{Binding}
use Rattle.iom_reader.specs.Speaking.{Speaks}
use Rattle.iom_owed.specs.Holdings.{Keeps}
use Rattle.iom_owed.specs.Newest.{steps_of}
use Rattle.iom_owed.specs.Settled.{IsEachSettled}
use Rattle.iom_tool.specs.Console.{console}
use Rattle.iom_debug.specs.Output.{debug_steps_of}
use Rattle.iom_debug.specs.Reasons.{KeepsLastStale, begun}
use Rattle.iom_debug.specs.Settling.{SettlingView, is_lost_in, with_line}
use Rattle.iom_check.specs.Checking.{CheckSays, Checked, LineSays, checking, looks_behind, places_if}
use Rattle.iom_check.specs.Scoring.{Score}
use Rattle.iom_check.specs.Judging.{allows_unsettled}
use Rattle.iom_check.specs.Scripts.{AreLinesSettled, AreSettledBehind, BeginsSettled, PassesSettled, WantSettled, newest_first, steps_in}
use Rattle.iom_check.specs.Wanted.{wanted}
use Rattle.iom_check.specs.declared.rules.Rules.{Rules}
use Rattle.iom_check.proofs.Accessed.{Follows, IsQuiet, follows_line, in_front, known_line, settled_line, turned}
use Rattle.iom_check.proofs.Answered.{IsSaid, said_line}
use Rattle.iom_check.proofs.Scored.{alone_on, alone_quiet, places_on}

-- what any IOMMU may hold is kept here, after these steps
abbrev FollowsAt : List Request → State → List (Step × ℕ) → Checked → Type 0
FollowsAt ahead start taken here = Follows ahead start taken here.desk.state here.desk.reasons.settling

-- no line failed, and memory wasn't refused
pub record IsFine (here : Checked) : Type 0 where
  pub passed : here.score.tally.failed ≡ 0
  pub known : is_lost_in here.desk.reasons.settling ≡ false

-- a line: its steps stand in front of the ones before it
line_follows : (ahead : List Request) (start : State) (taken : List (Step × ℕ)) (before : Checked) (line text : List ℕ) (after : Checked) → LineSays before line text after →
    is_lost_in after.desk.reasons.settling ≡ false → FollowsAt ahead start taken before →
    FollowsAt ahead start (with_line after.number (debug_steps_of before.desk.names before.desk.state line) taken) after
line_follows ahead start taken before line text after h known follows =
    let steps = debug_steps_of before.desk.names before.desk.state line in
    subst (λ (s : State). Follows ahead start (with_line after.number steps taken) s after.desk.reasons.settling) (sym h.left.state)
    (follows_line ahead start taken before.desk.reasons before.desk.state steps after.number after.desk.reasons h.left.stale known follows)

-- a line of which none fails, and whose wish doesn't allow an access that isn't settled
line_settled : (ahead : List Request) (start : State) (taken : List (Step × ℕ)) (before : Checked) (line text : List ℕ) (after : Checked) → LineSays before line text after →
    before.score.rules.fails_if_unsettled ≡ true → IsFine after → FollowsAt ahead start taken before → (steps : List Step) →
    debug_steps_of before.desk.names before.desk.state line ≡ steps → allows_unsettled (wanted line) ≡ false →
    AreSettledBehind ahead start (steps_of taken) steps
line_settled ahead start taken before line text after h judged fine follows [] is wants = tt
line_settled ahead start taken before line text after h judged fine follows (step ∷ steps) is wants =
    let number = after.number in
    let reasons = before.desk.reasons in
    let all : List Step = step ∷ steps in
    let stale : KeepsLastStale (begun reasons) before.desk.state all number after.desk.reasons =
    subst (λ (steps : List Step). KeepsLastStale (begun reasons) before.desk.state steps number after.desk.reasons) is h.left.stale in
    let said : IsSaid h.answer =
    said_line before.desk.marks (console before.desk.state before.desk.trace) reasons (line_with before.desk.names line) h.answer step steps is h.answered in
    let quiet : IsQuiet after.desk.reasons.settling = record {
      known = fine.known;
      none = alone_quiet before line text after h judged fine.passed said wants;
    } in
    settled_line ahead start taken reasons before.desk.state all number after.desk.reasons stale quiet follows

-- a line with the places behind it
places_fine : (before : Checked) (line said : List ℕ) (after : Checked) (h : CheckSays before line said after) → IsFine after → IsFine h.mid
places_fine before line said after h fine =
    let looks = looks_behind before line in
    let after_is : after.score ≡ (places_if looks h.mid).after = ap (λ (c : Checked). c.score) h.left in
    record {
      passed = (places_on looks h.mid).passed (sym (ap (λ (s : Score). s.tally.failed) after_is) ∙ fine.passed);
      known = sym (ap (λ (c : Checked). is_lost_in c.desk.reasons.settling) h.left) ∙ fine.known;
    }

says_fine : (before : Checked) (line said : List ℕ) (after : Checked) → CheckSays before line said after → IsFine after → IsFine before
says_fine before line said after h fine =
    let mid : IsFine h.mid = places_fine before line said after h fine in
    record {
      passed = (alone_on before line h.first h.mid h.alone).passed mid.passed;
      known = known_line before.desk.reasons before.desk.state (debug_steps_of before.desk.names before.desk.state line) h.mid.number h.mid.desk.reasons
          h.alone.left.stale mid.known;
    }

says_rules : (before : Checked) (line said : List ℕ) (after : Checked) → CheckSays before line said after → after.score.rules ≡ before.score.rules
says_rules before line said after h =
    let looks = looks_behind before line in
    ap (λ (c : Checked). c.score.rules) h.left ∙ (places_on looks h.mid).rules ∙ (alone_on before line h.first h.mid h.alone).rules

says_judged : (before : Checked) (line said : List ℕ) (after : Checked) → CheckSays before line said after → before.score.rules.fails_if_unsettled ≡ true →
    after.score.rules.fails_if_unsettled ≡ true
says_judged before line said after h judged = ap (λ (r : Rules). r.fails_if_unsettled) (says_rules before line said after h) ∙ judged

says_follows : (ahead : List Request) (start : State) (taken : List (Step × ℕ)) (before : Checked) (line said : List ℕ) (after : Checked) (h : CheckSays before line said after) →
    IsFine after → FollowsAt ahead start taken before →
    FollowsAt ahead start (with_line h.mid.number (debug_steps_of before.desk.names before.desk.state line) taken) after
says_follows ahead start taken before line said after h fine follows =
    let steps = debug_steps_of before.desk.names before.desk.state line in
    let number = h.mid.number in
    subst (λ (c : Checked). FollowsAt ahead start (with_line number steps taken) c) (sym h.left)
    (line_follows ahead start taken before line h.first h.mid h.alone (places_fine before line said after h fine).known follows)

says_settled : (ahead : List Request) (start : State) (taken : List (Step × ℕ)) (before : Checked) (line said : List ℕ) (after : Checked) → CheckSays before line said after →
    before.score.rules.fails_if_unsettled ≡ true → IsFine after → FollowsAt ahead start taken before → allows_unsettled (wanted line) ≡ false →
    AreSettledBehind ahead start (steps_of taken) (debug_steps_of before.desk.names before.desk.state line)
says_settled ahead start taken before line said after h judged fine follows wants =
    line_settled ahead start taken before line h.first h.mid h.alone judged (places_fine before line said after h fine) follows
    (debug_steps_of before.desk.names before.desk.state line) refl wants

-- lines, one after the other
lines_fine : (lines : List (List ℕ)) (before : Checked) (text : List ℕ) (end : Checked) → Speaks checking before lines text end → IsFine end → IsFine before
lines_fine [] before text end h fine = subst IsFine h.1 fine
lines_fine (line ∷ lines) before text end h fine =
    says_fine before (take 513 line) h.0 h.2 h.4 (lines_fine lines h.2 h.1 end h.5 fine)

pub lines_rules : (lines : List (List ℕ)) (before : Checked) (text : List ℕ) (end : Checked) → Speaks checking before lines text end →
    end.score.rules ≡ before.score.rules
lines_rules [] before text end h = ap (λ (c : Checked). c.score.rules) h.1
lines_rules (line ∷ lines) before text end h = lines_rules lines h.2 h.1 end h.5 ∙ says_rules before (take 513 line) h.0 h.2 h.4

says_pages : (before : Checked) (line said : List ℕ) (after : Checked) → CheckSays before line said after → IsFine after →
    after.score.pages ≡ before.score.pages
says_pages before line said after h fine =
    let looks = looks_behind before line in
    let after_is : after.score ≡ (places_if looks h.mid).after = ap (λ (c : Checked). c.score) h.left in
    ap (λ (s : Score). s.pages) after_is
    ∙ (places_on looks h.mid).pages (sym (ap (λ (s : Score). s.tally.failed) after_is) ∙ fine.passed)
    ∙ (alone_on before line h.first h.mid h.alone).pages (places_fine before line said after h fine).passed

pub lines_pages : (lines : List (List ℕ)) (before : Checked) (text : List ℕ) (end : Checked) → Speaks checking before lines text end → IsFine end →
    end.score.pages ≡ before.score.pages
lines_pages [] before text end h fine = ap (λ (c : Checked). c.score.pages) h.1
lines_pages (line ∷ lines) before text end h fine =
    lines_pages lines h.2 h.1 end h.5 fine ∙ says_pages before (take 513 line) h.0 h.2 h.4 (lines_fine lines h.2 h.1 end h.5 fine)

-- after some lines, these steps were taken
pub record Went (ahead : List Request) (start : State) (taken : List (Step × ℕ)) (before : Checked) (lines : List (List ℕ)) (end : Checked) : Type 0 where
  pub all : List (Step × ℕ)
  pub steps : steps_of all ≡ reverse (steps_in before.desk.names before.desk.state lines) ++ steps_of taken
  pub follows : FollowsAt ahead start all end
  pub settled : AreLinesSettled ahead start (steps_of taken) before.desk.names before.desk.state lines

one_before : (a b : List Step) (rest : List Step) → reverse b ++ (reverse a ++ rest) ≡ reverse (a ++ b) ++ rest
one_before a b rest = sym (append_assoc (reverse b) (reverse a) rest) ∙ ap (λ l. l ++ rest) (sym (reverse-append a b))

go : (ahead : List Request) (start : State) (lines : List (List ℕ)) (taken : List (Step × ℕ)) (before : Checked) (text : List ℕ) (end : Checked) →
    Speaks checking before lines text end → before.score.rules.fails_if_unsettled ≡ true → IsFine end → FollowsAt ahead start taken before →
    Went ahead start taken before lines end
go ahead start [] taken before text end h judged fine follows = record {
  all = taken;
  steps = refl;
  follows = subst (λ (c : Checked). FollowsAt ahead start taken c) (sym h.1) follows;
  settled = tt;
}
go ahead start (text ∷ lines) taken before told end h judged fine follows =
    let line = take 513 text in
    let mid : Checked = h.2 in
    let steps = debug_steps_of before.desk.names before.desk.state line in
    let now = with_line h.4.mid.number steps taken in
    let here : IsFine mid = lines_fine lines mid h.1 end h.5 fine in
    let more : Went ahead start now mid lines end =
    go ahead start lines now mid h.1 end h.5 (says_judged before line h.0 mid h.4 judged) fine (says_follows ahead start taken before line h.0 mid h.4 here follows) in
    let names = names_after before.desk.names line in
    let after = end_of before.desk.state steps in
    let names_are : mid.desk.names ≡ names = ap (λ (c : Checked). c.desk.names) h.4.left ∙ h.4.alone.left.names in
    let state_is : mid.desk.state ≡ after = ap (λ (c : Checked). c.desk.state) h.4.left ∙ h.4.alone.left.state in
    let rest = steps_in names after lines in
    let left : reverse (steps_in mid.desk.names mid.desk.state lines) ++ steps_of now ≡ reverse rest ++ steps_of now =
    ap (λ (n : List Binding). reverse (steps_in n mid.desk.state lines) ++ steps_of now) names_are
    ∙ ap (λ (s : State). reverse (steps_in names s lines) ++ steps_of now) state_is in
    let front : steps_of now ≡ reverse steps ++ steps_of taken = in_front h.4.mid.number steps taken in
    record {
      all = more.all;
      steps = more.steps ∙ left ∙ ap (λ l. reverse rest ++ l) front ∙ one_before steps rest (steps_of taken);
      follows = more.follows;
      settled = (
        λ wants. says_settled ahead start taken before line h.0 mid h.4 judged here follows wants,
        subst (λ (s : State). AreLinesSettled ahead start (reverse steps ++ steps_of taken) names s lines) state_is
            (subst (λ (n : List Binding). AreLinesSettled ahead start (reverse steps ++ steps_of taken) n mid.desk.state lines) names_are
            (subst (λ (older : List Step). AreLinesSettled ahead start older mid.desk.names mid.desk.state lines) front more.settled)),
      );
    }

-- where each wish wants settled accesses, each is
all_settled : (ahead : List Request) (start : State) (older steps : List Step) → AreSettledBehind ahead start older steps → IsEachSettled ahead start older →
    IsEachSettled ahead start (reverse steps ++ older)
all_settled ahead start older [] h each = each
all_settled ahead start older (step ∷ steps) h each =
    subst (IsEachSettled ahead start) (turned step steps older) (all_settled ahead start (step ∷ older) steps h.1 (h.0, each))

lines_settled : (ahead : List Request) (start : State) (older : List Step) (names : List Binding) (state : State) (lines : List (List ℕ)) →
    AreLinesSettled ahead start older names state lines → WantSettled lines → IsEachSettled ahead start older →
    IsEachSettled ahead start (reverse (steps_in names state lines) ++ older)
lines_settled ahead start older names state [] h wants each = each
lines_settled ahead start older names state (text ∷ lines) h wants each =
    let line = take 513 text in
    let steps = debug_steps_of names state line in
    let after = end_of state steps in
    subst (IsEachSettled ahead start) (one_before steps (steps_in (names_after names line) after lines) older)
    (lines_settled ahead start (reverse steps ++ older) (names_after names line) after lines h.1 wants.1 (all_settled ahead start older steps (h.0 wants.0) each))

-- at the start nothing was taken
untaken : (ahead : List Request) (settling : Option SettlingView) (start : State) →
    IsSomeAnd settling (λ settling. settling.is_lost ≡ false → Keeps ahead settling.holdings start start []) → is_lost_in settling ≡ false → Follows ahead start [] start settling
untaken ahead None start is known = absurd is
untaken ahead (Some settling) start is known = is known

reached_at : (ahead : List Request) (settling : Option SettlingView) (start : State) (taken : List (Step × ℕ)) (state : State) → Follows ahead start taken state settling →
    state ≡ reached platform start (steps_of taken)
reached_at ahead None start taken state follows = absurd follows
reached_at ahead (Some settling) start taken state follows = follows.reached

module _ (ahead : List Request) (start : Checked) (lines : List (List ℕ)) (text : List ℕ) (end : Checked) (begins : BeginsSettled ahead start)
    (said : Speaks checking start lines text end) (fine : IsFine end) where
  pub went : Went ahead start.desk.state [] start lines end
  went = go ahead start.desk.state lines [] start text end said begins.judged fine
      (untaken ahead start.desk.reasons.settling start.desk.state begins.untaken (lines_fine lines start text end said fine).known)

  pub taken_is : steps_of went.all ≡ newest_first start lines
  taken_is = went.steps ∙ append-nil (newest_first start lines)

  where_wanted : WantSettled lines → IsEachSettled ahead start.desk.state (newest_first start lines)
  where_wanted wants = subst (IsEachSettled ahead start.desk.state) (append-nil (newest_first start lines))
      (lines_settled ahead start.desk.state [] start.desk.names start.desk.state lines went.settled wants tt)

  lines_reached : end.desk.state ≡ reached platform start.desk.state (newest_first start lines)
  lines_reached = reached_at ahead end.desk.reasons.settling start.desk.state went.all end.desk.state went.follows
      ∙ ap (reached platform start.desk.state) taken_is

module _ (ahead : List Request) (start : Checked) (lines : List (List ℕ)) (text : List ℕ) (end : Checked) (h : PassesSettled ahead start lines text end) where
  fine : IsFine end
  fine = record { passed = h.passed; known = h.known }

  pub each_settled : IsEachSettled ahead start.desk.state (newest_first start lines)
  each_settled = where_wanted ahead start lines text end h.begins h.said fine h.wishes

  pub end_reached : end.desk.state ≡ reached platform start.desk.state (newest_first start lines)
  end_reached = lines_reached ahead start lines text end h.begins h.said fine
