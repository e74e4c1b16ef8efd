-- Where a script begins.
use Rattle.std.proofs.Common.{◌≡◌, ℕ, List, [], ◌∷◌, Bool, true, false, Option, Some, None, Ok, refl, sym, ap, subst, ◌∙◌}
use Rattle.std.specs.Prelude.{IsSomeAnd}
use Rattle.iom_core.specs.State.{State}
use Rattle.iom_core.specs.declared.access.Request.{Request}
use Rattle.iom_core.specs.Warrants.{IsUncached}
use Rattle.iom_image.specs.Image.{Image}
use Rattle.iom_image.specs.Loading.{state_from}
use Rattle.iom_image.specs.Reading.{image_of, mapped}
use Rattle.iom_image.proofs.Found.{read_as}
use Rattle.iom_tool.specs.declared.trace.TracedStep.{TracedStep}
use Rattle.iom_debug.specs.Desks.{desk_of}
use Rattle.iom_debug.specs.Reasons.{LineAccountView}
use Rattle.iom_debug.specs.declared.debugger.Debugger.{Debugger}
use Rattle.iom_check.specs.Checking.{Checked}
use Rattle.iom_debug.specs.Marks.{no_marks}
use Rattle.iom_debug.specs.Places.{own}
use Rattle.iom_check.specs.Scores.{begun}
use Rattle.iom_check.specs.Scripts.{BeginsSettled}
use Rattle.iom_check.specs.declared.rules.Rules.{Rules}
use Rattle.iom_judge.specs.Candidates.{AreCandidates, CandidateView}
use Rattle.iom_traces.specs.Drives.{begun as trace_begun}
use Rattle.iom_traces.specs.Trials.{Tried}
use Rattle.iom_owed.specs.Holdings.{Keeps}
use Rattle.iom_debug.specs.Settling.{SettlingView}
use Rattle.iom_scripts.specs.Beginning.{BeginsAccount, BeginsCheck, BeginsJudge, BeginsOn, BeginsSettling}

pub begins_on : (bytes : List ℕ) (ahead : List Request) (follows : Bool) (d : Debugger) (state : State) (trace : List TracedStep) (reasons : LineAccountView) →
    d.platform.now ≡ state → d.trace.now ≡ trace → d.reasons.now ≡ reasons → d.names ≡ [] → d.marks ≡ no_marks → mapped state_from (image_of bytes) ≡ Ok state →
    trace ≡ [] → BeginsAccount ahead follows state reasons → BeginsOn bytes ahead follows (desk_of d)
begins_on bytes ahead follows d state trace reasons platform traced kept named marked is empty account =
    let from = read_as state_from (image_of bytes) state is in
    record {
      found = from.0;
      read = from.1;
      state = platform ∙ from.2;
      trace = traced ∙ empty;
      reasons = rw (platform, kept) account;
      names = named;
      marks = marked;
    }

-- what is kept at the start, by its parts
pub settling_of : (ahead : List Request) (state : State) (settling : Option SettlingView) → IsSomeAnd settling (λ s. s.is_lost ≡ false → Keeps ahead s.holdings state state []) →
    IsSomeAnd settling (λ s. s.last ≡ None) → IsSomeAnd settling (λ s. s.unsettled ≡ None) → IsSomeAnd settling (λ s. ahead ≡ [] → s.is_lost ≡ false) → BeginsSettling ahead true state settling
settling_of ahead state None keeps last unsettled known = keeps
settling_of ahead state (Some s) keeps last unsettled known = (keeps, last, unsettled, known)

-- so it is whether it is known or not
pub always : {A : Type 0} (P Q : A → Type 0) (some : Option A) → IsSomeAnd some Q → IsSomeAnd some (λ a. P a → Q a)
always P Q None is = is
always P Q (Some a) is = λ p. is

-- and where there are some requests, it need not be known
pub not_none : {A : Type 0} (P Q : A → Type 0) (requests : List Request) (some : Option A) → (requests ≡ [] → ⊥) → IsSomeAnd some P → IsSomeAnd some (λ a. requests ≡ [] → Q a)
not_none P Q requests None some is = is
not_none P Q requests (Some a) some is = λ none. absurd (some none)

uncached : (image : Image) → IsUncached (state_from image)
uncached image = record { contexts = tt; pages = tt }

and_so : {A : Type 0} (P Q : A → Type 0) (some : Option A) → ((a : A) → P a → Q a) → IsSomeAnd some P → IsSomeAnd some Q
and_so P Q None so is = is
and_so P Q (Some a) so is = so a is

settled : (bytes : List ℕ) (ahead : List Request) (follows : Bool) (start : Checked) → BeginsOn bytes ahead follows start.desk → follows ≡ true →
    start.score.rules.fails_if_unsettled ≡ true → start.score.pages ≡ [] → BeginsSettled ahead start
settled bytes ahead false start on is judged none = absurd (cc is)
settled bytes ahead true start on is judged none = record {
  uncached = rw on.state (uncached on.found);
  untaken = and_so _ _ start.desk.reasons.settling (λ s keeps. keeps.0) on.reasons.settling;
  judged = judged;
  unreported = none;
}

pub begins_check : (bytes : List ℕ) (ahead : List Request) (rules : Rules) (name : Option (List ℕ)) (points : ℕ) (start : Checked) →
    BeginsOn bytes ahead rules.fails_if_unsettled start.desk → start.number ≡ 0 → start.place ≡ own 0 → start.score ≡ begun rules name points →
    BeginsCheck bytes ahead rules name points start
begins_check bytes ahead rules name points start on number place score = record {
  desk = on;
  number = number;
  place = place;
  score = score;
  settled = λ is. settled bytes ahead rules.fails_if_unsettled start on is (rw score is) (rw score refl);
}

-- where nothing is followed, nothing is read ahead
pub follows_none : (ahead : List Request) (follows : Bool) (state : State) (reasons : LineAccountView) → follows ≡ false → BeginsAccount [] follows state reasons → BeginsAccount ahead follows state reasons
follows_none ahead true state reasons is begins = absurd (cc is)
follows_none ahead false state reasons is begins = record {
  account = begins.account;
  empty = begins.empty;
  stale = begins.stale;
  fence = begins.fence;
  invalidation = begins.invalidation;
  settling = begins.settling;
}

pub begins_judge : (bytes : List ℕ) (rules : Rules) (hides : Bool) (name : Option (List ℕ)) (points : ℕ) (start : Tried) (state : State) (candidates : List CandidateView) →
    mapped state_from (image_of bytes) ≡ Ok state → AreCandidates state ([] ∷ []) candidates → start ≡ trace_begun candidates hides (begun rules name points) →
    BeginsJudge bytes rules hides name points start
begins_judge bytes rules hides name points start state candidates gives are is =
    let from = read_as state_from (image_of bytes) state gives in
    let same : start.judged.candidates ≡ candidates = ap (λ (t : Tried). t.judged.candidates) is in
    record {
      found = from.0;
      read = from.1;
      candidates = subst (AreCandidates (state_from from.0) ([] ∷ [])) (sym same) (subst (λ (s : State). AreCandidates s ([] ∷ []) candidates) from.2 are);
      is = is ∙ ap (λ (list : List CandidateView). trace_begun list hides (begun rules name points)) (sym same);
    }
