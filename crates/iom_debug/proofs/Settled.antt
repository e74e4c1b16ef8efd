-- What is held goes along with the steps of a line.
use Rattle.std.proofs.Common.{◌≡◌, ◌∙◌, ℕ, Bool, true, false, List, [], ◌∷◌, Option, Some, None, refl, sym, ap, subst}
use Rattle.std.specs.Option.{option_map}
use Rattle.iom_core.specs.State.{State}
use Rattle.iom_core.specs.Table.{next, request_of_step}
use Rattle.iom_core.specs.declared.step.Step.{Step}
use Rattle.iom_debug.specs.Reasons.{KeepsLastStale, LineAccountView, begun}
use Rattle.iom_owed.specs.Newest.{steps_of}
use Rattle.iom_debug.specs.Settling.{HoldsOn, IsFound, IsFoundBeside, ReadsAhead, ReadsAheadIf, Settles, SettlesBehind, SettlesBehindIf, SettlesIf, SettlingView, later_unsettled, line_begun}
use Rattle.iom_debug.specs.declared.settling.UnsettledAccess.{UnsettledAccess}

known_before : (b c : Bool) → (b ≡ true → c ≡ true) → c ≡ false → b ≡ false
known_before false c lost known = refl
known_before true c lost known =
    let is : true ≡ false = sym (lost refl) ∙ known in absurd (cc is)

none_taken : (s : Option SettlingView) (state : State) (number : ℕ) → HoldsOn s state [] number s
none_taken None state number = refl
none_taken (Some s) state number = (s, refl, λ lost. lost, λ known ahead start taken k. k)

joined : (a b c : Option SettlingView) (state : State) (step : Step) (steps : List Step) (number : ℕ) → SettlesIf a state step number b →
    HoldsOn b (next state step).state steps number c → HoldsOn a state (step ∷ steps) number c
joined None b c state step steps number first rest =
    subst (λ (s : Option SettlingView). HoldsOn s (next state step).state steps number c) first rest
joined (Some a) b c state step steps number first rest =
    let more = subst (λ (s : Option SettlingView). HoldsOn s (next state step).state steps number c) first.1 rest in
    let settles = first.2 in (
      more.0,
      more.1,
      λ lost. more.2 (settles.lost lost),
      λ known ahead start taken k.
          more.3 known ahead start ((step, number) ∷ taken)
          (settles.keeps (known_before first.0.is_lost more.0.is_lost more.2 known) ahead start taken k),
    )

-- a step is followed, and then what is read ahead behind it
pub settled_whole : (before mid after : SettlingView) (state : State) (step : Step) (number : ℕ) → SettlesBehind before state step number mid → ReadsAhead mid (next state step).state number after →
    Settles before state step number after
settled_whole before mid after state step number settles reads =
    let known : after.is_lost ≡ false → mid.is_lost ≡ false = λ known. known_before mid.is_lost after.is_lost reads.lost known in
    let last : after.last ≡ mid.last = ap (λ (settling : SettlingView). settling.last) reads.same in
    let last_beside : after.last_beside ≡ mid.last_beside = ap (λ (settling : SettlingView). settling.last_beside) reads.same in record {
      told = ap (λ (settling : SettlingView). settling.unsettled) reads.same ∙ (settles.told ∙ ap (later_unsettled before.unsettled) (sym last));
      told_beside = ap (λ (settling : SettlingView). settling.beside) reads.same ∙ (settles.told_beside ∙ ap (later_unsettled before.beside) (sym last_beside));
      lost = λ lost. reads.lost (settles.lost lost);
      judged = λ is ahead start taken k.
          subst (IsFound ahead before.holdings start (steps_of taken) (request_of_step state step)) (sym last) (settles.judged (known is) ahead start taken k);
      beside = λ is ahead start taken k.
          let found : IsFoundBeside ahead before.holdings start (steps_of taken) (request_of_step state step) mid.last mid.last_beside = settles.beside (known is) ahead start taken k in
          subst (λ (told : Option UnsettledAccess). IsFoundBeside ahead before.holdings start (steps_of taken) (request_of_step state step) told after.last_beside) (sym last)
          (subst (IsFoundBeside ahead before.holdings start (steps_of taken) (request_of_step state step) mid.last) (sym last_beside) found);
      keeps = λ is ahead start taken k. reads.keeps is ahead start ((step, number) ∷ taken) refl (settles.keeps (known is) ahead start taken k);
    }

pub settled_whole_if : (before mid after : Option SettlingView) (state : State) (step : Step) (number : ℕ) → SettlesBehindIf before state step number mid → ReadsAheadIf mid (next state step).state number after →
    SettlesIf before state step number after
settled_whole_if None mid after state step number settles reads = subst (λ (mid : Option SettlingView). ReadsAheadIf mid (next state step).state number after) settles reads
settled_whole_if (Some before) mid after state step number settles reads =
    let read = subst (λ (mid : Option SettlingView). ReadsAheadIf mid (next state step).state number after) settles.1 reads in
    (read.0, read.1, settled_whole before settles.0 read.0 state step number settles.2 read.2)

all_held : (before : LineAccountView) (state : State) (steps : List Step) (number : ℕ) (after : LineAccountView) →
    KeepsLastStale before state steps number after → HoldsOn before.settling state steps number after.settling
all_held before state [] number after h =
    subst (λ (r : LineAccountView). HoldsOn before.settling state [] number r.settling) (sym h) (none_taken before.settling state number)
all_held before state (step ∷ steps) number after h =
    joined before.settling h.0.settling after.settling state step steps number h.4
    (all_held h.0 (next state step).state steps number after h.7)

from_begun : (s : Option SettlingView) (state : State) (steps : List Step) (number : ℕ) (after : Option SettlingView) →
    HoldsOn (option_map line_begun s) state steps number after → HoldsOn s state steps number after
from_begun None state steps number after h = h
from_begun (Some s) state steps number after h = h

pub held : (before : LineAccountView) (state : State) (steps : List Step) (number : ℕ) (after : LineAccountView) →
    KeepsLastStale (begun before) state steps number after → HoldsOn before.settling state steps number after.settling
held before state steps number after h =
    from_begun before.settling state steps number after.settling (all_held (begun before) state steps number after h)
