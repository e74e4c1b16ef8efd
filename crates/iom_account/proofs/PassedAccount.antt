-- What others write among the steps of an account changes nothing in it.
use Rattle.std.proofs.Common.{◌≡◌, ◌∙◌, ◌++◌, ℕ, List, [], ◌∷◌, length, append_assoc, append-nil, refl, sym, ap, subst}
use Rattle.circular_buffer.specs.Buffer.{keep_last}
use Rattle.iom_mem.specs.Memory.{Memory}
use Rattle.iom_core.specs.Others.{IsWritten, after, end_after}
use Rattle.iom_core.specs.State.{State}
use Rattle.iom_core.specs.Table.{next, with_memory}
use Rattle.iom_core.specs.declared.step.Step.{Step}
use Rattle.iom_account.specs.Account.{AccountView, Accounts, CountsStep, IsReasonOf, most_reasons}
use Rattle.iom_account.specs.Others.{AccountsAmong, AreReasons, Counted, Event, IsReasonAfter, Written, happening_of, happenings_of, numbers_among, steps_among}
use Rattle.iom_account.specs.declared.reason.Reason.{Reason}
use Rattle.iom_account.proofs.Passed.{among_counted, among_origin, among_written, written_counted, written_more}
use Rattle.iom_account.proofs.Telling.{kept_more}

-- one event more
end_more : (start : State) (events : List Event) (last : Event) →
    end_after start (happenings_of (events ++ last ∷ [])) ≡ after (end_after start (happenings_of events)) (happening_of last)
end_more start [] last = refl
end_more start (Counted own count ∷ more) last = end_more (next start own).state more last
end_more start (Written memory ∷ more) last = end_more (with_memory start memory) more last

reasons_counted : (start : State) (before events : List Event) (step : Step) (number : ℕ) (all : List Reason) (reason : Reason) →
    AreReasons start before events all → IsReasonAfter start (before ++ events) step number reason →
    AreReasons start before (events ++ Counted step number ∷ []) (all ++ reason ∷ [])
reasons_counted start before [] step number [] reason h is =
    (subst (λ (l : List Event). IsReasonAfter start l step number reason) (append-nil before) is, tt)
reasons_counted start before [] step number (own ∷ all) reason h is = absurd h
reasons_counted start before (Counted own count ∷ more) step number [] reason h is = absurd h
reasons_counted start before (Counted own count ∷ more) step number (first ∷ all) reason h is = (
  h.0,
  reasons_counted start (before ++ Counted own count ∷ []) more step number all reason h.1
      (subst (λ (l : List Event). IsReasonAfter start l step number reason) (sym (append_assoc before (Counted own count ∷ []) more)) is),
)
reasons_counted start before (Written memory ∷ more) step number all reason h is =
    reasons_counted start (before ++ Written memory ∷ []) more step number all reason h
    (subst (λ (l : List Event). IsReasonAfter start l step number reason) (sym (append_assoc before (Written memory ∷ []) more)) is)

reasons_written : (start : State) (before events : List Event) (memory : Memory) (all : List Reason) → AreReasons start before events all →
    AreReasons start before (events ++ Written memory ∷ []) all
reasons_written start before [] memory [] h = tt
reasons_written start before [] memory (own ∷ all) h = absurd h
reasons_written start before (Counted own count ∷ more) memory [] h = absurd h
reasons_written start before (Counted own count ∷ more) memory (first ∷ all) h =
    (h.0, reasons_written start (before ++ Counted own count ∷ []) more memory all h.1)
reasons_written start before (Written old ∷ more) memory all h = reasons_written start (before ++ Written old ∷ []) more memory all h

no_reasons : (start : State) (all : List Reason) → length all ≡ 0 → AreReasons start [] [] all
no_reasons start [] none = tt
no_reasons start (reason ∷ all) none = absurd (cc)

pub account_begins : (account : AccountView) (platform : State) → Accounts account platform platform [] [] → AccountsAmong account platform platform []
account_begins account platform h = record {
  reached = refl;
  written = tt;
  follows = λ uncached. record { written = tt; follows = h.follows uncached };
  all = h.tells.all;
  each = no_reasons platform h.tells.all h.tells.many;
  kept = h.tells.kept;
}

pub account_counted : (before left : AccountView) (state new start : State) (events : List Event) (step : Step) (number : ℕ) →
    AccountsAmong before state start events → new ≡ (next state step).state → CountsStep before state step number left new →
    AccountsAmong left new start (events ++ Counted step number ∷ [])
account_counted before left state new start events step number h is c =
    let reason : IsReasonAfter start events step number c.reason = record {
      own = subst (λ (s : State). IsReasonOf s step number c.reason) h.reached c.own;
      origin = λ uncached.
          let f = h.follows uncached in
          among_origin before.history state start events step number c.reason.origin f
          (c.origin start (steps_among events) (numbers_among events) f.follows);
    } in
    record {
      reached = is ∙ ap (λ (s : State). (next s step).state) h.reached ∙ sym (end_more start events (Counted step number));
      written = written_counted start events step number h.written;
      follows = λ uncached.
          let f = h.follows uncached in
          among_counted before.history left.history state new start events step number f
          (c.follows start (steps_among events) (numbers_among events) f.follows);
      all = h.all ++ c.reason ∷ [];
      each = reasons_counted start [] events step number h.all c.reason h.each reason;
      kept = c.told ∙ ap (λ (l : List Reason). keep_last most_reasons (l ++ c.reason ∷ [])) h.kept ∙ kept_more most_reasons h.all c.reason;
    }

pub account_written : (account : AccountView) (platform start : State) (events : List Event) (memory : Memory) →
    AccountsAmong account platform start events → IsWritten platform.machine.memory memory →
    AccountsAmong account (with_memory platform memory) start (events ++ Written memory ∷ [])
account_written account platform start events memory h w = record {
  reached = ap (λ (s : State). with_memory s memory) h.reached ∙ sym (end_more start events (Written memory));
  written = written_more start events memory h.written (subst (λ (s : State). IsWritten s.machine.memory memory) h.reached w);
  follows = λ uncached. among_written account.history platform start events memory (h.follows uncached) w;
  all = h.all;
  each = reasons_written start [] events memory h.all h.each;
  kept = h.kept;
}
