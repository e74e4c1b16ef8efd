-- The reports of steps, with one step more.
use Rattle.std.proofs.Common.{◌≡◌, ◌∙◌, ◌++◌, ◌+◌, ◌-◌, ◌<◌, ◌≤◌, ℕ, zero, suc, List, [], ◌∷◌, length, take, drop, replicate, Option, Some, None, append_assoc, append-nil, length-drop, drop-drop, refl, sym, ap, subst, arith}
use Rattle.std.specs.Prelude.{IsSomeAnd, slice_get}
use Rattle.std.specs.Option.{option_and_then, option_map}
use Rattle.std.proofs.lemmas.List.{drop-append-le, take-append-le}
use Rattle.std.proofs.Math.Seq.{get_or-append_seam, take-length}
use Rattle.circular_buffer.specs.Buffer.{keep_last, last_item}
use Rattle.iom_core.specs.State.{State}
use Rattle.iom_core.specs.Looking.{by_tables, nothing_seen, noticed}
use Rattle.iom_core.specs.Table.{Asking, asked, next, request_in, request_of_step, told_by_step}
use Rattle.iom_core.specs.Warrants.{IsUncached, moment, request_at}
use Rattle.iom_core.specs.declared.access.Request.{Request}
use Rattle.iom_core.specs.declared.looking.Lookup.{Lookup}
use Rattle.iom_core.specs.declared.step.Step.{Step}
use Rattle.iom_core.specs.declared.way.Way.{Way}
use Rattle.iom_tables.specs.Stale.{differing, stale_way}
use Rattle.iom_account.specs.Following.{Follows, HistoryView, number_of}
use Rattle.iom_account.proofs.Runs.{end_more, length_more, moment_last, request_last}
use Rattle.iom_account.specs.Account.{AccountView, Accounts, CountsStep, GoesAlong, IsReason, IsReasonOf, Tells, address_by, granted_address, stale_in}
use Rattle.iom_account.specs.declared.reason.Reason.{Reason}

-- an item stands before the last one, or is it
placed : {X : Type 0} (Goal : Type 0) (xs : List X) (x y : X) (n : ℕ) → slice_get (xs ++ x ∷ []) n ≡ Some y →
    (n < length xs → slice_get xs n ≡ Some y → Goal) → (n ≡ length xs → x ≡ y → Goal) → Goal
placed Goal [] x y zero at below last = last refl (cc at)
placed Goal [] x y (suc n) at below last = absurd (cc at)
placed Goal (z ∷ xs) x y zero at below last = below (omega arith) at
placed Goal (z ∷ xs) x y (suc n) at below last =
    placed Goal xs x y n at (λ low is. below (omega (arith, low)) is) (λ end is. last (ap suc end) is)

-- of those that are kept the last are the last of all
pub kept_more : {X : Type 0} (n : ℕ) (xs : List X) (x : X) → keep_last n (keep_last n xs ++ x ∷ []) ≡ keep_last n (xs ++ x ∷ [])
kept_more n xs x =
    let k = length xs - n in
    let all = xs ++ x ∷ [] in
    let cut : keep_last n xs ++ x ∷ [] ≡ drop k all = sym (drop-append-le k xs (x ∷ []) (omega arith)) in
    let long : length all ≡ suc (length xs) = length_more xs x in
    let left : length (drop k all) ≡ length all - k = length-drop k all in
    let whole : k + (length (drop k all) - n) ≡ length all - n = omega (arith, long, left) in
    ap (keep_last n) cut ∙ drop-drop (length (drop k all) - n) k all ∙ ap (λ (m : ℕ). drop m all) whole

-- room is made for one more
pub kept_in_room : {X : Type 0} (n : ℕ) (xs : List X) (x : X) → length xs < n → xs ++ x ∷ [] ≡ keep_last n (xs ++ x ∷ [])
kept_in_room n xs x room =
    let long : length (xs ++ x ∷ []) ≡ suc (length xs) = length_more xs x in
    let none : length (xs ++ x ∷ []) - n ≡ 0 = omega (arith, long) in
    sym (ap (λ (k : ℕ). drop k (xs ++ x ∷ [])) none)

pub kept_in_full : {X : Type 0} (n : ℕ) (xs : List X) (x : X) → 0 < n → length xs ≡ n → drop 1 xs ++ x ∷ [] ≡ keep_last n (xs ++ x ∷ [])
kept_in_full n xs x some full =
    let long : length (xs ++ x ∷ []) ≡ suc (length xs) = length_more xs x in
    let one : length (xs ++ x ∷ []) - n ≡ 1 = omega (arith, long) in
    sym (drop-append-le 1 xs (x ∷ []) (omega arith)) ∙ sym (ap (λ (k : ℕ). drop k (xs ++ x ∷ [])) one)

module _ (start : State) (steps : List Step) (numbers : List ℕ) (step : Step) (number : ℕ) (numbered : length numbers ≡ length steps) where
  abbrev with_step : List Step
  with_step = steps ++ step ∷ []

  abbrev told_by : List ℕ
  told_by = numbers ++ number ∷ []

  below : (n : ℕ) (reason : Reason) → n < length steps → IsReason start (take (suc n) steps) (take (suc n) numbers) n reason →
      IsReason start (take (suc n) with_step) (take (suc n) told_by) n reason
  below n reason low is =
      let same_steps : take (suc n) with_step ≡ take (suc n) steps = take-append-le (suc n) steps (step ∷ []) (omega arith) in
      let same_numbers : take (suc n) told_by ≡ take (suc n) numbers = take-append-le (suc n) numbers (number ∷ []) (omega (arith, numbered)) in
      subst (λ (l : List Step). IsReason start l (take (suc n) told_by) n reason) (sym same_steps)
      (subst (λ (l : List ℕ). IsReason start (take (suc n) steps) l n reason) (sym same_numbers) is)

  all_of : {X : Type 0} (xs : List X) (x : X) (n : ℕ) → n ≡ length xs → take (suc n) (xs ++ x ∷ []) ≡ xs ++ x ∷ []
  all_of xs x n end =
      let long : suc n ≡ length (xs ++ x ∷ []) = ap suc end ∙ sym (length_more xs x) in
      ap (λ (m : ℕ). take m (xs ++ x ∷ [])) long ∙ take-length (xs ++ x ∷ [])

  last : (n : ℕ) (reason : Reason) → n ≡ length steps → IsReason start with_step told_by (length steps) reason →
      IsReason start (take (suc n) with_step) (take (suc n) told_by) n reason
  last n reason end is =
      subst (λ (l : List Step). IsReason start l (take (suc n) told_by) n reason) (sym (all_of steps step n end))
      (subst (λ (l : List ℕ). IsReason start with_step l n reason) (sym (all_of numbers number n (end ∙ sym numbered)))
      (subst (λ (m : ℕ). IsReason start with_step told_by m reason) (sym end) is))

  told_more : (told : List Reason) (reason : Reason) → Tells start steps numbers told → IsReason start with_step told_by (length steps) reason →
      Tells start with_step told_by (keep_last 32 (told ++ reason ∷ []))
  told_more told reason t is = record {
    all = t.all ++ reason ∷ [];
    many = length_more t.all reason ∙ ap suc t.many ∙ sym (length_more steps step);
    each = λ n own at. placed (IsReason start (take (suc n) with_step) (take (suc n) told_by) n own) t.all reason own n at
        (λ low there. below n own (omega (arith, t.many, low)) (t.each n own there))
        (λ end same. last n own (end ∙ t.many) (subst (λ (r : Reason). IsReason start with_step told_by (length steps) r) same is));
    kept = ap (λ (l : List Reason). keep_last 32 (l ++ reason ∷ [])) t.kept ∙ kept_more 32 t.all reason;
  }

number_last : (numbers : List ℕ) (number n : ℕ) → length numbers ≡ n → number_of (numbers ++ number ∷ []) n ≡ number
number_last numbers number n end =
    ap (number_of (numbers ++ number ∷ [])) (sym end) ∙ get_or-append_seam numbers number [] 0

-- one step
pub along_step : (before : AccountView) (state : State) (step : Step) (number : ℕ) (after : AccountView) (left : State) →
    left ≡ (next state step).state → CountsStep before state step number after left → GoesAlong before state (step ∷ []) number after left
along_step before state step number after left left_is c start steps numbers h =
    let reason = c.reason in
    let own = c.own in
    let more = steps ++ step ∷ [] in
    let here : moment start more (length steps) ≡ state = moment_last start steps step ∙ sym h.reached in
    let asked : request_at start more (length steps) ≡ request_of_step state step =
    request_last start steps step ∙ ap (λ (s : State). request_of_step s step) (sym h.reached) in
    let is : IsReason start more (numbers ++ number ∷ []) (length steps) reason = record {
      number = own.number ∙ sym (number_last numbers number (length steps) h.numbered);
      request = own.request ∙ sym asked;
      origin = λ uncached. c.origin start steps numbers (h.follows uncached);
      address = own.address ∙ ap (granted_address state) (sym asked)
          ∙ ap (λ (s : State). granted_address s (request_at start more (length steps))) (sym here);
      stale = own.stale ∙ ap (stale_in state) (sym asked)
          ∙ ap (λ (s : State). stale_in s (request_at start more (length steps))) (sym here);
    } in
    record {
      reached = left_is ∙ ap (λ (s : State). (next s step).state) h.reached ∙ sym (end_more start steps step);
      numbered = length_more numbers number ∙ ap suc h.numbered ∙ sym (length_more steps step);
      follows = λ uncached. c.follows start steps numbers (h.follows uncached);
      tells = subst (Tells start more (numbers ++ number ∷ [])) (sym c.told)
          (told_more start steps numbers step number h.numbered before.reasons reason h.tells is);
    }

-- no step, and one before others
pub along_none : (account : AccountView) (state : State) (number : ℕ) → GoesAlong account state [] number account state
along_none account state number start steps numbers h =
    subst (λ (l : List Step). Accounts account state start l (numbers ++ [])) (sym (append-nil steps))
    (subst (λ (l : List ℕ). Accounts account state start steps l) (sym (append-nil numbers)) h)

pub along_more : (a b c : AccountView) (s t u : State) (step : Step) (more : List Step) (number : ℕ) → GoesAlong a s (step ∷ []) number b t →
    GoesAlong b t more number c u → GoesAlong a s (step ∷ more) number c u
along_more a b c s t u step more number first rest start steps numbers h =
    subst (λ (l : List Step). Accounts c u start l (numbers ++ replicate (length (step ∷ more)) number)) (append_assoc steps (step ∷ []) more)
    (subst (λ (l : List ℕ). Accounts c u start ((steps ++ step ∷ []) ++ more) l) (append_assoc numbers (number ∷ []) (replicate (length more) number))
    (rest start (steps ++ step ∷ []) (numbers ++ number ∷ []) (first start steps numbers h)))

-- the newest is the one that was kept
end : {X : Type 0} (xs : List X) (x : X) → slice_get (xs ++ x ∷ []) (length xs) ≡ Some x
end [] x = refl
end (y ∷ ys) x = end ys x

last_of : {X : Type 0} (xs : List X) (x : X) → last_item (xs ++ x ∷ []) ≡ Some x
last_of xs x =
    let long : length (xs ++ x ∷ []) ≡ suc (length xs) = length_more xs x in
    let at : length (xs ++ x ∷ []) - 1 ≡ length xs = omega (arith, long) in
    ap (slice_get (xs ++ x ∷ [])) at ∙ end xs x

last_kept : {X : Type 0} (n : ℕ) (xs : List X) (x : X) → 0 < n → last_item (keep_last n (xs ++ x ∷ [])) ≡ Some x
last_kept n xs x some =
    let k = length (xs ++ x ∷ []) - n in
    let long : length (xs ++ x ∷ []) ≡ suc (length xs) = length_more xs x in
    let within : k ≤ length xs = omega (arith, long, some) in
    ap last_item (drop-append-le k xs (x ∷ []) within) ∙ last_of (drop k xs) x

pub newest_told : (told before : List Reason) (state : State) (step : Step) (number : ℕ) (reason : Reason) →
    told ≡ keep_last 32 (before ++ reason ∷ []) → IsReasonOf state step number reason → IsSomeAnd (last_item told) (IsReasonOf state step number)
newest_told told before state step number reason is own =
    let last : last_item told ≡ Some reason = ap last_item is ∙ last_kept 32 before reason (omega arith) in
    subst (λ (r : Option Reason). IsSomeAnd r (IsReasonOf state step number)) (sym last) own

pub nothing_told : (history : HistoryView) (platform : State) → (IsUncached platform → Follows history platform platform [] []) →
    Accounts (record { history = history; reasons = [] }) platform platform [] []
nothing_told history platform follows = record {
  reached = refl;
  numbered = refl;
  follows = follows;
  tells = record { all = []; many = refl; each = λ n reason at. absurd (cc at); kept = refl };
}

-- what the tables said of an access, by the way that its witness noticed
stale_asked : (state : State) (asking : Option Asking) (seen : Lookup) → seen ≡ told_by_step noticed nothing_seen state.machine asking →
    option_and_then (differing seen.way) (option_map (by_tables state.machine) (option_map request_in asking))
    ≡ stale_in state (option_map request_in asking)
unfolding stale_way
stale_asked state None seen is = refl
stale_asked state (Some asking) seen is =
    ap (λ (s : Lookup). differing s.way (by_tables state.machine (request_in asking))) is

stale_told : (state : State) (step : Step) (seen : Lookup) (tables found : Option Way) →
    seen ≡ told_by_step noticed nothing_seen state.machine (asked state step) →
    tables ≡ option_map (by_tables state.machine) (request_of_step state step) → found ≡ option_and_then (differing seen.way) tables →
    found ≡ stale_in state (request_of_step state step)
stale_told state step seen tables found is tables_are told =
    told ∙ ap (option_and_then (differing seen.way)) tables_are ∙ stale_asked state (asked state step) seen is

-- where an access was led, by the way that its witness noticed
address_asked : (state : State) (asking : Option Asking) (seen : Lookup) → seen ≡ told_by_step noticed nothing_seen state.machine asking →
    address_by (option_map request_in asking) seen.way ≡ granted_address state (option_map request_in asking)
address_asked state None seen is = refl
address_asked state (Some asking) seen is = ap (λ (s : Lookup). address_by (Some (request_in asking)) s.way) is

-- a reason of what was asked, seen and found before the step
pub own_reason : (state : State) (step : Step) (number : ℕ) (request : Option Request) (seen : Lookup) (tables : Option Way) (reason : Reason) →
    request ≡ request_of_step state step → seen ≡ told_by_step noticed nothing_seen state.machine (asked state step) →
    tables ≡ option_map (by_tables state.machine) request → reason.number ≡ number → reason.request ≡ request →
    reason.address ≡ address_by request seen.way → reason.stale ≡ option_and_then (differing seen.way) tables →
    IsReasonOf state step number reason
own_reason state step number request seen tables reason own is tables_are number_is request_is address_is stale_is = record {
  number = number_is;
  request = request_is ∙ own;
  address = address_is ∙ ap (λ (r : Option Request). address_by r seen.way) own ∙ address_asked state (asked state step) seen is;
  stale = stale_told state step seen tables reason.stale is (tables_are ∙ ap (option_map (by_tables state.machine)) own) stale_is;
}
