-- The same with steps that nobody sees, and with a thinning of what is possible.
use Rattle.std.proofs.Common.{◌≡◌, ◌∙◌, ◌++◌, ℕ, zero, suc, Bool, true, List, [], ◌∷◌, Option, Some, None, refl, inl, inr}
use Rattle.std.specs.Prelude.{flat_map}
use Rattle.iom_choices.specs.Systems.{System, IsAmong}
use Rattle.iom_choices.specs.Choices.{Choice, Holder, end_as, next_as}
use Rattle.iom_choices.specs.Trees.{AreAhead, AreTrees, Tree}
use Rattle.iom_choices.specs.Traces.{AreGaps, IsAllowedUnseen, IsBehind, IsGap, IsThinning, Shows, filled, fits_any, is_any, possible_behind, possible_unseen, possible_with, unseen}
use Rattle.iom_choices.proofs.Lists.{among-left, among-right, among_either}
use Rattle.iom_choices.proofs.Trees.{IsFromOne, among_map, from_one}
use Rattle.iom_choices.proofs.Traces.{IsCovered, IsOne, IsReached, any_of, covered_next, one_of, reached_next}

covered_thin : {S E : Type 0} (thin : List (Holder S E) → List (Holder S E)) → IsThinning thin → (all : List (Holder S E)) (i : Holder S E) → IsCovered all i → IsCovered (thin all) i
covered_thin {S} {E} thin thins all i c =
    let b : IsBehind (thin all) c.one = thins.enough all c.one c.among in
    record { one = b.more; among = b.among; state = c.state ∙ b.is.state; holds = λ entry h. b.is.holds entry (c.holds entry h) }

covered_left : {S E : Type 0} (all others : List (Holder S E)) (i : Holder S E) → IsCovered all i → IsCovered (all ++ others) i
covered_left all others i c = record { one = c.one; among = among-left all others c.one c.among; state = c.state; holds = c.holds }

still_covered : {S T R K E L A O : Type 0} (sys : System S T R K E L A) (tree : S → R → Tree K E L) (requests : List R) (fits : A → O → Bool) (hidden : List T) (thin : List (Holder S E) → List (Holder S E)) → IsThinning thin →
    (n : ℕ) (all : List (Holder S E)) (i : Holder S E) → IsCovered all i → IsCovered (possible_unseen sys tree requests fits hidden thin n all) i
still_covered sys tree requests fits hidden thin thins zero all i c = c
still_covered sys tree requests fits hidden thin thins (suc n) all i c = covered_thin thin thins _ i (covered_left all _ i c)

gap_covered : {S T R K E L A O : Type 0} (sys : System S T R K E L A) (tree : S → R → Tree K E L) → AreTrees sys tree → (requests : List R) → AreAhead sys requests → (fits : A → O → Bool) (hidden : List T)
    (thin : List (Holder S E) → List (Holder S E)) → IsThinning thin → (start : S) (all : List (Holder S E)) (rest : List (T × Option O)) →
    ((chosen : List (T × Choice R K)) → Shows sys (fits_any fits) start chosen rest → IsCovered all (end_as sys start chosen)) →
    (n : ℕ) (gap : List T) → IsGap hidden n gap → (chosen : List (T × Choice R K)) → Shows sys (fits_any fits) start chosen (unseen gap ++ rest) →
    IsCovered (possible_unseen sys tree requests fits hidden thin n all) (end_as sys start chosen)
gap_covered sys tree trees requests ahead fits hidden thin thins start all rest before n [] is chosen shows =
    still_covered sys tree requests fits hidden thin thins n all (end_as sys start chosen) (before chosen shows)
gap_covered sys tree trees requests ahead fits hidden thin thins start all rest before zero (step ∷ gap) is chosen shows = absurd is
gap_covered sys tree trees requests ahead fits hidden thin thins start all rest before (suc n) (step ∷ gap) is [] shows = absurd shows
gap_covered {S} {T} {R} {K} {E} {L} {A} {O} sys tree trees requests ahead fits hidden thin thins start all rest before (suc n) (step ∷ gap) is (last ∷ chosen) shows =
    let next : List (Holder S E) = possible_unseen sys tree requests fits hidden thin n all in
    let c : IsCovered next (end_as sys start chosen) = gap_covered sys tree trees requests ahead fits hidden thin thins start all rest before n gap is.1 chosen shows.2 in
    let by_step : T → List (Holder S E) = λ step. flat_map (possible_behind {O = Option O} sys tree requests (fits_any fits) (step, None)) next in
    let k : IsCovered (by_step step) (next_as sys (end_as sys start chosen) last.0 last.1) =
    covered_next sys tree trees requests ahead (fits_any fits) next (end_as sys start chosen) c last.0 last.1 (step, None) shows.0 shows.1 in
    covered_thin thin thins (all ++ flat_map by_step hidden) _ (record {
      one = k.one;
      among = among-right all (flat_map by_step hidden) k.one (among_map by_step hidden step k.one is.0 k.among);
      state = k.state;
      holds = k.holds;
    })

pub unseen_covered : {S T R K E L A O : Type 0} (sys : System S T R K E L A) (tree : S → R → Tree K E L) → AreTrees sys tree → (requests : List R) → AreAhead sys requests → (fits : A → O → Bool) (hidden : List T) (most : ℕ)
    (thin : List (Holder S E) → List (Holder S E)) → IsThinning thin → (start : S) (gaps : List (List T)) (trace : List (T × O)) → AreGaps hidden most gaps trace →
    (chosen : List (T × Choice R K)) → Shows sys (fits_any fits) start chosen (filled gaps trace) → IsCovered (possible_with sys tree requests fits hidden most thin start trace) (end_as sys start chosen)
unseen_covered sys tree trees requests ahead fits hidden most thin thins start [] [] are [] shows = record { one = record { state = start; holds = [] }; among = inl refl; state = refl; holds = λ entry h. h }
unseen_covered sys tree trees requests ahead fits hidden most thin thins start [] [] are (last ∷ chosen) shows = absurd shows
unseen_covered sys tree trees requests ahead fits hidden most thin thins start (gap ∷ gaps) [] are chosen shows = absurd are
unseen_covered sys tree trees requests ahead fits hidden most thin thins start [] (seen ∷ trace) are chosen shows = absurd are
unseen_covered sys tree trees requests ahead fits hidden most thin thins start (gap ∷ gaps) (seen ∷ trace) are [] shows = absurd shows
unseen_covered {S} {T} {R} {K} {E} {L} {A} {O} sys tree trees requests ahead fits hidden most thin thins start (gap ∷ gaps) (seen ∷ trace) are (last ∷ chosen) shows =
    let all : List (Holder S E) = possible_with sys tree requests fits hidden most thin start trace in
    let c : IsCovered (possible_unseen sys tree requests fits hidden thin most all) (end_as sys start chosen) =
    gap_covered sys tree trees requests ahead fits hidden thin thins start all (filled gaps trace) (λ rest shown. unseen_covered sys tree trees requests ahead fits hidden most thin thins start gaps trace are.1 rest shown) most gap are.0 chosen shows.2 in
    covered_thin thin thins _ (next_as sys (end_as sys start chosen) last.0 last.1)
    (covered_next sys tree trees requests ahead (fits_any fits) (possible_unseen sys tree requests fits hidden thin most all) (end_as sys start chosen) c last.0 last.1 (seen.0, Some seen.1) shows.0 shows.1)

-- the other way
record IsReachedUnseen {S T R K E L A O : Type 0} (sys : System S T R K E L A) (fits : A → O → Bool) (hidden : List T) (most : ℕ) (start : S) (trace : List (T × O)) (one : Holder S E) : Type 0 where
  gaps : List (List T)
  are : AreGaps hidden most gaps trace
  reached : IsReached sys (fits_any fits) start (filled gaps trace) one

record IsReachedBehind {S T R K E L A O : Type 0} (sys : System S T R K E L A) (fits : A → O → Bool) (hidden : List T) (most n : ℕ) (start : S) (trace : List (T × O)) (one : Holder S E) : Type 0 where
  gap : List T
  is : IsGap hidden n gap
  gaps : List (List T)
  are : AreGaps hidden most gaps trace
  reached : IsReached sys (fits_any fits) start (unseen gap ++ filled gaps trace) one

behind_reached : {S T R K E L A O : Type 0} (sys : System S T R K E L A) (tree : S → R → Tree K E L) → AreTrees sys tree → (requests : List R) → AreAhead sys requests → (fits : A → O → Bool) (hidden : List T) (most : ℕ)
    (thin : List (Holder S E) → List (Holder S E)) → IsThinning thin → (start : S) (trace : List (T × O)) (all : List (Holder S E)) →
    ((one : Holder S E) → IsAmong all one → IsReachedUnseen sys fits hidden most start trace one) →
    (n : ℕ) (one : Holder S E) → IsAmong (possible_unseen sys tree requests fits hidden thin n all) one → IsReachedBehind sys fits hidden most n start trace one
behind_reached sys tree trees requests ahead fits hidden most thin thins start trace all each zero one h =
    let r = each one h in record { gap = []; is = tt; gaps = r.gaps; are = r.are; reached = r.reached }
behind_reached {S} {T} {R} {K} {E} {L} {A} {O} sys tree trees requests ahead fits hidden most thin thins start trace all each (suc n) one h =
    let next : List (Holder S E) = possible_unseen sys tree requests fits hidden thin n all in
    let by_step : T → List (Holder S E) = λ step. flat_map (possible_behind {O = Option O} sys tree requests (fits_any fits) (step, None)) next in
    elim (among_either all (flat_map by_step hidden) one (thins.few _ one h)) [
      | inl old ↦ let r : IsReachedUnseen sys fits hidden most start trace one = each one old in record { gap = []; is = tt; gaps = r.gaps; are = r.are; reached = r.reached }
      | inr new ↦
          let f : IsFromOne by_step hidden one = from_one by_step hidden one new in
          let g : IsFromOne (possible_behind {O = Option O} sys tree requests (fits_any fits) (f.source, None)) next one = from_one (possible_behind {O = Option O} sys tree requests (fits_any fits) (f.source, None)) next one f.among in
          let r : IsReachedBehind sys fits hidden most n start trace g.source = behind_reached sys tree trees requests ahead fits hidden most thin thins start trace all each n g.source g.at in
          record {
            gap = f.source ∷ r.gap;
            is = (f.at, r.is);
            gaps = r.gaps;
            are = r.are;
            reached = reached_next sys tree trees requests ahead (fits_any fits) start (unseen r.gap ++ filled r.gaps trace) g.source r.reached (f.source, None) one g.among;
          }
    ]

unseen_reached : {S T R K E L A O : Type 0} (sys : System S T R K E L A) (tree : S → R → Tree K E L) → AreTrees sys tree → (requests : List R) → AreAhead sys requests → (fits : A → O → Bool) (hidden : List T) (most : ℕ)
    (thin : List (Holder S E) → List (Holder S E)) → IsThinning thin → (start : S) (trace : List (T × O)) (one : Holder S E) →
    IsAmong (possible_with sys tree requests fits hidden most thin start trace) one → IsReachedUnseen sys fits hidden most start trace one
unseen_reached sys tree trees requests ahead fits hidden most thin thins start [] one (inl same) = record { gaps = []; are = tt; reached = record { chosen = []; shows = tt; is = same } }
unseen_reached sys tree trees requests ahead fits hidden most thin thins start [] one (inr h) = absurd h
unseen_reached {S} {T} {R} {K} {E} {L} {A} {O} sys tree trees requests ahead fits hidden most thin thins start (seen ∷ trace) one h =
    let all : List (Holder S E) = possible_with sys tree requests fits hidden most thin start trace in
    let next : List (Holder S E) = possible_unseen sys tree requests fits hidden thin most all in
    let step : Holder S E → List (Holder S E) = possible_behind {O = Option O} sys tree requests (fits_any fits) (seen.0, Some seen.1) in
    let f : IsFromOne step next one = from_one step next one (thins.few (flat_map step next) one h) in
    let r : IsReachedBehind sys fits hidden most most start trace f.source =
    behind_reached sys tree trees requests ahead fits hidden most thin thins start trace all (λ one among. unseen_reached sys tree trees requests ahead fits hidden most thin thins start trace one among) most f.source f.at in
    record {
      gaps = r.gap ∷ r.gaps;
      are = (r.is, r.are);
      reached = reached_next sys tree trees requests ahead (fits_any fits) start (unseen r.gap ++ filled r.gaps trace) f.source r.reached (seen.0, Some seen.1) one f.among;
    }

pub unseen_possible : {S T R K E L A O : Type 0} (sys : System S T R K E L A) (tree : S → R → Tree K E L) → AreTrees sys tree → (requests : List R) → AreAhead sys requests → (fits : A → O → Bool) (hidden : List T) (most : ℕ)
    (thin : List (Holder S E) → List (Holder S E)) → IsThinning thin → (start : S) (trace : List (T × O)) → IsAllowedUnseen sys fits hidden most start trace →
    is_any (possible_with sys tree requests fits hidden most thin start trace) ≡ true
unseen_possible {S} {T} {R} {K} {E} sys tree trees requests ahead fits hidden most thin thins start trace a =
    let c : IsCovered (possible_with sys tree requests fits hidden most thin start trace) (end_as sys start a.allowed.chosen) =
    unseen_covered sys tree trees requests ahead fits hidden most thin thins start a.gaps trace a.are a.allowed.chosen a.allowed.shows in
    any_of (possible_with sys tree requests fits hidden most thin start trace) c.one c.among

pub possible_unseen_allowed : {S T R K E L A O : Type 0} (sys : System S T R K E L A) (tree : S → R → Tree K E L) → AreTrees sys tree → (requests : List R) → AreAhead sys requests → (fits : A → O → Bool) (hidden : List T) (most : ℕ)
    (thin : List (Holder S E) → List (Holder S E)) → IsThinning thin → (start : S) (trace : List (T × O)) →
    is_any (possible_with sys tree requests fits hidden most thin start trace) ≡ true → IsAllowedUnseen sys fits hidden most start trace
possible_unseen_allowed {S} {T} {R} {K} {E} sys tree trees requests ahead fits hidden most thin thins start trace any =
    let o : IsOne (possible_with sys tree requests fits hidden most thin start trace) = one_of (possible_with sys tree requests fits hidden most thin start trace) any in
    let r : IsReachedUnseen sys fits hidden most start trace o.one = unseen_reached sys tree trees requests ahead fits hidden most thin thins start trace o.one o.among in
    record { gaps = r.gaps; are = r.are; allowed = record { chosen = r.reached.chosen; shows = r.reached.shows } }
