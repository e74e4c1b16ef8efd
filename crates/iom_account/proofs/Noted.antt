-- What stands beside each live place was noted by the step that filled it, from step to step.
use Rattle.std.proofs.Common.{◌≡◌, ◌∙◌, zero, suc, ℕ, List, Bool, true, false, Option, Some, None, refl, sym, ap, subst, inl, inr, arith}
use Rattle.std.specs.Prelude.{IfSome}
use Rattle.std.proofs.lemmas.Bool.{cases_lt}
use Rattle.iom_cache.specs.Places.{find, made_room, filled_by, emptied_by, NoneLive}
use Rattle.iom_cache.specs.Origins.{IsLast, fills, drops_at, first_stamps, stamped_by}
use Rattle.iom_cache.proofs.Since.{Since}
use Rattle.iom_cache.proofs.Stamped.{Stamped, Stamped-start, Stamped-weaker, Stamped-absent, Stamped-push, Stamped-room, Stamped-dropped}
use Rattle.iom_account.specs.Beside.{beside, noted_at}
use Rattle.iom_account.proofs.Beside.{beside_found}

module _ {C K V : Type 0} (same : K → K → Bool) (drops : C → K → V → Bool) (filled : ℕ → Option (K × V)) (executed : ℕ → Option C) (note : ℕ → ℕ) where
  -- before step k: the entry stands in its place since step c, which noted this
  pub record Noted (k : ℕ) (p : K × V) (s : ℕ) : Type 0 where
    pub c : ℕ
    pub since : Since same drops filled executed k p c
    pub told : s ≡ note c

  -- after step k, unless that drops it: the entry stands in its place since a step that noted this
  abbrev Kept : ℕ → K × V → ℕ → Type 0
  Kept k p s = drops_at drops (executed k) p.0 p.1 ≡ false → Noted (suc k) p s

  kept_old : (k : ℕ) (p : K × V) (s : ℕ) → fills same p.0 (filled k) ≡ false → Noted k p s → Kept k p s
  kept_old k p s other h spared = record {
    c = h.c;
    since = record {
      before = let before = h.since.before in omega arith;
      source = h.since.source;
      latest = λ j low high. elim (cases_lt j k) [
        | inl lt ↦ h.since.latest j low lt
        | inr ge ↦ let is : k ≡ j = omega arith in subst (λ (j : ℕ). fills same p.0 (filled j) ≡ false) is other
      ];
      kept = λ j low high. elim (cases_lt j k) [
        | inl lt ↦ h.since.kept j low lt
        | inr ge ↦ let is : k ≡ j = omega arith in subst (λ (j : ℕ). drops_at drops (executed j) p.0 p.1 ≡ false) is spared
      ];
    };
    told = h.told;
  }

  kept_new : (k : ℕ) (p : K × V) → filled k ≡ Some p → Kept k p (note k)
  kept_new k p source spared = record {
    c = k;
    since = record {
      before = omega arith;
      source = source;
      latest = λ j low high. absurd (omega arith);
      kept = λ j low high. let is : k ≡ j = omega arith in subst (λ (j : ℕ). drops_at drops (executed j) p.0 p.1 ≡ false) is spared;
    };
    told = refl;
  }

  after_fill : (k room : ℕ) (f : Option (K × V)) → filled k ≡ f → (ps : List (Option (K × V))) (ss : List ℕ) →
      IfSome f (λ p. find (same p.0) ps ≡ None) → Stamped (Noted k) ps ss → Stamped (Kept k) (filled_by room f ps) (stamped_by room (note k) f ss)
  after_fill k room None e ps ss new h = Stamped-weaker (Noted k) (Kept k) (λ p s. kept_old k p s (ap (fills same p.0) e)) ps ss h
  after_fill k room (Some p) e ps ss new h =
      Stamped-push (Kept k) (made_room room ps) (made_room room ss) p (note k)
      (Stamped-room (Kept k) room ps ss (Stamped-absent (same p.0) (Noted k) (Kept k) (λ q s other. kept_old k q s (ap (fills same q.0) e ∙ other)) ps ss new h))
      (kept_new k p e)

  after_drop : (k : ℕ) (o : Option C) → executed k ≡ o → (ps : List (Option (K × V))) (ss : List ℕ) →
      Stamped (Kept k) ps ss → Stamped (Noted (suc k)) (emptied_by drops o ps) ss
  after_drop k None e ps ss h =
      Stamped-weaker (Kept k) (Noted (suc k)) (λ p s kept. kept (ap (λ (o : Option C). drops_at drops o p.0 p.1) e)) ps ss h
  after_drop k (Some command) e ps ss h =
      Stamped-dropped (drops command) (Kept k) (Noted (suc k)) (λ p s spared kept. kept (ap (λ (o : Option C). drops_at drops o p.0 p.1) e ∙ spared)) ps ss h

  -- from a cache with no live place on
  pub Noted-always : (room : ℕ) (places : ℕ → List (Option (K × V))) → NoneLive (places 0) →
      ((k : ℕ) → places (suc k) ≡ emptied_by drops (executed k) (filled_by room (filled k) (places k))) →
      ((k : ℕ) → IfSome (filled k) (λ p. find (same p.0) (places k) ≡ None)) →
      (k : ℕ) → Stamped (Noted k) (places k) (noted_at room filled note (first_stamps (places 0)) k)
  Noted-always room places none step new zero = Stamped-start (Noted 0) (places 0) none
  Noted-always room places none step new (suc k) =
      let notes = noted_at room filled note (first_stamps (places 0)) in
      subst (λ (ps : List (Option (K × V))). Stamped (Noted (suc k)) ps (notes (suc k))) (sym (step k))
      (after_drop k (executed k) refl (filled_by room (filled k) (places k)) (stamped_by room (note k) (filled k) (notes k))
      (after_fill k room (filled k) refl (places k) (notes k) (new k) (Noted-always room places none step new k)))

  -- what stands beside a live place after step n was noted by the last step up to n that filled its key
  pub record LastNoted (n : ℕ) (key : K) (value : V) (s : ℕ) : Type 0 where
    pub c : ℕ
    pub last : IsLast (λ j. fills same key (filled j)) n c
    pub source : filled c ≡ Some (key, value)
    pub told : s ≡ note c

  pub last_noted : ((a b : K) → same a b ≡ true → a ≡ b) → ((a : K) → same a a ≡ true) → (n : ℕ) (key : K) (value : V)
      (ps : List (Option (K × V))) (ss : List ℕ) (d : ℕ) → Stamped (Noted (suc n)) ps ss → find (same key) ps ≡ Some value →
      LastNoted n key value (beside (same key) ps ss d)
  last_noted exact itself n key value ps ss d h is =
      let f = beside_found (same key) (Noted (suc n)) ps ss d value h is in
      let own : f.0 ≡ key = sym (exact key f.0 f.1) in
      let noted : Noted (suc n) (key, value) (beside (same key) ps ss d) = subst (λ (k : K). Noted (suc n) (k, value) (beside (same key) ps ss d)) own f.2 in
      record {
        c = noted.c;
        last = record {
          within = let before = noted.since.before in omega arith;
          passes = ap (fills same key) noted.since.source ∙ itself key;
          none_later = λ j low high. noted.since.latest j low (omega arith);
        };
        source = noted.since.source;
        told = noted.told;
      }
