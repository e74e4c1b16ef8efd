-- Since which step each live place holds its entry, from step to step. The steps are given by what each fills and carries out.
use Rattle.std.proofs.Common.{◌≡◌, zero, suc, add-one, ◌+◌, ◌<◌, ◌≤◌, ℕ, List, Bool, false, Option, Some, None, refl, sym, subst, inl, inr, arith}
use Rattle.std.specs.Prelude.{IfSome}
use Rattle.std.proofs.lemmas.Bool.{cases_lt}
use Rattle.iom_cache.specs.Places.{find, made_room, filled_by, emptied_by, NoneLive}
use Rattle.iom_cache.specs.Origins.{fills, drops_at, first_stamps, stamped_by, stamps_at}
use Rattle.iom_cache.proofs.Stamped.{Stamped, Stamped-start, Stamped-weaker, Stamped-absent, Stamped-push, Stamped-room, Stamped-dropped}

at_or_below : (P : ℕ → Type 0) (k : ℕ) → ((j : ℕ) → j < k → P j) → P k → (j : ℕ) → j < k + 1 → P j
at_or_below P k below last j low = elim (cases_lt j k) [
  | inl lt ↦ below j lt
  | inr ge ↦ let same : k ≡ j = omega arith in subst P same last
]

module _ {C K V : Type 0} (same : K → K → Bool) (drops : C → K → V → Bool) (filled : ℕ → Option (K × V)) (executed : ℕ → Option C) where
  -- before step k: the entry stands in its place since step c
  pub record Since (k : ℕ) (p : K × V) (c : ℕ) : Type 0 where
    pub before : c < k
    pub source : filled c ≡ Some p
    pub latest : (j : ℕ) → c < j → j < k → fills same p.0 (filled j) ≡ false
    pub kept : (j : ℕ) → c ≤ j → j < k → drops_at drops (executed j) p.0 p.1 ≡ false

  -- within step k, after its fill and before its command: the entry stands in its place since step c
  pub record Midway (k : ℕ) (p : K × V) (c : ℕ) : Type 0 where
    pub before : c ≤ k
    pub source : filled c ≡ Some p
    pub latest : (j : ℕ) → c < j → j ≤ k → fills same p.0 (filled j) ≡ false
    pub kept : (j : ℕ) → c ≤ j → j < k → drops_at drops (executed j) p.0 p.1 ≡ false

  midway_old : (k : ℕ) (f : Option (K × V)) → filled k ≡ f → (p : K × V) (c : ℕ) → fills same p.0 f ≡ false → Since k p c → Midway k p c
  midway_old k f e p c other h = record {
    before = let before = h.before in omega arith;
    source = h.source;
    latest = λ j low high. at_or_below (λ j. c < j → fills same p.0 (filled j) ≡ false) k (λ j below above. h.latest j above below)
        (λ above. subst (λ (f : Option (K × V)). fills same p.0 f ≡ false) (sym e) other) j (omega arith) low;
    kept = h.kept;
  }

  since_next : (k : ℕ) (o : Option C) → executed k ≡ o → (p : K × V) (c : ℕ) → drops_at drops o p.0 p.1 ≡ false → Midway k p c → Since (k + 1) p c
  since_next k o e p c spared h = record {
    before = let before = h.before in omega arith;
    source = h.source;
    latest = λ j low high. h.latest j low (omega arith);
    kept = λ j low high. at_or_below (λ j. c ≤ j → drops_at drops (executed j) p.0 p.1 ≡ false) k (λ j below above. h.kept j above below)
        (λ above. subst (λ (o : Option C). drops_at drops o p.0 p.1 ≡ false) (sym e) spared) j high low;
  }

  after_fill : (k room : ℕ) (f : Option (K × V)) → filled k ≡ f → (ps : List (Option (K × V))) (ss : List ℕ) →
      IfSome f (λ p. find (same p.0) ps ≡ None) → Stamped (Since k) ps ss → Stamped (Midway k) (filled_by room f ps) (stamped_by room k f ss)
  after_fill k room None e ps ss new h = Stamped-weaker (Since k) (Midway k) (λ p c. midway_old k None e p c refl) ps ss h
  after_fill k room (Some p) e ps ss new h =
      Stamped-push (Midway k) (made_room room ps) (made_room room ss) p k
      (Stamped-room (Midway k) room ps ss (Stamped-absent (same p.0) (Since k) (Midway k) (λ q c other. midway_old k (Some p) e q c other) ps ss new h))
      (record { before = omega arith; source = e; latest = λ j low high. absurd (omega arith); kept = λ j low high. absurd (omega arith) })

  after_drop : (k : ℕ) (o : Option C) → executed k ≡ o → (ps : List (Option (K × V))) (ss : List ℕ) →
      Stamped (Midway k) ps ss → Stamped (Since (k + 1)) (emptied_by drops o ps) ss
  after_drop k None e ps ss h = Stamped-weaker (Midway k) (Since (k + 1)) (λ p c. since_next k None e p c refl) ps ss h
  after_drop k (Some command) e ps ss h =
      Stamped-dropped (drops command) (Midway k) (Since (k + 1)) (λ p c. since_next k (Some command) e p c) ps ss h

  -- a step keeps it, where what it fills was not found
  pub Since-step : (k room : ℕ) (ps : List (Option (K × V))) (ss : List ℕ) → IfSome (filled k) (λ p. find (same p.0) ps ≡ None) →
      Stamped (Since k) ps ss → Stamped (Since (k + 1)) (emptied_by drops (executed k) (filled_by room (filled k) ps)) (stamped_by room k (filled k) ss)
  Since-step k room ps ss new h = after_drop k (executed k) refl (filled_by room (filled k) ps) (stamped_by room k (filled k) ss)
      (after_fill k room (filled k) refl ps ss new h)

  -- so it holds before every step, from a cache with no live place on
  pub Since-always : (room : ℕ) (places : ℕ → List (Option (K × V))) → NoneLive (places 0) →
      ((k : ℕ) → places (suc k) ≡ emptied_by drops (executed k) (filled_by room (filled k) (places k))) →
      ((k : ℕ) → IfSome (filled k) (λ p. find (same p.0) (places k) ≡ None)) →
      (k : ℕ) → Stamped (Since k) (places k) (stamps_at room filled (first_stamps (places 0)) k)
  Since-always room places none step new zero = Stamped-start (Since 0) (places 0) none
  Since-always room places none step new (suc k) =
      let stamps = stamps_at room filled (first_stamps (places 0)) in
      let next : Stamped (Since (k + 1)) (emptied_by drops (executed k) (filled_by room (filled k) (places k))) (stamps (suc k))
      = Since-step k room (places k) (stamps k) (new k) (Since-always room places none step new k) in
      subst (λ (n : ℕ). Stamped (Since n) (places (suc k)) (stamps (suc k))) (add-one k)
      (subst (λ (ps : List (Option (K × V))). Stamped (Since (k + 1)) ps (stamps (suc k))) (sym (step k)) next)
