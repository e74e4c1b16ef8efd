-- Of an entry with several numbers the greatest is enough.
use Rattle.std.proofs.Common.{◌≡◌, ◌∙◌, ◌&&◌, ◌||◌, ◌≤◌, ◌++◌, ℕ, not, Bool, true, false, List, [], ◌∷◌, Option, Some, None, refl, sym, ap, subst, inl, inr, arith}
use Rattle.std.proofs.lemmas.Bool.{le-leb, leb-true}
use Rattle.std.specs.Prelude.{filter, nat_le}
use Rattle.iom_choices.specs.Systems.{System, IsAmong, aimed, reads_of}
use Rattle.iom_choices.specs.Settled.{EachUse, IsSettled, MayHold}
use Rattle.iom_choices.specs.Trees.{AreAhead, AreLedAlike, AreTrees, Tree, reads_at}
use Rattle.iom_choices.specs.Late.{Commands, IsNewer, KeepsNewest, Late, is_fence_by, is_named, late, late_at, late_tree, newest_after, numbered_by, unnumbered, with_command}
use Rattle.iom_choices.proofs.Alike.{fails}
use Rattle.iom_choices.proofs.Lists.{IsPassed, among-left, among-right, among_either, passed}
use Rattle.iom_choices.proofs.Late.{led_late, late_trees}
use Rattle.iom_choices.proofs.Trees.{aimed_listed, alike_settled, among_filter, reads_may, settled_alike, spared}

below : (n m k : ℕ) → n ≤ m → m ≤ k → n ≤ k
below n m k less more = omega arith

itself : (n : ℕ) → n ≤ n
itself n = omega arith

-- what isn't named isn't named with a greater number
less_named : (n m c : ℕ) (b : Bool) → n ≤ m → (nat_le n c && b) ≡ false → (nat_le m c && b) ≡ false
less_named n m c b less is =
    let Goal : Bool → Type 0 = λ t. nat_le m c ≡ t → (t && b) ≡ false in
    let by_test : (t : Bool) → Goal t = λ t. elim t as Goal [
      | true ↦ λ yes. subst (λ (t : Bool). (t && b) ≡ false) (le-leb n c (below n m c less (leb-true m c yes))) is
      | false ↦ λ yes. refl
    ] in by_test (nat_le m c) refl

record Neither (a b : Bool) : Type 0 where
  left : a ≡ false
  right : b ≡ false

neither_of : (a b : Bool) → (a || b) ≡ false → Neither a b
neither_of true b is = absurd (cc)
neither_of false b is = record { left = refl; right = is }

or_of : (a b : Bool) → Neither a b → (a || b) ≡ false
or_of a b n = rw (n.left, n.right) refl

named_less : {S T E C : Type 0} (commands : Commands S T E C) (pending : List (ℕ × C)) (entry : E) (n m : ℕ) → n ≤ m → is_named commands pending (entry, n) ≡ false → is_named commands pending (entry, m) ≡ false
named_less commands [] entry n m less is = refl
named_less commands (one ∷ pending) entry n m less is =
    let k : Neither (nat_le n one.0 && commands.names one.1 entry) (is_named commands pending (entry, n)) = neither_of (nat_le n one.0 && commands.names one.1 entry) (is_named commands pending (entry, n)) is in
    or_of (nat_le m one.0 && commands.names one.1 entry) (is_named commands pending (entry, m))
    (record { left = less_named n m one.0 (commands.names one.1 entry) less k.left; right = named_less commands pending entry n m less k.right })

-- so it isn't dropped either
drops_less : {S T R K E L A C : Type 0} (sys : System S T R K E L A) (commands : Commands S T E C) (state : Late S C) (step : T) (entry : E) (n m : ℕ) → n ≤ m →
    (late sys commands).drops state step (entry, n) ≡ false → (late sys commands).drops state step (entry, m) ≡ false
drops_less sys commands state step entry n m less is =
    let pending = with_command state.count (commands.executed state.now step) state.pending in
    let Goal : Bool → Type 0 = λ b. (b && is_named commands pending (entry, n)) ≡ false → (b && is_named commands pending (entry, m)) ≡ false in
    let by_test : (b : Bool) → Goal b = λ b. elim b as Goal [
      | true ↦ λ is. named_less commands pending entry n m less is
      | false ↦ λ is. refl
    ] in by_test (is_fence_by commands (commands.executed state.now step)) is

-- a source by newer entries, which are among these
record NewerSource {K E : Type 0} (few : List (E × ℕ)) (source : List (K × (E × ℕ))) : Type 0 where
  pub newer : List (K × (E × ℕ))
  pub same : unnumbered newer ≡ unnumbered source
  pub among : EachUse (IsAmong few) newer

newer_source : {K E : Type 0} (few : List (E × ℕ)) (May : E × ℕ → Type 0) → ((held : E × ℕ) → May held → IsNewer few held) → (source : List (K × (E × ℕ))) → EachUse May source → NewerSource few source
newer_source few May enough [] h = record { newer = []; same = refl; among = tt }
newer_source {K} {E} few May enough (used ∷ source) h =
    let rest : NewerSource few source = newer_source few May enough source h.1 in
    let one : IsNewer few used.1 = enough used.1 h.0 in
    record { newer = (used.0, (used.1.0, one.number)) ∷ rest.newer; same = λ n. (used.0, used.1.0) ∷ rest.same n; among = (one.among, rest.among) }

reads_same : {S T R K E L A C : Type 0} (sys : System S T R K E L A) (commands : Commands S T E C) (state : Late S C) (source other : List (K × (E × ℕ))) → unnumbered source ≡ unnumbered other →
    (request : Option R) → reads_of (late sys commands) state source request ≡ reads_of (late sys commands) state other request
reads_same sys commands state source other same None = refl
reads_same {K = K} {E = E} sys commands state source other same (Some request) =
    ap (λ (uses : List (K × E)). numbered_by state.count (sys.way state.now uses request).reads) same

pub few_may : {S T R K E L A C : Type 0} (sys : System S T R K E L A) (commands : Commands S T E C) (tree : S → R → Tree K E L) → AreTrees sys tree → (requests : List R) → AreAhead (late sys commands) requests →
    (thin : List (E × ℕ) → List (E × ℕ)) → KeepsNewest thin → (at : List T → S) (steps : List T) (held : E × ℕ) →
    IsAmong (newest_after sys commands tree requests thin at steps) held → MayHold (late sys commands) (late_at commands at) steps held
few_may sys commands tree trees requests ahead thin keeps at [] held h = absurd h
few_may {S} {T} {R} {K} {E} {L} {A} {C} sys commands tree trees requests ahead thin keeps at (last ∷ steps) held h =
    let state : Late S C = late_at commands at steps in
    let before : List (E × ℕ) = newest_after sys commands tree requests thin at steps in
    let reads : List (E × ℕ) = reads_at (late sys commands) (late_tree tree) requests state before last in
    let p : IsPassed (λ held. not ((late sys commands).drops state last held)) (before ++ reads) held = passed _ _ held (keeps.few _ held h) in (
      fails _ p.passes,
      elim (among_either before reads held p.among) [
        | inl old ↦ inl (few_may sys commands tree trees requests ahead thin keeps at steps held old)
        | inr new ↦ inr (reads_may (late sys commands) (late_tree tree) (late_trees sys commands tree trees) requests ahead (MayHold (late sys commands) (late_at commands at) steps) before
            (few_may sys commands tree trees requests ahead thin keeps at steps) state last held new)
      ],
    )

pub enough_may : {S T R K E L A C : Type 0} (sys : System S T R K E L A) (commands : Commands S T E C) (tree : S → R → Tree K E L) → AreTrees sys tree → (requests : List R) → AreAhead (late sys commands) requests →
    (thin : List (E × ℕ) → List (E × ℕ)) → KeepsNewest thin → (at : List T → S) (steps : List T) (held : E × ℕ) →
    MayHold (late sys commands) (late_at commands at) steps held → IsNewer (newest_after sys commands tree requests thin at steps) held
enough_may sys commands tree trees requests ahead thin keeps at [] held h = absurd h
enough_may {S} {T} {R} {K} {E} {L} {A} {C} sys commands tree trees requests ahead thin keeps at (last ∷ steps) held h =
    let state : Late S C = late_at commands at steps in
    let before : List (E × ℕ) = newest_after sys commands tree requests thin at steps in
    let reads : List (E × ℕ) = reads_at (late sys commands) (late_tree tree) requests state before last in
    let test : E × ℕ → Bool = λ held. not ((late sys commands).drops state last held) in
    let rest : (number : ℕ) → held.1 ≤ number → IsAmong (before ++ reads) (held.0, number) → IsNewer (thin (filter test (before ++ reads))) held =
    λ number newer among.
    let left : IsAmong (filter test (before ++ reads)) (held.0, number) =
    among_filter test (before ++ reads) (held.0, number) among (spared _ (drops_less sys commands state last held.0 held.1 number newer h.0)) in
    let k : IsNewer (thin (filter test (before ++ reads))) (held.0, number) = keeps.enough (filter test (before ++ reads)) (held.0, number) left in
    record { number = k.number; among = k.among; newer = below held.1 number k.number newer k.newer } in
    elim h.1 [
      | inl old ↦
          let k : IsNewer before held = enough_may sys commands tree trees requests ahead thin keeps at steps held old in
          rest k.number k.newer (among-left before reads (held.0, k.number) k.among)
      | inr read ↦
          let source : NewerSource before read.source = newer_source before (MayHold (late sys commands) (late_at commands at) steps) (enough_may sys commands tree trees requests ahead thin keeps at steps) read.source read.may in
          let among : IsAmong (reads_of (late sys commands) state source.newer (aimed (late sys commands) state last read.target)) held =
          subst (λ (reads : List (E × ℕ)). IsAmong reads held) (sym (reads_same sys commands state source.newer read.source source.same (aimed (late sys commands) state last read.target))) read.among in
          rest held.1 (itself held.1) (among-right before reads held
          (aimed_listed (late sys commands) (late_tree tree) (late_trees sys commands tree trees) requests ahead before state last source.newer source.among held read.target among))
    ]

pub newest_settled : {S T R K E L A C : Type 0} (sys : System S T R K E L A) (commands : Commands S T E C) (tree : S → R → Tree K E L) → AreTrees sys tree → (requests : List R) → AreAhead (late sys commands) requests →
    (thin : List (E × ℕ) → List (E × ℕ)) → KeepsNewest thin → (at : List T → S) (steps : List T) (request : R) →
    AreLedAlike (late sys commands) (late_tree tree) (late_at commands at steps) (newest_after sys commands tree requests thin at steps) request →
    IsSettled (late sys commands) (MayHold (late sys commands) (late_at commands at) steps) (late_at commands at steps) (Some request)
newest_settled {S} {T} {R} {K} {E} {L} {A} {C} sys commands tree trees requests ahead thin keeps at steps request alike source may =
    let state : Late S C = late_at commands at steps in
    let few : List (E × ℕ) = newest_after sys commands tree requests thin at steps in
    let newer : NewerSource few source = newer_source few (MayHold (late sys commands) (late_at commands at) steps) (enough_may sys commands tree trees requests ahead thin keeps at steps) source may in
    let settled : IsSettled (late sys commands) (IsAmong few) state (Some request) =
    alike_settled (late sys commands) (late_tree tree) (late_trees sys commands tree trees) (IsAmong few) few (λ held among. among) state request alike in
    sym (led_late sys commands state source (unnumbered source) refl (Some request))
    ∙ led_late sys commands state newer.newer (unnumbered source) newer.same (Some request)
    ∙ settled newer.newer newer.among

pub settled_newest : {S T R K E L A C : Type 0} (sys : System S T R K E L A) (commands : Commands S T E C) (tree : S → R → Tree K E L) → AreTrees sys tree → (requests : List R) → AreAhead (late sys commands) requests →
    (thin : List (E × ℕ) → List (E × ℕ)) → KeepsNewest thin → (at : List T → S) (steps : List T) (request : R) →
    IsSettled (late sys commands) (MayHold (late sys commands) (late_at commands at) steps) (late_at commands at steps) (Some request) →
    AreLedAlike (late sys commands) (late_tree tree) (late_at commands at steps) (newest_after sys commands tree requests thin at steps) request
settled_newest sys commands tree trees requests ahead thin keeps at steps request settled =
    settled_alike (late sys commands) (late_tree tree) (late_trees sys commands tree trees) (MayHold (late sys commands) (late_at commands at) steps) (newest_after sys commands tree requests thin at steps)
    (few_may sys commands tree trees requests ahead thin keeps at steps) (late_at commands at steps) request settled
