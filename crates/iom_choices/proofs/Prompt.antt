-- Where nothing is read between a command and its fence, no more may be held late, behind the fence, than at once.
use Rattle.std.proofs.Common.{◌≡◌, ◌∙◌, ◌⊎◌, ◌&&◌, ◌||◌, ◌<◌, ◌≤◌, ℕ, suc, Bool, true, false, List, [], ◌∷◌, length, Option, Some, None, if◌then◌else◌, refl, sym, subst, inl, inr, arith}
use Rattle.std.proofs.lemmas.Bool.{le-leb}
use Rattle.std.specs.Prelude.{nat_le}
use Rattle.iom_choices.specs.Systems.{System, IsAmong, aimed, reads_of}
use Rattle.iom_choices.specs.Settled.{EachUse, IsRead, IsSettled, MayHold}
use Rattle.iom_choices.specs.Late.{Commands, DropsNamed, IsPrompt, Late, is_fence_by, is_named, late, late_at, left_pending, named_by, numbered_by, pending_at, unnumbered, with_command}
use Rattle.iom_choices.proofs.Late.{aimed_late, led_late}

pub record PlainRead {S T R K E L A C : Type 0} (sys : System S T R K E L A) (state : Late S C) (source : List (K × (E × ℕ))) (request : Option R) (held : E × ℕ) : Type 0 where
  pub among : IsAmong (reads_of sys state.now (unnumbered source) request) held.0
  pub number : held.1 ≡ state.count

record PlainAmong {E : Type 0} (number : ℕ) (entries : List E) (held : E × ℕ) : Type 0 where
  among : IsAmong entries held.0
  is : held.1 ≡ number

plain_among : {E : Type 0} (number : ℕ) (entries : List E) (held : E × ℕ) → IsAmong (numbered_by number entries) held → PlainAmong number entries held
plain_among number [] held h = absurd h
plain_among number (one ∷ entries) held (inl same) = record { among = inl (λ n. (same n).0); is = λ n. (sym same n).1 }
plain_among number (one ∷ entries) held (inr h) = let k : PlainAmong number entries held = plain_among number entries held h in record { among = inr k.among; is = k.is }

pub plain_read : {S T R K E L A C : Type 0} (sys : System S T R K E L A) (commands : Commands S T E C) (state : Late S C) (source : List (K × (E × ℕ))) (request : Option R) (held : E × ℕ) →
    IsAmong (reads_of (late sys commands) state source request) held → PlainRead sys state source request held
plain_read sys commands state source None held h = absurd h
plain_read {E = E} sys commands state source (Some request) held h =
    let k : PlainAmong state.count (sys.way state.now (unnumbered source) request).reads held = plain_among state.count (sys.way state.now (unnumbered source) request).reads held h in
    record { among = k.among; number = k.is }

less_suc : (n m : ℕ) → n < m → n < suc m
less_suc n m less = omega arith

pub less_le : (n m : ℕ) → n < m → n ≤ m
less_le n m less = omega arith

pub equal_le : (n m : ℕ) → n ≡ m → n ≤ m
equal_le n m is = omega arith

equal_less : (n m : ℕ) → n ≡ m → n < suc m
equal_less n m is = omega arith

-- what is held was read before
pub number_below : {S T R K E L A C : Type 0} (sys : System S T R K E L A) (commands : Commands S T E C) (at : List T → S) (steps : List T) (held : E × ℕ) → MayHold (late sys commands) (late_at commands at) steps held → held.1 < length steps
number_below sys commands at [] held h = absurd h
number_below sys commands at (last ∷ steps) held h = elim h.1 [
  | inl old ↦ less_suc held.1 (length steps) (number_below sys commands at steps held old)
  | inr read ↦ equal_less held.1 (length steps) (plain_read sys commands (late_at commands at steps) read.source (aimed (late sys commands) (late_at commands at steps) last read.target) held read.among).number
]

or_yes : (a b : Bool) → b ≡ true → (a || b) ≡ true
or_yes true b is = refl
or_yes false b is = is

pub named_own : {S T E C : Type 0} (commands : Commands S T E C) (count : ℕ) (executed : Option C) (pending : List (ℕ × C)) (held : E × ℕ) → held.1 ≤ count →
    named_by commands executed held.0 ≡ true → is_named commands (with_command count executed pending) held ≡ true
named_own commands count None pending held below is = absurd (cc)
named_own commands count (Some command) pending held below is = rw (le-leb held.1 count below, is) refl

pub named_more : {S T E C : Type 0} (commands : Commands S T E C) (count : ℕ) (executed : Option C) (pending : List (ℕ × C)) (held : E × ℕ) →
    is_named commands pending held ≡ true → is_named commands (with_command count executed pending) held ≡ true
named_more commands count None pending held is = is
named_more commands count (Some command) pending held is = or_yes (nat_le held.1 count && commands.names command held.0) (is_named commands pending held) is

named_left : {S T E C : Type 0} (commands : Commands S T E C) (count : ℕ) (executed : Option C) (pending : List (ℕ × C)) (held : E × ℕ) →
    (is_fence_by commands executed && is_named commands (with_command count executed pending) held) ≡ false → is_named commands (with_command count executed pending) held ≡ true →
    is_named commands (left_pending commands count executed pending) held ≡ true
named_left {S} {T} {E} {C} commands count executed pending held spared is =
    let Goal : Bool → Type 0 = λ b. (b && is_named commands (with_command count executed pending) held) ≡ false → is_named commands (if b then [] else with_command count executed pending) held ≡ true in
    let by_test : (b : Bool) → Goal b = λ b. elim b as Goal [
      | true ↦ λ spared. absurd (cc)
      | false ↦ λ spared. is
    ] in by_test (is_fence_by commands executed) spared

-- a source of what may be held at once, where nothing is pending
plain_source : {S T R K E L A C : Type 0} (sys : System S T R K E L A) (commands : Commands S T E C) (at : List T → S) (steps : List T) →
    ((held : E × ℕ) → MayHold (late sys commands) (late_at commands at) steps held → MayHold sys at steps held.0) → (source : List (K × (E × ℕ))) →
    EachUse (MayHold (late sys commands) (late_at commands at) steps) source → EachUse (MayHold sys at steps) (unnumbered source)
plain_source sys commands at steps may [] h = tt
plain_source sys commands at steps may (used ∷ source) h = (may used.1 h.0, plain_source sys commands at steps may source h.1)

unnamed_none : {S T E C : Type 0} (commands : Commands S T E C) (pending : List (ℕ × C)) (held : E × ℕ) → pending ≡ [] → is_named commands pending held ≡ true → ⊥
unnamed_none {C = C} commands pending held none is =
    let off : false ≡ true = subst (λ (pending : List (ℕ × C)). is_named commands pending held ≡ true) none is in absurd (cc)

-- a step that reads has nothing pending
none_pending : {S T R K E L A C : Type 0} (sys : System S T R K E L A) (commands : Commands S T E C) (at : List T → S) (last : T) (steps : List T) →
    ((target : Option R) (request : R) → aimed sys (at steps) last target ≡ Some request → pending_at commands at steps ≡ []) → (source : List (K × E)) (target : Option R) (entry : E) →
    IsAmong (reads_of sys (at steps) source (aimed sys (at steps) last target)) entry → pending_at commands at steps ≡ []
none_pending {S} {T} {R} {K} {E} sys commands at last steps prompt source target entry among =
    let Goal : Option R → Type 0 = λ o. aimed sys (at steps) last target ≡ o → IsAmong (reads_of sys (at steps) source o) entry → pending_at commands at steps ≡ [] in
    let by_request : (o : Option R) → Goal o = λ o. elim o as Goal [
      | None ↦ λ is h. absurd h
      | Some request ↦ λ is h. prompt target request is
    ] in by_request (aimed sys (at steps) last target) refl among

pub at_once_or_named : {S T R K E L A C : Type 0} (sys : System S T R K E L A) (commands : Commands S T E C) → DropsNamed sys commands → (at : List T → S) (steps : List T) → IsPrompt sys commands at steps →
    (held : E × ℕ) → MayHold (late sys commands) (late_at commands at) steps held → MayHold sys at steps held.0 ⊎ (is_named commands (pending_at commands at steps) held ≡ true)
at_once_or_named sys commands named at [] prompt held h = absurd h
at_once_or_named {S} {T} {R} {K} {E} {L} {A} {C} sys commands named at (last ∷ steps) prompt held h =
    let executed : Option C = commands.executed (at steps) last in
    let pending : List (ℕ × C) = pending_at commands at steps in
    let count : ℕ = length steps in
    let Had : Type 0 = MayHold sys at steps held.0 ⊎ IsRead sys (MayHold sys at steps) (at steps) last held.0 in
    let Goal : Type 0 = MayHold sys at (last ∷ steps) held.0 ⊎ (is_named commands (left_pending commands count executed pending) held ≡ true) in
    let still : is_named commands (with_command count executed pending) held ≡ true → Goal = λ is. inr (named_left commands count executed pending held h.0 is) in
    let passes : held.1 ≤ count → Had → Goal = λ below had.
    let ByDrop : Bool → Type 0 = λ b. sys.drops (at steps) last held.0 ≡ b → Goal in
    let by_drop : (b : Bool) → ByDrop b = λ b. elim b as ByDrop [
      | true ↦ λ is. still (named_own commands count executed pending held below (sym (named (at steps) last held.0) ∙ is))
      | false ↦ λ is. inl (is, had)
    ] in by_drop (sys.drops (at steps) last held.0) refl in
    elim h.1 [
      | inl old ↦ elim (at_once_or_named sys commands named at steps prompt.1 held old) [
        | inl may ↦ passes (less_le held.1 count (number_below sys commands at steps held old)) (inl may)
        | inr is ↦ still (named_more commands count executed pending held is)
      ]
      | inr read ↦
          let state : Late S C = late_at commands at steps in
          let p : PlainRead sys state read.source (aimed (late sys commands) state last read.target) held = plain_read sys commands state read.source (aimed (late sys commands) state last read.target) held read.among in
          let among : IsAmong (reads_of sys (at steps) (unnumbered read.source) (aimed sys (at steps) last read.target)) held.0 =
          subst (λ (request : Option R). IsAmong (reads_of sys (at steps) (unnumbered read.source) request) held.0) (sym (aimed_late sys commands state last read.target)) p.among in
          let none : pending ≡ [] = none_pending sys commands at last steps prompt.0 (unnumbered read.source) read.target held.0 among in
          let may : (other : E × ℕ) → MayHold (late sys commands) (late_at commands at) steps other → MayHold sys at steps other.0 = λ other old.
          elim (at_once_or_named sys commands named at steps prompt.1 other old) [
            | inl may ↦ may
            | inr is ↦ absurd (unnamed_none commands pending other none is)
          ] in
          passes (equal_le held.1 count p.number)
          (inr (record { target = read.target; source = unnumbered read.source; may = plain_source sys commands at steps may read.source read.may; among = among }))
    ]

pub held_at_once : {S T R K E L A C : Type 0} (sys : System S T R K E L A) (commands : Commands S T E C) → DropsNamed sys commands → (at : List T → S) (steps : List T) → IsPrompt sys commands at steps → pending_at commands at steps ≡ [] →
    (held : E × ℕ) → MayHold (late sys commands) (late_at commands at) steps held → MayHold sys at steps held.0
held_at_once sys commands named at steps prompt none held h = elim (at_once_or_named sys commands named at steps prompt held h) [
  | inl may ↦ may
  | inr is ↦ absurd (unnamed_none commands (pending_at commands at steps) held none is)
]

pub settled_late : {S T R K E L A C : Type 0} (sys : System S T R K E L A) (commands : Commands S T E C) → DropsNamed sys commands → (at : List T → S) (steps : List T) → IsPrompt sys commands at steps → pending_at commands at steps ≡ [] →
    (request : Option R) → IsSettled sys (MayHold sys at steps) (at steps) request → IsSettled (late sys commands) (MayHold (late sys commands) (late_at commands at) steps) (late_at commands at steps) request
settled_late sys commands named at steps prompt none request settled source may =
    sym (led_late sys commands (late_at commands at steps) source (unnumbered source) refl request)
    ∙ settled (unnumbered source) (plain_source sys commands at steps (held_at_once sys commands named at steps prompt none) source may)
    ∙ led_late sys commands (late_at commands at steps) [] [] refl request
