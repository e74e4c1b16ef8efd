-- What may be held late, without numbers: what is read or was held, and of that, behind a fence, what no command before it names.
use Rattle.std.proofs.Common.{◌≡◌, ◌∙◌, ◌⊎◌, ◌&&◌, ◌≤◌, ℕ, Bool, true, false, List, [], ◌∷◌, length, Option, if◌then◌else◌, refl, sym, ap, subst, inl, inr}
use Rattle.iom_choices.specs.Systems.{System, IsAmong, aimed, reads_of}
use Rattle.iom_choices.specs.Settled.{EachUse, IsRead, IsSettled, MayHold}
use Rattle.iom_choices.specs.Late.{Commands, DropsNamed, Late, MayHoldLate, MayOutlast, is_fence_by, is_named, late, late_at, left_pending, named_by, pending_at, unnumbered, with_command}
use Rattle.iom_choices.proofs.Late.{aimed_late, and_false, each_earlier, led_late, reads_late, unnamed_fresh, unnamed_left, unnamed_with}
use Rattle.iom_choices.proofs.Prompt.{PlainRead, equal_le, less_le, named_more, named_own, number_below, plain_read}

-- a source with a number for each entry
pub record NumberedSource {S T R K E L A C : Type 0} (sys : System S T R K E L A) (commands : Commands S T E C) (at : List T → S) (steps : List T) (source : List (K × E)) : Type 0 where
  pub numbered : List (K × (E × ℕ))
  pub same : unnumbered numbered ≡ source
  pub may : EachUse (MayHold (late sys commands) (late_at commands at) steps) numbered

pub numbered_source : {S T R K E L A C : Type 0} (sys : System S T R K E L A) (commands : Commands S T E C) (at : List T → S) (steps : List T) (source : List (K × E)) →
    EachUse (MayHoldLate sys commands at steps) source → NumberedSource sys commands at steps source
numbered_source sys commands at steps [] h = record { numbered = []; same = refl; may = tt }
numbered_source sys commands at steps (used ∷ source) h =
    let rest : NumberedSource sys commands at steps source = numbered_source sys commands at steps source h.1 in
    record { numbered = (used.0, (used.1, h.0.number)) ∷ rest.numbered; same = λ n. used ∷ rest.same n; may = (h.0.may, rest.may) }

-- and one without
plain_source : {S T R K E L A C : Type 0} (sys : System S T R K E L A) (commands : Commands S T E C) (at : List T → S) (steps : List T) (source : List (K × (E × ℕ))) →
    EachUse (MayHold (late sys commands) (late_at commands at) steps) source → EachUse (MayHoldLate sys commands at steps) (unnumbered source)
plain_source sys commands at steps [] h = tt
plain_source sys commands at steps (used ∷ source) h = (record { number = used.1.1; may = h.0 }, plain_source sys commands at steps source h.1)

-- what a late walk reads
abbrev Reads : {S T R K E L A C : Type 0} → System S T R K E L A → Commands S T E C → (List T → S) → T → List T → E → Type 0
Reads sys commands at last steps entry = IsRead sys (MayHoldLate sys commands at steps) (at steps) last entry

abbrev ReadsLate : {S T R K E L A C : Type 0} → System S T R K E L A → Commands S T E C → (List T → S) → T → List T → E × ℕ → Type 0
ReadsLate sys commands at last steps held = IsRead (late sys commands) (MayHold (late sys commands) (late_at commands at) steps) (late_at commands at steps) last held

read_late : {S T R K E L A C : Type 0} (sys : System S T R K E L A) (commands : Commands S T E C) (at : List T → S) (last : T) (steps : List T) (entry : E) →
    Reads sys commands at last steps entry → ReadsLate sys commands at last steps (entry, length steps)
read_late {R = R} sys commands at last steps entry read =
    let source : NumberedSource sys commands at steps read.source = numbered_source sys commands at steps read.source read.may in
    record {
      target = read.target;
      source = source.numbered;
      may = source.may;
      among = subst (λ (request : Option R). IsAmong (reads_of (late sys commands) (late_at commands at steps) source.numbered request) (entry, length steps))
          (aimed_late sys commands (late_at commands at steps) last read.target)
          (reads_late sys commands (late_at commands at steps) source.numbered read.source source.same (aimed sys (at steps) last read.target) entry read.among);
    }

record IsReadNow {S T R K E L A C : Type 0} (sys : System S T R K E L A) (commands : Commands S T E C) (at : List T → S) (last : T) (steps : List T) (held : E × ℕ) : Type 0 where
  pub read : Reads sys commands at last steps held.0
  pub number : held.1 ≡ length steps

read_plain : {S T R K E L A C : Type 0} (sys : System S T R K E L A) (commands : Commands S T E C) (at : List T → S) (last : T) (steps : List T) (held : E × ℕ) →
    ReadsLate sys commands at last steps held → IsReadNow sys commands at last steps held
read_plain {S} {T} {R} {K} {E} {L} {A} {C} sys commands at last steps held read =
    let state : Late S C = late_at commands at steps in
    let p : PlainRead sys state read.source (aimed (late sys commands) state last read.target) held =
    plain_read sys commands state read.source (aimed (late sys commands) state last read.target) held read.among in
    record {
      read = record {
        target = read.target;
        source = unnumbered read.source;
        may = plain_source sys commands at steps read.source read.may;
        among = subst (λ (request : Option R). IsAmong (reads_of sys (at steps) (unnumbered read.source) request) held.0) (sym (aimed_late sys commands state last read.target)) p.among;
      };
      number = p.number;
    }

-- a test that isn't passed, if its passing makes another pass that fails
not_passed : (a b : Bool) → (a ≡ true → b ≡ true) → b ≡ false → a ≡ false
not_passed true b more off = absurd (cc (more refl, off))
not_passed false b more off = refl

unnamed_before : {S T E C : Type 0} (commands : Commands S T E C) (count : ℕ) (executed : Option C) (pending : List (ℕ × C)) (held : E × ℕ) →
    (is_fence_by commands executed && is_named commands (with_command count executed pending) held) ≡ false →
    is_named commands (left_pending commands count executed pending) held ≡ false → is_named commands (with_command count executed pending) held ≡ false
unnamed_before {S} {T} {E} {C} commands count executed pending held kept spared =
    let Goal : Bool → Type 0 = λ b. (b && is_named commands (with_command count executed pending) held) ≡ false →
    is_named commands (if b then [] else with_command count executed pending) held ≡ false → is_named commands (with_command count executed pending) held ≡ false in
    let by_test : (b : Bool) → Goal b = λ b. elim b as Goal [
      | true ↦ λ kept spared. kept
      | false ↦ λ kept spared. spared
    ] in by_test (is_fence_by commands executed) kept spared

pub outlasted : {S T R K E L A C : Type 0} (sys : System S T R K E L A) (commands : Commands S T E C) (at : List T → S) (last : T) (steps : List T) (entry : E) →
    MayOutlast sys commands at (last ∷ steps) entry →
    (named_by commands (commands.executed (at steps) last) entry ≡ false) × (MayOutlast sys commands at steps entry ⊎ Reads sys commands at last steps entry)
outlasted {S} {T} {R} {K} {E} {L} {A} {C} sys commands at last steps entry h =
    let executed : Option C = commands.executed (at steps) last in
    let pending : List (ℕ × C) = pending_at commands at steps in
    let count : ℕ = length steps in
    let held : E × ℕ = (entry, h.number) in
    let off : is_named commands (with_command count executed pending) held ≡ false = unnamed_before commands count executed pending held h.may.0 h.spared in
    let unnamed : h.number ≤ count → named_by commands executed entry ≡ false = λ below.
    not_passed (named_by commands executed entry) (is_named commands (with_command count executed pending) held) (named_own commands count executed pending held below) off in
    elim h.may.1 [
      | inl old ↦ (
        unnamed (less_le h.number count (number_below sys commands at steps held old)),
        inl (record {
          number = h.number;
          may = old;
          spared = not_passed (is_named commands pending held) (is_named commands (with_command count executed pending) held) (named_more commands count executed pending held) off;
        }),
      )
      | inr read ↦
          let now : IsReadNow sys commands at last steps held = read_plain sys commands at last steps held read in
          (unnamed (equal_le h.number count now.number), inr now.read)
    ]

pub outlasts : {S T R K E L A C : Type 0} (sys : System S T R K E L A) (commands : Commands S T E C) (at : List T → S) (last : T) (steps : List T) (entry : E) →
    (named_by commands (commands.executed (at steps) last) entry ≡ false) × (MayOutlast sys commands at steps entry ⊎ Reads sys commands at last steps entry) →
    MayOutlast sys commands at (last ∷ steps) entry
outlasts {S} {T} {R} {K} {E} {L} {A} {C} sys commands at last steps entry h =
    let executed : Option C = commands.executed (at steps) last in
    let pending : List (ℕ × C) = pending_at commands at steps in
    let count : ℕ = length steps in
    let passes : (number : ℕ) → is_named commands pending (entry, number) ≡ false →
    (MayHold (late sys commands) (late_at commands at) steps (entry, number) ⊎ ReadsLate sys commands at last steps (entry, number)) → MayOutlast sys commands at (last ∷ steps) entry = λ number spared may.
    let off : is_named commands (with_command count executed pending) (entry, number) ≡ false = unnamed_with commands count executed pending (entry, number) h.0 spared in
    record {
      number = number;
      may = (and_false (is_fence_by commands executed) (is_named commands (with_command count executed pending) (entry, number)) off, may);
      spared = unnamed_left commands count executed pending (entry, number) off;
    } in
    elim h.1 [
      | inl old ↦ passes old.number old.spared (inl old.may)
      | inr read ↦ passes count (unnamed_fresh commands entry count pending (each_earlier commands at steps)) (inr (read_late sys commands at last steps entry read))
    ]

-- behind a fence what is held outlasts the next one
pub held_behind_fence : {S T R K E L A C : Type 0} (sys : System S T R K E L A) (commands : Commands S T E C) (at : List T → S) (last : T) (steps : List T) (entry : E) →
    is_fence_by commands (commands.executed (at steps) last) ≡ true → MayHoldLate sys commands at (last ∷ steps) entry → MayOutlast sys commands at (last ∷ steps) entry
held_behind_fence {S} {T} {R} {K} {E} {L} {A} {C} sys commands at last steps entry is h =
    let none : left_pending commands (length steps) (commands.executed (at steps) last) (pending_at commands at steps) ≡ [] = rw (is) refl in
    record { number = h.number; may = h.may; spared = ap (λ (pending : List (ℕ × C)). is_named commands pending (entry, h.number)) none }

pub outlasting_held : {S T R K E L A C : Type 0} (sys : System S T R K E L A) (commands : Commands S T E C) (at : List T → S) (steps : List T) (entry : E) →
    MayOutlast sys commands at steps entry → MayHoldLate sys commands at steps entry
outlasting_held sys commands at steps entry h = record { number = h.number; may = h.may }

-- and a step without one drops nothing
pub held_by : {S T R K E L A C : Type 0} (sys : System S T R K E L A) (commands : Commands S T E C) (at : List T → S) (last : T) (steps : List T) (entry : E) →
    MayHoldLate sys commands at (last ∷ steps) entry → MayHoldLate sys commands at steps entry ⊎ Reads sys commands at last steps entry
held_by sys commands at last steps entry h = elim h.may.1 [
  | inl old ↦ inl (record { number = h.number; may = old })
  | inr read ↦ inr (read_plain sys commands at last steps (entry, h.number) read).read
]

and_off : (a b : Bool) → a ≡ false → (a && b) ≡ false
and_off a b off = rw (off) refl

pub held_on : {S T R K E L A C : Type 0} (sys : System S T R K E L A) (commands : Commands S T E C) (at : List T → S) (last : T) (steps : List T) (entry : E) →
    is_fence_by commands (commands.executed (at steps) last) ≡ false →
    MayHoldLate sys commands at steps entry ⊎ Reads sys commands at last steps entry → MayHoldLate sys commands at (last ∷ steps) entry
held_on {S} {T} {R} {K} {E} {L} {A} {C} sys commands at last steps entry off h =
    let kept : (number : ℕ) → (late sys commands).drops (late_at commands at steps) last (entry, number) ≡ false = λ number.
    and_off (is_fence_by commands (commands.executed (at steps) last))
    (is_named commands (with_command (length steps) (commands.executed (at steps) last) (pending_at commands at steps)) (entry, number)) off in
    elim h [
      | inl old ↦ record { number = old.number; may = (kept old.number, inl old.may) }
      | inr read ↦ record { number = length steps; may = (kept (length steps), inr (read_late sys commands at last steps entry read)) }
    ]

-- what is settled, without numbers
pub settled_plain : {S T R K E L A C : Type 0} (sys : System S T R K E L A) (commands : Commands S T E C) (at : List T → S) (steps : List T) (request : Option R) →
    IsSettled (late sys commands) (MayHold (late sys commands) (late_at commands at) steps) (late_at commands at steps) request → IsSettled sys (MayHoldLate sys commands at steps) (at steps) request
settled_plain sys commands at steps request settled source each =
    let numbered : NumberedSource sys commands at steps source = numbered_source sys commands at steps source each in
    led_late sys commands (late_at commands at steps) numbered.numbered source numbered.same request
    ∙ settled numbered.numbered numbered.may
    ∙ sym (led_late sys commands (late_at commands at steps) [] [] refl request)

pub settled_numbered : {S T R K E L A C : Type 0} (sys : System S T R K E L A) (commands : Commands S T E C) (at : List T → S) (steps : List T) (request : Option R) →
    IsSettled sys (MayHoldLate sys commands at steps) (at steps) request → IsSettled (late sys commands) (MayHold (late sys commands) (late_at commands at) steps) (late_at commands at steps) request
settled_numbered sys commands at steps request settled source may =
    sym (led_late sys commands (late_at commands at steps) source (unnumbered source) refl request)
    ∙ settled (unnumbered source) (plain_source sys commands at steps source may)
    ∙ led_late sys commands (late_at commands at steps) [] [] refl request

-- what may be held at once outlasts each fence
each_late : {S T R K E L A C : Type 0} (sys : System S T R K E L A) (commands : Commands S T E C) (at : List T → S) (steps : List T) →
    ((entry : E) → MayHold sys at steps entry → MayOutlast sys commands at steps entry) → (source : List (K × E)) →
    EachUse (MayHold sys at steps) source → EachUse (MayHoldLate sys commands at steps) source
each_late sys commands at steps may [] h = tt
each_late sys commands at steps may (used ∷ source) h = (outlasting_held sys commands at steps used.1 (may used.1 h.0), each_late sys commands at steps may source h.1)

pub may_outlast : {S T R K E L A C : Type 0} (sys : System S T R K E L A) (commands : Commands S T E C) → DropsNamed sys commands → (at : List T → S) (steps : List T) (entry : E) →
    MayHold sys at steps entry → MayOutlast sys commands at steps entry
may_outlast sys commands named at [] entry h = absurd h
may_outlast sys commands named at (last ∷ steps) entry h =
    let before : MayOutlast sys commands at steps entry ⊎ Reads sys commands at last steps entry = elim h.1 [
      | inl old ↦ inl (may_outlast sys commands named at steps entry old)
      | inr read ↦ inr (record {
        target = read.target;
        source = read.source;
        may = each_late sys commands at steps (may_outlast sys commands named at steps) read.source read.may;
        among = read.among;
      })
    ] in outlasts sys commands at last steps entry (sym (named (at steps) last entry) ∙ h.0, before)

pub settled_at_once : {S T R K E L A C : Type 0} (sys : System S T R K E L A) (commands : Commands S T E C) → DropsNamed sys commands → (at : List T → S) (steps : List T) (request : Option R) →
    IsSettled (late sys commands) (MayHold (late sys commands) (late_at commands at) steps) (late_at commands at steps) request → IsSettled sys (MayHold sys at steps) (at steps) request
settled_at_once sys commands named at steps request settled source each =
    settled_plain sys commands at steps request settled source (each_late sys commands at steps (may_outlast sys commands named at steps) source each)
