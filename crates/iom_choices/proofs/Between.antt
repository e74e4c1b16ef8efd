-- What may be held late, with any number of pauses between two steps.
use Rattle.std.proofs.Common.{◌≡◌, ◌∙◌, ◌⊎◌, ℕ, zero, suc, Bool, true, false, List, [], ◌∷◌, Option, Some, None, refl, sym, ap, subst, inl, inr}
use Rattle.iom_choices.specs.Systems.{System, IsAmong, aimed, reads_of}
use Rattle.iom_choices.specs.Settled.{EachUse, IsRead, IsSettled, MayHold}
use Rattle.iom_choices.specs.Late.{Commands, MayHoldLate, MayOutlast, is_fence_by, late, late_at, named_by}
use Rattle.iom_choices.specs.Pauses.{AreHeldTogether, HaveStep, IsReadAhead, MayHoldPaused, MayOutlastPaused, paused, paused_at, paused_commands, pausing, taken, with_pauses}
use Rattle.iom_choices.proofs.Lists.{each_weaker}
use Rattle.iom_choices.proofs.Outlasting.{held_behind_fence, held_by, held_on, outlasted, outlasting_held, outlasts, settled_numbered}
use Rattle.iom_choices.proofs.Pauses.{led_paused, reads_paused}

fence_same : {S T E C : Type 0} (commands : Commands S T E C) (executed : Option C) → is_fence_by commands executed ≡ is_fence_by (paused_commands commands) executed
fence_same commands None = refl
fence_same commands (Some command) = refl

named_same : {S T E C : Type 0} (commands : Commands S T E C) (executed : Option C) (entry : E) → named_by commands executed entry ≡ named_by (paused_commands commands) executed entry
named_same commands None entry = refl
named_same commands (Some command) entry = refl

aimed_same : {S T R K E L A : Type 0} (sys : System S T R K E L A) (state : S) (last : T) (target : Option R) → aimed sys state last target ≡ aimed (paused sys) state (Some last) target
aimed_same sys state last None = refl
aimed_same sys state last (Some request) = refl

-- a step of the system that pauses reads what that of the system reads
read_same : {S T R K E L A : Type 0} (sys : System S T R K E L A) (state : S) (last : T) (source : List (K × E)) (target : Option R) →
    reads_of sys state source (aimed sys state last target) ≡ reads_of (paused sys) state source (aimed (paused sys) state (Some last) target)
read_same {R = R} sys state last source target =
    ap (λ (request : Option R). reads_of sys state source request) (aimed_same sys state last target) ∙ reads_paused sys state source (aimed (paused sys) state (Some last) target)

read_paused : {S T R K E L A : Type 0} (sys : System S T R K E L A) (May : E → Type 0) (state : S) (last : T) (entry : E) → IsRead sys May state last entry → IsRead (paused sys) May state (Some last) entry
read_paused {E = E} sys May state last entry read = record {
  target = read.target;
  source = read.source;
  may = read.may;
  among = subst (λ (reads : List E). IsAmong reads entry) (read_same sys state last read.source read.target) read.among;
}

read_plain : {S T R K E L A : Type 0} (sys : System S T R K E L A) (May : E → Type 0) (state : S) (last : T) (entry : E) → IsRead (paused sys) May state (Some last) entry → IsRead sys May state last entry
read_plain {E = E} sys May state last entry read = record {
  target = read.target;
  source = read.source;
  may = read.may;
  among = subst (λ (reads : List E). IsAmong reads entry) (sym (read_same sys state last read.source read.target)) read.among;
}

-- over more entries no less is read
read_more : {S T R K E L A : Type 0} (sys : System S T R K E L A) (May Other : E → Type 0) → ((entry : E) → May entry → Other entry) → (state : S) (last : T) (entry : E) →
    IsRead sys May state last entry → IsRead sys Other state last entry
read_more {K = K} {E = E} sys May Other more state last entry read = record {
  target = read.target;
  source = read.source;
  may = each_weaker (λ (used : K × E). May used.1) (λ (used : K × E). Other used.1) read.source (λ used may. more used.1 may) read.may;
  among = read.among;
}

abbrev Hold : {S T R K E L A C : Type 0} → System S T R K E L A → Commands S T E C → (List T → S) → List (Option T) → E → Type 0
Hold sys commands at steps entry = MayHoldLate (paused sys) (paused_commands commands) (paused_at at) steps entry

abbrev Out : {S T R K E L A C : Type 0} → System S T R K E L A → Commands S T E C → (List T → S) → List (Option T) → E → Type 0
Out sys commands at steps entry = MayOutlast (paused sys) (paused_commands commands) (paused_at at) steps entry

-- the rules of a step and of a pause, where the steps without pauses are named
abbrev Fenced : {S T R K E L A C : Type 0} → System S T R K E L A → Commands S T E C → (List T → S) → T → List (Option T) → List T → E → Type 0
Fenced sys commands at last paused_steps steps entry =
    is_fence_by commands (commands.executed (at steps) last) ≡ true → Hold sys commands at (Some last ∷ paused_steps) entry → Out sys commands at (Some last ∷ paused_steps) entry

fenced : {S T R K E L A C : Type 0} (sys : System S T R K E L A) (commands : Commands S T E C) (at : List T → S) (last : T) (paused_steps : List (Option T)) (steps : List T) → taken paused_steps ≡ steps → (entry : E) →
    Fenced sys commands at last paused_steps steps entry
fenced {T = T} sys commands at last paused_steps steps same entry =
    subst (λ (steps : List T). Fenced sys commands at last paused_steps steps entry) same
    (λ is held. held_behind_fence (paused sys) (paused_commands commands) (paused_at at) (Some last) paused_steps entry
    (sym (fence_same commands (commands.executed (at (taken paused_steps)) last)) ∙ is) held)

abbrev Reads : {S T R K E L A C : Type 0} → System S T R K E L A → Commands S T E C → (List T → S) → T → List (Option T) → List T → E → Type 0
Reads sys commands at last paused_steps steps entry = IsRead sys (Hold sys commands at paused_steps) (at steps) last entry

abbrev HeldOn : {S T R K E L A C : Type 0} → System S T R K E L A → Commands S T E C → (List T → S) → T → List (Option T) → List T → E → Type 0
HeldOn sys commands at last paused_steps steps entry =
    is_fence_by commands (commands.executed (at steps) last) ≡ false → Hold sys commands at paused_steps entry ⊎ Reads sys commands at last paused_steps steps entry →
    Hold sys commands at (Some last ∷ paused_steps) entry

step_on : {S T R K E L A C : Type 0} (sys : System S T R K E L A) (commands : Commands S T E C) (at : List T → S) (last : T) (paused_steps : List (Option T)) (steps : List T) → taken paused_steps ≡ steps → (entry : E) →
    HeldOn sys commands at last paused_steps steps entry
step_on {T = T} sys commands at last paused_steps steps same entry =
    subst (λ (steps : List T). HeldOn sys commands at last paused_steps steps entry) same
    (λ off had. held_on (paused sys) (paused_commands commands) (paused_at at) (Some last) paused_steps entry
    (sym (fence_same commands (commands.executed (at (taken paused_steps)) last)) ∙ off)
    (elim had [
      | inl old ↦ inl old
      | inr read ↦ inr (read_paused sys (Hold sys commands at paused_steps) (at (taken paused_steps)) last entry read)
    ]))

abbrev HeldBy : {S T R K E L A C : Type 0} → System S T R K E L A → Commands S T E C → (List T → S) → T → List (Option T) → List T → E → Type 0
HeldBy sys commands at last paused_steps steps entry =
    Hold sys commands at (Some last ∷ paused_steps) entry → Hold sys commands at paused_steps entry ⊎ Reads sys commands at last paused_steps steps entry

step_by : {S T R K E L A C : Type 0} (sys : System S T R K E L A) (commands : Commands S T E C) (at : List T → S) (last : T) (paused_steps : List (Option T)) (steps : List T) → taken paused_steps ≡ steps → (entry : E) →
    HeldBy sys commands at last paused_steps steps entry
step_by {T = T} sys commands at last paused_steps steps same entry =
    subst (λ (steps : List T). HeldBy sys commands at last paused_steps steps entry) same
    (λ held. elim (held_by (paused sys) (paused_commands commands) (paused_at at) (Some last) paused_steps entry held) [
      | inl old ↦ inl old
      | inr read ↦ inr (read_plain sys (Hold sys commands at paused_steps) (at (taken paused_steps)) last entry read)
    ])

abbrev OutOn : {S T R K E L A C : Type 0} → System S T R K E L A → Commands S T E C → (List T → S) → T → List (Option T) → List T → E → Type 0
OutOn sys commands at last paused_steps steps entry =
    named_by commands (commands.executed (at steps) last) entry ≡ false → Out sys commands at paused_steps entry ⊎ Reads sys commands at last paused_steps steps entry →
    Out sys commands at (Some last ∷ paused_steps) entry

out_on : {S T R K E L A C : Type 0} (sys : System S T R K E L A) (commands : Commands S T E C) (at : List T → S) (last : T) (paused_steps : List (Option T)) (steps : List T) → taken paused_steps ≡ steps → (entry : E) →
    OutOn sys commands at last paused_steps steps entry
out_on {T = T} sys commands at last paused_steps steps same entry =
    subst (λ (steps : List T). OutOn sys commands at last paused_steps steps entry) same
    (λ off had. outlasts (paused sys) (paused_commands commands) (paused_at at) (Some last) paused_steps entry (
      sym (named_same commands (commands.executed (at (taken paused_steps)) last) entry) ∙ off,
      elim had [
        | inl old ↦ inl old
        | inr read ↦ inr (read_paused sys (Hold sys commands at paused_steps) (at (taken paused_steps)) last entry read)
      ],
    ))

abbrev OutBy : {S T R K E L A C : Type 0} → System S T R K E L A → Commands S T E C → (List T → S) → T → List (Option T) → List T → E → Type 0
OutBy sys commands at last paused_steps steps entry =
    Out sys commands at (Some last ∷ paused_steps) entry →
    (named_by commands (commands.executed (at steps) last) entry ≡ false) × (Out sys commands at paused_steps entry ⊎ Reads sys commands at last paused_steps steps entry)

out_by : {S T R K E L A C : Type 0} (sys : System S T R K E L A) (commands : Commands S T E C) (at : List T → S) (last : T) (paused_steps : List (Option T)) (steps : List T) → taken paused_steps ≡ steps → (entry : E) →
    OutBy sys commands at last paused_steps steps entry
out_by {T = T} sys commands at last paused_steps steps same entry =
    subst (λ (steps : List T). OutBy sys commands at last paused_steps steps entry) same
    (λ out. let o = outlasted (paused sys) (paused_commands commands) (paused_at at) (Some last) paused_steps entry out in (
      named_same commands (commands.executed (at (taken paused_steps)) last) entry ∙ o.0,
      elim o.1 [
        | inl old ↦ inl old
        | inr read ↦ inr (read_plain sys (Hold sys commands at paused_steps) (at (taken paused_steps)) last entry read)
      ],
    ))

abbrev Ahead : {S T R K E L A C : Type 0} → System S T R K E L A → Commands S T E C → (List T → S) → List (Option T) → List T → E → Type 0
Ahead sys commands at paused_steps steps entry = IsReadAhead sys (Hold sys commands at paused_steps) (at steps) entry

pause_on : {S T R K E L A C : Type 0} (sys : System S T R K E L A) (commands : Commands S T E C) (at : List T → S) (paused_steps : List (Option T)) (steps : List T) → taken paused_steps ≡ steps → (entry : E) →
    Hold sys commands at paused_steps entry ⊎ Ahead sys commands at paused_steps steps entry → Hold sys commands at (None ∷ paused_steps) entry
pause_on {T = T} sys commands at paused_steps steps same entry =
    subst (λ (steps : List T). Hold sys commands at paused_steps entry ⊎ Ahead sys commands at paused_steps steps entry → Hold sys commands at (None ∷ paused_steps) entry) same
    (λ had. held_on (paused sys) (paused_commands commands) (paused_at at) None paused_steps entry refl had)

pause_by : {S T R K E L A C : Type 0} (sys : System S T R K E L A) (commands : Commands S T E C) (at : List T → S) (paused_steps : List (Option T)) (steps : List T) → taken paused_steps ≡ steps → (entry : E) →
    Hold sys commands at (None ∷ paused_steps) entry → Hold sys commands at paused_steps entry ⊎ Ahead sys commands at paused_steps steps entry
pause_by {T = T} sys commands at paused_steps steps same entry =
    subst (λ (steps : List T). Hold sys commands at (None ∷ paused_steps) entry → Hold sys commands at paused_steps entry ⊎ Ahead sys commands at paused_steps steps entry) same
    (λ held. held_by (paused sys) (paused_commands commands) (paused_at at) None paused_steps entry held)

out_pause_on : {S T R K E L A C : Type 0} (sys : System S T R K E L A) (commands : Commands S T E C) (at : List T → S) (paused_steps : List (Option T)) (steps : List T) → taken paused_steps ≡ steps → (entry : E) →
    Out sys commands at paused_steps entry ⊎ Ahead sys commands at paused_steps steps entry → Out sys commands at (None ∷ paused_steps) entry
out_pause_on {T = T} sys commands at paused_steps steps same entry =
    subst (λ (steps : List T). Out sys commands at paused_steps entry ⊎ Ahead sys commands at paused_steps steps entry → Out sys commands at (None ∷ paused_steps) entry) same
    (λ had. outlasts (paused sys) (paused_commands commands) (paused_at at) None paused_steps entry (refl, had))

out_pause_by : {S T R K E L A C : Type 0} (sys : System S T R K E L A) (commands : Commands S T E C) (at : List T → S) (paused_steps : List (Option T)) (steps : List T) → taken paused_steps ≡ steps → (entry : E) →
    Out sys commands at (None ∷ paused_steps) entry → Out sys commands at paused_steps entry ⊎ Ahead sys commands at paused_steps steps entry
out_pause_by {T = T} sys commands at paused_steps steps same entry =
    subst (λ (steps : List T). Out sys commands at (None ∷ paused_steps) entry → Out sys commands at paused_steps entry ⊎ Ahead sys commands at paused_steps steps entry) same
    (λ out. (outlasted (paused sys) (paused_commands commands) (paused_at at) None paused_steps entry out).1)

-- After the same steps, with other pauses, no less is held, and no less outlasts the next fence.
record HoldsMore {S T R K E L A C : Type 0} (sys : System S T R K E L A) (commands : Commands S T E C) (at : List T → S) (few many : List (Option T)) (steps : List T) : Type 0 where
  pub few_same : taken few ≡ steps
  pub many_same : taken many ≡ steps
  pub held : (entry : E) → Hold sys commands at few entry → Hold sys commands at many entry
  pub out : (entry : E) → Out sys commands at few entry → Out sys commands at many entry

more_itself : {S T R K E L A C : Type 0} (sys : System S T R K E L A) (commands : Commands S T E C) (at : List T → S) (few : List (Option T)) (steps : List T) → taken few ≡ steps → HoldsMore sys commands at few few steps
more_itself sys commands at few steps same = record { few_same = same; many_same = same; held = λ entry h. h; out = λ entry o. o }

more_then : {S T R K E L A C : Type 0} (sys : System S T R K E L A) (commands : Commands S T E C) (at : List T → S) (few some many : List (Option T)) (steps : List T) →
    HoldsMore sys commands at few some steps → HoldsMore sys commands at some many steps → HoldsMore sys commands at few many steps
more_then sys commands at few some many steps first second = record {
  few_same = first.few_same;
  many_same = second.many_same;
  held = λ entry h. second.held entry (first.held entry h);
  out = λ entry o. second.out entry (first.out entry o);
}

-- a pause more holds no less
more_paused : {S T R K E L A C : Type 0} (sys : System S T R K E L A) (commands : Commands S T E C) (at : List T → S) (few : List (Option T)) (steps : List T) → taken few ≡ steps → HoldsMore sys commands at few (None ∷ few) steps
more_paused sys commands at few steps same = record {
  few_same = same;
  many_same = same;
  held = λ entry h. pause_on sys commands at few steps same entry (inl h);
  out = λ entry o. out_pause_on sys commands at few steps same entry (inl o);
}

-- behind a pause, or a step, too
more_pause : {S T R K E L A C : Type 0} (sys : System S T R K E L A) (commands : Commands S T E C) (at : List T → S) (few many : List (Option T)) (steps : List T) →
    HoldsMore sys commands at few many steps → HoldsMore sys commands at (None ∷ few) (None ∷ many) steps
more_pause {T = T} sys commands at few many steps more = record {
  few_same = more.few_same;
  many_same = more.many_same;
  held = λ entry h. pause_on sys commands at many steps more.many_same entry (elim (pause_by sys commands at few steps more.few_same entry h) [
    | inl old ↦ inl (more.held entry old)
    | inr read ↦ inr (read_more (paused sys) (Hold sys commands at few) (Hold sys commands at many) more.held (at steps) None entry read)
  ]);
  out = λ entry o. out_pause_on sys commands at many steps more.many_same entry (elim (out_pause_by sys commands at few steps more.few_same entry o) [
    | inl old ↦ inl (more.out entry old)
    | inr read ↦ inr (read_more (paused sys) (Hold sys commands at few) (Hold sys commands at many) more.held (at steps) None entry read)
  ]);
}

out_step : {S T R K E L A C : Type 0} (sys : System S T R K E L A) (commands : Commands S T E C) (at : List T → S) (few many : List (Option T)) (last : T) (steps : List T) →
    HoldsMore sys commands at few many steps → (entry : E) → Out sys commands at (Some last ∷ few) entry → Out sys commands at (Some last ∷ many) entry
out_step sys commands at few many last steps more entry o =
    let b = out_by sys commands at last few steps more.few_same entry o in
    out_on sys commands at last many steps more.many_same entry b.0 (elim b.1 [
      | inl old ↦ inl (more.out entry old)
      | inr read ↦ inr (read_more sys (Hold sys commands at few) (Hold sys commands at many) more.held (at steps) last entry read)
    ])

held_step : {S T R K E L A C : Type 0} (sys : System S T R K E L A) (commands : Commands S T E C) (at : List T → S) (few many : List (Option T)) (last : T) (steps : List T) →
    HoldsMore sys commands at few many steps → (entry : E) → Hold sys commands at (Some last ∷ few) entry → Hold sys commands at (Some last ∷ many) entry
held_step sys commands at few many last steps more entry h =
    let is_fence : Bool = is_fence_by commands (commands.executed (at steps) last) in
    let Goal : Bool → Type 0 = λ b. is_fence ≡ b → Hold sys commands at (Some last ∷ many) entry in
    let by_test : (b : Bool) → Goal b = λ b. elim b as Goal [
      | true ↦ λ is. outlasting_held (paused sys) (paused_commands commands) (paused_at at) (Some last ∷ many) entry
          (out_step sys commands at few many last steps more entry (fenced sys commands at last few steps more.few_same entry is h))
      | false ↦ λ off. step_on sys commands at last many steps more.many_same entry off (elim (step_by sys commands at last few steps more.few_same entry h) [
        | inl old ↦ inl (more.held entry old)
        | inr read ↦ inr (read_more sys (Hold sys commands at few) (Hold sys commands at many) more.held (at steps) last entry read)
      ])
    ] in by_test is_fence refl

more_step : {S T R K E L A C : Type 0} (sys : System S T R K E L A) (commands : Commands S T E C) (at : List T → S) (few many : List (Option T)) (last : T) (steps : List T) →
    HoldsMore sys commands at few many steps → HoldsMore sys commands at (Some last ∷ few) (Some last ∷ many) (last ∷ steps)
more_step sys commands at few many last steps more = record {
  few_same = λ n. last ∷ more.few_same n;
  many_same = λ n. last ∷ more.many_same n;
  held = λ entry h. held_step sys commands at few many last steps more entry h;
  out = λ entry o. out_step sys commands at few many last steps more entry o;
}

more_pausing : {S T R K E L A C : Type 0} (sys : System S T R K E L A) (commands : Commands S T E C) (at : List T → S) (count : ℕ) (few many : List (Option T)) (steps : List T) →
    HoldsMore sys commands at few many steps → HoldsMore sys commands at (pausing count few) (pausing count many) steps
more_pausing sys commands at zero few many steps more = more
more_pausing sys commands at (suc count) few many steps more =
    more_pause sys commands at (pausing count few) (pausing count many) steps (more_pausing sys commands at count few many steps more)

pausing_more : {S T R K E L A C : Type 0} (sys : System S T R K E L A) (commands : Commands S T E C) (at : List T → S) (count : ℕ) (few : List (Option T)) (steps : List T) → taken few ≡ steps →
    HoldsMore sys commands at few (pausing count few) steps
pausing_more sys commands at zero few steps same = more_itself sys commands at few steps same
pausing_more sys commands at (suc count) few steps same =
    let before : HoldsMore sys commands at few (pausing count few) steps = pausing_more sys commands at count few steps same in
    more_then sys commands at few (pausing count few) (None ∷ pausing count few) steps before (more_paused sys commands at (pausing count few) steps before.many_same)

taken_pausing : {T : Type 0} (count : ℕ) (steps : List (Option T)) → taken (pausing count steps) ≡ taken steps
taken_pausing zero steps = refl
taken_pausing (suc count) steps = taken_pausing count steps

pub taken_with : {T : Type 0} (count : ℕ) (steps : List T) → taken (with_pauses count steps) ≡ steps
taken_with count [] = taken_pausing count []
taken_with count (last ∷ steps) = taken_pausing count (Some last ∷ with_pauses count steps) ∙ (λ n. last ∷ taken_with count steps n)

-- one pause more everywhere
grown : {S T R K E L A C : Type 0} (sys : System S T R K E L A) (commands : Commands S T E C) (at : List T → S) (count : ℕ) (steps : List T) →
    HoldsMore sys commands at (with_pauses count steps) (with_pauses (suc count) steps) steps
grown sys commands at count [] = more_paused sys commands at (pausing count []) [] (taken_with count [])
grown sys commands at count (last ∷ steps) =
    let inner : HoldsMore sys commands at (pausing count (Some last ∷ with_pauses count steps)) (pausing count (Some last ∷ with_pauses (suc count) steps)) (last ∷ steps) =
    more_pausing sys commands at count (Some last ∷ with_pauses count steps) (Some last ∷ with_pauses (suc count) steps) (last ∷ steps)
    (more_step sys commands at (with_pauses count steps) (with_pauses (suc count) steps) last steps (grown sys commands at count steps)) in
    more_then sys commands at (pausing count (Some last ∷ with_pauses count steps)) (pausing count (Some last ∷ with_pauses (suc count) steps))
    (None ∷ pausing count (Some last ∷ with_pauses (suc count) steps)) (last ∷ steps) inner
    (more_paused sys commands at (pausing count (Some last ∷ with_pauses (suc count) steps)) (last ∷ steps) inner.many_same)

abbrev raised : ℕ → ℕ → ℕ
raised zero count = count
raised (suc more) count = suc (raised more count)

raised_suc : (more count : ℕ) → raised more (suc count) ≡ suc (raised more count)
raised_suc zero count = refl
raised_suc (suc more) count = ap suc (raised_suc more count)

raised_zero : (more : ℕ) → raised more zero ≡ more
raised_zero zero = refl
raised_zero (suc more) = ap suc (raised_zero more)

raised_same : (more count : ℕ) → raised more count ≡ raised count more
raised_same zero count = sym (raised_zero count)
raised_same (suc more) count = ap suc (raised_same more count) ∙ sym (raised_suc count more)

grown_by : {S T R K E L A C : Type 0} (sys : System S T R K E L A) (commands : Commands S T E C) (at : List T → S) (more count : ℕ) (steps : List T) →
    HoldsMore sys commands at (with_pauses count steps) (with_pauses (raised more count) steps) steps
grown_by sys commands at zero count steps = more_itself sys commands at (with_pauses count steps) steps (taken_with count steps)
grown_by sys commands at (suc more) count steps =
    more_then sys commands at (with_pauses count steps) (with_pauses (raised more count) steps) (with_pauses (suc (raised more count)) steps) steps
    (grown_by sys commands at more count steps) (grown sys commands at (raised more count) steps)

-- the entries of a source may be held together
record Together {S T R K E L A C : Type 0} (sys : System S T R K E L A) (commands : Commands S T E C) (at : List T → S) (steps : List T) (source : List (K × E)) : Type 0 where
  pub count : ℕ
  pub may : EachUse (Hold sys commands at (with_pauses count steps)) source

together : {S T R K E L A C : Type 0} (sys : System S T R K E L A) (commands : Commands S T E C) (at : List T → S) (steps : List T) (source : List (K × E)) →
    EachUse (MayHoldPaused sys commands at steps) source → Together sys commands at steps source
together sys commands at steps [] each = record { count = zero; may = tt }
together {K = K} {E = E} sys commands at steps (used ∷ source) each =
    let rest : Together sys commands at steps source = together sys commands at steps source each.1 in
    let own : ℕ = each.0.count in
    let first : HoldsMore sys commands at (with_pauses own steps) (with_pauses (raised rest.count own) steps) steps = grown_by sys commands at rest.count own steps in
    let others : HoldsMore sys commands at (with_pauses rest.count steps) (with_pauses (raised own rest.count) steps) steps = grown_by sys commands at own rest.count steps in
    record {
      count = raised own rest.count;
      may = (
        subst (λ (count : ℕ). Hold sys commands at (with_pauses count steps) used.1) (raised_same rest.count own) (first.held used.1 each.0.may),
        each_weaker (λ (used : K × E). Hold sys commands at (with_pauses rest.count steps) used.1) (λ (used : K × E). Hold sys commands at (with_pauses (raised own rest.count) steps) used.1) source
            (λ used may. others.held used.1 may) rest.may,
      );
    }

pub held_together : {S T R K E L A C : Type 0} (sys : System S T R K E L A) (commands : Commands S T E C) (at : List T → S) (steps : List T) (source : List (K × E)) →
    EachUse (MayHoldPaused sys commands at steps) source → AreHeldTogether sys commands at steps source
held_together sys commands at steps source each =
    let t : Together sys commands at steps source = together sys commands at steps source each in
    record { paused_steps = with_pauses t.count steps; same = taken_with t.count steps; may = t.may }

-- a walk over such entries is one over entries that may be held together
record ReadTogether {S T R K E L A C : Type 0} (sys : System S T R K E L A) (commands : Commands S T E C) (at : List T → S) (steps : List T) {Step : Type 0} (other : System S Step R K E L A) (state : S) (step : Step) (entry : E) : Type 0 where
  pub count : ℕ
  pub read : IsRead other (Hold sys commands at (with_pauses count steps)) state step entry

read_together : {S T R K E L A C : Type 0} (sys : System S T R K E L A) (commands : Commands S T E C) (at : List T → S) (steps : List T) (state : S) (step : T) (entry : E) →
    IsRead sys (MayHoldPaused sys commands at steps) state step entry → ReadTogether sys commands at steps sys state step entry
read_together sys commands at steps state step entry read =
    let t : Together sys commands at steps read.source = together sys commands at steps read.source read.may in
    record { count = t.count; read = record { target = read.target; source = read.source; may = t.may; among = read.among } }

record AheadTogether {S T R K E L A C : Type 0} (sys : System S T R K E L A) (commands : Commands S T E C) (at : List T → S) (steps : List T) (state : S) (entry : E) : Type 0 where
  pub count : ℕ
  pub read : IsReadAhead sys (Hold sys commands at (with_pauses count steps)) state entry

ahead_together : {S T R K E L A C : Type 0} (sys : System S T R K E L A) (commands : Commands S T E C) (at : List T → S) (steps : List T) (state : S) (entry : E) →
    IsReadAhead sys (MayHoldPaused sys commands at steps) state entry → AheadTogether sys commands at steps state entry
ahead_together sys commands at steps state entry read =
    let t : Together sys commands at steps read.source = together sys commands at steps read.source read.may in
    record { count = t.count; read = record { target = read.target; source = read.source; may = t.may; among = read.among } }

-- with some number of pauses behind a step too
behind : {S T R K E L A C : Type 0} (sys : System S T R K E L A) (commands : Commands S T E C) (at : List T → S) (count : ℕ) (last : T) (steps : List T) →
    HoldsMore sys commands at (Some last ∷ with_pauses count steps) (with_pauses count (last ∷ steps)) (last ∷ steps)
behind sys commands at count last steps =
    pausing_more sys commands at count (Some last ∷ with_pauses count steps) (last ∷ steps) (λ n. last ∷ taken_with count steps n)

pub step_held : {S T R K E L A C : Type 0} (sys : System S T R K E L A) (commands : Commands S T E C) (at : List T → S) (last : T) (steps : List T) (entry : E) →
    is_fence_by commands (commands.executed (at steps) last) ≡ false → MayHoldPaused sys commands at steps entry ⊎ IsRead sys (MayHoldPaused sys commands at steps) (at steps) last entry →
    MayHoldPaused sys commands at (last ∷ steps) entry
step_held sys commands at last steps entry off had = elim had [
  | inl old ↦ record {
    count = old.count;
    may = (behind sys commands at old.count last steps).held entry (step_on sys commands at last (with_pauses old.count steps) steps (taken_with old.count steps) entry off (inl old.may));
  }
  | inr read ↦
      let r : ReadTogether sys commands at steps sys (at steps) last entry = read_together sys commands at steps (at steps) last entry read in
      record {
        count = r.count;
        may = (behind sys commands at r.count last steps).held entry (step_on sys commands at last (with_pauses r.count steps) steps (taken_with r.count steps) entry off (inr r.read));
      }
]

pub step_outlasts : {S T R K E L A C : Type 0} (sys : System S T R K E L A) (commands : Commands S T E C) (at : List T → S) (last : T) (steps : List T) (entry : E) →
    named_by commands (commands.executed (at steps) last) entry ≡ false → MayOutlastPaused sys commands at steps entry ⊎ IsRead sys (MayHoldPaused sys commands at steps) (at steps) last entry →
    MayOutlastPaused sys commands at (last ∷ steps) entry
step_outlasts sys commands at last steps entry off had = elim had [
  | inl old ↦ record {
    count = old.count;
    may = (behind sys commands at old.count last steps).out entry (out_on sys commands at last (with_pauses old.count steps) steps (taken_with old.count steps) entry off (inl old.may));
  }
  | inr read ↦
      let r : ReadTogether sys commands at steps sys (at steps) last entry = read_together sys commands at steps (at steps) last entry read in
      record {
        count = r.count;
        may = (behind sys commands at r.count last steps).out entry (out_on sys commands at last (with_pauses r.count steps) steps (taken_with r.count steps) entry off (inr r.read));
      }
]

-- one more pause at the end is one of more pauses everywhere
pause_grown : {S T R K E L A C : Type 0} (sys : System S T R K E L A) (commands : Commands S T E C) (at : List T → S) (count : ℕ) (steps : List T) →
    HoldsMore sys commands at (None ∷ with_pauses count steps) (with_pauses (suc count) steps) steps
pause_grown sys commands at count [] = more_itself sys commands at (None ∷ pausing count []) [] (taken_with count [])
pause_grown sys commands at count (last ∷ steps) =
    more_pause sys commands at (pausing count (Some last ∷ with_pauses count steps)) (pausing count (Some last ∷ with_pauses (suc count) steps)) (last ∷ steps)
    (more_pausing sys commands at count (Some last ∷ with_pauses count steps) (Some last ∷ with_pauses (suc count) steps) (last ∷ steps)
    (more_step sys commands at (with_pauses count steps) (with_pauses (suc count) steps) last steps (grown sys commands at count steps)))

pub ahead_outlasts : {S T R K E L A C : Type 0} (sys : System S T R K E L A) (commands : Commands S T E C) (at : List T → S) (steps : List T) (entry : E) →
    IsReadAhead sys (MayHoldPaused sys commands at steps) (at steps) entry → MayOutlastPaused sys commands at steps entry
ahead_outlasts sys commands at steps entry read =
    let r : AheadTogether sys commands at steps (at steps) entry = ahead_together sys commands at steps (at steps) entry read in
    record {
      count = suc r.count;
      may = (pause_grown sys commands at r.count steps).out entry (out_pause_on sys commands at (with_pauses r.count steps) steps (taken_with r.count steps) entry (inr r.read));
    }

pub held_outlasting : {S T R K E L A C : Type 0} (sys : System S T R K E L A) (commands : Commands S T E C) (at : List T → S) (steps : List T) (entry : E) →
    MayOutlastPaused sys commands at steps entry → MayHoldPaused sys commands at steps entry
held_outlasting sys commands at steps entry o =
    record { count = o.count; may = outlasting_held (paused sys) (paused_commands commands) (paused_at at) (with_pauses o.count steps) entry o.may }

-- no more than closed lists have
pub none_more : {S T R K E L A C : Type 0} (sys : System S T R K E L A) (commands : Commands S T E C) (at : List T → S) (held : List E) →
    ((entry : E) → IsReadAhead sys (IsAmong held) (at []) entry → IsAmong held entry) → (count : ℕ) (entry : E) → Hold sys commands at (pausing count []) entry → IsAmong held entry
none_more sys commands at held closed zero entry h = absurd h.may
none_more sys commands at held closed (suc count) entry h = elim (pause_by sys commands at (pausing count []) [] (taken_with count []) entry h) [
  | inl old ↦ none_more sys commands at held closed count entry old
  | inr read ↦ closed entry (read_more (paused sys) (Hold sys commands at (pausing count [])) (IsAmong held) (none_more sys commands at held closed count) (at []) None entry read)
]

-- What a number of pauses behind a step leaves satisfies Held and Outlasting.
pub record Within {S T R K E L A C : Type 0} (sys : System S T R K E L A) (commands : Commands S T E C) (at : List T → S) (steps : List (Option T)) (Held Outlasting : E → Type 0) : Type 0 where
  pub held : (entry : E) → Hold sys commands at steps entry → Held entry
  pub out : (entry : E) → Out sys commands at steps entry → Outlasting entry

within_step : {S T R K E L A C : Type 0} (sys : System S T R K E L A) (commands : Commands S T E C) (at : List T → S) (count : ℕ) (last : T) (steps : List T) (Held Outlasting : E → Type 0) →
    ((entry : E) → is_fence_by commands (commands.executed (at steps) last) ≡ false →
    MayHoldPaused sys commands at steps entry ⊎ IsRead sys (MayHoldPaused sys commands at steps) (at steps) last entry → Held entry) →
    ((entry : E) → named_by commands (commands.executed (at steps) last) entry ≡ false →
    MayOutlastPaused sys commands at steps entry ⊎ IsRead sys (MayHoldPaused sys commands at steps) (at steps) last entry → Outlasting entry) →
    ((entry : E) → Outlasting entry → Held entry) → Within sys commands at (Some last ∷ with_pauses count steps) Held Outlasting
within_step {S} {T} {R} {K} {E} {L} {A} {C} sys commands at count last steps Held Outlasting holds outlasts among =
    let few : List (Option T) = with_pauses count steps in
    let may : (entry : E) → Hold sys commands at few entry → MayHoldPaused sys commands at steps entry = λ entry h. record { count = count; may = h } in
    let out : (entry : E) → Out sys commands at (Some last ∷ few) entry → Outlasting entry = λ entry o.
    let b = out_by sys commands at last few steps (taken_with count steps) entry o in
    outlasts entry b.0 (elim b.1 [
      | inl old ↦ inl (record { count = count; may = old })
      | inr read ↦ inr (read_more sys (Hold sys commands at few) (MayHoldPaused sys commands at steps) may (at steps) last entry read)
    ]) in
    let is_fence : Bool = is_fence_by commands (commands.executed (at steps) last) in
    let Goal : Bool → Type 0 = λ b. is_fence ≡ b → (entry : E) → Hold sys commands at (Some last ∷ few) entry → Held entry in
    let by_test : (b : Bool) → Goal b = λ b. elim b as Goal [
      | true ↦ λ is entry h. among entry (out entry (fenced sys commands at last few steps (taken_with count steps) entry is h))
      | false ↦ λ off entry h. holds entry off (elim (step_by sys commands at last few steps (taken_with count steps) entry h) [
        | inl old ↦ inl (may entry old)
        | inr read ↦ inr (read_more sys (Hold sys commands at few) (MayHoldPaused sys commands at steps) may (at steps) last entry read)
      ])
    ] in record { held = by_test is_fence refl; out = out }

within_pauses : {S T R K E L A C : Type 0} (sys : System S T R K E L A) (commands : Commands S T E C) (at : List T → S) (count : ℕ) (few : List (Option T)) (steps : List T) → taken few ≡ steps → (Held Outlasting : E → Type 0) →
    ((entry : E) → IsReadAhead sys Held (at steps) entry → Outlasting entry) → ((entry : E) → Outlasting entry → Held entry) →
    Within sys commands at few Held Outlasting → Within sys commands at (pausing count few) Held Outlasting
within_pauses sys commands at zero few steps same Held Outlasting ahead among within = within
within_pauses sys commands at (suc count) few steps same Held Outlasting ahead among within =
    let w : Within sys commands at (pausing count few) Held Outlasting = within_pauses sys commands at count few steps same Held Outlasting ahead among within in
    let is : taken (pausing count few) ≡ steps = taken_pausing count few ∙ same in
    record {
      held = λ entry h. elim (pause_by sys commands at (pausing count few) steps is entry h) [
        | inl old ↦ w.held entry old
        | inr read ↦ among entry (ahead entry (read_more (paused sys) (Hold sys commands at (pausing count few)) Held w.held (at steps) None entry read))
      ];
      out = λ entry o. elim (out_pause_by sys commands at (pausing count few) steps is entry o) [
        | inl old ↦ w.out entry old
        | inr read ↦ ahead entry (read_more (paused sys) (Hold sys commands at (pausing count few)) Held w.held (at steps) None entry read)
      ];
    }

pub no_more : {S T R K E L A C : Type 0} (sys : System S T R K E L A) (commands : Commands S T E C) (at : List T → S) (count : ℕ) (last : T) (steps : List T) (held outlasting : List E) →
    HaveStep sys commands at last steps held outlasting → Within sys commands at (with_pauses count (last ∷ steps)) (IsAmong held) (IsAmong outlasting)
no_more sys commands at count last steps held outlasting have =
    within_pauses sys commands at count (Some last ∷ with_pauses count steps) (last ∷ steps) (λ n. last ∷ taken_with count steps n) (IsAmong held) (IsAmong outlasting) have.ahead have.among
    (within_step sys commands at count last steps (IsAmong held) (IsAmong outlasting) have.holds have.outlasts have.among)

pub behind_fence : {S T R K E L A C : Type 0} (sys : System S T R K E L A) (commands : Commands S T E C) (at : List T → S) (last : T) (steps : List T) (entry : E) →
    is_fence_by commands (commands.executed (at steps) last) ≡ true → MayHoldPaused sys commands at (last ∷ steps) entry → MayOutlastPaused sys commands at (last ∷ steps) entry
behind_fence {S} {T} {R} {K} {E} {L} {A} {C} sys commands at last steps entry is h =
    let Outlasting : E → Type 0 = MayOutlastPaused sys commands at (last ∷ steps) in
    let within : Within sys commands at (with_pauses h.count (last ∷ steps)) Outlasting Outlasting =
    within_pauses sys commands at h.count (Some last ∷ with_pauses h.count steps) (last ∷ steps) (λ n. last ∷ taken_with h.count steps n) Outlasting Outlasting
    (λ entry read. ahead_outlasts sys commands at (last ∷ steps) entry
    (read_more (paused sys) Outlasting (MayHoldPaused sys commands at (last ∷ steps)) (held_outlasting sys commands at (last ∷ steps)) (at (last ∷ steps)) None entry read))
    (λ entry o. o)
    (within_step sys commands at h.count last steps Outlasting Outlasting (λ entry off had. absurd (cc (is, off))) (λ entry off had. step_outlasts sys commands at last steps entry off had) (λ entry o. o)) in within.held entry h.may

-- whatever the pauses are
abbrev count_of : {T : Type 0} → List (Option T) → ℕ
count_of [] = zero
count_of (None ∷ steps) = suc (count_of steps)
count_of (Some last ∷ steps) = count_of steps

within_count : {S T R K E L A C : Type 0} (sys : System S T R K E L A) (commands : Commands S T E C) (at : List T → S) (steps : List (Option T)) →
    HoldsMore sys commands at steps (with_pauses (count_of steps) (taken steps)) (taken steps)
within_count sys commands at [] = more_itself sys commands at [] [] refl
within_count sys commands at (None ∷ steps) =
    more_then sys commands at (None ∷ steps) (None ∷ with_pauses (count_of steps) (taken steps)) (with_pauses (suc (count_of steps)) (taken steps)) (taken steps)
    (more_pause sys commands at steps (with_pauses (count_of steps) (taken steps)) (taken steps) (within_count sys commands at steps))
    (pause_grown sys commands at (count_of steps) (taken steps))
within_count sys commands at (Some last ∷ steps) =
    more_then sys commands at (Some last ∷ steps) (Some last ∷ with_pauses (count_of steps) (taken steps)) (with_pauses (count_of steps) (last ∷ taken steps)) (last ∷ taken steps)
    (more_step sys commands at steps (with_pauses (count_of steps) (taken steps)) last (taken steps) (within_count sys commands at steps))
    (behind sys commands at (count_of steps) last (taken steps))

pub held_paused : {S T R K E L A C : Type 0} (sys : System S T R K E L A) (commands : Commands S T E C) (at : List T → S) (steps : List (Option T)) (entry : E) → Hold sys commands at steps entry → MayHoldPaused sys commands at (taken steps) entry
held_paused sys commands at steps entry h = record { count = count_of steps; may = (within_count sys commands at steps).held entry h }

pub settled_paused : {S T R K E L A C : Type 0} (sys : System S T R K E L A) (commands : Commands S T E C) (at : List T → S) (steps : List (Option T)) (request : Option R) →
    IsSettled sys (MayHoldPaused sys commands at (taken steps)) (at (taken steps)) request →
    IsSettled (late (paused sys) (paused_commands commands)) (MayHold (late (paused sys) (paused_commands commands)) (late_at (paused_commands commands) (paused_at at)) steps)
    (late_at (paused_commands commands) (paused_at at) steps) request
settled_paused {S} {T} {R} {K} {E} {L} {A} {C} sys commands at steps request settled =
    settled_numbered (paused sys) (paused_commands commands) (paused_at at) steps request
    (λ source each.
    sym (led_paused sys (at (taken steps)) source request)
    ∙ settled source (each_weaker (λ (used : K × E). Hold sys commands at steps used.1) (λ (used : K × E). MayHoldPaused sys commands at (taken steps) used.1) source
    (λ used may. held_paused sys commands at steps used.1 may) each)
    ∙ led_paused sys (at (taken steps)) [] request)
