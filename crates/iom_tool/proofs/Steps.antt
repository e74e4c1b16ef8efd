-- How `run` answers lines.
use Rattle.std.proofs.Common.{◌≡◌, ◌++◌, ℕ, List, [], ◌∷◌, take, true, false, Result, Ok, Err, OnOk, OnErr, is_some, sym, ◌∙◌, ap, subst, refl, lit<}
use Rattle.std.specs.Option.{unwrap_or}
use Rattle.std.specs.Io.KnownBytes.{Appends}
use Rattle.std.proofs.KnownBytes.{Appends-nil, Appends-trans, Appends-kept}
use Rattle.iom_core.specs.State.{State}
use Rattle.iom_core.specs.Run.{end_of}
use Rattle.iom_core.specs.declared.step.Step.{Step}
use Rattle.iom_tool.specs.declared.trace.TracedStep.{TracedStep}
use Rattle.iom_tool.specs.Script.{line_of}
use Rattle.iom_tool.specs.Console.{Console, console, console_after, trace_after}
use Rattle.iom_tool.specs.Output.{reply, steps_in, steps_of, printed, after, output_to, output_of}
use Rattle.iom_reader.specs.Answering.{Progress, progress, AnswersNext, IsAnswering}
use Rattle.iom_reader.specs.Running.{WritesFront}
use Rattle.iom_tool.specs.Running.{Answered, HalfAnswered, by_steps}
use Rattle.iom_reader.specs.declared.fault.RunFault.{RunFault}
use Rattle.iom_reader.proofs.Lists.{last_split}
use Rattle.iom_tool.proofs.Outputs.{after-append, after_one, output_of_one, output_of-append, line_of-take, printed_some, printed_none}

-- one line more is answered, or begun to be
answered_more : (start now new : Progress Console) (lines : List (List ℕ)) (line : List ℕ) → Answered start now lines →
    new.console ≡ console_after now.console (steps_of line) → Appends now.written new.written (output_to now.console line) →
    Answered start new (lines ++ line ∷ [])
answered_more start now new lines line h moved wrote = record {
  console = moved ∙ sym (after_one now.console line) ∙ ap (λ s. after s (line ∷ [])) h.console ∙ sym (after-append start.console lines (line ∷ []));
  written =
      let same : output_of start.console lines ++ output_to now.console line ≡ output_of start.console (lines ++ line ∷ []) =
      ap (λ l. output_of start.console lines ++ l) (sym (output_of_one now.console line))
      ∙ ap (λ s. output_of start.console lines ++ output_of s (line ∷ [])) h.console ∙ sym (output_of-append start.console lines (line ∷ [])) in
      subst (Appends start.written new.written) same (Appends-trans _ _ _ _ _ h.written wrote);
}

answered_half : (start now new : Progress Console) (lines : List (List ℕ)) (line : List ℕ) → Answered start now lines →
    new.console ≡ console_after now.console (steps_of line) → WritesFront now.written new.written (output_to now.console line) →
    HalfAnswered start new (lines ++ line ∷ [])
answered_half start now new lines line h moved wrote = record {
  whole = lines;
  last = line;
  split = refl;
  console = moved ∙ sym (after_one now.console line) ∙ ap (λ s. after s (line ∷ [])) h.console ∙ sym (after-append start.console lines (line ∷ []));
  front = wrote.front;
  rest = wrote.rest;
  answer = wrote.whole ∙ sym (output_of_one now.console line) ∙ ap (λ s. output_of s (line ∷ [])) h.console;
  missing = wrote.missing;
  written = Appends-trans _ _ _ _ _ h.written wrote.written;
}

pub next : (line : List ℕ) (old new : Progress Console) (result : Result (Unit {0}) RunFault) →
    new.console ≡ console_after old.console (steps_of line) → OnOk result (Appends old.written new.written (output_to old.console line)) →
    OnErr result (WritesFront old.written new.written (output_to old.console line)) → AnswersNext by_steps line old new result
next line old new (Ok done) moved wrote front = λ start lines h. answered_more start old new lines line h moved wrote
next line old new (Err f) moved wrote front = λ start lines h. answered_half start old new lines line h moved front

-- platform and trace together
pub moved : (state later : State) (trace more : List TracedStep) (steps : List Step) → later ≡ end_of state steps → more ≡ trace_after trace state steps →
    console later more ≡ console_after (console state trace) steps
moved state later trace more steps is kept = rw (is, kept) refl

-- a line without an answer
pub unanswered : (line : List ℕ) (old : Progress Console) (new : Console) → new ≡ console_after old.console (steps_of line) →
    is_some (reply old.console (line_of line)) ≡ false → AnswersNext by_steps line old (progress old.written new) (Ok tt)
unanswered line old new moved none =
    next line old (progress old.written new) (Ok tt) moved
    (subst (Appends old.written old.written) (sym (printed_none (reply old.console (line_of line)) none)) (Appends-nil old.written)) tt

pub answered : (line out : List ℕ) (old new : Progress Console) (result : Result (Unit {0}) RunFault) →
    new.console ≡ console_after old.console (steps_of line) → is_some (reply old.console (line_of line)) ≡ true →
    out ≡ unwrap_or (reply old.console (line_of line)) [] → OnOk result (Appends old.written new.written (out ++ 10 ∷ [])) →
    OnErr result (WritesFront old.written new.written (out ++ 10 ∷ [])) → AnswersNext by_steps line old new result
answered line out old new result moved some is wrote front =
    let same = sym (printed_some (reply old.console (line_of line)) out some is) in
    next line old new result moved
    (subst (λ l. OnOk result (Appends old.written new.written l)) same wrote)
    (subst (λ l. OnErr result (WritesFront old.written new.written l)) same front)

-- more than 512 bytes of a line say that it is too long
same_line : (line : List ℕ) → line_of (take 513 line) ≡ line_of line
same_line line = line_of-take 513 line (lit< tt)

one_after : (s : Console) (line : List ℕ) → after s (take 513 line ∷ []) ≡ after s (line ∷ [])
one_after s line = after_one s (take 513 line) ∙ ap (λ l. console_after s (steps_in l)) (same_line line) ∙ sym (after_one s line)

one_output : (s : Console) (line : List ℕ) → output_of s (take 513 line ∷ []) ≡ output_of s (line ∷ [])
one_output s line = output_of_one s (take 513 line) ∙ ap (λ l. printed (reply s l)) (same_line line) ∙ sym (output_of_one s line)

cut_after : (s : Console) (lines : List (List ℕ)) (line : List ℕ) → after s (lines ++ take 513 line ∷ []) ≡ after s (lines ++ line ∷ [])
cut_after s lines line =
    after-append s lines (take 513 line ∷ []) ∙ one_after (after s lines) line ∙ sym (after-append s lines (line ∷ []))

cut_output : (s : Console) (lines : List (List ℕ)) (line : List ℕ) → output_of s (lines ++ take 513 line ∷ []) ≡ output_of s (lines ++ line ∷ [])
cut_output s lines line =
    output_of-append s lines (take 513 line ∷ []) ∙ ap (λ l. output_of s lines ++ l) (one_output (after s lines) line)
    ∙ sym (output_of-append s lines (line ∷ []))

cut : (start now : Progress Console) (lines : List (List ℕ)) (line : List ℕ) → Answered start now (lines ++ take 513 line ∷ []) →
    Answered start now (lines ++ line ∷ [])
cut start now lines line h = record {
  console = h.console ∙ cut_after start.console lines line;
  written = subst (Appends start.written now.written) (cut_output start.console lines line) h.written;
}

half_cut : (start now : Progress Console) (lines : List (List ℕ)) (line : List ℕ) → HalfAnswered start now (lines ++ take 513 line ∷ []) →
    HalfAnswered start now (lines ++ line ∷ [])
half_cut start now lines line h =
    let parts = last_split lines h.whole (take 513 line) h.last h.split in
    record {
      whole = lines;
      last = line;
      split = refl;
      console = h.console ∙ cut_after start.console lines line;
      front = h.front;
      rest = h.rest;
      answer = h.answer ∙ ap (λ l. output_of (after start.console l) (h.last ∷ [])) (sym parts.0)
          ∙ ap (λ l. output_of (after start.console lines) (l ∷ [])) (sym parts.1) ∙ one_output (after start.console lines) line;
      missing = h.missing;
      written = subst (λ l. Appends start.written now.written (output_of start.console l ++ h.front)) (sym parts.0) h.written;
    }

pub lawful : IsAnswering by_steps
lawful = record {
  none = λ now. record { console = refl; written = Appends-nil now.written };
  flushed = λ start now written lines h kept. record { console = h.console; written = Appends-kept _ _ _ _ h.written kept };
  cut = cut;
  half_cut = half_cut;
}
