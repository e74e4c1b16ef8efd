-- What is told of lines.
use Rattle.std.proofs.Common.{◌≡◌, ◌+◌, ◌≤◌, min, inl, inr, arith, ℕ, List, length, take, Option, Result, Ok, Err, OnOk, OnErr, sym, ◌∙◌, ap, subst, refl}
use Rattle.std.specs.Io.KnownBytes.{Appends}
use Rattle.std.proofs.KnownBytes.{Appends-nil}
use Rattle.std.proofs.lemmas.Bool.{cases_lt}
use Rattle.std.proofs.lemmas.List.{nil_from_length, take_all, length-take}
use Rattle.iom_reader.specs.Answering.{Progress, AnswersNext, IsAnswering}
use Rattle.iom_reader.specs.Running.{WritesFront}
use Rattle.iom_reader.specs.Speaking.{by_lines}
use Rattle.iom_reader.specs.declared.fault.RunFault.{RunFault}
use Rattle.iom_reader.proofs.Chains.{spoken, broken, lawful as by_lines_lawful}
use Rattle.iom_debug.specs.Summary.{up_to_64_bits}
use Rattle.iom_debug.specs.Taking.{Desk}
use Rattle.iom_debug.specs.Telling.{Debugged, DebugSays, IsAnswer, Leaves, at_once, line_told, slip_told, with_slip}

pub nothing_written : (a : Option (List ℕ)) (text : List ℕ) → length text ≡ 0 → Appends a a text
nothing_written a text none = subst (Appends a a) (sym (nil_from_length text none)) (Appends-nil a)

pub told_at_once : (S : Type 0) (says : S → List ℕ → List ℕ → S → Type 0) (line text : List ℕ) (old new : Progress S) (result : Result (Unit {0}) RunFault) →
    says old.console (take 513 line) text new.console → OnOk result (Appends old.written new.written text) →
    OnErr result (WritesFront old.written new.written text) → AnswersNext (by_lines (at_once S says)) line old new result
told_at_once S says line text old new (Ok done) h wrote front = spoken (at_once S says) line text old new h wrote
told_at_once S says line text old new (Err f) h wrote front =
    broken (at_once S says) line front.front f old new (text, front.rest, front.whole, h) front.written

pub lawful : (S : Type 0) (says : S → List ℕ → List ℕ → S → Type 0) → IsAnswering (by_lines (at_once S says))
lawful S says = by_lines_lawful (at_once S says)

pub cut_to : (most count : ℕ) (line : List ℕ) → count ≡ min (length line) most → take count line ≡ take most line
cut_to most count line is =
    elim (cases_lt most (length line)) as (λ _. take count line ≡ take most line) [
      | inl less ↦
          let exact : count ≡ most = omega arith in
          ap (λ n. take n line) exact
      | inr short ↦ take_all count line (omega arith) ∙ sym (take_all most line short)
    ]

pub cut_short : (most count : ℕ) (line : List ℕ) → count ≡ min (length line) most → length (take count line) ≤ most
cut_short most count line is = omega (arith, length-take count line)

pub debug_says : (before : Debugged) (after : Desk) (line kept said answer slip : List ℕ) (number : ℕ) → kept ≡ take 513 line →
    number ≡ up_to_64_bits (before.number + 1) → Leaves before.desk kept number after → IsAnswer before.desk kept answer →
    slip ≡ slip_told before.tells_slips before.desk.names kept → said ≡ line_told (with_slip answer slip) →
    DebugSays before (take 513 line) said (record { desk = after; number = number; tells_slips = before.tells_slips })
debug_says before after line kept said answer slip number cut count left is why told =
    subst (λ l. DebugSays before l said (record { desk = after; number = number; tells_slips = before.tells_slips })) cut
    (record {
      number = count;
      left = left;
      same = refl;
      answer = answer;
      answered = is;
      text = told ∙ ap (λ w. line_told (with_slip answer w)) why;
    })
