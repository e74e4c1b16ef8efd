-- States and outputs of lines that follow each other.
use Rattle.std.proofs.Common.{◌≡◌, ◌<◌, ◌++◌, ℕ, List, [], ◌∷◌, length, take, true, false, Option, Some, None, is_some, nat_lt, sym, ◌∙◌, ap, refl, inl, inr, arith, append_assoc, append-nil}
use Rattle.std.specs.List.{flat_map}
use Rattle.std.specs.Option.{unwrap_or}
use Rattle.std.proofs.lemmas.Bool.{cases_lt}
use Rattle.std.proofs.lemmas.List.{take_all, length-take-le}
use Rattle.std.proofs.lemmas.List.Concat.{flat_map-append}
use Rattle.iom_core.specs.Table.{next}
use Rattle.iom_core.specs.declared.step.Step.{Step}
use Rattle.iom_tool.specs.Script.{line_in, line_of}
use Rattle.iom_tool.specs.Console.{Console, console, console_after, traced}
use Rattle.iom_tool.specs.Output.{steps_of, printed, after, output_to, output_of}

console_after-append : (now : Console) (xs ys : List Step) → console_after now (xs ++ ys) ≡ console_after (console_after now xs) ys
console_after-append now [] ys = refl
console_after-append now (x ∷ xs) ys =
    console_after-append (console (next now.state x).state (traced now.trace x (next now.state x).answer)) xs ys

pub after-append : (now : Console) (xs ys : List (List ℕ)) → after now (xs ++ ys) ≡ after (after now xs) ys
after-append now xs ys =
    ap (console_after now) (flat_map-append steps_of xs ys) ∙ console_after-append now (flat_map steps_of xs) (flat_map steps_of ys)

pub after_one : (now : Console) (line : List ℕ) → after now (line ∷ []) ≡ console_after now (steps_of line)
after_one now line = ap (console_after now) (append-nil (steps_of line))

pub output_of_one : (now : Console) (line : List ℕ) → output_of now (line ∷ []) ≡ output_to now line
output_of_one now line = append-nil (output_to now line)

pub output_of-append : (now : Console) (xs ys : List (List ℕ)) → output_of now (xs ++ ys) ≡ output_of now xs ++ output_of (after now xs) ys
output_of-append now [] ys = refl
output_of-append now (x ∷ xs) ys =
    let first : after now (x ∷ xs) ≡ after (console_after now (steps_of x)) xs = console_after-append now (steps_of x) (flat_map steps_of xs) in
    ap (λ l. output_to now x ++ l) (output_of-append (console_after now (steps_of x)) xs ys)
    ∙ sym (append_assoc (output_to now x) (output_of (console_after now (steps_of x)) xs) (output_of (after (console_after now (steps_of x)) xs) ys))
    ∙ ap (λ s. (output_to now x ++ output_of (console_after now (steps_of x)) xs) ++ output_of s ys) (sym first)

-- an answer is printed with its line end, and none is printed where there is none
pub printed_some : (said : Option (List ℕ)) (text : List ℕ) → is_some said ≡ true → text ≡ unwrap_or said [] → printed said ≡ text ++ 10 ∷ []
printed_some (Some answer) text is same = ap (λ l. l ++ 10 ∷ []) (sym same)
printed_some None text is same = absurd (cc is)

pub printed_none : (said : Option (List ℕ)) → is_some said ≡ false → printed said ≡ []
printed_none (Some answer) is = absurd (cc is)
printed_none None is = refl

-- more than 512 bytes of a line say that it is too long
pub line_of-take : (count : ℕ) (line : List ℕ) → 512 < count → line_of (take count line) ≡ line_of line
unfolding line_in
line_of-take count line more =
    elim (cases_lt count (length line)) as (λ _. line_of (take count line) ≡ line_of line) [
      | inl longer ↦
          let all : length (take count line) ≡ count = length-take-le count line (omega arith) in
          let front : nat_lt 512 (length (take count line)) ≡ true = grind arith in
          let whole : nat_lt 512 (length line) ≡ true = grind arith in
          rw (front, whole) refl
      | inr short ↦ ap line_of (take_all count line short)
    ]
