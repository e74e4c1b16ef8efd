-- A line that is bad leaves the names as they are.
use Rattle.std.proofs.Common.{◌≡◌, ◌&&◌, ℕ, Bool, true, false, List, Option, Some, None, if◌then◌else◌, refl}
use Rattle.iom_text.specs.Words.{words_of}
use Rattle.iom_names.specs.Names.{names_by, with_numbers}
use Rattle.iom_names.specs.Reading.{Reading, after_let, is_bad, is_let, is_line, line_with, names_after, read, read_words, reading}
use Rattle.iom_names.specs.declared.names.Binding.{Binding}
use Rattle.iom_tool.specs.Script.{debug_line_of}
use Rattle.std.specs.Prelude.{drop}

abbrev KeepsBad : List Binding → Reading → Type 0
KeepsBad names read = is_bad read.line ≡ true → read.names ≡ names

of_let : (names : List Binding) (found : Option (List Binding)) → KeepsBad names (after_let names found)
of_let names None bad = refl
of_let names (Some more) bad = absurd (cc bad)

either : (b : Bool) (names : List Binding) (x y : Reading) → KeepsBad names x → KeepsBad names y → KeepsBad names (if b then x else y)
either true names x y hx hy = hx
either false names x y hx hy = hy

of_words : (names : List Binding) (words : List (List ℕ)) → KeepsBad names (read_words names words)
of_words names words =
    either (is_let words) names (after_let names (names_by names (drop 1 words))) (reading (debug_line_of (with_numbers names words)) names)
    (of_let names (names_by names (drop 1 words))) (λ bad. refl)

pub same_names : (names : List Binding) (text : List ℕ) → is_bad (line_with names text) ≡ true → names_after names text ≡ names
unfolding read
same_names names text =
    either (is_bad (debug_line_of text) && is_line text) names (read_words names (words_of text)) (reading (debug_line_of text) names)
    (of_words names (words_of text)) (λ bad. refl)
