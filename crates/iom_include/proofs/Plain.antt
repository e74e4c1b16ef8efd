-- A script none of whose lines includes a text.
use Rattle.std.proofs.Common.{◌≡◌, ◌==◌, ◌++◌, ℕ, List, [], ◌∷◌, false, Some, None, Option, refl, ap, ◌∙◌, append_assoc}
use Rattle.std.specs.List.{flat_map, list_any, slice_split}
use Rattle.std.proofs.lemmas.Bool.{or_parts}
use Rattle.iom_reader.specs.Lines.{all_but_last, ended_in, ended_lines, last_line, lines_of, open_line}
use Rattle.iom_reader.proofs.Splits.{HaveNoEnd, parts_none, open_none}
use Rattle.iom_include.specs.Including.{StandsForItself, file_of, includes, left_by, said}
use Rattle.iom_include.proofs.Cuts.{lines_line}
use Rattle.iom_include.proofs.Depths.{plain_said}
use Rattle.iom_include.proofs.Lefts.{no_file}

-- no line of a text has a line end
front_none : (first : List ℕ) (rest : List (List ℕ)) → list_any (λ c. c == 10) first ≡ false → HaveNoEnd rest → HaveNoEnd (all_but_last first rest)
front_none first [] none all = tt
front_none first (second ∷ rest) none all = (none, front_none second rest all.0 all.1)

ended_none : (parts : List (List ℕ)) → HaveNoEnd parts → HaveNoEnd (ended_in parts)
ended_none [] all = tt
ended_none (first ∷ rest) all = front_none first rest all.0 all.1

last_none : (line : List ℕ) → list_any (λ c. c == 10) line ≡ false → HaveNoEnd (last_line line)
last_none [] none = tt
last_none (byte ∷ bytes) none = (none, tt)

pub both_none : (some more : List (List ℕ)) → HaveNoEnd some → HaveNoEnd more → HaveNoEnd (some ++ more)
both_none [] more all none = none
both_none (line ∷ lines) more all none = (all.0, both_none lines more all.1 none)

pub lines_none : (text : List ℕ) → HaveNoEnd (lines_of text)
lines_none text =
    let parts : HaveNoEnd (slice_split (λ c. c == 10) text) = parts_none text in
    both_none (ended_lines text) (last_line (open_line text)) (ended_none (slice_split (λ c. c == 10) text) parts)
    (last_none (open_line text) (open_none (slice_split (λ c. c == 10) text) parts))

-- lines with their ends are a text that has them
pub lines_again : (lines : List (List ℕ)) → HaveNoEnd lines → lines_of (flat_map (λ line. line ++ 10 ∷ []) lines) ≡ lines
lines_again [] all = refl
lines_again (line ∷ lines) all =
    ap lines_of (append_assoc line (10 ∷ []) (flat_map (λ line. line ++ 10 ∷ []) lines))
    ∙ lines_line line (flat_map (λ line. line ++ 10 ∷ []) lines) all.0 ∙ ap (λ l. line ∷ l) (lines_again lines all.1)

-- what stands for them with any texts
plain_stand : (texts : List ℕ → List ℕ) (name : List ℕ) (lines : List (List ℕ)) → list_any includes lines ≡ false →
    flat_map (said texts 8 name) lines ≡ flat_map (λ line. line ++ 10 ∷ []) lines
plain_stand texts name [] none = refl
plain_stand texts name (line ∷ lines) none =
    let both : (includes line ≡ false) × (list_any includes lines ≡ false) = or_parts (includes line) (list_any includes lines) none in
    rw (plain_said texts 8 name line (no_file (file_of line) both.0), plain_stand texts name lines both.1) refl

stand_by : (known : Option (List ℕ → List ℕ)) (name script : List ℕ) → list_any includes (lines_of script) ≡ false →
    left_by known (Some script) [] name [] ≡ Some (flat_map (λ line. line ++ 10 ∷ []) (lines_of script))
stand_by None name script none = rw none refl
stand_by (Some texts) name script none = ap Some (plain_stand texts name (lines_of script) none)

pub stands : (known : Option (List ℕ → List ℕ)) (name script : List ℕ) → list_any includes (lines_of script) ≡ false → StandsForItself known name script
stands known name script none = record {
  left = flat_map (λ line. line ++ 10 ∷ []) (lines_of script);
  known_left = stand_by known name script none;
  lines = lines_again (lines_of script) (lines_none script);
}
