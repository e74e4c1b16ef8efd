-- Where lines stand.
use Rattle.std.proofs.Common.{◌≡◌, ◌==◌, ◌+◌, ◌++◌, ◌⊎◌, ℕ, zero, suc, List, [], ◌∷◌, true, false, Option, Some, None, length, drop, refl, sym, ap, subst, ◌∙◌, inl, inr, arith, append_assoc, append-nil, length-append}
use Rattle.std.specs.List.{AllZip, flat_map, list_any}
use Rattle.std.proofs.lemmas.Bool.{or_parts}
use Rattle.std.proofs.lemmas.Grind.{flat_map-append}
use Rattle.iom_reader.specs.Lines.{lines_of}
use Rattle.iom_reader.proofs.Splits.{HaveNoEnd}
use Rattle.iom_include.specs.Including.{comment_of, expanded, file_of, in_place, includes, name_at, said}
use Rattle.iom_include.specs.Placing.{LinePlace, StandsAt, placed, placed_from, placed_in, places, text_at}
use Rattle.iom_include.proofs.Plain.{both_none, lines_again, lines_none}

abbrev ended : List ℕ → List ℕ
ended line = line ++ 10 ∷ []

-- the lines that stand for a line
abbrev lines_in : (List ℕ → List ℕ) → (List ℕ → List ℕ → List (List ℕ)) → List ℕ → List ℕ → Option (List ℕ) → List (List ℕ)
lines_in texts inner from line None = line ∷ []
lines_in texts inner from line (Some file) =
    flat_map (inner (name_at from file)) (lines_of (texts (name_at from file))) ++ comment_of line ∷ []

said_lines : (List ℕ → List ℕ) → ℕ → List ℕ → List ℕ → List (List ℕ)
said_lines texts zero from line = line ∷ []
said_lines texts (suc depth) from line = lines_in texts (said_lines texts depth) from line (file_of line)

all_ended : (f : List ℕ → List ℕ) (g : List ℕ → List (List ℕ)) → ((line : List ℕ) → f line ≡ flat_map ended (g line)) →
    (lines : List (List ℕ)) → flat_map f lines ≡ flat_map ended (flat_map g lines)
all_ended f g each [] = refl
all_ended f g each (line ∷ lines) =
    ap (λ l. l ++ flat_map f lines) (each line) ∙ ap (λ l. flat_map ended (g line) ++ l) (all_ended f g each lines)
    ∙ sym (flat_map-append ended (g line) (flat_map g lines))

in_place_ended : (texts : List ℕ → List ℕ) (inner : List ℕ → List ℕ → List ℕ) (lines : List ℕ → List ℕ → List (List ℕ)) →
    ((from line : List ℕ) → inner from line ≡ flat_map ended (lines from line)) → (from line : List ℕ) (file : Option (List ℕ)) →
    in_place texts inner from line file ≡ flat_map ended (lines_in texts lines from line file)
in_place_ended texts inner lines each from line None = sym (append-nil (ended line))
in_place_ended texts inner lines each from line (Some file) =
    let name = name_at from file in
    ap (λ l. l ++ ended (comment_of line)) (all_ended (inner name) (lines name) (each name) (lines_of (texts name)))
    ∙ ap (λ l. flat_map ended (flat_map (lines name) (lines_of (texts name))) ++ l) (sym (append-nil (ended (comment_of line))))
    ∙ sym (flat_map-append ended (flat_map (lines name) (lines_of (texts name))) (comment_of line ∷ []))

said_ended : (texts : List ℕ → List ℕ) (depth : ℕ) (from line : List ℕ) → said texts depth from line ≡ flat_map ended (said_lines texts depth from line)
unfolding said said_lines
said_ended texts zero from line = sym (append-nil (ended line))
said_ended texts (suc depth) from line =
    in_place_ended texts (said texts depth) (said_lines texts depth) (said_ended texts depth) from line (file_of line)

-- none of them has a line end
drop_none : (n : ℕ) (line : List ℕ) → list_any (λ c. c == 10) line ≡ false → list_any (λ c. c == 10) (drop n line) ≡ false
drop_none zero line none = none
drop_none (suc n) [] none = refl
drop_none (suc n) (c ∷ line) none =
    let both : ((c == 10) ≡ false) × (list_any (λ c. c == 10) line ≡ false) = or_parts (c == 10) (list_any (λ c. c == 10) line) none in
    drop_none n line both.1

all_none : (g : List ℕ → List (List ℕ)) → ((line : List ℕ) → list_any (λ c. c == 10) line ≡ false → HaveNoEnd (g line)) →
    (lines : List (List ℕ)) → HaveNoEnd lines → HaveNoEnd (flat_map g lines)
all_none g each [] none = tt
all_none g each (line ∷ lines) none = both_none (g line) (flat_map g lines) (each line none.0) (all_none g each lines none.1)

in_place_none : (texts : List ℕ → List ℕ) (lines : List ℕ → List ℕ → List (List ℕ)) →
    ((from line : List ℕ) → list_any (λ c. c == 10) line ≡ false → HaveNoEnd (lines from line)) → (from line : List ℕ) (file : Option (List ℕ)) →
    list_any (λ c. c == 10) line ≡ false → HaveNoEnd (lines_in texts lines from line file)
in_place_none texts lines each from line None none = (none, tt)
in_place_none texts lines each from line (Some file) none =
    let name = name_at from file in
    both_none (flat_map (lines name) (lines_of (texts name))) (comment_of line ∷ [])
    (all_none (lines name) (each name) (lines_of (texts name)) (lines_none (texts name))) (drop_none _ line none, tt)

said_none : (texts : List ℕ → List ℕ) (depth : ℕ) (from line : List ℕ) → list_any (λ c. c == 10) line ≡ false →
    HaveNoEnd (said_lines texts depth from line)
unfolding said_lines
said_none texts zero from line none = (none, tt)
said_none texts (suc depth) from line none =
    in_place_none texts (said_lines texts depth) (said_none texts depth) from line (file_of line) none

expanded_lines : (texts : List ℕ → List ℕ) (name script : List ℕ) →
    lines_of (expanded texts name script) ≡ flat_map (said_lines texts 8 name) (lines_of script)
expanded_lines texts name script =
    ap lines_of (all_ended (said texts 8 name) (said_lines texts 8 name) (said_ended texts 8 name) (lines_of script))
    ∙ lines_again (flat_map (said_lines texts 8 name) (lines_of script))
    (all_none (said_lines texts 8 name) (said_none texts 8 name) (lines_of script) (lines_none script))

-- each with its place
zip_append : {A B : Type 0} (R : A → B → Type 0) (xs : List A) (ys : List B) (more : List A) (others : List B) →
    AllZip R xs ys → AllZip R more others → AllZip R (xs ++ more) (ys ++ others)
zip_append R [] [] more others all rest = rest
zip_append R [] (y ∷ ys) more others all rest = absurd all
zip_append R (x ∷ xs) [] more others all rest = absurd all
zip_append R (x ∷ xs) (y ∷ ys) more others all rest = (all.0, zip_append R xs ys more others all.1 rest)

-- a line of a text stands for lines that have its places
abbrev Placed : (List ℕ → List ℕ) → List ℕ → Option (List ℕ) → (List ℕ → List (List ℕ)) → (ℕ → List ℕ → List LinePlace) → Type 0
Placed texts script text lines inner =
    (before : List (List ℕ)) (line : List ℕ) (behind : List (List ℕ)) (number : ℕ) →
    lines_of (text_at texts script text) ≡ before ++ line ∷ behind → number ≡ length before + 1 →
    AllZip (StandsAt texts script) (lines line) (inner number line)

all_placed : (texts : List ℕ → List ℕ) (script : List ℕ) (text : Option (List ℕ)) (lines : List ℕ → List (List ℕ)) (inner : ℕ → List ℕ → List LinePlace) →
    Placed texts script text lines inner → (before rest : List (List ℕ)) (number : ℕ) → lines_of (text_at texts script text) ≡ before ++ rest →
    number ≡ length before + 1 → AllZip (StandsAt texts script) (flat_map lines rest) (placed_from inner number rest)
all_placed texts script text lines inner each before [] number split is = tt
all_placed texts script text lines inner each before (line ∷ rest) number split is =
    zip_append (StandsAt texts script) (lines line) (inner number line) (flat_map lines rest) (placed_from inner (number + 1) rest)
    (each before line rest number split is)
    (all_placed texts script text lines inner each (before ++ line ∷ []) rest (number + 1) (split ∙ sym (append_assoc before (line ∷ []) rest))
    (omega (arith, is, length-append before (line ∷ []))))

in_place_placed : (texts : List ℕ → List ℕ) (script : List ℕ) (lines : List ℕ → List ℕ → List (List ℕ))
    (inner : Option (List ℕ) → List ℕ → ℕ → List ℕ → List LinePlace) →
    ((text : Option (List ℕ)) (from : List ℕ) → Placed texts script text (lines from) (inner text from)) →
    (text : Option (List ℕ)) (from : List ℕ) (before : List (List ℕ)) (line : List ℕ) (behind : List (List ℕ)) (number : ℕ)
    (file : Option (List ℕ)) → file ≡ file_of line → lines_of (text_at texts script text) ≡ before ++ line ∷ behind → number ≡ length before + 1 →
    AllZip (StandsAt texts script) (lines_in texts lines from line file) (placed_in texts inner (record { text = text; line = number }) from file)
in_place_placed texts script lines inner each text from before line behind number None named split is =
    (record { before = before; own = line; behind = behind; split = split; number = is; same = inl refl }, tt)
in_place_placed texts script lines inner each text from before line behind number (Some file) named split is =
    let name = name_at from file in
    zip_append (StandsAt texts script) (flat_map (lines name) (lines_of (texts name))) (placed_from (inner (Some name) name) 1 (lines_of (texts name)))
    (comment_of line ∷ []) (record { text = text; line = number } ∷ [])
    (all_placed texts script (Some name) (lines name) (inner (Some name) name) (each (Some name) name) [] (lines_of (texts name)) 1 refl refl)
    (record { before = before; own = line; behind = behind; split = split; number = is; same = inr (rw (← named) refl, refl) }, tt)

said_placed : (texts : List ℕ → List ℕ) (script : List ℕ) (depth : ℕ) (text : Option (List ℕ)) (from : List ℕ) →
    Placed texts script text (said_lines texts depth from) (placed texts depth text from)
unfolding placed said_lines
said_placed texts script zero text from before line behind number split is =
    (record { before = before; own = line; behind = behind; split = split; number = is; same = inl refl }, tt)
said_placed texts script (suc depth) text from before line behind number split is =
    in_place_placed texts script (said_lines texts depth) (placed texts depth) (said_placed texts script depth) text from before line behind number
    (file_of line) refl split is

pub lines_placed : (texts : List ℕ → List ℕ) (name script : List ℕ) →
    AllZip (StandsAt texts script) (lines_of (expanded texts name script)) (places texts name script)
lines_placed texts name script =
    subst (λ lines. AllZip (StandsAt texts script) lines (places texts name script)) (sym (expanded_lines texts name script))
    (all_placed texts script None (said_lines texts 8 name) (placed texts 8 None name) (said_placed texts script 8 None name) [] (lines_of script) 1
    refl refl)
