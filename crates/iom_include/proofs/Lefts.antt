-- What is left to read.
use Rattle.std.proofs.Common.{◌≡◌, ◌==◌, ◌+◌, ◌-◌, ◌<◌, ◌++◌, ℕ, List, [], ◌∷◌, Bool, true, false, ◌||◌, Some, None, Option, Ok, Err, length, take, drop, refl, sym, ap, subst, ◌∙◌, arith, append_assoc, append-nil, take_at, drop-drop}
use Rattle.std.specs.Prelude.{IfSome, OnOk, Result, is_some, if◌then◌else◌}
use Rattle.std.specs.List.{flat_map, list_any}
use Rattle.std.specs.Io.KnownBytes.{Consumes, IsAtEnd, Keeps}
use Rattle.std.proofs.lemmas.List.{take-append-drop}
use Rattle.iom_reader.specs.Lines.{ended_lines, lines_of}
use Rattle.iom_include.specs.Including.{comment_of, file_of, includes, left_by, lines_left, name_at, said}
use Rattle.iom_include.proofs.Cuts.{closed, none_ended}
use Rattle.iom_include.proofs.Depths.{plain_said, text_said}

-- a line more of some lines stands behind what stands
pub one_more : (f : List ℕ → List ℕ) (total out more first : List ℕ) (lines rest : List (List ℕ)) →
    more ≡ out ++ f first → lines ≡ first ∷ rest → out ++ flat_map f lines ≡ total → more ++ flat_map f rest ≡ total
one_more f total out more first lines rest is cut so_far =
    ap (λ l. l ++ flat_map f rest) is ∙ append_assoc out (f first) (flat_map f rest) ∙ ap (λ l. out ++ flat_map f l) (sym cut) ∙ so_far

pub known_more : (known : Option (List ℕ → List ℕ)) (depth : ℕ) (name start out more first : List ℕ) (all lines rest : List (List ℕ)) →
    IfSome known (λ texts. more ≡ out ++ said texts depth name first) → lines ≡ first ∷ rest →
    IfSome known (λ texts. out ++ flat_map (said texts depth name) lines ≡ start ++ flat_map (said texts depth name) all) →
    IfSome known (λ texts. more ++ flat_map (said texts depth name) rest ≡ start ++ flat_map (said texts depth name) all)
known_more None depth name start out more first all lines rest is cut so_far = tt
known_more (Some texts) depth name start out more first all lines rest is cut so_far =
    one_more (said texts depth name) _ out more first lines rest is cut so_far

-- no line has its end
pub all_said : (known : Option (List ℕ → List ℕ)) (depth : ℕ) (name start out rest : List ℕ) (all : List (List ℕ)) →
    list_any (λ c. c == 10) rest ≡ false →
    IfSome known (λ texts. out ++ flat_map (said texts depth name) (ended_lines rest) ≡ start ++ flat_map (said texts depth name) all) →
    IfSome known (λ texts. out ≡ start ++ flat_map (said texts depth name) all)
all_said None depth name start out rest all none so_far = tt
all_said (Some texts) depth name start out rest all none so_far =
    sym (append-nil out) ∙ ap (λ l. out ++ flat_map (said texts depth name) l) (sym (none_ended rest none)) ∙ so_far

pub plain_ready : (known : Option (List ℕ → List ℕ)) (name line whole out new : List ℕ) → None ≡ file_of line → whole ≡ line ++ 10 ∷ [] →
    new ≡ out ++ whole → IfSome known (λ texts. new ≡ out ++ said texts 8 name line)
plain_ready None name line whole out new none is grown = tt
plain_ready (Some texts) name line whole out new none is grown =
    grown ∙ ap (λ l. out ++ l) (is ∙ sym (plain_said texts 8 name line none))

-- a line that includes a text
pub text_stands : (known : Option (List ℕ → List ℕ)) (depth : ℕ) (from line file out new comment : List ℕ) → Some file ≡ file_of line →
    comment ≡ comment_of line → 0 < depth →
    IfSome known (λ texts. new ≡ out ++ (flat_map (said texts (depth - 1) (name_at from file)) (lines_of (texts (name_at from file)))
    ++ (comment ++ 10 ∷ []))) → IfSome known (λ texts. new ≡ out ++ said texts depth from line)
text_stands None depth from line file out new comment is own deep grown = tt
text_stands (Some texts) depth from line file out new comment is own deep grown =
    grown
    ∙ ap (λ l. out ++ (flat_map (said texts (depth - 1) (name_at from file)) (lines_of (texts (name_at from file))) ++ (l ++ 10 ∷ []))) own
    ∙ ap (λ l. out ++ l) (sym (text_said texts depth from line file is deep))

pub kept_on : (first second third : Option (List ℕ)) → Keeps first second → Keeps second third → Keeps first third
kept_on None second third one two = tt
kept_on (Some xs) None third one two = absurd one
kept_on (Some xs) (Some ys) None one two = absurd two
kept_on (Some xs) (Some ys) (Some zs) one two = two ∙ one

kept_refl : (old : Option (List ℕ)) → Keeps old old
kept_refl None = tt
kept_refl (Some xs) = refl

pub kept_same : (old new : Option (List ℕ)) → new ≡ old → Keeps old new
kept_same old new same = subst (Keeps old) (sym same) (kept_refl old)

pub no_file : {A : Type 0} (file : Option A) → is_some file ≡ false → None ≡ file
no_file None none = refl
no_file (Some name) none = absurd (cc none)

-- the first of the lines that are left stands now
plain_first : (is : Bool) (out new first : List ℕ) (rest : List (List ℕ)) → is ≡ includes first → (is ≡ false → new ≡ out ++ (first ++ 10 ∷ [])) →
    Keeps (if is || list_any includes rest then None else Some (out ++ ((first ++ 10 ∷ []) ++ flat_map (λ line. line ++ 10 ∷ []) rest)))
    (lines_left None new [] rest)
plain_first true out new first rest e said = tt
plain_first false out new first rest e said =
    elim (list_any includes rest) as (λ b.
    Keeps (if b then None else Some (out ++ ((first ++ 10 ∷ []) ++ flat_map (λ line. line ++ 10 ∷ []) rest)))
    (if b then None else Some (new ++ flat_map (λ line. line ++ 10 ∷ []) rest))) [
      | true ↦ tt
      | false ↦ one_more (λ line. line ++ 10 ∷ []) _ out new first (first ∷ rest) rest (said refl) refl refl
    ]

pub first_stands : (known : Option (List ℕ → List ℕ)) (name out new first : List ℕ) (lines rest : List (List ℕ)) →
    IfSome known (λ texts. new ≡ out ++ said texts 8 name first) → (None ≡ file_of first → new ≡ out ++ (first ++ 10 ∷ [])) →
    lines ≡ first ∷ rest → Keeps (lines_left known out name lines) (lines_left known new name rest)
first_stands None name out new first lines rest is plain cut =
    rw cut (plain_first (includes first) out new first rest refl (λ none. plain (no_file (file_of first) none)))
first_stands (Some texts) name out new first lines rest is plain cut =
    one_more (said texts 8 name) _ out new first lines rest is cut refl

pub line_stands : (known : Option (List ℕ → List ℕ)) (name old out new first script left right : List ℕ) →
    IfSome known (λ texts. new ≡ out ++ said texts 8 name first) → (None ≡ file_of first → new ≡ out ++ (first ++ 10 ∷ [])) →
    ((more : List ℕ) → lines_of (left ++ more) ≡ first ∷ lines_of (right ++ more)) →
    ((more : List ℕ) → Keeps (left_by known (Some more) old name script) (left_by known (Some more) out name left)) →
    (more : List ℕ) → Keeps (left_by known (Some more) old name script) (left_by known (Some more) new name right)
line_stands known name old out new first script left right is plain cut so_far more =
    kept_on _ _ _ (so_far more) (first_stands known name out new first _ _ is plain (cut more))

-- as the struct has it
pub turned : (known : Option (List ℕ → List ℕ)) (unread : Option (List ℕ)) (before after : ℕ) (old new name rest left : List ℕ) →
    before ≡ 0 → after ≡ 0 →
    ((more : List ℕ) → Keeps (left_by known (Some more) old name rest) (left_by known (Some more) new name left)) →
    Keeps (left_by known unread (drop before old) name rest) (left_by known unread (drop after new) name left)
turned known None before after old new name rest left zero none kept = tt
turned known (Some unread) before after old new name rest left zero none kept = rw (zero, none) (kept unread)

pub piece_read : (known : Option (List ℕ → List ℕ)) (old new : Option (List ℕ)) (ready name rest piece : List ℕ) →
    Consumes old new piece → Keeps (left_by known old ready name rest) (left_by known new ready name (rest ++ piece))
piece_read known None new ready name rest piece took = tt
piece_read known (Some unread) None ready name rest piece took = absurd took
piece_read known (Some unread) (Some left) ready name rest piece took =
    kept_same _ _ (ap (λ l. lines_left known ready name (lines_of l)) (append_assoc rest piece left ∙ ap (λ l. rest ++ l) (sym took)))

pub kept_back : (known : Option (List ℕ → List ℕ)) (old new : Option (List ℕ)) (ready name rest : List ℕ) →
    Keeps old new → Keeps (left_by known old ready name rest) (left_by known new ready name rest)
kept_back known None new ready name rest kept = tt
kept_back known (Some unread) None ready name rest kept = absurd kept
kept_back known (Some unread) (Some left) ready name rest kept =
    kept_same _ _ (ap (λ l. lines_left known ready name (lines_of (rest ++ l))) kept)

pub last_closed : (known : Option (List ℕ → List ℕ)) (old new : Option (List ℕ)) (ready name rest : List ℕ) →
    Consumes old new [] → IsAtEnd new → list_any (λ c. c == 10) rest ≡ false → 0 < length rest →
    Keeps (left_by known old ready name rest) (left_by known new ready name (rest ++ 10 ∷ []))
last_closed known None new ready name rest took end none some = tt
last_closed known (Some unread) None ready name rest took end none some = absurd took
last_closed known (Some unread) (Some left) ready name rest took end none some =
    kept_same _ _ (ap (lines_left known ready name)
    (ap (λ l. lines_of ((rest ++ 10 ∷ []) ++ l)) end ∙ ap lines_of (append-nil (rest ++ 10 ∷ [])) ∙ closed rest none some
    ∙ ap lines_of (sym (append-nil rest)) ∙ ap (λ l. lines_of (rest ++ l)) (sym (took ∙ end))))

nothing_left : (known : Option (List ℕ → List ℕ)) (name : List ℕ) → IsAtEnd (lines_left known [] name [])
nothing_left None name = refl
nothing_left (Some texts) name = refl

pub none_left : (known : Option (List ℕ → List ℕ)) (unread : Option (List ℕ)) (ready name rest : List ℕ) → ready ≡ [] → rest ≡ [] →
    IsAtEnd unread → IsAtEnd (left_by known unread ready name rest)
none_left known None ready name rest none over end = tt
none_left known (Some unread) ready name rest none over end = rw (none, over, end) (nothing_left known name)

front_given : (n : ℕ) (ready rest : List ℕ) → ready ++ rest ≡ take n ready ++ (drop n ready ++ rest)
front_given n ready rest = ap (λ l. l ++ rest) (sym (take-append-drop n ready)) ∙ append_assoc (take n ready) (drop n ready) rest

lines_given : (known : Option (List ℕ → List ℕ)) (ready name : List ℕ) (lines : List (List ℕ)) (n : ℕ) →
    Consumes (lines_left known ready name lines) (lines_left known (drop n ready) name lines) (take n ready)
lines_given None ready name lines n =
    elim (list_any includes lines) as (λ b.
    Consumes (if b then None else Some (ready ++ flat_map (λ line. line ++ 10 ∷ []) lines))
    (if b then None else Some (drop n ready ++ flat_map (λ line. line ++ 10 ∷ []) lines)) (take n ready)) [
      | true ↦ tt
      | false ↦ front_given n ready (flat_map (λ line. line ++ 10 ∷ []) lines)
    ]
lines_given (Some texts) ready name lines n = front_given n ready (flat_map (said texts 8 name) lines)

pub some_given : (known : Option (List ℕ → List ℕ)) (unread : Option (List ℕ)) (ready name rest : List ℕ) (n : ℕ) →
    Consumes (left_by known unread ready name rest) (left_by known unread (drop n ready) name rest) (take n ready)
some_given known None ready name rest n = tt
some_given known (Some unread) ready name rest n = lines_given known ready name (lines_of (rest ++ unread)) n

pub if_done : {E P Q : Type 0} (result : Result (Unit {0}) E) → OnOk result P → (P → Q) → OnOk result Q
if_done (Ok done) so next = next so
if_done (Err fault) so next = tt

pub if_both_done : {E P Q R : Type 0} (result : Result (Unit {0}) E) → OnOk result P → OnOk result Q → (P → Q → R) → OnOk result R
if_both_done (Ok done) so too next = next so too
if_both_done (Err fault) so too next = tt

kept_taken : (first second third : Option (List ℕ)) (bytes : List ℕ) → Keeps first second → Consumes second third bytes → Consumes first third bytes
kept_taken None second third bytes kept took = tt
kept_taken (Some xs) None third bytes kept took = absurd kept
kept_taken (Some xs) (Some ys) None bytes kept took = absurd took
kept_taken (Some xs) (Some ys) (Some zs) bytes kept took = sym kept ∙ took

-- some of the bytes that are ready are given
pub given_on : (known : Option (List ℕ → List ℕ)) (unread old : Option (List ℕ)) (given count : ℕ) (text name rest copied buf : List ℕ) →
    Keeps old (left_by known unread (drop given text) name rest) → copied ≡ take count (drop given text) → length copied ≡ count →
    Consumes old (left_by known unread (drop (given + count) text) name rest) (take count (copied ++ drop count buf))
given_on known unread old given count text name rest copied buf kept is long =
    let bytes : take count (copied ++ drop count buf) ≡ take count (drop given text) = take_at copied (drop count buf) count long ∙ is in
    let behind : drop (given + count) text ≡ drop count (drop given text) = sym (drop-drop count given text) in
    rw (bytes, behind) (kept_taken old (left_by known unread (drop given text) name rest) _ _ kept
    (some_given known unread (drop given text) name rest count))

pub end_on : (known : Option (List ℕ → List ℕ)) (unread : Option (List ℕ)) (given count : ℕ) (text name rest : List ℕ) → count ≡ 0 →
    IsAtEnd (left_by known unread (drop given text) name rest) → IsAtEnd (left_by known unread (drop (given + count) text) name rest)
end_on known unread given count text name rest zero end =
    subst (λ n. IsAtEnd (left_by known unread (drop n text) name rest)) {x = given} {y = given + count} (omega arith) end
