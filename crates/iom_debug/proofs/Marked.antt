-- Marks, the newest first.
use Rattle.std.proofs.Common.{◌≡◌, ◌∙◌, ◌++◌, ℕ, true, false, List, [], ◌∷◌, reverse, length, nat_le, Some, None, ap, sym, if◌then◌else◌}
use Rattle.std.proofs.lemmas.List.{nil_from_length, reverse-append}
use Rattle.iom_debug.specs.Marks.{MarkView, mark_for}

pub last_first : {X : Type 0} (xs : List X) (x : X) → reverse (xs ++ x ∷ []) ≡ x ∷ reverse xs
last_first xs x = reverse-append xs (x ∷ [])

mark_last : (older : List MarkView) (newest : MarkView) (number : ℕ) →
    mark_for (reverse (older ++ newest ∷ [])) number ≡ (if nat_le newest.first number then Some newest else mark_for (reverse older) number)
unfolding mark_for
mark_last older newest number = ap (λ marks. mark_for marks number) (last_first older newest)

split_at : (older : List MarkView) (newest : MarkView) (number : ℕ) (rest all : List MarkView) → rest ≡ older ++ newest ∷ [] →
    mark_for (reverse rest) number ≡ mark_for (reverse all) number →
    (if nat_le newest.first number then Some newest else mark_for (reverse older) number) ≡ mark_for (reverse all) number
split_at older newest number rest all split same =
    sym (mark_last older newest number) ∙ ap (λ marks. mark_for (reverse marks) number) (sym split) ∙ same

pub newest_is : (older : List MarkView) (newest : MarkView) (number : ℕ) (rest all : List MarkView) → rest ≡ older ++ newest ∷ [] →
    nat_le newest.first number ≡ true → mark_for (reverse rest) number ≡ mark_for (reverse all) number →
    Some newest ≡ mark_for (reverse all) number
newest_is older newest number rest all split at same =
    ap (λ b. if b then Some newest else mark_for (reverse older) number) (sym at) ∙ split_at older newest number rest all split same

pub kept_before : (older : List MarkView) (newest : MarkView) (number : ℕ) (rest all : List MarkView) → rest ≡ older ++ newest ∷ [] →
    nat_le newest.first number ≡ false → mark_for (reverse rest) number ≡ mark_for (reverse all) number →
    mark_for (reverse older) number ≡ mark_for (reverse all) number
kept_before older newest number rest all split past same =
    ap (λ b. if b then Some newest else mark_for (reverse older) number) (sym past) ∙ split_at older newest number rest all split same

pub none_marked : (number : ℕ) (rest all : List MarkView) → length rest ≡ 0 → mark_for (reverse rest) number ≡ mark_for (reverse all) number →
    None ≡ mark_for (reverse all) number
unfolding mark_for
none_marked number rest all none same = ap (λ marks. mark_for (reverse marks) number) (sym (nil_from_length rest none)) ∙ same
