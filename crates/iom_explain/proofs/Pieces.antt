-- A text that is put together piece by piece.
use Rattle.std.proofs.Common.{◌≡◌, ◌∙◌, ◌+◌, ◌<◌, ◌++◌, ℕ, List, length, drop, get_or, ap, sym, append_assoc}
use Rattle.std.specs.List.{flat_map}
use Rattle.std.proofs.lemmas.List.{drop_more}

pub two : (a b c s t : List ℕ) → s ≡ a ++ b → t ≡ s ++ c → t ≡ a ++ (b ++ c)
two a b c s t first second = second ∙ ap (λ l. l ++ c) first ∙ append_assoc a b c

pub three : (a b c d s t u : List ℕ) → s ≡ a ++ b → t ≡ s ++ c → u ≡ t ++ d → u ≡ a ++ ((b ++ c) ++ d)
three a b c d s t u first second third = two a (b ++ c) d t u (two a b c s t first second) third

pub five : (a b c d e f s t u v w : List ℕ) → s ≡ a ++ b → t ≡ s ++ c → u ≡ t ++ d → v ≡ u ++ e → w ≡ v ++ f →
    w ≡ a ++ ((((b ++ c) ++ d) ++ e) ++ f)
five a b c d e f s t u v w first second third fourth fifth =
    two a (((b ++ c) ++ d) ++ e) f v w (two a ((b ++ c) ++ d) e u v (three a b c d s t u first second third) fourth) fifth

-- of texts one after the other, one more
pub one_done : {X : Type 0} (f : X → List ℕ) (xs : List X) (i : ℕ) (d : X) (said : List ℕ) → i < length xs →
    said ++ flat_map f (drop i xs) ≡ flat_map f xs → (said ++ f (get_or xs i d)) ++ flat_map f (drop (i + 1) xs) ≡ flat_map f xs
one_done f xs i d said inside so_far =
    append_assoc said (f (get_or xs i d)) (flat_map f (drop (i + 1) xs))
    ∙ ap (λ l. said ++ flat_map f l) (sym (drop_more xs i d inside)) ∙ so_far
