-- Pieces that are put one behind the other.
use Rattle.std.proofs.Common.{◌≡◌, ◌++◌, ◌∙◌, ℕ, List, ap, append_assoc}

pub three : (out a b c : List ℕ) → ((out ++ a) ++ b) ++ c ≡ out ++ ((a ++ b) ++ c)
three out a b c = ap (λ l. l ++ c) (append_assoc out a b) ∙ append_assoc out (a ++ b) c
