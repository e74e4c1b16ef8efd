-- What stands for a line, one depth after the other.
use Rattle.std.proofs.Common.{◌≡◌, ◌<◌, ◌-◌, ◌++◌, ℕ, zero, suc, List, [], ◌∷◌, Some, None, refl, arith}
use Rattle.std.specs.List.{flat_map}
use Rattle.iom_reader.specs.Lines.{lines_of}
use Rattle.iom_include.specs.Including.{comment_of, file_of, name_at, said}

pub plain_said : (texts : List ℕ → List ℕ) (depth : ℕ) (from line : List ℕ) → None ≡ file_of line → said texts depth from line ≡ line ++ 10 ∷ []
unfolding said
plain_said texts zero from line none = refl
plain_said texts (suc depth) from line none = rw (← none) refl

pub text_said : (texts : List ℕ → List ℕ) (depth : ℕ) (from line file : List ℕ) → Some file ≡ file_of line → 0 < depth →
    said texts depth from line
    ≡ flat_map (said texts (depth - 1) (name_at from file)) (lines_of (texts (name_at from file))) ++ (comment_of line ++ 10 ∷ [])
unfolding said
text_said texts zero from line file is deep = absurd (omega arith)
text_said texts (suc depth) from line file is deep =
    let less : suc depth - 1 ≡ depth = omega arith in
    rw (← is, less) refl
