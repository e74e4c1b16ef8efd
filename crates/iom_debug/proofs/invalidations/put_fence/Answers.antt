use Rattle.std.proofs.Common.{◌≡◌, ◌∙◌, ◌++◌, ℕ, List, ap, append_assoc, sym}
use Rattle.iom_debug.proofs.invalidations.put_fence.Goals as goal

three : (out before name behind one two end : List ℕ) → one ≡ out ++ before → two ≡ one ++ name → end ≡ two ++ behind → end ≡ out ++ ((before ++ name) ++ behind)
three out before name behind one two end first second third =
    third ∙ ap (λ (xs : List ℕ). xs ++ behind) second ∙ ap (λ (xs : List ℕ). (xs ++ name) ++ behind) first
    ∙ append_assoc (out ++ before) name behind ∙ append_assoc out before (name ++ behind)
    ∙ ap (λ (xs : List ℕ). out ++ xs) (sym (append_assoc before name behind))

pub returns-in-Some-clause-text : goal.returns-in-Some-clause-text
returns-in-Some-clause-text c =
    rw c.in-Some.is (three _ _ _ _ _ _ _ c.put.ensures.text c.put_name.ensures.text c.put-in-Some.ensures.text)
