-- Texts that are kept.
use Rattle.std.proofs.Common.{◌≡◌, ℕ, List, Bool, true, false, Option, Some, None, refl, subst}
use Rattle.std.specs.Prelude.{IfSome, bytes_eq, cond, if◌then◌else◌}
use Rattle.std.specs.Global.{Vec}
use Rattle.std.specs.Option.{option_map}
use Rattle.std.specs.Cmp.Lexicographic.{bytes_decides}

-- a text more is kept, of a name of these bytes
pub one_more : (holds : List ℕ → List ℕ → Type 0) (bs cs text : List ℕ) (old new : Option (List ℕ)) → holds bs text → IfSome old (holds cs) →
    new ≡ (if bytes_eq bs cs then Some text else old) → IfSome new (holds cs)
one_more holds bs cs text old new so was is =
    rw is (elim (bytes_eq bs cs) as (λ b. (b ≡ true → bs ≡ cs) → IfSome (if b then Some text else old) (holds cs)) [
      | true ↦ λ same. subst (λ l. holds l text) (same refl) so
      | false ↦ λ same. was
    ] (bytes_decides bs cs).0)

pub none_kept : (holds : List ℕ → Type 0) (kept : Option (List ℕ)) → kept ≡ None → IfSome kept holds
none_kept holds kept is = rw is tt

pub is_kept : (holds : List ℕ → Type 0) (kept : Option (List ℕ)) (text : List ℕ) → Some text ≡ kept → IfSome kept holds → holds text
is_kept holds kept text is so = rw (← is) at so

-- as a map has it
pub bytes_of_more : (is : Bool) (vec : Vec ℕ) (old new : Option (Vec ℕ)) (text : List ℕ) → new ≡ cond is (Some vec) old → vec.items ≡ text →
    option_map (λ vec. vec.items) new ≡ (if is then Some text else option_map (λ vec. vec.items) old)
bytes_of_more true vec old new text is same = rw (is, same) refl
bytes_of_more false vec old new text is same = rw is refl
