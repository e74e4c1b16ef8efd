-- The path of a device id while some levels of the directory are still to come.
use Rattle.std.proofs.Common.{◌≡◌, ◌-◌, ◌≤◌, ℕ, zero, suc, List, [], ◌∷◌, Option, Some, Result, Ok, Err, refl, sym, ◌∙◌, ap, subst, arith}
use Rattle.std.specs.List.{fold}
use Rattle.iom_bits.specs.declared.causes.Cause.{Cause}
use Rattle.iom_bits.specs.Features.{Features}
use Rattle.iom_mem.specs.Memory.{Memory, word}
use Rattle.iom_ddt.specs.declared.context.Context.{Context}
use Rattle.iom_ddt.specs.declared.met.Met.{Met}
use Rattle.iom_ddt.specs.declared.met.Met.TheVariants.{Entry, Leaf}
use Rattle.iom_ddt.specs.Directory.{behind, decided_by, entry_place, leaf_place, IsContextOf, IsEnd, path_from, pointed_by, verdict_on}
use Rattle.iom_ddt.specs.Formats.{words_in}
use Rattle.iom_ddt.specs.declared.formats.ContextFormat.{ContextFormat}

-- what is met from a table on: an entry, and what is behind it; or the context
first_is : (format : ContextFormat) (memory : Memory) (did table depth place : ℕ) (entry : Option ℕ) → 1 ≤ depth → place ≡ entry_place format did depth table → entry ≡ word memory place →
    Entry place entry ∷ behind (pointed_by entry) (path_from format memory did (depth - 1)) ≡ path_from format memory did depth table
first_is format memory did table zero place entry some there read = absurd (omega (arith, some))
first_is format memory did table (suc depth) place entry some there read =
    let one_less : suc depth - 1 ≡ depth = omega arith in
    rw (one_less, read, there) refl

last_is : (format : ContextFormat) (memory : Memory) (did table depth place : ℕ) (words : Option (List ℕ)) → depth ≡ 0 → place ≡ leaf_place format did table →
    words ≡ words_in format memory place → Leaf place words ∷ [] ≡ path_from format memory did depth table
last_is format memory did table depth place words last there read = rw (last, read, there) refl

-- what the first that is met does to the verdict, and to the end
pub verdict_behind : (features : Features) (place to : ℕ) (entry : Option ℕ) (from : ℕ → List Met) → pointed_by entry ≡ Ok to →
    verdict_on features (from to) ≡ verdict_on features (Entry place entry ∷ behind (pointed_by entry) from)
unfolding verdict_on
verdict_behind features place to entry from is = rw is refl

end_behind : (features : Features) (format : ContextFormat) (memory : Memory) (did level to place : ℕ) (entry : Option ℕ) (found : Result Context Cause) →
    IsEnd features (path_from format memory did level to) found → IsEnd features (Entry place entry ∷ path_from format memory did level to) found
end_behind features format memory did zero to place entry found end = end
end_behind features format memory did (suc level) to place entry found end = end

pub fault_first : (features : Features) (place : ℕ) (entry : Option ℕ) (cause : Cause) (more : List Met) → pointed_by entry ≡ Err cause →
    Err cause ≡ verdict_on features (Entry place entry ∷ more)
unfolding verdict_on
fault_first features place entry cause more is = rw is refl

context_first : (features : Features) (place : ℕ) (words : Option (List ℕ)) (result : Result Context Cause) →
    decided_by features (Leaf place words) ≡ Some result → result ≡ verdict_on features (Leaf place words ∷ [])
unfolding verdict_on
context_first features place words result is = rw is refl

-- what is left of a path comes to what the whole path comes to: by its verdict, its end, and the notes
pub record IsLeft {S : Type 0} (next : S → Met → S) (features : Features) (start : S) (whole : List Met) (notes : S) (rest : List Met) : Type 0 where
  pub verdict : verdict_on features rest ≡ verdict_on features whole
  pub end : (found : Result Context Cause) → IsEnd features rest found → IsEnd features whole found
  pub noted : fold next notes rest ≡ fold next start whole

-- this is what the whole path comes to
pub record IsFound {S : Type 0} (next : S → Met → S) (features : Features) (start : S) (whole : List Met) (notes : S) (found : Result Context Cause) : Type 0 where
  pub verdict : found ≡ verdict_on features whole
  pub end : IsEnd features whole found
  pub noted : notes ≡ fold next start whole

module _ {S : Type 0} (next : S → Met → S) (features : Features) (format : ContextFormat) (memory : Memory) (did : ℕ) (start notes after : S) (whole : List Met)
    (table depth place : ℕ) (left : IsLeft next features start whole notes (path_from format memory did depth table)) where
  -- a turn that goes on
  pub goes_on : (entry : Option ℕ) (to : ℕ) → 1 ≤ depth → place ≡ entry_place format did depth table → entry ≡ word memory place → pointed_by entry ≡ Ok to →
      after ≡ next notes (Entry place entry) → IsLeft next features start whole after (path_from format memory did (depth - 1) to)
  goes_on entry to some there read is put =
      let from : ℕ → List Met = path_from format memory did (depth - 1) in
      let path : Entry place entry ∷ behind (pointed_by entry) from ≡ path_from format memory did depth table = first_is format memory did table depth place entry some there read in
      let same : Entry place entry ∷ from to ≡ path_from format memory did depth table =
      ap (λ (r : Result ℕ Cause). Entry place entry ∷ behind r from) (sym is) ∙ path in
      record {
        verdict = verdict_behind features place to entry from is ∙ ap (verdict_on features) path ∙ left.verdict;
        end = λ found end.
            left.end found (subst (λ (p : List Met). IsEnd features p found) same (end_behind features format memory did (depth - 1) to place entry found end));
        noted = ap (λ s. fold next s (from to)) put ∙ ap (fold next notes) same ∙ left.noted;
      }

  -- a fault
  pub stops : (entry : Option ℕ) (cause : Cause) → 1 ≤ depth → place ≡ entry_place format did depth table → entry ≡ word memory place → pointed_by entry ≡ Err cause →
      after ≡ next notes (Entry place entry) → IsFound next features start whole after (Err cause)
  stops entry cause some there read is put =
      let path : Entry place entry ∷ [] ≡ path_from format memory did depth table =
      ap (λ (r : Result ℕ Cause). Entry place entry ∷ behind r (path_from format memory did (depth - 1))) (sym is) ∙ first_is format memory did table depth place entry some there read in
      record {
        verdict = fault_first features place entry cause [] is ∙ ap (verdict_on features) path ∙ left.verdict;
        end = left.end (Err cause) (subst (λ (p : List Met). IsEnd features p (Err cause)) path (cause, is, refl));
        noted = put ∙ ap (fold next notes) path ∙ left.noted;
      }

  -- the context
  pub ends : (words : Option (List ℕ)) (given : Features) (result : Result Context Cause) → depth ≡ 0 → place ≡ leaf_place format did table →
      words ≡ words_in format memory place → given ≡ features → ((place : ℕ) → decided_by given (Leaf place words) ≡ Some result) →
      IsContextOf given words result → after ≡ next notes (Leaf place words) → IsFound next features start whole after result
  ends words given result last there read same decided meant put =
      let path : Leaf place words ∷ [] ≡ path_from format memory did depth table = last_is format memory did table depth place words last there read in
      record {
        verdict = context_first features place words result (ap (λ (f : Features). decided_by f (Leaf place words)) (sym same) ∙ decided place)
            ∙ ap (verdict_on features) path ∙ left.verdict;
        end = left.end result (subst (λ (p : List Met). IsEnd features p result) path (subst (λ (f : Features). IsContextOf f words result) same meant));
        noted = put ∙ ap (fold next notes) path ∙ left.noted;
      }
