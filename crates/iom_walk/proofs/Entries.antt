-- What the table of entries says of pointers and leaves.
use Rattle.std.proofs.Common.{◌≡◌, ◌≢◌, ◌||◌, ℕ, Bool, true, false, List, [], ◌∷◌, Some, refl, arith}
use Rattle.std.specs.Prelude.{if◌then◌else◌}
use Rattle.std.specs.List.{find, list_any}
use Rattle.std.proofs.lemmas.Grind.{common_steps}
use Rattle.iom_bits.specs.declared.causes.Kind.{Kind}
use Rattle.iom_bits.specs.declared.causes.Kind.TheVariants.{Read, Write}
use Rattle.iom_bits.specs.Features.{Features}
use Rattle.iom_walk.specs.declared.rules.EntryRules.{EntryRules}
use Rattle.iom_walk.specs.declared.entry.Ruling.{Ruling}
use Rattle.iom_walk.specs.declared.source.Got.{Got}
use Rattle.iom_walk.specs.declared.entry.Verdict.{Verdict}
use Rattle.iom_walk.specs.declared.entry.Verdict.TheVariants as verdict
use Rattle.iom_bits.specs.Bits.{field_of, has_bit}
use Rattle.iom_walk.specs.Verdict.{consequence, is_reserved, ruling_of, verdict_of, is_pointer, word_of}

-- being a pointer doesn't depend on the access
pub pointer_for_each : (rules : EntryRules) (kind : Kind) (level : ℕ) (got : Got) →
    is_pointer (verdict_of rules Read level got) ≡ is_pointer (verdict_of rules kind level got)
unfolding verdict_of ruling_of
pointer_for_each rules Read level got = refl
pointer_for_each rules Write level got = grind (arith, common_steps)

-- a pointer and a leaf are told with their own words
said_word : (ruling : Ruling) (read word : ℕ) → verdict.Pointer word ≡ consequence ruling read → word ≡ read
said_word ruling read word told = grind (arith, common_steps)

leaf_said : (ruling : Ruling) (read word : ℕ) → verdict.Leaf word ≡ consequence ruling read → word ≡ read
leaf_said ruling read word told = grind (arith, common_steps)

pub pointer_word : (rules : EntryRules) (kind : Kind) (level word : ℕ) (got : Got) → verdict.Pointer word ≡ verdict_of rules kind level got → word ≡ word_of got
unfolding verdict_of
pointer_word rules kind level word got told = said_word (ruling_of rules kind level got) (word_of got) word told

pub leaf_word : (rules : EntryRules) (kind : Kind) (level word : ℕ) (got : Got) → verdict.Leaf word ≡ verdict_of rules kind level got → word ≡ word_of got
unfolding verdict_of
leaf_word rules kind level word got told = leaf_said (ruling_of rules kind level got) (word_of got) word told

-- where bits 63:54 are 0, none of them is set
pub none_reserved : (features : Features) (level word : ℕ) → field_of word 54 10 ≡ 0 → is_reserved features level word ≡ false
unfolding is_reserved has_bit
none_reserved features level word none =
    let low : field_of word 54 7 ≡ 0 = omega (arith, none) in
    let type : field_of word 61 2 ≡ 0 = omega (arith, none) in
    let n : field_of word 63 1 ≡ 0 = omega (arith, none) in
    rw (low, type, n) refl

-- the first that passes one test is among those that another tries
pub found_any : {X : Type 0} (p q : X → Bool) (xs : List X) (x : X) → find p xs ≡ Some x → (list_any q xs || q x) ≡ list_any q xs
found_any p q [] x found = absurd (cc)
found_any p q (y ∷ more) x found = elim (p y) as (λ b. (if b then Some y else find p more) ≡ Some x → ((q y || list_any q more) || q x) ≡ (q y || list_any q more)) [
  | true ↦ λ same. let is : y ≡ x = cc in rw is (grind arith)
  | false ↦ λ later. let inside : (list_any q more || q x) ≡ list_any q more = found_any p q more x later in grind arith
] found

-- what isn't told to be a pointer is none
pub no_pointer : (told said : Verdict) → told ≡ said → ((word : ℕ) → told ≢ verdict.Pointer word) → is_pointer said ≡ false
no_pointer told verdict.Outside same other = refl
no_pointer told verdict.Guest same other = refl
no_pointer told verdict.Fault same other = refl
no_pointer told (verdict.Pointer word) same other = absurd (other word same)
no_pointer told (verdict.Leaf word) same other = refl
