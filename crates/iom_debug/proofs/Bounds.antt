-- Bounds of what is told.
use Rattle.std.proofs.Common.{◌≡◌, ◌∙◌, ◌<◌, ◌≤◌, ◌+◌, ◌-◌, ◌^◌, ◌++◌, ◌==◌, ℕ, zero, suc, Bool, true, false, List, [], ◌∷◌, Option, length, take, length-append, if◌then◌else◌, ap, sym, subst, arith}
use Rattle.std.specs.Prelude.{IfSome, slice_get}
use Rattle.std.specs.Int.Digits.{digits_of}
use Rattle.std.specs.List.{All, AllByRecursion}
use Rattle.std.proofs.lemmas.Grind.{common_steps}
use Rattle.std.proofs.lemmas.Int.Digits.{length-digits_of-le}
use Rattle.std.proofs.Math.Seq.{take-append-add}
use Rattle.std.proofs.lemmas.List.{take_all}
use Rattle.std.proofs.lemmas.List.Elements.{recursion_from_All}
use Rattle.iom_text.specs.Texts.{hexadecimal, numeral}
use Rattle.iom_items.specs.Lines.{operand}
use Rattle.iom_debug.specs.Stale.{changed}
use Rattle.iom_tables.specs.Bounds.{PartFits}
use Rattle.iom_tables.specs.declared.part.Part.{Part}
use Rattle.iom_regs.specs.Table.{Registers}
use Rattle.iom_regs.specs.Views.{queue_of}
use Rattle.iom_regs.specs.declared.views.Which.{Which}
use Rattle.iom_regs.specs.declared.views.Which.TheVariants.{Commands, Faults}

pub base_small : (r : Registers) (which : Which) → (queue_of r which).base < 2 ^ 44
base_small r Commands = omega arith
base_small r Faults = omega arith

-- what holds of all parts holds of the one at a place
at_place : (parts : List Part) (i : ℕ) → AllByRecursion PartFits parts → IfSome (slice_get parts i) PartFits
at_place [] i all = tt
at_place (part ∷ more) zero all = all.0
at_place (part ∷ more) (suc i) all = at_place more i all.1

pub part_fits : (parts : List Part) (i : ℕ) (found : Option Part) → found ≡ slice_get parts i → All PartFits parts → IfSome found PartFits
part_fits parts i found is all =
    subst (λ (p : Option Part). IfSome p PartFits) (sym is) (at_place parts i (recursion_from_All PartFits parts all))

-- a number below 256 has at most three digits
pub short_numeral : (n : ℕ) → n < 256 → length (numeral 10 n) ≤ 3
short_numeral zero small = omega arith
short_numeral (suc n) small =
    let few : length (digits_of 10 (suc n)) ≤ 3 = length-digits_of-le 10 3 (suc n) (omega arith) (omega (arith, small)) in
    grind (arith, common_steps, few)

-- one below 256 at most two in hex
short_hexadecimal : (n : ℕ) → n < 256 → length (hexadecimal n) ≤ 4
short_hexadecimal zero small = omega arith
short_hexadecimal (suc n) small =
    let few : length (digits_of 16 (suc n)) ≤ 2 = length-digits_of-le 16 2 (suc n) (omega arith) (omega (arith, small)) in
    grind (arith, common_steps, few)

-- an operand below 256 that may have changed
pub short_changed : (out key : List ℕ) (before now : ℕ) → now < 256 → length (out ++ changed before (key, now)) ≤ length out + length key + 6
short_changed out key before now small = by (before == now) where
  by : (b : Bool) → length (out ++ (if b then [] else operand key now)) ≤ length out + length key + 6
  by true = grind (arith, common_steps)
  by false = grind (arith, common_steps, short_hexadecimal now small)

-- a text is cut at the room that is left
pub cut_whole : (front text : List ℕ) (n : ℕ) → length front ≤ n → length text ≤ n - length front → front ++ text ≡ take n (front ++ text)
cut_whole front text n within less = sym (take_all n (front ++ text) (omega (arith, length-append front text)))

pub cut_part : (front text : List ℕ) (n : ℕ) → length front ≤ n → front ++ take (n - length front) text ≡ take n (front ++ text)
cut_part front text n within =
    let all : length front + (n - length front) ≡ n = omega arith in
    sym (take-append-add front text (n - length front)) ∙ ap (λ m. take m (front ++ text)) all
