-- Addresses of one page have one end.
use Rattle.std.proofs.Common.{◌≡◌, ◌+◌, ◌-◌, ◌*◌, ◌/◌, ◌%◌, ◌^◌, ℕ, zero, suc, Bool, Option, Some, None, refl, sym, ◌∙◌, ap, if◌then◌else◌}
use Rattle.std.proofs.lemmas.Nat.{pow-add}
use Rattle.std.proofs.Math.Nat.{div-div-eq-div-mul}
use Rattle.iom_bits.specs.Bits.{has_bit}
use Rattle.iom_bits.specs.declared.causes.Kind.{Kind}
use Rattle.iom_walk.specs.declared.rules.EntryRules.{EntryRules}
use Rattle.iom_walk.specs.declared.source.Got.{Got}
use Rattle.iom_walk.specs.declared.shape.Format.{Format}
use Rattle.iom_walk.specs.declared.shape.Shape.{Shape}
use Rattle.iom_walk.specs.declared.outcome.Outcome.TheVariants as outcome
use Rattle.iom_walk.specs.Shape.{index_of, index_width, is_in_width, levels, page_width}
use Rattle.iom_walk.specs.declared.entry.Verdict.{Verdict}
use Rattle.iom_walk.specs.declared.entry.Verdict.TheVariants as verdict
use Rattle.iom_walk.specs.Path.{MetEntry, entry_at, next_table, path_from, verdict_on}
use Rattle.iom_walk.specs.Outcome.{conclude, conclude_at, outcome_of, verdict_on_path}
use Rattle.iom_walk.specs.Pages.{OneEndAPage}

-- the bits of an address from bit 12 on are those of its page's number
bits_of_page : (addr k : ℕ) → addr / 2 ^ (12 + k) ≡ addr / 4096 / 2 ^ k
bits_of_page addr k = rw (pow-add 2 12 k) (sym (div-div-eq-div-mul addr 4096 (2 ^ k)))

same_bits : (a b k : ℕ) → a / 4096 ≡ b / 4096 → a / 2 ^ (12 + k) ≡ b / 2 ^ (12 + k)
same_bits a b k same = bits_of_page a k ∙ ap (λ n. n / 2 ^ k) same ∙ sym (bits_of_page b k)

pub same_index : (shape : Shape) (a b level : ℕ) → a / 4096 ≡ b / 4096 → index_of shape a level ≡ index_of shape b level
unfolding index_of
same_index shape a b level same = ap (λ n. n % 2 ^ index_width shape level) (same_bits a b (9 * level) same)

pub same_width : (shape : Shape) (a b : ℕ) → a / 4096 ≡ b / 4096 → is_in_width shape a ≡ is_in_width shape b
unfolding is_in_width has_bit
same_width shape a b same = rw (same_bits a b (page_width shape) same, same_bits a b (page_width shape - 1) same) refl

same_path : (at : ℕ → Got) (format : Format) (a b table count : ℕ) → a / 4096 ≡ b / 4096 →
    path_from at format a table count ≡ path_from at format b table count
unfolding path_from
same_path at format a b table zero same = refl
same_path at format a b table (suc count) same =
    rw (same_index format.shape a b count same, same_path at format a b (next_table (entry_at at format b table count)) count same) refl

same_leaf : (global : Bool) (a b : ℕ) (entry : MetEntry) (told : Verdict) → a / 4096 ≡ b / 4096 →
    conclude global a entry told ≡ conclude global b entry told
same_leaf global a b entry verdict.Outside same = refl
same_leaf global a b entry verdict.Guest same = refl
same_leaf global a b entry verdict.Fault same = refl
same_leaf global a b entry (verdict.Pointer word) same = refl
same_leaf global a b entry (verdict.Leaf word) same = rw same refl

pub same_conclusion : (rules : EntryRules) (kind : Kind) (global : Bool) (a b : ℕ) (entry : Option MetEntry) → a / 4096 ≡ b / 4096 →
    conclude_at rules kind global a entry ≡ conclude_at rules kind global b entry
same_conclusion rules kind global a b None same = refl
same_conclusion rules kind global a b (Some entry) same = same_leaf global a b entry (verdict_on rules kind entry) same

pub one_end : OneEndAPage
unfolding outcome_of verdict_on_path
one_end at format root a b kind same =
    rw (same_width format.shape a b same, same_path at format a b root (levels format.shape) same)
    (ap (λ end. if is_in_width format.shape b then end else outcome.Fault) (same_conclusion format.rules kind _ a b _ same))
