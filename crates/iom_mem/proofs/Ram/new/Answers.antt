use Rattle.std.proofs.Common.{◌≡◌, ◌/◌, ◌%◌, ℕ, List, ◌∙◌, ap, subst, sym, replicate, arith}
use Rattle.std.proofs.lemmas.Grind.{common_steps}
use Rattle.iom_mem.specs.Memory.{Memory}
use Rattle.iom_mem.specs.Sizes.{IsLegal}
use Rattle.iom_mem.specs.Words.{bytes_of_words}
use Rattle.iom_mem.proofs.WordBytes.{zeros_hold}
use Rattle.iom_mem.proofs.Putting.{zeroed_legal}
use Rattle.iom_mem.proofs.Ram.new.Goals as goal

pub returns-clause-made : goal.returns-clause-made
returns-clause-made c =
    let items : c.resize.new.self.items ≡ replicate (c.args.size / 8) 0 = grind (arith, common_steps) in
    let paged : c.args.size % 4096 ≡ 0 = grind arith in
    let bytes : bytes_of_words c.resize.new.self.items ≡ replicate c.args.size 0 = ap bytes_of_words items ∙ zeros_hold c.args.size paged in
    ap (λ (bs : List ℕ). let m : Memory = record { base = c.args.base; bytes = bs } in m) bytes

pub invariant_of-result : goal.invariant_of-result
invariant_of-result c =
    subst (λ m. IsLegal m) (sym (returns-clause-made c)) (zeroed_legal c.args.base c.args.size (grind arith) (grind arith) (grind arith) (grind arith) (grind arith))
