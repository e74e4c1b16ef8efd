use Rattle.std.proofs.Common.{◌≡◌, ◌∙◌, ◌++◌, ℕ, List, [], ◌∷◌, length, refl, sym, ap, subst, arith}
use Rattle.iom_regs.specs.declared.vectors.MsiVector.{MsiVector}
use Rattle.iom_saved.specs.Registers.{AreVectors, table_words}
use Rattle.iom_saved.proofs.Taken.{four_of}
use Rattle.iom_saved.proofs.registers.take_table.Goals as goal

pub returns-in_err-first-clause-taken : goal.returns-in_err-first-clause-taken
returns-in_err-first-clause-taken c = λ table rest are room small.
    let f = four_of table room in
    let words = subst (λ table. c.args.words.now ≡ table_words table ++ rest) f.same are in
    let each = subst AreVectors f.same small in
    let counted = c.in_ok-next.ensures.taken _ _ words in
    absurd (c.in_err-first.ensures.taken f.first f.second _ counted.1 each.0 each.1.0)

pub returns-in_err-third-clause-taken : goal.returns-in_err-third-clause-taken
returns-in_err-third-clause-taken c = λ table rest are room small.
    let f = four_of table room in
    let words = subst (λ table. c.args.words.now ≡ table_words table ++ rest) f.same are in
    let each = subst AreVectors f.same small in
    let counted = c.in_ok-next.ensures.taken _ _ words in
    let one = c.in_ok-first.ensures.taken f.first f.second _ counted.1 each.0 each.1.0 in
    absurd (c.in_err-third.ensures.taken f.third f.fourth rest one.2 each.1.1.0 each.1.1.1.0)

pub returns-clause-taken : goal.returns-clause-taken
returns-clause-taken c = λ table rest are room small.
    let f = four_of table room in
    let words = subst (λ table. c.args.words.now ≡ table_words table ++ rest) f.same are in
    let each = subst AreVectors f.same small in
    let counted = c.in_ok-next.ensures.taken _ _ words in
    let one = c.in_ok-first.ensures.taken f.first f.second _ counted.1 each.0 each.1.0 in
    let other = c.in_ok-third.ensures.taken f.third f.fourth rest one.2 each.1.1.0 each.1.1.1.0 in
    (rw (one.0, one.1, other.0, other.1) (sym f.same), other.2)
