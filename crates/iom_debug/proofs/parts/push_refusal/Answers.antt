use Rattle.std.proofs.Common.{◌≡◌, ◌++◌, ℕ, List, refl, append_assoc}
use Rattle.std.specs.Prelude.{codes}
use Rattle.iom_text.specs.Texts.{numeral}
use Rattle.iom_debug.specs.Walks.{refusal_text, word_text}
use Rattle.iom_debug.proofs.parts.push_refusal.Goals as goal

joined : (front a b c d e : List ℕ) → front ++ a ++ b ++ c ++ d ++ e ≡ front ++ (a ++ b ++ c ++ d ++ e)
joined front a b c d e = simp append_assoc refl

pub returns-in-Reserved-clause-text : goal.returns-in-Reserved-clause-text
unfolding refusal_text
returns-in-Reserved-clause-text c =
    rw (c.append-in-Reserved-2.ensures, c.push_bits.ensures.text, c.append-in-Reserved.ensures, c.word_text.ensures.text, c.in-Reserved.is)
    (joined c.args.out.now (codes " reserved bits ") (numeral 10 c.in-Reserved.high) (codes ":") (numeral 10 c.in-Reserved.low)
    (word_text c.in-Reserved.which))

pub returns-in-Misaligned-clause-text : goal.returns-in-Misaligned-clause-text
unfolding refusal_text
returns-in-Misaligned-clause-text c = rw c.in-Misaligned.is c.append-in-Misaligned.ensures
