use Rattle.std.proofs.Common.{◌≡◌, ◌+◌, ◌-◌, ℕ, List, length, subst, ◌∙◌, add-zero, arith}
use Rattle.std.proofs.lemmas.List.Edits.{length-paste}
use Rattle.std.proofs.Math.Seq.{paste}
use Rattle.iom_bits.specs.Bytes.{bytes_of_number}
use Rattle.iom_mem.specs.Words.{bytes_of_words, StartsWith}
use Rattle.iom_mem.proofs.Digits.{length-bytes_of_number}
use Rattle.iom_mem.proofs.WordBytes.{words_hold}
use Rattle.iom_mem.proofs.Pasting.{more_read, all_read}
use Rattle.iom_mem.proofs.word_bytes.read_from.Goals as goal

pub returns-else-len-gt16 : goal.returns-else-len-gt16
returns-else-len-gt16 c =
    let at : ℕ = c.args.at in
    let bytes : List ℕ = bytes_of_words c.args.words.now in
    let out : List ℕ = c.args.out.now in
    let count : ℕ = length out in
    let low : ℕ = c.word_at.result in
    let high : ℕ = c.word_at-else-len-gt16.result in
    let low_size : length (bytes_of_number 8 low) ≡ 8 = length-bytes_of_number 8 low in
    let high_size : length (bytes_of_number 8 high) ≡ 8 = length-bytes_of_number 8 high in
    let once : List ℕ = paste out 0 (bytes_of_number 8 low) 8 in
    let twice : List ℕ = paste once (count - 8) (bytes_of_number 8 high) 8 in
    let first : StartsWith once bytes at 8 =
    more_read out bytes at 0 0 low (λ k h. absurd (omega arith)) (omega arith) (omega arith) low_size (rw add-zero c.word_at.ensures.bytes) in
    let once_size : length once ≡ count = length-paste out 0 (bytes_of_number 8 low) 8 c.requires.some (omega (arith, low_size)) in
    let more : StartsWith twice bytes at (count - 8 + 8) =
    more_read once bytes at (count - 8) 8 high first (omega arith) (omega (arith, once_size)) high_size c.word_at-else-len-gt16.ensures.bytes in
    let twice_size : length twice ≡ count =
    length-paste once (count - 8) (bytes_of_number 8 high) 8 (omega (arith, once_size)) (omega (arith, high_size)) ∙ once_size in
    let end : count - 8 + 8 ≡ count = omega arith in
    rw (c.put_word-else-len-gt16.ensures, c.put_word.ensures) (all_read twice bytes at count twice_size
    (omega (arith, c.requires.within, words_hold c.args.words.now)) (subst (StartsWith twice bytes at) end more))
