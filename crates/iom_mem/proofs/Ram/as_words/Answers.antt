use Rattle.std.proofs.Common.{◌≡◌, ◌+◌, ◌*◌, ◌/◌, ℕ, List, length, take, drop, Some, ap, subst, sym, ◌∙◌, arith}
use Rattle.iom_bits.specs.Bytes.{number_of_bytes}
use Rattle.iom_mem.specs.Memory.{words_at}
use Rattle.iom_mem.specs.Words.{bytes_of_words, AreWords}
use Rattle.iom_mem.proofs.Several.{words_at_inside}
use Rattle.iom_mem.proofs.WordBytes.{words_hold}
use Rattle.iom_mem.proofs.Ram.as_words.Goals as goal

pub returns-clause-bytes : goal.returns-clause-bytes
returns-clause-bytes c =
    ap bytes_of_words c.all_words.ensures.all ∙ ap bytes_of_words c.deref.ensures.value ∙ ap (λ m. m.bytes) c.self.view_is

pub returns-clause-read : goal.returns-clause-read
returns-clause-read c =
    let memory = c.args.self.now in
    let words : List ℕ = c.all_words.result.now in
    let same : words ≡ c.deref.result.now = c.all_words.ensures.all in
    let bytes : bytes_of_words c.deref.result.now ≡ memory.bytes = ap bytes_of_words c.deref.ensures.value ∙ ap (λ m. m.bytes) c.self.view_is in
    let size : length memory.bytes ≡ 8 * length words =
    ap length (sym bytes) ∙ words_hold c.deref.result.now ∙ ap (λ ws. 8 * length ws) (sym same) in
    let count : length words ≡ length memory.bytes / 8 = omega (arith, size) in
    let start : memory.base + 0 ≡ memory.base = omega arith in
    let number : length words ≡ length c.deref.result.now = ap length same in
    let each : AreWords words memory.bytes 0 (length words) =
    λ i h. c.all_words.ensures.read i (omega (arith, number)) ∙ ap (λ bs. number_of_bytes (take 8 (drop (0 + 8 * i) bs))) bytes in
    subst (λ n. words_at memory memory.base n ≡ Some words) count (words_at_inside memory memory.base 0 words start (omega (arith, size)) each)
