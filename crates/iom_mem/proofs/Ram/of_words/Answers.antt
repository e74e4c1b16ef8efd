use Rattle.std.proofs.Common.{◌≡◌, ◌+◌, ◌*◌, ◌%◌, ◌^◌, ◌<◌, ◌≤◌, length, arith}
use Rattle.std.proofs.lemmas.Grind.{common_steps}
use Rattle.iom_mem.proofs.Made.{words_legal}
use Rattle.iom_mem.proofs.Ram.of_words.Goals as goal

pub invariant_of-result : goal.invariant_of-result
invariant_of-result c =
    let base = c.args.base in
    let size = 8 * length c.args.words.now in
    let items : c.in_ok-words.words.items ≡ c.args.words.now = grind (arith, common_steps) in
    let paged : base % 4096 ≡ 0 = grind (arith, common_steps) in
    let some : 0 < size = grind (arith, common_steps) in
    let whole : size % 4096 ≡ 0 = grind (arith, common_steps) in
    let most : size ≤ 2 ^ 26 = grind (arith, common_steps) in
    let within : base + size ≤ 2 ^ 56 = grind (arith, common_steps) in
    rw items (words_legal base c.args.words.now paged some whole most within)
