use Rattle.std.proofs.Common.{◌≡◌, ◌+◌, ◌*◌, ◌≤◌, ℕ, List, length, subst, Some, arith}
use Rattle.iom_mem.specs.Lent.{memory_of}
use Rattle.iom_mem.specs.Memory.{words_at}
use Rattle.iom_mem.specs.Words.{AreWords}
use Rattle.iom_mem.proofs.Several.{words_at_inside, words_at_outside}
use Rattle.iom_mem.proofs.placed.words.Goals as goal

pub returns-clause-read : goal.returns-clause-read
returns-clause-read c =
    let memory = memory_of c.args.base c.args.words.now in
    let out : List ℕ = c.read_words.new.out in
    let at : ℕ = c.in-Some.at in
    let size : length out ≡ length c.args.out.now = c.read_words.ensures.length in
    let room : at + 8 * length out ≤ length memory.bytes = omega (arith, size, c.in-Some.ensures.place.1) in
    let each : AreWords out memory.bytes at (length out) = λ i h. c.read_words.ensures.read i (omega (arith, size)) in
    subst (λ n. words_at memory c.args.addr n ≡ Some out) size (words_at_inside memory c.args.addr at out c.in-Some.ensures.place.0 room each)

pub returns-in_default-clause-outside : goal.returns-in_default-clause-outside
returns-in_default-clause-outside c =
    words_at_outside (memory_of c.args.base c.args.words.now) c.args.addr (length c.args.out.now) c.is_empty.result c.is_empty.ensures c.in_default.ensures.beyond
