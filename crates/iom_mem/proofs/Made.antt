-- A memory that is made of words.
use Rattle.std.proofs.Common.{◌≡◌, ◌+◌, ◌*◌, ◌%◌, ◌^◌, ◌<◌, ◌≤◌, ℕ, List, length, sym, subst}
use Rattle.iom_mem.specs.Lent.{memory_of}
use Rattle.iom_mem.specs.Sizes.{IsLegal}
use Rattle.iom_mem.specs.Words.{bytes_of_words}
use Rattle.iom_mem.proofs.WordBytes.{words_hold}

pub words_legal : (base : ℕ) (words : List ℕ) → base % 4096 ≡ 0 → 0 < 8 * length words → 8 * length words % 4096 ≡ 0 →
    8 * length words ≤ 2 ^ 26 → base + 8 * length words ≤ 2 ^ 56 → IsLegal (memory_of base words)
words_legal base words base_paged some size_paged size_bound end_bound =
    let own : length (bytes_of_words words) ≡ 8 * length words = words_hold words in
    record {
      base_paged = base_paged;
      some = subst (λ n. 0 < n) (sym own) some;
      size_paged = subst (λ n. n % 4096 ≡ 0) (sym own) size_paged;
      size_bound = subst (λ n. n ≤ 2 ^ 26) (sym own) size_bound;
      end_bound = subst (λ n. base + n ≤ 2 ^ 56) (sym own) end_bound;
    }
