-- The words of a handle that was saved are taken.
use Rattle.std.proofs.Common.{◌≡◌, ◌≤◌, ◌*◌, ◌/◌, ◌%◌, ◌^◌, ◌<◌, ◌++◌, ◌∙◌, ℕ, suc, true, None, List, ◌∷◌, length, get_or, drop, refl, sym, ap, arith}
use Rattle.std.specs.Prelude.{◌==◌, IsTrue, nat_lt, not}
use Rattle.iom_mem.proofs.WordBytes.{words_hold}
use Rattle.iom_mem.specs.Lent.{is_lendable}
use Rattle.iom_mem.specs.Memory.{Memory}
use Rattle.iom_mem.specs.Words.{bytes_of_words}
use Rattle.iom_core.specs.State.{Board}
use Rattle.iom_saved.specs.Boards.{board_words}
use Rattle.iom_saved.specs.Bytes.{memory_words, words_in}
use Rattle.iom_saved.specs.Check.{check_of}
use Rattle.iom_saved.specs.Kept.{IsBoard, IsMemory}
use Rattle.iom_saved.proofs.Bytes.{words_back}
use Rattle.iom_c.specs.Handles.{board_of}
use Rattle.iom_c.specs.Lending.{Lending}
use Rattle.iom_c.specs.Saves.{HasMemory, head_refusal, held_words, IsSavedAs, owned_words, save_magic, save_version, saved_words, word_in}
use Rattle.iom_c.specs.declared.held.Held.{Held}
use Rattle.iom_c.specs.declared.held.Held.TheVariants as held
use Rattle.iom_c.specs.declared.owned.Owned.{Owned}
use Rattle.iom_c.proofs.Saves.{words_saved}

-- what follows the first word of a platform: 0 stands in front of memory of its own
pub own_next : {P : Type 0} (held : Held) (words left rest : List ℕ) (first : ℕ) → words ≡ first ∷ left → first ≡ 0 → words ≡ held_words held ++ rest →
    HasMemory held → IsBoard (board_of held) →
    ((m : Memory) (b : Board) → left ≡ (memory_words m ++ board_words b) ++ rest → IsMemory m → IsBoard b → P) → P
own_next (held.Own platform) words left rest first begin is are memory board found =
    found platform.machine.memory (board_of (held.Own platform)) (ap (λ (l : List ℕ). drop 1 l) (sym begin ∙ are)) memory board
own_next (held.Lent lent) words left rest first begin is are memory board found =
    absurd (omega (arith, is, ap (λ (l : List ℕ). get_or l 0 0) (sym begin ∙ are)))

-- 1 stands in front of the place of memory that is lent
pub lent_next : {P : Type 0} (held : Held) (words left rest : List ℕ) (first : ℕ) → words ≡ first ∷ left → first ≡ 1 → words ≡ held_words held ++ rest →
    HasMemory held → IsBoard (board_of held) →
    ((lent : Lending) → left ≡ lent.base ∷ lent.count ∷ (board_words lent.board ++ rest) → IsTrue (is_lendable lent.base (8 * lent.count)) →
    IsBoard lent.board → P) → P
lent_next (held.Lent lent) words left rest first begin is are memory board found =
    found lent (ap (λ (l : List ℕ). drop 1 l) (sym begin ∙ are)) memory board
lent_next (held.Own platform) words left rest first begin is are memory board found =
    absurd (omega (arith, is, ap (λ (l : List ℕ). get_or l 0 0) (sym begin ∙ are)))

-- and no other word
pub record Begins (words : List ℕ) : Type 0 where
  pub first : ℕ
  pub left : List ℕ
  pub are : words ≡ first ∷ left
  pub one : first ≤ 1

pub begins : (held : Held) (words rest : List ℕ) → words ≡ held_words held ++ rest → Begins words
begins (held.Own platform) words rest are = record { first = 0; left = _; are = are; one = omega arith }
begins (held.Lent lent) words rest are = record { first = 1; left = _; are = are; one = omega arith }

-- the words that bytes are as which a handle was saved
pub words_again : (own : Owned) (bytes words : List ℕ) → IsSavedAs own bytes → bytes ≡ bytes_of_words words →
    ((i : ℕ) → get_or words i 0 < 2 ^ 64) → words ≡ saved_words own
words_again own bytes words is are small =
    let size : length bytes ≡ 8 * length words = ap length are ∙ words_hold words in
    let count : length words ≡ length bytes / 8 = omega (arith, size) in
    sym (words_back words small) ∙ ap (λ (l : List ℕ). words_in (length words) l) (sym are) ∙ ap (λ (n : ℕ). words_in n bytes) count
    ∙ words_saved own bytes is

-- they are whole words, and begin as they should
pub whole_saved : (own : Owned) (bytes : List ℕ) → IsSavedAs own bytes → length bytes ≡ 8 * length (saved_words own)
whole_saved own bytes is = ap length is.are ∙ words_hold (saved_words own)

head_of : (bytes words : List ℕ) (check : ℕ) → length bytes ≡ 8 * suc (suc (suc (length words))) →
    words_in (suc (suc (suc (length words)))) bytes ≡ save_magic ∷ save_version ∷ check ∷ words → head_refusal bytes ≡ None
unfolding words_in
head_of bytes words check size are =
    let magic : word_in bytes 0 ≡ save_magic = ap (λ (l : List ℕ). get_or l 0 0) are in
    let version : word_in bytes 1 ≡ save_version = ap (λ (l : List ℕ). get_or l 1 0) are in
    let whole : (length bytes % 8 == 0) ≡ true = grind (arith, size) in
    let long : not (nat_lt (length bytes) 16) ≡ true = grind (arith, size) in
    rw (whole, long, magic, version) refl

pub head_saved : (own : Owned) (bytes : List ℕ) → IsSavedAs own bytes → head_refusal bytes ≡ None
head_saved own bytes is =
    let size : length bytes ≡ 8 * length (saved_words own) = whole_saved own bytes is in
    let count : length (saved_words own) ≡ length bytes / 8 = omega (arith, size) in
    head_of bytes (owned_words own) (check_of (owned_words own)) size (ap (λ (n : ℕ). words_in n bytes) count ∙ words_saved own bytes is)
