-- What is restored is a copy of what was saved.
use Rattle.std.proofs.Common.{◌≡◌, ◌*◌, ◌/◌, ◌^◌, ◌<◌, ◌++◌, ◌∙◌, ℕ, zero, suc, Bool, true, false, List, [], ◌∷◌, length, get_or, drop, append-nil, refl, sym, subst, ap, ap₂, arith}
use Rattle.std.specs.Prelude.{fold}
use Rattle.iom_bits.specs.Bits.{flag}
use Rattle.iom_mem.proofs.WordBytes.{words_hold}
use Rattle.iom_mem.specs.Memory.{Memory}
use Rattle.iom_mem.specs.Words.{bytes_of_words}
use Rattle.iom_core.specs.State.{Board, state_on}
use Rattle.iom_account.specs.Following.{HistoryView}
use Rattle.iom_saved.specs.Boards.{board_words}
use Rattle.iom_saved.specs.Bytes.{words_in}
use Rattle.iom_saved.specs.Check.{mixed}
use Rattle.iom_saved.proofs.Bytes.{words_back}
use Rattle.iom_saved.proofs.Codes.{one_board, one_history, one_memory}
use Rattle.iom_c.specs.Handles.{board_of, copied}
use Rattle.iom_c.specs.Keeping.{copied as told_copied, none_kept}
use Rattle.iom_c.specs.Saves.{HasWholeParts, held_words, IsFresh, IsSavedAs, owned_words, saved_words, told_words}
use Rattle.iom_c.specs.declared.held.Held.{Held}
use Rattle.iom_c.specs.declared.held.Held.TheVariants as held
use Rattle.iom_c.specs.declared.owned.Owned.{Owned}
use Rattle.iom_c.specs.declared.settling.Settling.TheVariants as settling
use Rattle.iom_c.specs.declared.told.Told.{Told}

flag_same : (a b : Bool) → flag a ≡ flag b → a ≡ b
flag_same true true same = refl
flag_same false false same = refl
flag_same true false same = absurd (omega (arith, same))
flag_same false true same = absurd (omega (arith, same))

-- platforms with the same words
held_same : (a b : Held) → HasWholeParts a → HasWholeParts b → held_words a ≡ held_words b → a ≡ b
held_same (held.Own p) (held.Own q) first second same =
    let memory : (p.machine.memory ≡ q.machine.memory) × (board_words (board_of (held.Own p)) ≡ board_words (board_of (held.Own q))) =
    one_memory p.machine.memory q.machine.memory _ _ first.0 second.0 (ap (λ (l : List ℕ). drop 1 l) same) in
    let board : (board_of (held.Own p) ≡ board_of (held.Own q)) × ([] ≡ []) =
    one_board (board_of (held.Own p)) (board_of (held.Own q)) [] [] first.1 second.1
    (append-nil (board_words (board_of (held.Own p))) ∙ memory.1 ∙ sym (append-nil (board_words (board_of (held.Own q))))) in
    ap₂ (λ (m : Memory) (b : Board). held.Own (state_on m b)) memory.0 board.0
held_same (held.Lent p) (held.Lent q) first second same =
    let board : (p.board ≡ q.board) × ([] ≡ []) =
    one_board p.board q.board [] [] first.1 second.1
    (append-nil (board_words p.board) ∙ ap (λ (l : List ℕ). drop 3 l) same ∙ sym (append-nil (board_words q.board))) in
    let base : p.base ≡ q.base = ap (λ (l : List ℕ). get_or l 1 0) same in
    let count : p.count ≡ q.count = ap (λ (l : List ℕ). get_or l 2 0) same in
    ap₂ (λ (b : Board) (n : ℕ × ℕ). held.Lent (record { board = b; base = n.0; count = n.1 })) board.0 (ap₂ (λ a b. (a, b)) base count)
held_same (held.Own p) (held.Lent q) first second same = absurd (omega (arith, ap (λ (l : List ℕ). get_or l 0 0) same))
held_same (held.Lent p) (held.Own q) first second same = absurd (omega (arith, ap (λ (l : List ℕ). get_or l 0 0) same))

told_same : (a b : Told) (r s : List ℕ) → told_words a ++ r ≡ told_words b ++ s → (told_copied a ≡ told_copied b) × (r ≡ s)
told_same a b r s same =
    let most : a.kept.ring.capacity ≡ b.kept.ring.capacity = ap (λ (l : List ℕ). get_or l 0 0) same in
    let only : a.kept.accesses_only ≡ b.kept.accesses_only = flag_same _ _ (ap (λ (l : List ℕ). get_or l 1 0) same) in
    let history : (a.history ≡ b.history) × (r ≡ s) = one_history a.history b.history r s (ap (λ (l : List ℕ). drop 2 l) same) in
    (ap₂ (λ (h : HistoryView) (k : ℕ × Bool). record { history = h; kept = none_kept k.0 k.1; settling = settling.NotKept }) history.0 (ap₂ (λ x y. (x, y)) most only), history.1)

owned_same : (a b : Owned) → HasWholeParts a.held → HasWholeParts b.held → owned_words a ≡ owned_words b → copied a ≡ copied b
owned_same a b first second same =
    let count : a.count ≡ b.count = ap (λ (l : List ℕ). get_or l 0 0) same in
    let told : (told_copied a.told ≡ told_copied b.told) × (held_words a.held ≡ held_words b.held) =
    told_same a.told b.told (held_words a.held) (held_words b.held) (ap (λ (l : List ℕ). drop 1 l) same) in
    let held : a.held ≡ b.held = held_same a.held b.held first second told.1 in
    ap₂ (λ (h : Held) (r : Told × ℕ). record { held = h; trace = []; told = r.0; count = r.1 }) held (ap₂ (λ x y. (x, y)) told.0 count)

check_below : (sum : ℕ) (words : List ℕ) → sum < 2 ^ 64 → fold mixed sum words < 2 ^ 64
check_below sum [] below = below
check_below sum (word ∷ words) below = check_below (mixed sum word) words (omega arith)

small : (own : Owned) (bytes : List ℕ) → IsSavedAs own bytes → (i : ℕ) → get_or (saved_words own) i 0 < 2 ^ 64
small own bytes is zero = omega arith
small own bytes is (suc zero) = omega arith
small own bytes is (suc (suc zero)) = check_below 0 (owned_words own) (omega arith)
small own bytes is (suc (suc (suc i))) = is.fit i

-- the words that are saved as these bytes
pub words_saved : (own : Owned) (bytes : List ℕ) → IsSavedAs own bytes → words_in (length bytes / 8) bytes ≡ saved_words own
words_saved own bytes is =
    let words : List ℕ = saved_words own in
    let size : length bytes ≡ 8 * length words = ap length is.are ∙ words_hold words in
    let count : length bytes / 8 ≡ length words = omega (arith, size) in
    ap (λ (n : ℕ). words_in n bytes) count ∙ ap (λ (l : List ℕ). words_in (length words) l) is.are
    ∙ words_back words (small own bytes is)

pub restored_same : (a b : Owned) (bytes : List ℕ) → IsSavedAs a bytes → IsSavedAs b bytes → IsFresh b → b ≡ copied a
restored_same a b bytes first second fresh =
    let same : owned_words a ≡ owned_words b = ap (λ (l : List ℕ). drop 3 l) (sym (words_saved a bytes first) ∙ words_saved b bytes second) in
    let own : b ≡ copied b = ap₂ (λ t u. record { held = b.held; trace = t; told = u; count = b.count }) fresh.trace fresh.told in
    own ∙ sym (owned_same a b first.whole second.whole same)

-- what they are saved as
pub saved_by : (own : Owned) (words seen bytes : List ℕ) → words ≡ saved_words own → seen ≡ words → bytes ≡ bytes_of_words seen →
    ((i : ℕ) → get_or seen i 0 < 2 ^ 64) → HasWholeParts own.held → IsSavedAs own bytes
saved_by own words seen bytes saved same are fit whole =
    let all : (i : ℕ) → get_or (saved_words own) i 0 < 2 ^ 64 = λ i. subst (λ (l : List ℕ). get_or l i 0 < 2 ^ 64) (same ∙ saved) (fit i) in
    record { are = are ∙ ap bytes_of_words (same ∙ saved); whole = whole; fit = λ i. all (suc (suc (suc i))) }

-- what was read behind them
pub restored_by : (own value : Owned) (bytes words seen : List ℕ) → bytes ≡ bytes_of_words words → seen ≡ words →
    seen ≡ saved_words own → ((i : ℕ) → get_or seen i 0 < 2 ^ 64) → HasWholeParts own.held → value ≡ own →
    IsSavedAs value bytes
restored_by own value bytes words seen are same whole_words fit whole is =
    let all : (i : ℕ) → get_or (saved_words own) i 0 < 2 ^ 64 = λ i. subst (λ (l : List ℕ). get_or l i 0 < 2 ^ 64) whole_words (fit i) in
    let first : IsSavedAs own bytes = record {
      are = are ∙ ap bytes_of_words (sym same ∙ whole_words);
      whole = whole;
      fit = λ i. all (suc (suc (suc i)));
    } in
    subst (λ (o : Owned). IsSavedAs o bytes) (sym is) first
