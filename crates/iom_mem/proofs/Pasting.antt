-- Lists with a part replaced, place by place.
use Rattle.std.proofs.Common.{◌≡◌, ◌+◌, ◌-◌, ◌*◌, ◌/◌, ◌%◌, ◌<◌, ◌≤◌, ℕ, List, ◌++◌, length, get_or, take, drop, sym, ◌∙◌, ap, inl, inr, arith, length-append, length-take, length-drop, get_or-take, get_or-drop, take-take, drop-drop, append_assoc}
use Rattle.std.proofs.Math.Seq.{paste, take-append-add, drop-append-add}
use Rattle.std.proofs.lemmas.List.{ext_get_or, get_or_append_left, get_or-append_right}
use Rattle.std.proofs.lemmas.List.Edits.{length-paste}
use Rattle.std.proofs.lemmas.Bool.{cases_lt}
use Rattle.iom_bits.specs.Bytes.{bytes_of_number}
use Rattle.iom_mem.specs.Words.{StartsWith}

head_size : (d : List ℕ) (at : ℕ) (s : List ℕ) (n : ℕ) → at + n ≤ length d → n ≤ length s → length (take at d ++ take n s) ≡ at + n
head_size d at s n within some = length-append (take at d) (take n s) ∙ omega (arith, length-take at d, length-take n s)

pub paste_below : (d : List ℕ) (at : ℕ) (s : List ℕ) (n k : ℕ) → at + n ≤ length d → n ≤ length s → k < at →
    get_or (paste d at s n) k 0 ≡ get_or d k 0
paste_below d at s n k within some h =
    get_or_append_left (take at d ++ take n s) (drop (at + n) d) 0 k (omega (arith, head_size d at s n within some))
    ∙ get_or_append_left (take at d) (take n s) 0 k (omega (arith, length-take at d)) ∙ get_or-take at d k 0 h

pub paste_inside : (d : List ℕ) (at : ℕ) (s : List ℕ) (n k : ℕ) → at + n ≤ length d → n ≤ length s → at ≤ k → k < at + n →
    get_or (paste d at s n) k 0 ≡ get_or s (k - at) 0
paste_inside d at s n k within some from h =
    get_or_append_left (take at d ++ take n s) (drop (at + n) d) 0 k (omega (arith, head_size d at s n within some))
    ∙ get_or-append_right (take at d) (take n s) at k 0 (omega (arith, length-take at d)) from ∙ get_or-take n s (k - at) 0 (omega arith)

pub paste_above : (d : List ℕ) (at : ℕ) (s : List ℕ) (n k : ℕ) → at + n ≤ length d → n ≤ length s → at + n ≤ k →
    get_or (paste d at s n) k 0 ≡ get_or d k 0
paste_above d at s n k within some from =
    let back : at + n + (k - (at + n)) ≡ k = omega arith in
    get_or-append_right (take at d ++ take n s) (drop (at + n) d) (at + n) k 0 (head_size d at s n within some) from
    ∙ get_or-drop (at + n) d (k - (at + n)) 0 ∙ ap (λ p. get_or d p 0) back

-- eight bytes more are read
pub more_read : (out bytes : List ℕ) (at done covered : ℕ) (n : ℕ) → StartsWith out bytes at covered → done ≤ covered →
    done + 8 ≤ length out → length (bytes_of_number 8 n) ≡ 8 → bytes_of_number 8 n ≡ take 8 (drop (at + done) bytes) →
    StartsWith (paste out done (bytes_of_number 8 n) 8) bytes at (done + 8)
more_read out bytes at done covered n read from within size e k h =
    elim (cases_lt k done) as (λ _. get_or (paste out done (bytes_of_number 8 n) 8) k 0 ≡ get_or bytes (at + k) 0) [
      | inl before ↦ paste_below out done (bytes_of_number 8 n) 8 k within (omega (arith, size)) before ∙ read k (omega arith)
      | inr there ↦
          let place : at + done + (k - done) ≡ at + k = omega arith in
          paste_inside out done (bytes_of_number 8 n) 8 k within (omega (arith, size)) there h
          ∙ ap (λ xs. get_or xs (k - done) 0) e
          ∙ get_or-take 8 (drop (at + done) bytes) (k - done) 0 (omega arith)
          ∙ get_or-drop (at + done) bytes (k - done) 0 ∙ ap (λ p. get_or bytes p 0) place
    ]

-- a part replaced, and then one that begins in it or where it ends
pub paste_over : (d : List ℕ) (at : ℕ) (s : List ℕ) (n c m : ℕ) → c ≤ n → n ≤ c + m → c + m ≤ length s → at + (c + m) ≤ length d →
    paste (paste d at s n) (at + c) (take m (drop c s)) m ≡ paste d at s (c + m)
paste_over d at s n c m from reach some within =
    let once : List ℕ = paste d at s n in
    let next : List ℕ = take m (drop c s) in
    let both : List ℕ = paste d at s (c + m) in
    let size : length once ≡ length d = length-paste d at s n (omega arith) (omega arith) in
    let own : length next ≡ m = omega (arith, length-take m (drop c s), length-drop c s) in
    let room : at + c + m ≤ length once = omega (arith, size) in
    let full : m ≤ length next = omega (arith, own) in
    let twice : length (paste once (at + c) next m) ≡ length d = length-paste once (at + c) next m room full ∙ size in
    ext_get_or 0 (paste once (at + c) next m) both (twice ∙ sym (length-paste d at s (c + m) within some)) (λ k h.
    elim (cases_lt k (at + c)) as (λ _. get_or (paste once (at + c) next m) k 0 ≡ get_or both k 0) [
      | inl before ↦
          paste_below once (at + c) next m k room full before
          ∙ elim (cases_lt k at) as (λ _. get_or once k 0 ≡ get_or both k 0) [
            | inl under ↦ paste_below d at s n k (omega arith) (omega arith) under ∙ sym (paste_below d at s (c + m) k within some under)
            | inr there ↦
                paste_inside d at s n k (omega arith) (omega arith) there (omega arith)
                ∙ sym (paste_inside d at s (c + m) k within some there (omega arith))
          ]
      | inr behind ↦ elim (cases_lt k (at + (c + m))) as (λ _. get_or (paste once (at + c) next m) k 0 ≡ get_or both k 0) [
        | inl there ↦
            let back : c + (k - (at + c)) ≡ k - at = omega arith in
            paste_inside once (at + c) next m k room full behind (omega arith)
            ∙ get_or-take m (drop c s) (k - (at + c)) 0 (omega arith) ∙ get_or-drop c s (k - (at + c)) 0
            ∙ ap (λ p. get_or s p 0) back ∙ sym (paste_inside d at s (c + m) k within some (omega arith) there)
        | inr past ↦
            paste_above once (at + c) next m k room full (omega arith) ∙ paste_above d at s n k (omega arith) (omega arith) (omega arith)
            ∙ sym (paste_above d at s (c + m) k within some past)
      ]
    ])

pub paste_first : (d : List ℕ) (at : ℕ) (s : List ℕ) (n : ℕ) → paste d at (take n s) n ≡ paste d at s n
paste_first d at s n = ap (λ t. take at d ++ t ++ drop (at + n) d) (take-take n n s (omega arith))

-- the first `m` of `s`, and then `m` of it from `c` on, where that reaches up to `count`
pub paste_both : (d : List ℕ) (at : ℕ) (s : List ℕ) (m none c start end count : ℕ) → none ≡ 0 → start ≡ at → end ≡ at + c → c ≤ m →
    c + m ≡ count → count ≤ length s → at + count ≤ length d →
    paste (paste d start (take m (drop none s)) m) end (take m (drop c s)) m ≡ paste d at s count
paste_both d at s m none c start end count is_none is_start is_end few sum some within =
    let first : paste d start (take m (drop none s)) m ≡ paste d at s m =
    ap (λ p. paste d p (take m (drop none s)) m) is_start ∙ ap (λ n. paste d at (take m (drop n s)) m) is_none ∙ paste_first d at s m in
    ap (λ e. paste e end (take m (drop c s)) m) first
    ∙ ap (λ p. paste (paste d at s m) p (take m (drop c s)) m) is_end
    ∙ paste_over d at s m c m few (omega arith) (omega (arith, sum)) (omega (arith, sum))
    ∙ ap (paste d at s) sum

-- the first `n` of `s`, and then `m` of it up to `count`
pub paste_more_of : (d : List ℕ) (at : ℕ) (s : List ℕ) (n c m end count : ℕ) → end ≡ at + c → c ≤ n → n ≤ count →
    c + m ≡ count → count ≤ length s → at + count ≤ length d →
    paste (paste d at s n) end (take m (drop c s)) m ≡ paste d at s count
paste_more_of d at s n c m end count is_end from reach sum some within =
    ap (λ p. paste (paste d at s n) p (take m (drop c s)) m) is_end
    ∙ paste_over d at s n c m from (omega (arith, sum)) (omega (arith, sum)) (omega (arith, sum))
    ∙ ap (paste d at s) sum

-- one part of `s` behind another: both
pub paste_next : (d : List ℕ) (at : ℕ) (s : List ℕ) (c n m second then both : ℕ) → second ≡ at + n → then ≡ c + n → both ≡ n + m →
    c + both ≤ length s → at + both ≤ length d →
    paste (paste d at (take n (drop c s)) n) second (take m (drop then s)) m ≡ paste d at (take both (drop c s)) both
paste_next d at s c n m second then both is_second is_then is_both some within =
    let t : List ℕ = drop c s in
    let rest : drop then s ≡ drop n t = ap (λ k. drop k s) (is_then ∙ omega arith) ∙ sym (drop-drop n c s) in
    let size : length t ≡ length s - c = length-drop c s in
    ap (λ e. paste e second (take m (drop then s)) m) (paste_first d at t n)
    ∙ ap (λ r. paste (paste d at t n) second (take m r) m) rest
    ∙ paste_more_of d at t n n m second both is_second (omega arith) (omega (arith, is_both)) (omega (arith, is_both)) (omega (arith, size)) within
    ∙ sym (paste_first d at t both)

-- all is read
pub all_read : (out bytes : List ℕ) (at count : ℕ) → length out ≡ count → at + count ≤ length bytes → StartsWith out bytes at count →
    out ≡ take count (drop at bytes)
all_read out bytes at count size within read =
    ext_get_or 0 out (take count (drop at bytes)) (size ∙ omega (arith, length-take count (drop at bytes), length-drop at bytes)) (λ k h.
    let below : k < count = omega (arith, size) in
    read k below ∙ sym (get_or-take count (drop at bytes) k 0 below ∙ get_or-drop at bytes k 0))

-- all that is left of `s` after its first n
pub paste_rest : (d : List ℕ) (at : ℕ) (s : List ℕ) (n : ℕ) → n ≤ length s → at + length s ≤ length d →
    paste (paste d at s n) (at + n) (drop n s) (length (drop n s)) ≡ paste d at s (length s)
paste_rest d at s n some within =
    let m : ℕ = length (drop n s) in
    let size : m ≡ length s - n = length-drop n s in
    let sum : n + m ≡ length s = omega (arith, size) in
    sym (paste_first (paste d at s n) (at + n) (drop n s) m)
    ∙ paste_over d at s n n m (omega arith) (omega arith) (omega (arith, sum)) (omega (arith, sum))
    ∙ ap (paste d at s) sum

-- `s` in three parts, of which the second begins at `second` and the third at `third`
pub paste_parts : (d : List ℕ) (at : ℕ) (s : List ℕ) (n m e second count third from left : ℕ) → n + m + e ≡ length s → at + length s ≤ length d →
    second ≡ at + n → count ≡ m → third ≡ at + (n + m) → from ≡ n + m → left ≡ e →
    paste (paste (paste d at s n) second (drop n s) count) third (drop from s) left ≡ paste d at s (length s)
paste_parts d at s n m e second count third from left sum within is_second is_count is_third is_from is_left =
    let two : paste (paste d at s n) second (drop n s) count ≡ paste d at s (n + m) =
    ap (λ p. paste (paste d at s n) p (drop n s) count) is_second ∙ ap (paste (paste d at s n) (at + n) (drop n s)) is_count
    ∙ sym (paste_first (paste d at s n) (at + n) (drop n s) m)
    ∙ paste_over d at s n n m (omega arith) (omega arith) (omega (arith, sum)) (omega (arith, sum)) in
    let size : length (drop (n + m) s) ≡ e = omega (arith, length-drop (n + m) s, sum) in
    ap (λ d. paste d third (drop from s) left) two
    ∙ ap (λ p. paste (paste d at s (n + m)) p (drop from s) left) is_third
    ∙ ap (λ f. paste (paste d at s (n + m)) (at + (n + m)) (drop f s) left) is_from
    ∙ ap (paste (paste d at s (n + m)) (at + (n + m)) (drop (n + m) s)) (is_left ∙ sym size)
    ∙ paste_rest d at s (n + m) (omega (arith, sum)) within

-- bytes up to the end of a word, whole words, and what is left
pub paste_words : (d : List ℕ) (kept : ℕ) (s rest : List ℕ) → kept < 8 → 8 ≤ length s → kept + length s ≤ length d → rest ≡ drop (8 - kept) s →
    paste (paste (paste d kept s (8 - kept)) (8 * 1) rest (8 * (length rest / 8))) (8 * (length rest / 8 + 1)) (drop (length s - length rest % 8) s) (length rest % 8)
    ≡ paste d kept s (length s)
paste_words d kept s rest part some within is_rest =
    let n : ℕ = 8 - kept in
    let t : List ℕ = drop n s in
    let size : length t ≡ length s - n = length-drop n s in
    ap (λ r. paste (paste (paste d kept s n) (8 * 1) r (8 * (length r / 8))) (8 * (length r / 8 + 1)) (drop (length s - length r % 8) s) (length r % 8)) is_rest
    ∙ paste_parts d kept s n (8 * ((length s - n) / 8)) ((length s - n) % 8) (8 * 1) (8 * (length t / 8)) (8 * (length t / 8 + 1)) (length s - length t % 8) (length t % 8)
    (omega arith) within (omega arith) (ap (λ k. 8 * (k / 8)) size) (omega (arith, size)) (omega (arith, size)) (ap (λ k. k % 8) size)

-- a part replaced behind the first bytes
pub paste_behind : (a d : List ℕ) (k : ℕ) (s : List ℕ) (n at : ℕ) → at ≡ length a + k → a ++ paste d k s n ≡ paste (a ++ d) at s n
paste_behind a d k s n at is_at =
    let sum : length a + k + n ≡ length a + (k + n) = omega arith in
    let head : take (length a + k) (a ++ d) ≡ a ++ take k d = take-append-add a d k in
    let tail : drop (length a + k + n) (a ++ d) ≡ drop (k + n) d = ap (λ m. drop m (a ++ d)) sum ∙ drop-append-add a d (k + n) in
    sym (ap (λ m. take m (a ++ d) ++ take n s ++ drop (m + n) (a ++ d)) is_at
    ∙ ap (λ h. h ++ take n s ++ drop (length a + k + n) (a ++ d)) head
    ∙ ap (λ t. (a ++ take k d) ++ take n s ++ t) tail
    ∙ ap (λ h. h ++ drop (k + n) d) (append_assoc a (take k d) (take n s))
    ∙ append_assoc a (take k d ++ take n s) (drop (k + n) d))
