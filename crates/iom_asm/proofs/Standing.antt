-- The bytes of a chunk stand in the memory that an image starts.
use Rattle.std.proofs.Common.{◌≡◌, ℕ, zero, suc, ◌+◌, ◌-◌, ◌≤◌, ◌⊎◌, List, [], ◌∷◌, ◌++◌, length, take, drop, replicate, Option, Some, None, refl, sym, subst, ap, ◌∙◌, inl, inr, arith}
use Rattle.std.proofs.lemmas.List.{take_at, drop_at, length-take}
use Rattle.iom_mem.specs.Memory.{Memory, byte, before, size_of, bytes_at, put}
use Rattle.iom_mem.specs.Sizes.{zeroed}
use Rattle.iom_mem.proofs.Bytes.{bytes_at_inside}
use Rattle.iom_image.specs.Image.{Chunk, AreChunks, end_of}
use Rattle.iom_image.specs.Loading.{with_chunks}
use Rattle.iom_image.proofs.Filling.{size_put}

-- a chunk is among others
abbrev pub IsIn : Chunk → List Chunk → Type 0
IsIn chunk [] = ⊥
IsIn chunk (first ∷ others) = (first ≡ chunk) ⊎ IsIn chunk others

kept_front : (n at far : ℕ) (bytes more : List ℕ) → at + n ≤ far → far ≤ length bytes → take n (drop at (take far bytes ++ more)) ≡ take n (drop at bytes)
kept_front zero at far bytes more lt le = refl
kept_front (suc n) at far [] more lt le = absurd (omega (arith, lt, le))
kept_front (suc n) at zero (b ∷ bytes) more lt le = absurd (omega (arith, lt))
kept_front (suc n) zero (suc far) (b ∷ bytes) more lt le = ap (λ rest. b ∷ rest) (kept_front n zero far bytes more (omega (arith, lt)) (omega (arith, le)))
kept_front (suc n) (suc at) (suc far) (b ∷ bytes) more lt le = kept_front (suc n) at far bytes more (omega (arith, lt)) (omega (arith, le))

-- what is put elsewhere leaves bytes below it
pub below_put : (memory : Memory) (addr n far : ℕ) (bytes : List ℕ) → memory.base ≤ addr → addr + n ≤ far → far + length bytes ≤ memory.base + size_of memory →
    bytes_at (put memory far bytes) addr n ≡ bytes_at memory addr n
below_put memory addr n far bytes above lt within =
    let size : size_of (put memory far bytes) ≡ size_of memory = size_put memory far bytes (omega (arith, above, lt)) within in
    bytes_at_inside (put memory far bytes) addr (addr - memory.base) n (omega (arith, above)) (omega (arith, above, lt, within, size))
    ∙ ap Some (kept_front n (addr - memory.base) (far - memory.base) memory.bytes (bytes ++ drop (far - memory.base + length bytes) memory.bytes) (omega (arith, above, lt)) (omega (arith, above, lt, within)))
    ∙ sym (bytes_at_inside memory addr (addr - memory.base) n (omega (arith, above)) (omega (arith, above, lt, within)))

-- what was put stands there
pub at_put : (memory : Memory) (addr : ℕ) (bytes : List ℕ) → memory.base ≤ addr → addr + length bytes ≤ memory.base + size_of memory →
    bytes_at (put memory addr bytes) addr (length bytes) ≡ Some bytes
at_put memory addr bytes above within =
    let at = addr - memory.base in
    let size : size_of (put memory addr bytes) ≡ size_of memory = size_put memory addr bytes above within in
    let len : length (take at memory.bytes) ≡ at = omega (arith, above, within, length-take at memory.bytes) in
    bytes_at_inside (put memory addr bytes) addr at (length bytes) (omega (arith, above)) (omega (arith, above, within, size))
    ∙ ap (λ rest. Some (take (length bytes) rest)) (drop_at (take at memory.bytes) (bytes ++ drop (at + length bytes) memory.bytes) at len)
    ∙ ap Some (take_at bytes (drop (at + length bytes) memory.bytes) (length bytes) refl)

-- chunks behind some bytes leave them
behind_them : (memory : Memory) (base size end addr n : ℕ) (chunks : List Chunk) → memory.base ≡ base → size_of memory ≡ size → base ≤ addr →
    addr + n ≤ end → AreChunks base size end chunks → bytes_at (with_chunks memory chunks) addr n ≡ bytes_at memory addr n
behind_them memory base size end addr n [] b s above lt good = refl
behind_them memory base size end addr n (chunk ∷ chunks) b s above lt good =
    let g = good.0 in
    behind_them (put memory chunk.addr chunk.bytes) base size (end_of chunk) addr n chunks b
    (size_put memory chunk.addr chunk.bytes (omega (arith, b, g.above)) (omega (arith, b, s, g.below)) ∙ s)
    above (omega (arith, lt, g.after)) good.1
    ∙ below_put memory addr n chunk.addr chunk.bytes (omega (arith, b, above)) (omega (arith, lt, g.after)) (omega (arith, b, s, g.below))

stands_in : (memory : Memory) (base size end : ℕ) (chunks : List Chunk) (chunk : Chunk) → memory.base ≡ base → size_of memory ≡ size →
    AreChunks base size end chunks → IsIn chunk chunks → bytes_at (with_chunks memory chunks) chunk.addr (length chunk.bytes) ≡ Some chunk.bytes
stands_in memory base size end [] chunk b s good is = absurd is
stands_in memory base size end (first ∷ others) chunk b s good (inl same) =
    let g = good.0 in
    let now : Memory = put memory first.addr first.bytes in
    let size_now : size_of now ≡ size = size_put memory first.addr first.bytes (omega (arith, b, g.above)) (omega (arith, b, s, g.below)) ∙ s in
    subst (λ (chunk : Chunk). bytes_at (with_chunks now others) chunk.addr (length chunk.bytes) ≡ Some chunk.bytes) same
    (behind_them now base size (end_of first) first.addr (length first.bytes) others b size_now g.above (omega arith) good.1
    ∙ at_put memory first.addr first.bytes (omega (arith, b, g.above)) (omega (arith, b, s, g.below)))
stands_in memory base size end (first ∷ others) chunk b s good (inr later) =
    let g = good.0 in
    stands_in (put memory first.addr first.bytes) base size (end_of first) others chunk b
    (size_put memory first.addr first.bytes (omega (arith, b, g.above)) (omega (arith, b, s, g.below)) ∙ s) good.1 later

length-replicate-is : (n : ℕ) → length {A = ℕ} (replicate n 0) ≡ n
length-replicate-is zero = refl
length-replicate-is (suc n) = ap suc (length-replicate-is n)

pub stands : (base size : ℕ) (chunks : List Chunk) (chunk : Chunk) → AreChunks base size 0 chunks → IsIn chunk chunks →
    bytes_at (with_chunks (zeroed base size) chunks) chunk.addr (length chunk.bytes) ≡ Some chunk.bytes
stands base size chunks chunk good is = stands_in (zeroed base size) base size 0 chunks chunk refl (length-replicate-is size) good is

-- bytes that stand in memory, cut in two
before_is : (first : Option ℕ) (rest : Option (List ℕ)) (byte : ℕ) (bytes : List ℕ) → before first rest ≡ Some (byte ∷ bytes) →
    (first ≡ Some byte) × (rest ≡ Some bytes)
before_is (Some first) (Some rest) byte bytes is = (cc, cc)
before_is (Some first) None byte bytes is = absurd cc
before_is None rest byte bytes is = absurd cc

pub front_at : (memory : Memory) (addr : ℕ) (front back : List ℕ) → bytes_at memory addr (length (front ++ back)) ≡ Some (front ++ back) →
    bytes_at memory addr (length front) ≡ Some front
unfolding bytes_at
front_at memory addr [] back there = refl
front_at memory addr (byte_of ∷ front) back there =
    let both = before_is (byte memory addr) (bytes_at memory (addr + 1) (length (front ++ back))) byte_of (front ++ back) there in
    rw (both.0, front_at memory (addr + 1) front back both.1) refl

pub behind_at : (memory : Memory) (addr : ℕ) (front back : List ℕ) → bytes_at memory addr (length (front ++ back)) ≡ Some (front ++ back) →
    bytes_at memory (addr + length front) (length back) ≡ Some back
unfolding bytes_at
behind_at memory addr [] back there = let same : addr + 0 ≡ addr = omega arith in rw same there
behind_at memory addr (byte_of ∷ front) back there =
    let both = before_is (byte memory addr) (bytes_at memory (addr + 1) (length (front ++ back))) byte_of (front ++ back) there in
    let same : addr + suc (length front) ≡ addr + 1 + length front = omega arith in
    rw same (behind_at memory (addr + 1) front back both.1)
