-- The longest run of bytes of one part and one page.
use Rattle.std.proofs.Common.{◌≡◌, ◌+◌, ◌-◌, ◌*◌, ◌/◌, ◌%◌, ◌<◌, ◌≤◌, ℕ, zero, suc, true, false, min, List, [], ◌∷◌, ◌++◌, length, take, drop, get_or, refl, sym, ◌∙◌, ap, arith}
use Rattle.std.specs.List.{prefix_len}
use Rattle.iom_virtq.specs.declared.parts.Side.{Side}
use Rattle.iom_virtq.specs.declared.parts.ChainPart.{ChainPart}
use Rattle.iom_virtq.proofs.Rest.{rest_here}
use Rattle.iom_virtq.specs.Chains.{Item, bytes_of, items_from, len_on, is_together, run_length, address_of}

-- when two bytes are together
together : (first other : Item) → first.part ≡ other.part → first.address / 4096 ≡ other.address / 4096 → is_together first other ≡ true
together first other part page = grind arith

apart : (first other : Item) → first.part < other.part → is_together first other ≡ false
apart first other part = grind arith

elsewhere : (first other : Item) → first.address / 4096 < other.address / 4096 → is_together first other ≡ false
elsewhere first other page = grind arith

-- bytes of later parts never join
later : (first : Item) (part address count room : ℕ) (more : List Item) → first.part < part →
    prefix_len (is_together first) (take room more) ≡ 0 →
    prefix_len (is_together first) (take room (bytes_of part address count ++ more)) ≡ 0
unfolding bytes_of
later first part address count zero more behind none = refl
later first part address zero (suc room) more behind none = none
later first part address (suc count) (suc room) more behind none =
    rw (apart first (record { part = part; address = address }) behind) refl

pub later_parts : (first : Item) (side : Side) (number : ℕ) (parts : List ChainPart) → first.part < number → (room : ℕ) →
    prefix_len (is_together first) (take room (items_from side number parts)) ≡ 0
unfolding items_from
later_parts first side number [] behind zero = refl
later_parts first side number [] behind (suc room) = refl
later_parts first side number (part ∷ parts) behind room =
    later first number part.addr (len_on part side) room (items_from side (number + 1) parts) behind
    (later_parts first side (number + 1) parts (omega (arith, behind)) room)

-- `ahead` bytes are left in the page
run_of : (first : Item) (address count ahead room : ℕ) (more : List Item) →
    address + ahead ≡ (first.address / 4096 + 1) * 4096 → ahead ≤ 4096 →
    ((r : ℕ) → prefix_len (is_together first) (take r more) ≡ 0) →
    prefix_len (is_together first) (take room (bytes_of first.part address count ++ more)) ≡ min (min count ahead) room
unfolding bytes_of
run_of first address count ahead zero more end few apart_from = omega arith
run_of first address zero ahead (suc room) more end few apart_from = apart_from (suc room) ∙ omega arith
run_of first address (suc count) zero (suc room) more end few apart_from =
    let past : first.address / 4096 < address / 4096 = omega (arith, end) in
    rw (elsewhere first (record { part = first.part; address = address }) past) (omega arith)
run_of first address (suc count) (suc ahead) (suc room) more end few apart_from =
    let page : first.address / 4096 ≡ address / 4096 = omega (arith, end, few) in
    let next : address + 1 + ahead ≡ (first.address / 4096 + 1) * 4096 = omega (arith, end) in
    rw (together first (record { part = first.part; address = address }) refl page)
    (let rest : prefix_len (is_together first) (take room (bytes_of first.part (address + 1) count ++ more)) ≡ min (min count ahead) room =
    run_of first (address + 1) count ahead room more next (omega (arith, few)) apart_from in
    omega (arith, rest))

-- the longest run from a byte of a part on
pub run_here : (side : Side) (number address left : ℕ) (parts : List ChainPart) →
    run_length (bytes_of number address (suc left) ++ items_from side (number + 1) parts)
    ≡ min (min (suc left) (4096 - address % 4096)) 64
unfolding bytes_of
run_here side number address left parts =
    let first : Item = record { part = number; address = address } in
    run_of first address (suc left) (4096 - address % 4096) 64 (items_from side (number + 1) parts) (omega arith) (omega arith)
    (later_parts first side (number + 1) parts (omega arith))

-- what a turn that ends in a part returns
pub address_here : (side : Side) (parts : List ChainPart) (i rest len : ℕ) (whole : List Item) (d : ChainPart) → i < length parts →
    len ≡ len_on (get_or parts i d) side → rest < len → drop rest (items_from side i (drop i parts)) ≡ whole →
    (get_or parts i d).addr + rest ≡ address_of whole
unfolding bytes_of
address_here side parts i rest len whole d within is here so_far =
    ap address_of (rest_here side parts i rest len whole d within is here so_far)

pub count_here : (side : Side) (parts : List ChainPart) (i rest len count : ℕ) (whole : List Item) (d : ChainPart) → i < length parts →
    len ≡ len_on (get_or parts i d) side → rest < len → drop rest (items_from side i (drop i parts)) ≡ whole →
    count ≡ min (min (len - rest) (4096 - ((get_or parts i d).addr + rest) % 4096)) 64 → count ≡ run_length whole
count_here side parts i rest len count whole d within is here so_far told =
    let left : suc (len - rest - 1) ≡ len - rest = omega (arith, here) in
    told ∙ sym (run_here side i ((get_or parts i d).addr + rest) (len - rest - 1) (drop (i + 1) parts)
    ∙ ap (λ n. min (min n (4096 - ((get_or parts i d).addr + rest) % 4096)) 64) left)
    ∙ ap run_length (rest_here side parts i rest len whole d within is here so_far)
