-- The bytes of the parts that a loop has still to come to.
use Rattle.std.proofs.Common.{◌≡◌, ◌+◌, ◌-◌, ◌<◌, ◌≤◌, ℕ, zero, suc, List, [], ◌++◌, length, drop, get_or, refl, sym, ◌∙◌, ap, arith}
use Rattle.std.proofs.lemmas.List.{drop_more, drop_all, drop_at, drop-drop, length-append}
use Rattle.iom_virtq.specs.declared.parts.Side.{Side}
use Rattle.iom_virtq.specs.declared.parts.ChainPart.{ChainPart}
use Rattle.iom_virtq.specs.Chains.{Item, bytes_of, items_from, len_on}

pub length-bytes_of : (part address count : ℕ) → length (bytes_of part address count) ≡ count
unfolding bytes_of
length-bytes_of part address zero = refl
length-bytes_of part address (suc count) = ap suc (length-bytes_of part (address + 1) count)

-- without the first bytes of a part
pub drop-bytes_of : (part address count rest left : ℕ) (more : List Item) → count ≡ rest + left →
    drop rest (bytes_of part address count ++ more) ≡ bytes_of part (address + rest) left ++ more
unfolding bytes_of
drop-bytes_of part address count zero left more is =
    let same : count ≡ left = omega (arith, is) in
    let here : address + 0 ≡ address = omega arith in
    rw (same, here) refl
drop-bytes_of part address zero (suc rest) left more is = absurd (omega (arith, is))
drop-bytes_of part address (suc count) (suc rest) left more is =
    let less : count ≡ rest + left = omega (arith, is) in
    let there : address + 1 + rest ≡ address + suc rest = omega arith in
    drop-bytes_of part (address + 1) count rest left more less ∙ rw there refl

-- one part more
pub items_here : (side : Side) (parts : List ChainPart) (i : ℕ) (d : ChainPart) → i < length parts →
    items_from side i (drop i parts)
    ≡ bytes_of i (get_or parts i d).addr (len_on (get_or parts i d) side) ++ items_from side (i + 1) (drop (i + 1) parts)
unfolding items_from
items_here side parts i d within = rw (drop_more parts i d within) refl

pub items_past : (side : Side) (parts : List ChainPart) (i : ℕ) → length parts ≤ i → items_from side i (drop i parts) ≡ []
unfolding items_from
items_past side parts i past = rw (drop_all i parts past) refl

-- a turn that adds up
pub total_step : (side : Side) (parts : List ChainPart) (i total len whole : ℕ) (d : ChainPart) → i < length parts →
    len ≡ len_on (get_or parts i d) side → total + length (items_from side i (drop i parts)) ≡ whole →
    total + len + length (items_from side (i + 1) (drop (i + 1) parts)) ≡ whole
total_step side parts i total len whole d within is so_far =
    let here : length (items_from side i (drop i parts)) ≡ len + length (items_from side (i + 1) (drop (i + 1) parts)) =
    ap length (items_here side parts i d within)
    ∙ length-append (bytes_of i (get_or parts i d).addr (len_on (get_or parts i d) side)) (items_from side (i + 1) (drop (i + 1) parts))
    ∙ rw (length-bytes_of, is) refl in
    omega (arith, here, so_far)

pub total_end : (side : Side) (parts : List ChainPart) (i total whole : ℕ) → length parts ≤ i →
    total + length (items_from side i (drop i parts)) ≡ whole → total ≡ whole
total_end side parts i total whole past so_far =
    let none : length (items_from side i (drop i parts)) ≡ 0 = ap length (items_past side parts i past) in
    omega (arith, none, so_far)

-- a turn that passes a part
pub rest_step : (side : Side) (parts : List ChainPart) (i rest len : ℕ) (whole : List Item) (d : ChainPart) → i < length parts →
    len ≡ len_on (get_or parts i d) side → len ≤ rest → drop rest (items_from side i (drop i parts)) ≡ whole →
    drop (rest - len) (items_from side (i + 1) (drop (i + 1) parts)) ≡ whole
rest_step side parts i rest len whole d within is past so_far =
    let here : List Item = bytes_of i (get_or parts i d).addr (len_on (get_or parts i d) side) in
    let more : List Item = items_from side (i + 1) (drop (i + 1) parts) in
    let size : length here ≡ len = length-bytes_of i (get_or parts i d).addr (len_on (get_or parts i d) side) ∙ sym is in
    let split : len + (rest - len) ≡ rest = omega (arith, past) in
    let passed : drop len (here ++ more) ≡ more = drop_at here more len size in
    sym (ap (drop (rest - len)) passed) ∙ drop-drop (rest - len) len (here ++ more) ∙ ap (λ n. drop n (here ++ more)) split
    ∙ ap (drop rest) (sym (items_here side parts i d within)) ∙ so_far

pub within_step : (side : Side) (parts : List ChainPart) (i rest len : ℕ) (d : ChainPart) → i < length parts →
    len ≡ len_on (get_or parts i d) side → len ≤ rest → rest < length (items_from side i (drop i parts)) →
    rest - len < length (items_from side (i + 1) (drop (i + 1) parts))
within_step side parts i rest len d within is past so_far =
    let all : 0 + len + length (items_from side (i + 1) (drop (i + 1) parts)) ≡ length (items_from side i (drop i parts)) =
    total_step side parts i 0 len (length (items_from side i (drop i parts))) d within is (omega arith) in
    omega (arith, all, past, so_far)

pub never_past : (side : Side) (parts : List ChainPart) (i rest : ℕ) → length parts ≤ i →
    rest < length (items_from side i (drop i parts)) → ⊥
never_past side parts i rest past within =
    let none : length (items_from side i (drop i parts)) ≡ 0 = ap length (items_past side parts i past) in
    omega (arith, none, within)

-- a turn that ends in a part
pub rest_here : (side : Side) (parts : List ChainPart) (i rest len : ℕ) (whole : List Item) (d : ChainPart) → i < length parts →
    len ≡ len_on (get_or parts i d) side → rest < len → drop rest (items_from side i (drop i parts)) ≡ whole →
    bytes_of i ((get_or parts i d).addr + rest) (suc (len - rest - 1)) ++ items_from side (i + 1) (drop (i + 1) parts) ≡ whole
rest_here side parts i rest len whole d within is here so_far =
    let split : len_on (get_or parts i d) side ≡ rest + suc (len - rest - 1) = omega (arith, is, here) in
    sym (drop-bytes_of i (get_or parts i d).addr (len_on (get_or parts i d) side) rest (suc (len - rest - 1))
    (items_from side (i + 1) (drop (i + 1) parts)) split)
    ∙ ap (drop rest) (sym (items_here side parts i d within)) ∙ so_far
