-- Chunks by address, as a map keeps them.
use Rattle.std.proofs.Common.{◌≡◌, ℕ, ◌+◌, ◌≤◌, ◌<◌, Bool, true, false, ◌&&◌, ◌||◌, nat_lt, List, [], ◌∷◌, ◌++◌, length, map, Ok, refl, sym, ◌∙◌, inl, inr, arith}
use Rattle.std.specs.List.{list_any}
use Rattle.std.specs.Global.{Vec}
use Rattle.std.specs.Ordering.{nat_cmp}
use Rattle.std.specs.BTreeMap.{insert_entry}
use Rattle.std.specs.BTreeMap.Range.{range_contains, entries_between}
use Rattle.std.specs.declared.ops.Bound.TheVariants.{Excluded, Unbounded}
use Rattle.std.proofs.lemmas.Bool.{cases_lt, cases_order, lt-ltb, le-ltb}
use Rattle.iom_image.specs.Image.{Chunk, AreChunks, end_of}
use Rattle.iom_asm.specs.Assembly.{ImageDraftView, is_inside, meets, insert, with_bytes, placed}
use Rattle.iom_image.specs.Own.{chunk_seen}

pub in_front : (limit q : ℕ) → range_contains nat_cmp Unbounded (Excluded limit) q ≡ nat_lt q limit
in_front limit q = grind arith

abbrev pub front : ℕ → List (ℕ × Vec ℕ) → List (ℕ × Vec ℕ)
front limit entries = entries_between nat_cmp Unbounded (Excluded limit) entries

front_in : (limit : ℕ) (e : ℕ × Vec ℕ) (entries : List (ℕ × Vec ℕ)) → e.0 < limit → front limit (e ∷ entries) ≡ e ∷ front limit entries
front_in limit e entries lt = rw (in_front limit e.0 ∙ lt-ltb e.0 limit lt) refl

front_out : (limit : ℕ) (e : ℕ × Vec ℕ) (entries : List (ℕ × Vec ℕ)) → limit ≤ e.0 → front limit (e ∷ entries) ≡ front limit entries
front_out limit e entries le = rw (in_front limit e.0 ∙ le-ltb e.0 limit le) refl

meets_past : (place len : ℕ) (c : Chunk) → place + len ≤ c.addr → meets place len c ≡ false
meets_past place len c le = rw (le-ltb c.addr (place + len) le) refl

abbrev seen : List (ℕ × Vec ℕ) → List Chunk
seen entries = map chunk_seen entries

pub none_meets : (place len : ℕ) (entries : List (ℕ × Vec ℕ)) → front (place + len) entries ≡ [] → list_any (meets place len) (seen entries) ≡ false
none_meets place len [] none = refl
none_meets place len (e ∷ entries) none =
    elim (cases_lt e.0 (place + len)) as (λ _. list_any (meets place len) (seen (e ∷ entries)) ≡ false) [
      | inl lt ↦ absurd (let one : e ∷ front (place + len) entries ≡ [] = sym (front_in (place + len) e entries lt) ∙ none in cc)
      | inr le ↦ rw (meets_past place len (chunk_seen e) le) (none_meets place len entries (sym (front_out (place + len) e entries le) ∙ none))
    ]

-- the last of them, and it ends no sooner than where the others may begin
record Last (place len end : ℕ) (e : ℕ × Vec ℕ) (entries : List (ℕ × Vec ℕ)) : Type 0 where
  meet : list_any (meets place len) (seen entries) ≡ nat_lt place (e.0 + length e.1.items)
  far : end ≤ e.0 + length e.1.items

either : (a b : ℕ) (place : ℕ) (front : Bool) → front ≡ true → a ≤ b → ((front && nat_lt place a) || nat_lt place b) ≡ nat_lt place b
either a b place front is le = grind (arith, is, le)

only : (a : Bool) (front : Bool) → front ≡ true → ((front && a) || false) ≡ a
only true front is = rw is refl
only false front is = rw is refl

last_in : (place len base size end : ℕ) (t : List (ℕ × Vec ℕ)) (e first : ℕ × Vec ℕ) (entries : List (ℕ × Vec ℕ)) →
    AreChunks base size end (seen (first ∷ entries)) →
    ((t : List (ℕ × Vec ℕ)) → front (place + len) entries ≡ t ++ e ∷ [] → Last place len (end_of (chunk_seen first)) e entries) →
    first.0 < place + len → first ∷ front (place + len) entries ≡ t ++ e ∷ [] →
    Last place len end e (first ∷ entries)
last_in place len base size end [] e first entries good others lt is =
    let same : first ≡ e = cc in
    let none : front (place + len) entries ≡ [] = cc in
    record {
      meet = rw (← same, none_meets place len entries none) (only (nat_lt place (first.0 + length first.1.items)) (nat_lt first.0 (place + len)) (lt-ltb first.0 (place + len) lt));
      far = rw (← same) (omega (arith, good.0.after));
    }
last_in place len base size end (x ∷ t) e first entries good others lt is =
    let more : front (place + len) entries ≡ t ++ e ∷ [] = cc in
    let rest = others t more in
    record {
      meet = rw rest.meet (either (end_of (chunk_seen first)) (e.0 + length e.1.items) place (nat_lt first.0 (place + len)) (lt-ltb first.0 (place + len) lt) rest.far);
      far = omega (arith, rest.far, good.0.after);
    }

last_of : (place len base size end : ℕ) (t : List (ℕ × Vec ℕ)) (e : ℕ × Vec ℕ) (entries : List (ℕ × Vec ℕ)) →
    AreChunks base size end (seen entries) → front (place + len) entries ≡ t ++ e ∷ [] → Last place len end e entries
last_of place len base size end [] e [] good is = absurd cc
last_of place len base size end (x ∷ t) e [] good is = absurd cc
last_of place len base size end t e (first ∷ entries) good is =
    elim (cases_lt first.0 (place + len)) as (λ _. Last place len end e (first ∷ entries)) [
      | inl lt ↦ last_in place len base size end t e first entries good (λ t is. last_of place len base size (end_of (chunk_seen first)) t e entries good.1 is) lt (sym (front_in (place + len) first entries lt) ∙ is)
      | inr le ↦
          let rest = last_of place len base size (end_of (chunk_seen first)) t e entries good.1 (sym (front_out (place + len) first entries le) ∙ is) in
          record {
            meet = rw (meets_past place len (chunk_seen first) le) rest.meet;
            far = omega (arith, rest.far, good.0.after);
          }
    ]

pub last_meets : (place len base size : ℕ) (t : List (ℕ × Vec ℕ)) (e : ℕ × Vec ℕ) (entries : List (ℕ × Vec ℕ)) →
    AreChunks base size 0 (seen entries) → front (place + len) entries ≡ t ++ e ∷ [] →
    list_any (meets place len) (seen entries) ≡ nat_lt place (e.0 + length e.1.items)
last_meets place len base size t e entries good is = (last_of place len base size 0 t e entries good is).meet

-- a chunk that meets none goes to its place
pub inserted : (base size end addr : ℕ) (bytes : Vec ℕ) (entries : List (ℕ × Vec ℕ)) → AreChunks base size end (seen entries) →
    0 < length bytes.items → list_any (meets addr (length bytes.items)) (seen entries) ≡ false →
    seen (insert_entry nat_cmp entries addr bytes) ≡ insert (record { addr = addr; bytes = bytes.items }) (seen entries)
inserted base size end addr bytes [] good some none = refl
inserted base size end addr bytes (e ∷ entries) good some none =
    elim (cases_order addr e.0) as (λ _. seen (insert_entry nat_cmp (e ∷ entries) addr bytes) ≡ insert (record { addr = addr; bytes = bytes.items }) (seen (e ∷ entries))) [
      | inl same ↦ absurd (let far = good.0.some in grind (arith, same, some, none, far))
      | inr (inl lt) ↦ let test : nat_lt addr e.0 ≡ true = lt-ltb addr e.0 lt in rw test refl
      | inr (inr lt) ↦
          let not_less : nat_lt addr e.0 ≡ false = le-ltb addr e.0 (omega (arith, lt)) in
          let rest : list_any (meets addr (length bytes.items)) (seen entries) ≡ false = grind (arith, none) in
          let later = inserted base size (end_of (chunk_seen e)) addr bytes entries good.1 some rest in
          grind (arith, not_less, lt, later)
    ]

pub placed_there : (line : ℕ) (draft : ImageDraftView) (bytes : List ℕ) → is_inside draft.image draft.next_address (length bytes) ≡ true →
    list_any (meets draft.next_address (length bytes)) draft.image.chunks ≡ false → placed line draft bytes ≡ Ok (with_bytes draft bytes)
unfolding placed
placed_there line draft bytes inside none = rw (inside, none) refl
