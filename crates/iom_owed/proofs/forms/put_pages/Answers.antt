use Rattle.std.proofs.Common.{◌≡◌, ◌∙◌, ◌+◌, ◌-◌, ◌++◌, ◌∷◌, [], ℕ, List, map, rules, arith, ap, sym}
use Rattle.std.specs.List.{range_with_len}
use Rattle.std.proofs.lemmas.List.{append_assoc}
use Rattle.iom_every.specs.declared.entry.Entry.{Entry}
use Rattle.iom_every.specs.Entries.{page_of}
use Rattle.iom_every.proofs.Split.{range_begins}
use Rattle.iom_owed.proofs.forms.put_pages.Goals as goal

pub loop-i-preserved : goal.loop-i-preserved
loop-i-preserved c =
    let i : ℕ = c.loop-i.i in
    let of : ℕ → Entry = page_of c.args.entry.now in
    let out : List Entry = c.loop-i.out.items in
    let put : c.push.new.self.items ≡ out ++ of i ∷ [] = search rules in
    let rest : 16 - (i + 1) ≡ 16 - i - 1 = omega arith in
    let split : range_with_len i (16 - i) ≡ i ∷ range_with_len (i + 1) (16 - (i + 1)) =
    range_begins i (16 - i) (omega (arith, c.loop-i-test.true)) ∙ ap (λ (n : ℕ). i ∷ range_with_len (i + 1) n) (sym rest) in
    ap (λ (xs : List Entry). xs ++ map of (range_with_len (i + 1) (16 - (i + 1)))) put
    ∙ append_assoc out (of i ∷ []) (map of (range_with_len (i + 1) (16 - (i + 1))))
    ∙ ap (λ (pages : List ℕ). out ++ map of pages) (sym split)
    ∙ c.loop-i.invariant
