use Rattle.std.proofs.Common.{◌≡◌, ◌∙◌, ◌-◌, ℕ, List, [], codes, get_or, length, map, arith, subst, sym}
use Rattle.std.proofs.lemmas.List.{length-map}
use Rattle.iom_traces.proofs.Words.{saw_so, seen_alone, where_is}
use Rattle.iom_traces.proofs.sights.sight_in.Goals as goal

pub sight_at-requires-clause-at : goal.sight_at-requires-clause-at
sight_at-requires-clause-at c =
    let all : List (List ℕ) = map (λ word. word.now) c.args.words.now in
    subst (λ (n : ℕ). get_or all (n - 2) [] ≡ codes "at") (length-map c.args.words.now (λ word. word.now))
    (where_is all (length all) (sym c.tells_where.ensures ∙ c.if-tells_where.true)).1

pub returns-else-tells_where : goal.returns-else-tells_where
returns-else-tells_where c =
    saw_so c.seen_of.result _ _ (λ seen h. let few = h.1 in (seen_alone (map (λ word. word.now) c.args.words.now) seen h.0 h.2, omega (arith, few))) c.seen_of.ensures
