use Rattle.std.proofs.Common.{◌≡◌, ◌<◌, ◌++◌, [], ◌∷◌, length, take, subst, ap, ◌∙◌, arith}
use Rattle.std.proofs.lemmas.Grind.{common_steps}
use Rattle.std.specs.Io.KnownBytes.{Consumes, IsAtEnd}
use Rattle.iom_include.proofs.Lefts.{last_closed}
use Rattle.iom_include.proofs.including.read_on.Goals as goal

pub returns-clause-kept : goal.returns-clause-kept
returns-clause-kept g c known ready name =
    let zero : c.in_ok-count.count ≡ 0 = omega arith in
    let took : Consumes (g.R.Read.remaining c.args.reader.now) (g.R.Read.remaining c.read.new.self) [] =
    subst (λ n. Consumes (g.R.Read.remaining c.args.reader.now) (g.R.Read.remaining c.read.new.self) (take n c.read.new.buf)) zero c.in_ok-count.ensures.bytes.0 in
    let end : IsAtEnd (g.R.Read.remaining c.read.new.self) =
    c.in_ok-count.ensures.bytes.1 zero (omega arith) in
    let some : 0 < length c.args.script.now.items = grind (arith, common_steps) in
    let closed : c.extend_from_slice-2.new.self.items ≡ c.args.script.now.items ++ 10 ∷ [] =
    c.in_ok-extend_from_slice-2.ensures.items ∙ ap (λ l. l ++ 10 ∷ []) c.try_reserve.ensures.items in
    rw closed (last_closed known (g.R.Read.remaining c.args.reader.now) (g.R.Read.remaining c.read.new.self) ready name c.args.script.now.items
    took end c.requires some)
