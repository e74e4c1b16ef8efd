use Rattle.std.proofs.Common.{◌≡◌, [], length, take, drop, arith}
use Rattle.std.proofs.lemmas.Grind.{common_steps}
use Rattle.iom_include.proofs.Lefts.{given_on, end_on}
use Rattle.iom_include.proofs.including.IncludingRead.read.Goals as goal

pub returns-clause-bytes : goal.returns-clause-bytes
returns-clause-bytes g c =
    let self = c.fill.new.self in
    let copied : c.copy_from_slice.new.self ≡ take c.min-count.result (drop self.given self.expansion.text.items) = grind (arith, common_steps) in
    let long : length c.copy_from_slice.new.self ≡ c.min-count.result = grind (arith, common_steps) in (
      given_on (g.T.Texts.known self.source.texts.now) (g.R.Read.remaining self.reader) _ self.given c.min-count.result self.expansion.text.items
          self.name.now self.script.items c.copy_from_slice.new.self c.args.buf.now c.in_ok-fill.ensures.kept copied long,
      λ zero room.
          let none : drop self.given self.expansion.text.items ≡ [] = grind (arith, common_steps) in
          end_on (g.T.Texts.known self.source.texts.now) (g.R.Read.remaining self.reader) self.given c.min-count.result self.expansion.text.items
          self.name.now self.script.items zero (c.in_ok-fill.ensures.end none),
    )
