use Rattle.std.proofs.Common.{◌≡◌, ◌-◌, ◌==◌, ◌++◌, ◌∷◌, [], ◌∙◌, true, false, length, get_or, ap, refl, arith}
use Rattle.std.proofs.lemmas.Grind.{common_steps}
use Rattle.iom_include.proofs.Cuts.{closed_last, open_last}
use Rattle.iom_reader.specs.Lines.{ended_lines}
use Rattle.iom_include.proofs.expanding.close.Goals.{else-count-gt0-via-then-count-gt0+else-index-ne10, else-count-gt0-via-else-count-gt0}
use Rattle.iom_include.proofs.expanding.close.Goals as goal

pub returns-in_ok-map_err : goal.returns-in_ok-map_err
returns-in_ok-map_err c =
    let text = c.args.text.now.items in
    let count : c.len-count.result ≡ length text = omega arith in
    let other : (get_or text (c.len-count.result - 1) 0 == 10) ≡ false = grind (arith, common_steps) in
    let grown : c.push.new.self.items ≡ text ++ 10 ∷ [] = grind (arith, common_steps) in
    ap ended_lines grown ∙ open_last text c.len-count.result count (omega arith) other

pub returns-else-count-gt0 : goal.returns-else-count-gt0
returns-else-count-gt0 c = elim c.else-count-gt0.branch [
  | else-count-gt0-via-then-count-gt0+else-index-ne10 w ↦
      let text = c.args.text.now.items in
      let count : c.len-count.result ≡ length text = omega arith in
      let end : (get_or text (c.len-count.result - 1) 0 == 10) ≡ true = grind (arith, common_steps) in
      closed_last text c.len-count.result count (omega arith) end
  | else-count-gt0-via-else-count-gt0 w ↦
      let none : c.args.text.now.items ≡ [] = grind (arith, common_steps) in
      rw none refl
]
