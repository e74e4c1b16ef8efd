use Rattle.std.proofs.Common.{◌≡◌, ◌+◌, ◌*◌, ◌<◌, ◌≤◌, length, arith, ⊎_elim}
use Rattle.std.proofs.lemmas.Bool.{cases_lt}
use Rattle.iom_tool.proofs.Pairs.{pair_fails, pair_put, pairs_begin, pairs_end}
use Rattle.iom_tool.proofs.Values.{each_below, not_all}
use Rattle.iom_tool.proofs.data.decode.Goals as goal

pub loop-i-preserved : goal.loop-i-preserved
loop-i-preserved c =
    let inside : 2 * c.loop-i.i + 1 < length c.args.word.now = omega arith in
    let within : c.loop-i.i < length c.loop-i.bytes = omega arith in (
      λ below. let each = each_below c.loop-i.met c.value_of-high.result c.value_of-low.result below in
          pair_put c.args.word.now c.loop-i.bytes c.loop-i.i c.value_of-high.result c.value_of-low.result _ _
          (omega (arith, each.1, each.2)) inside within
          (c.value_of-high.ensures.digit each.1) (c.value_of-low.ensures.digit each.2) (c.loop-i.invariant.0 each.0),
      λ above. ⊎_elim
          (λ some. c.loop-i.invariant.1 (omega (arith, some)))
          (λ few. pair_fails c.args.word.now c.loop-i.bytes c.loop-i.i _ inside
          (not_all c.loop-i.met c.value_of-high.result c.value_of-low.result _ _ c.value_of-high.ensures.other c.value_of-low.ensures.other (omega (arith, few)) above)
          (c.loop-i.invariant.0 (omega (arith, few))))
          (cases_lt 15 c.loop-i.met),
    )

pub loop-i-init : goal.loop-i-init
loop-i-init c = (λ _. pairs_begin _ c.args.bytes.now, λ above. absurd (omega (arith, above)))

pub returns-clause-all : goal.returns-clause-all
returns-clause-all c = λ few.
    let twice : length c.args.word.now ≡ 2 * length c.loop-i.bytes = omega arith in
    let past : length c.loop-i.bytes ≤ c.loop-i.i = omega arith in
    pairs_end c.args.word.now c.loop-i.bytes c.loop-i.i _ twice past (c.loop-i.invariant.0 (grind (arith, few)))
