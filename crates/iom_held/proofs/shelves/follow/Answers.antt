use Rattle.std.proofs.Common.{◌∙◌, rules, sym}
use Rattle.std.proofs.lemmas.Fn.{filter_same}
use Rattle.iom_held.specs.Kept.{is_spared}
use Rattle.iom_held.proofs.Left.{fence_leaves}
use Rattle.iom_held.proofs.shelves.follow.Goals as goal

pub returns-then-is_fence : goal.returns-then-is_fence
returns-then-is_fence c =
    filter_same _ is_spared _ (λ x b f' k. search rules) _ _ c.retain.ensures.filtered
    ∙ sym (fence_leaves c.args.number c.args.command.now c.args.kept.now.items (sym c.is_fence.ensures ∙ c.if-is_fence.true))
