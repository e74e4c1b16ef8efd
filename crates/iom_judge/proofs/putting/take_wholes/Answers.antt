use Rattle.std.proofs.Common.{◌≡◌, ◌∙◌, ◌++◌, List, ap, rules}
use Rattle.std.proofs.lemmas.Fn.{filter_same}
use Rattle.std.specs.Prelude.{filter}
use Rattle.iom_every.specs.Making.{is_whole}
use Rattle.iom_every.specs.declared.entry.Entry.{Entry}
use Rattle.iom_judge.proofs.putting.take_wholes.Goals as goal

pub returns : goal.returns
returns c =
    let copied : c.extend_from_slice.new.self.items ≡ c.args.entries.now =
    c.in_ok-extend_from_slice.ensures.items ∙ ap (λ (before : List Entry). before ++ c.args.entries.now) c.clear.ensures.items in
    filter_same _ is_whole _ (λ x b f' k. search rules) _ _ c.retain.ensures.filtered ∙ ap (filter is_whole) copied
