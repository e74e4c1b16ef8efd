use Rattle.std.proofs.Common.{rules, ◌≤◌, refl}
use Rattle.std.proofs.lemmas.Option.{slice_get_past}
use Rattle.iom_c.specs.Faults.{all_words}
use Rattle.iom_c.proofs.texts.judge_words.Goals as goal

pub returns-in_default-clause-words : goal.returns-in_default-clause-words
returns-in_default-clause-words c =
    let past : 26 ≤ c.args.number = search rules in
    rw (slice_get_past all_words c.args.number past) refl
