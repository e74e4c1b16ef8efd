use Rattle.std.proofs.Common.{Some}
use Rattle.std.specs.Prelude.{bytes_eq, string_bytes}
use Rattle.std.proofs.lemmas.Map.Text.{btree_map_updates_text}
use Rattle.iom_include.proofs.Keeping.{bytes_of_more}
use Rattle.iom_include.proofs.kept.KeptTexts.keep.Goals as goal

pub returns : goal.returns
returns c other =
    let name = c.in_ok-name.name in
    rw (← c.in_ok-name.ensures.ok) (bytes_of_more (bytes_eq (string_bytes name) other) c.in_ok-text.text _ _ c.args.text.now
    (btree_map_updates_text (string_bytes name) c.args.self.now.texts c.insert.new.self (Some c.in_ok-text.text) c.in_ok-insert.ensures.updates other)
    c.in_ok-text.ensures.items)
