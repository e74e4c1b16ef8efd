use Rattle.std.proofs.Common.{◌↔◌, Bool, true, ◌≡◌, sym, subst}
use Rattle.iom_choices.specs.Systems.{IsAmong}
use Rattle.iom_held.specs.Kept.{entries_in}
use Rattle.iom_held.proofs.New.{has_by}
use Rattle.iom_held.proofs.entries.HeldEntries.has.Goals as goal

pub returns : goal.returns
returns c =
    subst (λ (b : Bool). b ≡ true ↔ IsAmong (entries_in c.args.self.now) c.args.entry.now) (sym c.is_some.ensures)
    (has_by c.args.self.now c.tagged.result.now c.args.entry.now c.tag_of.result c.tag_of.ensures c.tagged.ensures.among c.tagged.ensures.all
    c.place_of.result c.place_of.ensures.found c.place_of.ensures.none)
