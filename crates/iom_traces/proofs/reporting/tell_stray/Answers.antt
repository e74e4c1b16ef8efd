use Rattle.std.proofs.lemmas.List.{nil_from_length}
use Rattle.iom_traces.proofs.reporting.tell_stray.Goals as goal

pub returns-in-Some : goal.returns-in-Some
returns-in-Some c = rw c.in-Some.is (record { text = rw (nil_from_length _ c.requires.empty) at c.note.ensures.text; score = c.note.ensures.score })
