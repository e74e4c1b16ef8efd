-- The end of a way by both stages.
use Rattle.std.proofs.Common.{◌≡◌, ◌∙◌, ◌++◌, Bool, List, [], ◌∷◌, Result, ap, subst}
use Rattle.iom_ddt.specs.declared.context.Context.{Context}
use Rattle.iom_nested.specs.Faults.{Failure}
use Rattle.iom_nested.specs.Nested.{told_of}
use Rattle.iom_nested.specs.declared.translation.Fault.{Fault}
use Rattle.iom_nested.specs.declared.translation.Hit.{Hit}
use Rattle.iom_core.specs.Access.{way_to}
use Rattle.iom_core.specs.declared.access.Request.{Request}
use Rattle.iom_core.specs.declared.way.Way.{Way as Led}
use Rattle.iom_every.specs.declared.entry.Entry.{Entry}
use Rattle.iom_every.specs.Trees.{staged}
use Rattle.iom_every.specs.Ways.{whole_of}
use Rattle.iom_held.specs.declared.kept.Kept.{Kept}
use Rattle.iom_ways.specs.Asked.{Explores}
use Rattle.iom_ways.specs.Ways.{AreAdded}
use Rattle.iom_ways.specs.declared.exploring.Explored.{Explored}
use Rattle.iom_ways.proofs.Looked.{ended_way}
use Rattle.iom_ways.proofs.Gathering.{added_then, one}

four : (start located first second whole a b c end : List Entry) → AreAdded located start a → AreAdded first a b → AreAdded second b c → AreAdded whole c end →
    AreAdded (located ++ ((first ++ second) ++ whole)) start end
four start located first second whole a b c end own two three last =
    added_then located ((first ++ second) ++ whole) start a end own
    (added_then (first ++ second) whole a c end (added_then first second a b c two three) last)

pub staged_way : (asks : Bool) (held : List Kept) (request : Request) (context : Context) (located first second a b c : List Entry) (found : Result Hit Fault) (end : Result Hit Failure) (led : Led) (before after : Explored) →
    found ≡ told_of request.kind end → led ≡ way_to context found → after.asked ≡ before.asked → AreAdded (led ∷ []) before.ways.led.items after.ways.led.items →
    AreAdded located before.ways.reads.items a → AreAdded first a b → AreAdded second b c → AreAdded (whole_of request context found) c after.ways.reads.items →
    Explores asks held (staged request context located first end second) before after
staged_way asks held request context located first second a b c found end led before after told led_is same pushed one_is two_are three_are four_are =
    let told_led : Led = way_to context (told_of request.kind end) in
    let whole : List Entry = whole_of request context (told_of request.kind end) in
    ended_way asks held (record { led = told_led; reads = located ++ ((first ++ second) ++ whole) }) before after
    (one told_led (located ++ ((first ++ second) ++ whole)) before.ways after.ways
    (subst (λ (l : Led). AreAdded (l ∷ []) before.ways.led.items after.ways.led.items) (led_is ∙ ap (λ (r : Result Hit Fault). way_to context r) told) pushed)
    (four before.ways.reads.items located first second whole a b c after.ways.reads.items one_is two_are three_are
    (subst (λ (r : Result Hit Fault). AreAdded (whole_of request context r) c after.ways.reads.items) told four_are)))
    same
