use Rattle.std.proofs.Common.{◌∙◌, Some, None, true, false, refl}
use Rattle.std.specs.Prelude.{is_some}
use Rattle.iom_saved.proofs.Taken.{context_front}
use Rattle.iom_saved.proofs.contexts.take_place.Goals as goal

pub returns-in_err-flag-clause-taken : goal.returns-in_err-flag-clause-taken
returns-in_err-flag-clause-taken c = λ place rest are is. absurd (c.in_err-flag.ensures.taken (is_some place) _ (are ∙ context_front place rest))

pub returns-clause-taken : goal.returns-clause-taken
returns-clause-taken c None rest are is =
    let set = c.in_ok-flag.ensures.taken false rest are in
    let is_set = c.if-not-branch.false in absurd (cc)
returns-clause-taken c (Some entry) rest are is =
    let set = c.in_ok-flag.ensures.taken (true) _ are in
    let did = c.in_ok-did.ensures.taken entry.0 _ set.1 is.0 in
    let context = c.in_ok-context.ensures.taken entry.1 rest did.1 is.1 in
    (rw (did.0, context.0) refl, context.1)

pub returns-in_err-context-clause-taken : goal.returns-in_err-context-clause-taken
returns-in_err-context-clause-taken c None rest are is =
    let set = c.in_ok-flag.ensures.taken false rest are in
    let is_set = c.if-not-branch.false in absurd (cc)
returns-in_err-context-clause-taken c (Some entry) rest are is =
    let set = c.in_ok-flag.ensures.taken (true) _ are in
    let did = c.in_ok-did.ensures.taken entry.0 _ set.1 is.0 in
    absurd (c.in_err-context.ensures.taken entry.1 rest did.1 is.1)
