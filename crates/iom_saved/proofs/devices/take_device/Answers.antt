use Rattle.std.proofs.Common.{◌≡◌, ◌∙◌, ◌++◌, List, ℕ, ap, subst, sym}
use Rattle.iom_blk.specs.Parts.{device_of}
use Rattle.iom_blk.specs.Sound.{IsSound}
use Rattle.iom_saved.specs.Bytes.{words_of_bytes}
use Rattle.iom_saved.specs.Devices.{front_words, progress_words}
use Rattle.iom_saved.proofs.Lists.{split_two}
use Rattle.std.proofs.lemmas.Result.{err_from_is_err_and}
use Rattle.iom_saved.proofs.devices.take_device.Goals as goal

pub returns-in_default-clause-taken : goal.returns-in_default-clause-taken
returns-in_default-clause-taken c = λ d rest are is.
    absurd (c.in_default.ensures.taken d _ (split_two _ (front_words d ++ progress_words d) (words_of_bytes d.disk) rest are) is.under_way)

pub returns-in_err-disk-clause-taken : goal.returns-in_err-disk-clause-taken
returns-in_err-disk-clause-taken c = λ d rest are is.
    let parts = c.in-Some.ensures.taken d _ (split_two _ (front_words d ++ progress_words d) (words_of_bytes d.disk) rest are) is.under_way in
    let p = err_from_is_err_and c.from_residual.result c.from_residual.ensures.1 in rw (p.1, p.2) (c.in_err-disk.ensures.taken d.disk rest parts.1 is.whole)

pub returns-in_default-of_parts-clause-taken : goal.returns-in_default-of_parts-clause-taken
returns-in_default-of_parts-clause-taken c = λ d rest are is.
    let parts = c.in-Some.ensures.taken d _ (split_two _ (front_words d ++ progress_words d) (words_of_bytes d.disk) rest are) is.under_way in
    let disk = c.in_ok-disk.ensures.taken d.disk rest parts.1 is.whole in
    let same : device_of c.in_ok-disk.disk.items c.in-Some.parts ≡ d = ap (λ (bytes : List ℕ). device_of bytes c.in-Some.parts) disk.0 ∙ parts.0 in
    let no = c.in_default-of_parts.ensures.sound.1 (subst IsSound (sym same) is.sound) in absurd (cc)

pub returns-clause-taken : goal.returns-clause-taken
returns-clause-taken c = λ d rest are is.
    let parts = c.in-Some.ensures.taken d _ (split_two _ (front_words d ++ progress_words d) (words_of_bytes d.disk) rest are) is.under_way in
    let disk = c.in_ok-disk.ensures.taken d.disk rest parts.1 is.whole in
    (c.in-Some-of_parts.ensures.device ∙ ap (λ (bytes : List ℕ). device_of bytes c.in-Some.parts) disk.0 ∙ parts.0, disk.1)
