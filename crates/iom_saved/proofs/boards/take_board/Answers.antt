use Rattle.std.proofs.Common.{◌≡◌, ◌≤◌, ◌++◌, ◌∙◌, ℕ, List, ap, length, refl, arith}
use Rattle.std.proofs.lemmas.Result.{err_from_is_err_and}
use Rattle.iom_core.specs.State.{Board, most_devices}
use Rattle.iom_saved.specs.Boards.{board_words, devices_words}
use Rattle.iom_saved.specs.Caches.{contexts_words, pages_words}
use Rattle.iom_saved.specs.Messages.{messages_words}
use Rattle.iom_saved.specs.Registers.{register_words}
use Rattle.iom_saved.proofs.Lists.{split_five}
use Rattle.iom_saved.proofs.boards.take_board.Goals as goal

-- the words of a board, one part behind the other
board_front : (b : Board) (words rest : List ℕ) → words ≡ board_words b ++ rest →
    words ≡ register_words b.iommu.registers ++ (contexts_words b.iommu.contexts
    ++ (pages_words b.iommu.pages ++ (messages_words b.messages ++ (devices_words b.devices ++ rest))))
board_front b words rest are =
    split_five words (register_words b.iommu.registers) (contexts_words b.iommu.contexts) (pages_words b.iommu.pages) (messages_words b.messages)
    (devices_words b.devices) rest are

pub returns-in_default-clause-taken : goal.returns-in_default-clause-taken
returns-in_default-clause-taken c = λ b rest are is.
    absurd (c.in_default.ensures.taken b.iommu.registers _ (board_front b _ rest are) is.registers)

pub returns-in_err-contexts-clause-taken : goal.returns-in_err-contexts-clause-taken
returns-in_err-contexts-clause-taken c = λ b rest are is.
    let registers = c.in-Some.ensures.taken b.iommu.registers _ (board_front b _ rest are) is.registers in
    let p = err_from_is_err_and c.from_residual.result c.from_residual.ensures.1 in
    rw (p.1, p.2) (c.in_err-contexts.ensures.taken b.iommu.contexts _ registers.1 is.contexts)

pub returns-in_err-pages-clause-taken : goal.returns-in_err-pages-clause-taken
returns-in_err-pages-clause-taken c = λ b rest are is.
    let registers = c.in-Some.ensures.taken b.iommu.registers _ (board_front b _ rest are) is.registers in
    let contexts = c.in_ok-contexts.ensures.taken b.iommu.contexts _ registers.1 is.contexts in
    let p = err_from_is_err_and c.from_residual-in_err-pages.result c.from_residual-in_err-pages.ensures.1 in
    rw (p.1, p.2) (c.in_err-pages.ensures.taken b.iommu.pages _ contexts.1 is.pages)

pub returns-in_err-messages-clause-taken : goal.returns-in_err-messages-clause-taken
returns-in_err-messages-clause-taken c = λ b rest are is.
    let registers = c.in-Some.ensures.taken b.iommu.registers _ (board_front b _ rest are) is.registers in
    let contexts = c.in_ok-contexts.ensures.taken b.iommu.contexts _ registers.1 is.contexts in
    let pages = c.in_ok-pages.ensures.taken b.iommu.pages _ contexts.1 is.pages in
    let p = err_from_is_err_and c.from_residual-in_err-messages.result c.from_residual-in_err-messages.ensures.1 in
    rw (p.1, p.2) (c.in_err-messages.ensures.taken b.messages _ pages.1 is.messages)

pub returns-in_err-devices-clause-taken : goal.returns-in_err-devices-clause-taken
returns-in_err-devices-clause-taken c = λ b rest are is.
    let registers = c.in-Some.ensures.taken b.iommu.registers _ (board_front b _ rest are) is.registers in
    let contexts = c.in_ok-contexts.ensures.taken b.iommu.contexts _ registers.1 is.contexts in
    let pages = c.in_ok-pages.ensures.taken b.iommu.pages _ contexts.1 is.pages in
    let messages = c.in_ok-messages.ensures.taken b.messages _ pages.1 is.messages in
    let p = err_from_is_err_and c.from_residual-in_err-devices.result c.from_residual-in_err-devices.ensures.1 in
    rw (p.1, p.2) (c.in_err-devices.ensures.taken b.devices rest messages.1 is.devices.each)

pub returns-in_default-of-clause-taken : goal.returns-in_default-of-clause-taken
returns-in_default-of-clause-taken c = λ b rest are is.
    let registers = c.in-Some.ensures.taken b.iommu.registers _ (board_front b _ rest are) is.registers in
    let contexts = c.in_ok-contexts.ensures.taken b.iommu.contexts _ registers.1 is.contexts in
    let pages = c.in_ok-pages.ensures.taken b.iommu.pages _ contexts.1 is.pages in
    let messages = c.in_ok-messages.ensures.taken b.messages _ pages.1 is.messages in
    let devices = c.in_ok-devices.ensures.taken b.devices rest messages.1 is.devices.each in
    let few : length c.in_ok-devices.devices.items ≤ most_devices = omega (arith, ap length devices.0, is.devices.few) in
    let no = c.in_default-of.ensures.few.1 few in absurd (cc)

pub returns-clause-taken : goal.returns-clause-taken
returns-clause-taken c = λ b rest are is.
    let registers = c.in-Some.ensures.taken b.iommu.registers _ (board_front b _ rest are) is.registers in
    let contexts = c.in_ok-contexts.ensures.taken b.iommu.contexts _ registers.1 is.contexts in
    let pages = c.in_ok-pages.ensures.taken b.iommu.pages _ contexts.1 is.pages in
    let messages = c.in_ok-messages.ensures.taken b.messages _ pages.1 is.messages in
    let devices = c.in_ok-devices.ensures.taken b.devices rest messages.1 is.devices.each in
    (c.in-Some-of.ensures.board ∙ rw (registers.0, contexts.0, pages.0, messages.0, devices.0) refl, devices.1)
