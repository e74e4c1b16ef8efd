use Rattle.iom_saved.specs.Boards.{devices_words}
use Rattle.iom_saved.specs.Caches.{contexts_words, pages_words}
use Rattle.iom_saved.specs.Messages.{messages_words}
use Rattle.iom_saved.specs.Registers.{register_words}
use Rattle.iom_saved.proofs.Lists.{put_five}
use Rattle.iom_saved.proofs.boards.put_board.Goals as goal

pub returns-clause-words : goal.returns-clause-words
returns-clause-words c =
    put_five _ _ _ _ _ _ (register_words c.args.board.now.iommu.registers) (contexts_words c.args.board.now.iommu.contexts)
    (pages_words c.args.board.now.iommu.pages) (messages_words c.args.board.now.messages) (devices_words c.args.board.now.devices)
    (rw c.registers.ensures at c.in_ok-put_registers.ensures.words) (rw c.contexts.ensures at c.in_ok-put_contexts.ensures.words)
    (rw c.trans.ensures at c.in_ok-put_pages.ensures.words) (rw c.messages.ensures at c.in_ok-put_messages.ensures.words)
    c.in_ok-put_devices.ensures.words
