use Rattle.iom_text.specs.Words.{words_of}
use Rattle.iom_tool.proofs.Fast.{dma_write}
use Rattle.iom_tool.proofs.script.put_dma_write.Goals as goal

pub returns : goal.returns
returns c = λ is. dma_write (words_of c.args.text.now) c.in-Some.device c.in-Some.address c.numbers_and_data.new.bytes.items c.in-Some.ensures
