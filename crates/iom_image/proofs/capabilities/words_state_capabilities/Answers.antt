use Rattle.iom_image.proofs.Stated.{states_capabilities}
use Rattle.iom_image.proofs.capabilities.words_state_capabilities.Goals as goal

pub returns : goal.returns
returns c = states_capabilities
