use Rattle.iom_choices.proofs.Thorough.{thorough_led, thorough_trees}
use Rattle.iom_choices.proofs.laws.thorough_walks_are_trees.Goals as goal

pub returns-clause-trees : goal.returns-clause-trees
returns-clause-trees g c = λ sys commands making tree trees. thorough_trees sys commands making tree trees

pub returns-clause-led : goal.returns-clause-led
returns-clause-led g c = λ sys commands making tree trees state source request. thorough_led sys commands making tree trees state source request
