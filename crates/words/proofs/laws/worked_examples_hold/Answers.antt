use Rattle.words.proofs.Examples.{worked_examples}
use Rattle.words.proofs.laws.worked_examples_hold.Goals as goal

pub returns : goal.returns
returns c = worked_examples
