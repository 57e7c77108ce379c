use Rattle.fields.proofs.Answering.{partners}
use Rattle.fields.proofs.laws.negatives_and_inverses_are_unique.Goals as goal

pub returns : goal.returns
returns c = partners
