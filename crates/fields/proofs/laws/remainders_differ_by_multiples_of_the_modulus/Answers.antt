use Rattle.fields.specs.Remainders.{remainder_means}
use Rattle.fields.proofs.laws.remainders_differ_by_multiples_of_the_modulus.Goals as goal

pub returns : goal.returns
returns c = remainder_means
