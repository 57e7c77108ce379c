use Rattle.fields.specs.BinaryLaws.{binary_laws}
use Rattle.fields.proofs.laws.irreducible_moduli_make_fields.Goals as goal

pub returns : goal.returns
returns c = binary_laws
