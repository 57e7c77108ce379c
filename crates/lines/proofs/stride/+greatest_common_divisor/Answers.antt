-- One step of Euclid's algorithm keeps the common divisors.
use Rattle.std.proofs.lemmas.Nat.Gcd.{IsGcd-from_mod}
use Rattle.lines.proofs.stride.+greatest_common_divisor.Goals as goal

pub returns-else-n-eq0 : goal.returns-else-n-eq0
returns-else-n-eq0 t c = IsGcd-from_mod _ _ _ c.greatest_common_divisor.ensures
