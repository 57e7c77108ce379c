-- Extensions that have the same number. Assumes nothing.
use Rattle.std.specs.Prelude.{ℕ, ◌==◌}
use Rattle.std.proofs.lemmas.Bool.Decides.{Decides-eqb}
use Rattle.names.specs.Keys.{alike_by}
use Rattle.names.specs.Names.{Alike}

-- to have the same number is reflexive, symmetric and transitive
pub numbers_alike : {N : Type 0} (number : N → ℕ) → Alike (λ a b. (number a == number b))
numbers_alike number = alike_by number _ (λ a b. Decides-eqb (number a) (number b))
