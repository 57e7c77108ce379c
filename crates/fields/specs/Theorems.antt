-- What holds of the definitions of fields. Assumes nothing.
use Rattle.std.specs.Prelude.{◌≡◌, ℕ, suc, ◌+◌, ◌^◌, ◌<◌, ◌≤◌, true, bit_xor}
use Rattle.fields.specs.Answers.{negative_of, inverse_of}
use Rattle.fields.specs.Kinds.{binary_tables}
use Rattle.fields.specs.Lawful.{Tables, Lawful}
use Rattle.fields.specs.Polynomials.{product, remainder, irreducible}

-- Every irreducible modulus of degree 2 to 6 makes a lawful field, whoever brings it.
abbrev pub IrreducibleModuliMakeFields : Type 0
IrreducibleModuliMakeFields = (m modulus : ℕ) → 2 ≤ m → m ≤ 6 → irreducible m modulus ≡ true → Lawful (binary_tables m modulus)

-- The remainder of a polynomial a below x^(m+n), by a modulus of degree m, is below x^m and differs from a by a multiple
-- of the modulus.
abbrev pub RemaindersDifferByMultiples : Type 0
RemaindersDifferByMultiples =
    (m modulus n a : ℕ) → 2 ^ m ≤ modulus → modulus < 2 ^ suc m → a < 2 ^ (m + n)
    → (remainder m modulus n a < 2 ^ m) × ((t : ℕ) × (t < 2 ^ n) × (a ≡ bit_xor (remainder m modulus n a) (product n modulus t)))

-- In a lawful field the answered negative of an element is the one element whose sum with it is 0, and the answered
-- inverse of an element but 0 is the one whose product with it is 1.
pub record Partners (f : Tables) (a b : ℕ) : Type 0 where
  pub negative : f.plus a b ≡ 0 → b ≡ negative_of f a
  pub negative_back : b ≡ negative_of f a → f.plus a b ≡ 0
  pub inverse : f.times a b ≡ 1 → b ≡ inverse_of f a
  pub inverse_back : 0 < a → b ≡ inverse_of f a → f.times a b ≡ 1

abbrev pub PartnersAreUnique : Type 0
PartnersAreUnique = (f : Tables) → Lawful f → (a b : ℕ) → a < f.order → b < f.order → Partners f a b
