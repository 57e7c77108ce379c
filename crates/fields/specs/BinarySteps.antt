-- One turn of the loops that multiply and reduce polynomials over bits. Assumes nothing.
use Rattle.std.specs.Prelude.{◌≡◌, ℕ, zero, suc, ◌+◌, ◌-◌, ◌*◌, ◌/◌, ◌%◌, ◌^◌, ◌<◌, ◌≤◌, true, bit_and, bit_xor, refl}
use native.Mathlib.Numerals.{unary_clauses}
use Rattle.std.proofs.Common.{ap, ◌∙◌, mod-eq_of_lt, mul-one, add-one, arith, shl_lt, pow_mono}
use Rattle.std.proofs.lemmas.Nat.{mul-le, and_mask, xor_lt}
use Rattle.std.proofs.lemmas.Bool.Decides.{nat_tests}
use Rattle.fields.specs.Lawful.{Lawful}
use Rattle.fields.specs.Polynomials.{product, remainder, all_below, irreducible}
use Rattle.fields.specs.Kinds.{makes_binary_field, house_modulus, binary_tables}
use Rattle.fields.specs.BinaryLaws.{binary_laws, irreducible_degree}
use Rattle.fields.specs.Searching.{all_below_at}

-- the bounds that the numbers of a binary field keep
pub admitted_parts : (m modulus : ℕ) → makes_binary_field m modulus ≡ true → (2 ≤ m) × (m ≤ 6) × (irreducible m modulus ≡ true)
admitted_parts m modulus ok = (grind (arith, nat_tests), grind (arith, nat_tests), grind (arith, nat_tests))

pub admitted_laws : (m modulus : ℕ) → makes_binary_field m modulus ≡ true → Lawful (binary_tables m modulus)
admitted_laws m modulus ok = let p = admitted_parts m modulus ok in binary_laws m modulus p.0 p.1 p.2

-- a modulus that makes a binary field is below x^7
pub modulus_below : (m modulus : ℕ) → makes_binary_field m modulus ≡ true → modulus < 128
modulus_below m modulus ok =
    let p = admitted_parts m modulus ok in
    omega (arith, (irreducible_degree m modulus p.2).1, pow_mono {i = suc m} {j = 7} (omega (arith, p.1)))

-- a polynomial below x^w, moved up i places, stays below x^12
shifted_below : (a w i : ℕ) → a < 2 ^ w → w + i ≤ 12 → a * 2 ^ i < 4096
shifted_below a w i h fits = omega (arith, shl_lt w i h, pow_mono fits)

-- what a turn adds: the polynomial moved up i places, once if the lowest bit of x is set
term_is : (a i x : ℕ) → a * 2 ^ i < 4096 → ((a * 2 ^ i) % 4294967296) * bit_and x 1 ≡ a * 2 ^ i * (x % 2)
term_is a i x h =
    ap (λ y. y * bit_and x 1) (mod-eq_of_lt (omega arith)) ∙ ap (λ y. a * 2 ^ i * y) (and_mask x 1)

term_below : (s x : ℕ) → s < 4096 → s * (x % 2) < 4096
term_below s x h = omega (arith, mul-le s (x % 2) s 1 (omega arith) (omega arith), mul-one s)

module _ (a w i x : ℕ) (small : a < 2 ^ w) (fits : w + i ≤ 12) where
  -- the term that a turn adds fits a machine number
  pub term_fits : ((a * 2 ^ i) % 4294967296) * bit_and x 1 < 4096
  term_fits = let s = shifted_below a w i small fits in rw (term_is a i x s) (term_below (a * 2 ^ i) x s)

  pub sum_below : (sum : ℕ) → sum < 4096 → bit_xor sum (((a * 2 ^ i) % 4294967296) * bit_and x 1) < 4096
  sum_below sum h = xor_lt 12 sum _ h term_fits

-- one more term of b
pub product_more : (a b w i sum : ℕ) → a < 2 ^ w → w + i ≤ 12 → sum ≡ product i a b
    → bit_xor sum (((a * 2 ^ i) % 4294967296) * bit_and (b / 2 ^ i) 1) ≡ product (i + 1) a b
unfolding product
product_more a b w i sum small fits e =
    rw (e, add-one) (ap (bit_xor (product i a b)) (term_is a i (b / 2 ^ i) (shifted_below a w i small fits)))

-- one more term is cancelled
pub remainder_more : (m modulus i rest : ℕ) → modulus < 2 ^ 7 → 7 + i ≤ 12
    → remainder m modulus i (bit_xor rest (((modulus * 2 ^ i) % 4294967296) * bit_and (rest / 2 ^ (m + i)) 1)) ≡ remainder m modulus (suc i) rest
unfolding remainder
remainder_more m modulus i rest small fits =
    ap (λ y. remainder m modulus i (bit_xor rest y)) (term_is modulus i (rest / 2 ^ (m + i)) (shifted_below modulus 7 i small fits))

-- the same of the numbers of a binary field, as its loops have them
module _ (m modulus : ℕ) (ok : makes_binary_field m modulus ≡ true) where
  pub product_turn : (a b i sum : ℕ) → a < 2 ^ m → i < m → sum ≡ product i a b
      → bit_xor sum (((a * 2 ^ i) % 4294967296) * bit_and (b / 2 ^ i) 1) ≡ product (i + 1) a b
  product_turn a b i sum small low e = product_more a b m i sum small (omega (arith, (admitted_parts m modulus ok).1)) e

  pub remainder_turn : (i rest : ℕ) → 0 < i → i ≤ m
      → remainder m modulus (i - 1) (bit_xor rest (((modulus * 2 ^ (i - 1)) % 4294967296) * bit_and (rest / 2 ^ (m + (i - 1))) 1)) ≡ remainder m modulus i rest
  remainder_turn (suc i) rest positive low =
      simp unary_clauses (remainder_more m modulus i rest (modulus_below m modulus ok) (omega (arith, (admitted_parts m modulus ok).1)))
  remainder_turn zero rest positive low = absurd (omega arith)

five_moduli : all_below (λ k. makes_binary_field (k + 2) (house_modulus (k + 2))) 5 ≡ true
unfolding all_below irreducible remainder
five_moduli = refl

-- each of the five moduli makes a binary field
pub house_modulus_serves : (m : ℕ) → 2 ≤ m → m ≤ 6 → makes_binary_field m (house_modulus m) ≡ true
house_modulus_serves m low high =
    let place : (m - 2) + 2 ≡ m = omega arith in
    rw place at (all_below_at (λ k. makes_binary_field (k + 2) (house_modulus (k + 2))) 5 five_moduli (m - 2) (omega arith))
