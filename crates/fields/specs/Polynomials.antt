-- Polynomials whose coefficients are bits: bit i of a number is the coefficient of x^i. Assumes nothing.
use Rattle.std.specs.Prelude.{ℕ, zero, suc, ◌+◌, ◌-◌, ◌*◌, ◌/◌, ◌%◌, ◌^◌, Bool, true, not, ◌&&◌, ◌==◌, bit_xor, nat_le, nat_lt}

-- the coefficient of x^i
abbrev pub bit : ℕ → ℕ → ℕ
bit a i = a / 2 ^ i % 2

-- the product of a and the terms of b below x^n: for each such term x^i of b, a is added once, i places up
unfoldable pub product : ℕ → ℕ → ℕ → ℕ
product zero a b = 0
product (suc n) a b = bit_xor (product n a b) (a * 2 ^ n * bit b n)

-- what is left of a on division by a modulus of degree m, where a has no term from x^(m+n) on:
-- the terms from x^(m+n-1) down to x^m are cancelled, each by the modulus moved up to it
unfoldable pub remainder : ℕ → ℕ → ℕ → ℕ → ℕ
remainder m modulus zero a = a
remainder m modulus (suc n) a = remainder m modulus n (bit_xor a (modulus * 2 ^ n * bit a (m + n)))

-- the product of two polynomials below x^m, reduced by a modulus of degree m
abbrev pub reduced_product : ℕ → ℕ → ℕ → ℕ → ℕ
reduced_product m modulus a b = remainder m modulus m (product m a b)

-- whether a test passes at every number below n
unfoldable pub all_below : (ℕ → Bool) → ℕ → Bool
all_below f zero = true
all_below f (suc n) = f n && all_below f n

-- whether the modulus has degree m, and no polynomial of degree 1 to m div 2 divides it
unfoldable pub irreducible : ℕ → ℕ → Bool
irreducible m modulus =
    nat_le (2 ^ m) modulus && (nat_lt modulus (2 ^ suc m) && all_below (λ d. all_below (λ low. not (remainder (suc d) (2 ^ suc d + low) (m - d) modulus == 0)) (2 ^ suc d)) (m / 2))
