-- The two kinds of field: prime and binary. Assumes nothing.
use Rattle.std.specs.Prelude.{ℕ, ◌+◌, ◌-◌, ◌*◌, ◌%◌, ◌^◌, Bool, not, ◌&&◌, [], ◌∷◌, ◌==◌, nat_le, slice_index}
use Rattle.std.specs.Int.Bits.{bit_xor}
use Rattle.std.specs.List.{list_all, range_with_len}
use Rattle.fields.specs.Lawful.{Tables}
use Rattle.fields.specs.Polynomials.{reduced_product, irreducible}

-- sums and products modulo p
abbrev pub prime_tables : ℕ → Tables
prime_tables p = record { order = p; plus = λ a b. (a + b) % p; times = λ a b. (a * b) % p }

-- polynomials below x^m: the sum is the exclusive or, the product is reduced by the modulus
abbrev pub binary_tables : ℕ → ℕ → Tables
binary_tables m modulus = record { order = 2 ^ m; plus = bit_xor; times = reduced_product m modulus }

-- whether p is a prime: at least 2, and divided by no number from 2 to p - 1
unfoldable pub prime : ℕ → Bool
prime p = nat_le 2 p && list_all (λ d. not (p % d == 0)) (range_with_len 2 (p - 2))

-- whether p makes a prime field: a prime up to 61
abbrev pub makes_prime_field : ℕ → Bool
makes_prime_field p = nat_le p 61 && prime p

-- whether there is a binary field of order 2^m: m from 2 to 6
abbrev pub has_binary_field : ℕ → Bool
has_binary_field m = nat_le 2 m && nat_le m 6

-- whether m and a modulus make a binary field: the modulus is irreducible of degree m
abbrev pub makes_binary_field : ℕ → ℕ → Bool
makes_binary_field m modulus = has_binary_field m && irreducible m modulus

-- the modulus of the binary field with 2^m elements
abbrev pub house_modulus : ℕ → ℕ
house_modulus m = slice_index (7 ∷ 11 ∷ 19 ∷ 37 ∷ 67 ∷ []) (m - 2)
