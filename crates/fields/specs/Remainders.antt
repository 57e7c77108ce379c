-- How large a product is, and what a remainder means. Assumes nothing.
use Rattle.std.specs.Prelude.{◌≡◌, ℕ, zero, suc, ◌+◌, ◌*◌, ◌/◌, ◌^◌, ◌<◌, ◌≤◌, refl}
use Rattle.std.proofs.Common.{sym, ap, ap₂, ◌∙◌, inl, inr, add-zero, add-suc, mul-one, mul-zero, pow-suc, mod-eq_of_lt, lt_of_le_of_lt, lt_of_lt_of_le, zero-mul, add_comm, suc-add, zero-add, mul_assoc, one-add, arith, lit<, pow_pos, pow-add, pow_mono}
use Rattle.std.specs.Int.Bits.{bit_xor, xor_assoc, xor_self, xor_zero_r, shifted_even}
use Rattle.std.proofs.Math.Pow.{split}
use Rattle.fields.specs.Polynomials.{bit, product, remainder, reduced_product}
use Rattle.fields.specs.Linear.{bit-xor, bit_cases, top_below, product_right}
use Rattle.std.proofs.lemmas.Nat.{mod_below, div_below, shl_below, shl-shr, shr-shr, le-div, xor_lt, xor_shr}

-- a coefficient of a number below 2^i, from x^i on
pub bit_above : (a i : ℕ) → a < 2 ^ i → bit a i ≡ 0
bit_above a i h = let e : a / 2 ^ i < 1 = div_below a (2 ^ i) 1 (pow_pos i) (omega arith) in omega arith

-- multiplying by a coefficient makes no number larger
pub scale_le : (a u i : ℕ) → a * bit u i ≤ a
scale_le a u i = elim (bit_cases u i) [ inl e ↦ rw (e, mul-zero) (omega arith) | inr e ↦ rw (e, mul-one) (omega arith) ]

-- a product with the terms below x^n has at most n places more
pub product_below : (n m a b : ℕ) → a < 2 ^ m → product n a b < 2 ^ (m + n)
unfolding product
product_below zero m a b h = pow_pos (m + 0)
product_below (suc n) m a b h =
    xor_lt (m + suc n) (product n a b) (a * 2 ^ n * bit b n)
    (lt_of_lt_of_le (product_below n m a b h) wider)
    (lt_of_le_of_lt (scale_le (a * 2 ^ n) b n) (lt_of_lt_of_le (shl_below a m n h) wider))
  where
    wider : 2 ^ (m + n) ≤ 2 ^ (m + suc n)
    wider = pow_mono (omega arith)

-- a sum of two numbers below 2^(i+1) with the same term in x^i is below 2^i
pub top_cancelled : (i a c : ℕ) → a < 2 ^ suc i → c < 2 ^ suc i → bit c i ≡ bit a i → bit_xor a c < 2 ^ i
top_cancelled i a c ha hc e =
    let la : a / 2 ^ i < 2 = top_below i a ha in
    let lc : c / 2 ^ i < 2 = top_below i c hc in
    let same : c / 2 ^ i ≡ a / 2 ^ i = omega arith in
    let none : bit_xor a c / 2 ^ i ≡ 0 = xor_shr a c i ∙ ap (bit_xor (a / 2 ^ i)) same ∙ xor_self (a / 2 ^ i) in
    let whole = rw (none, zero-mul) at (split (bit_xor a c) i) in
    omega (arith, whole, mod_below (bit_xor a c) (2 ^ i) (pow_pos i))

-- the modulus moved up by n places has the term x^(m+n)
pub moved_top : (m modulus n : ℕ) → 2 ^ m ≤ modulus → modulus < 2 ^ suc m → bit (modulus * 2 ^ n) (m + n) ≡ 1
moved_top m modulus n low high =
    let e : modulus * 2 ^ n / 2 ^ (m + n) ≡ modulus / 2 ^ m =
    ap (λ (x : ℕ). modulus * 2 ^ n / 2 ^ x) (add_comm m n) ∙ sym (shr-shr (modulus * 2 ^ n) n m) ∙ ap (λ (x : ℕ). x / 2 ^ m) (shl-shr modulus n) in
    omega (arith, e, top_below m modulus high, le-div 1 modulus (2 ^ m) (pow_pos m) (omega arith))

-- a number with the term x^i, times a coefficient of x^i, has that coefficient there
pub scaled_bit : (c u i : ℕ) → bit c i ≡ 1 → bit (c * bit u i) i ≡ bit u i
scaled_bit c u i e =
    elim (bit_cases u i) [ inl d ↦ rw (d, mul-zero) (bit_above 0 i (pow_pos i)) | inr d ↦ rw (d, mul-one) e ]

-- one step of a division: the moved modulus cancels the term x^(m+n)
pub cancelled : (m modulus n a : ℕ) → 2 ^ m ≤ modulus → modulus < 2 ^ suc m → a < 2 ^ suc (m + n) → bit_xor a (modulus * 2 ^ n * bit a (m + n)) < 2 ^ (m + n)
cancelled m modulus n a low high h =
    top_cancelled (m + n) a (modulus * 2 ^ n * bit a (m + n)) h
    (lt_of_le_of_lt (scale_le (modulus * 2 ^ n) a (m + n)) (rw suc-add at (shl_below modulus (suc m) n high)))
    (scaled_bit (modulus * 2 ^ n) a (m + n) (moved_top m modulus n low high))

-- a product with a number that has no term below x^(j+n) has nothing from the terms below x^n
pub product_high : (n j a c : ℕ) → product n a (c * 2 ^ (j + n)) ≡ 0
unfolding product
product_high zero j a c = refl
product_high (suc n) j a c = rw (add-suc, ← suc-add) (ap₂ bit_xor (product_high n (suc j) a c) (ap (λ (x : ℕ). a * 2 ^ n * x) even ∙ mul-zero (a * 2 ^ n)))
  where
    even : bit (c * 2 ^ (suc j + n)) n ≡ 0
    even = rw (pow-add, ← mul_assoc, shl-shr) (shifted_even c j)

-- so terms of the second factor from x^n on do not count
pub product_low : (n a t c : ℕ) → product n a (bit_xor t (c * 2 ^ n)) ≡ product n a t
product_low n a t c =
    product_right n a t (c * 2 ^ n) ∙ ap (bit_xor (product n a t)) (rw zero-add at (product_high n 0 a c)) ∙ xor_zero_r (product n a t)

-- a number below 2^n with the term c x^n added: it is below 2^(n+1), and its coefficient of x^n is c
pub term_added : (n t c : ℕ) → t < 2 ^ n → c < 2 → (bit_xor t (c * 2 ^ n) < 2 ^ suc n) × (bit (bit_xor t (c * 2 ^ n)) n ≡ c)
term_added n t c h l = (
  xor_lt (suc n) t (c * 2 ^ n) (omega (arith, pow-suc 2 n)) (rw one-add at (shl_below c 1 n l)),
  bit-xor n t (c * 2 ^ n) ∙ rw (bit_above t n h, shl-shr) (mod-eq_of_lt l),
)

-- exclusive or with c, twice
pub xor_back : (a c : ℕ) → a ≡ bit_xor (bit_xor a c) c
xor_back a c = sym (xor_assoc a c c ∙ ap (bit_xor a) (xor_self c) ∙ xor_zero_r a)

-- a remainder is below x^m, and differs from the number by a multiple of the modulus
pub remainder_means : (m modulus n a : ℕ) → 2 ^ m ≤ modulus → modulus < 2 ^ suc m → a < 2 ^ (m + n)
    → (remainder m modulus n a < 2 ^ m) × ((t : ℕ) × (t < 2 ^ n) × (a ≡ bit_xor (remainder m modulus n a) (product n modulus t)))
unfolding product remainder
remainder_means m modulus zero a low high h = (rw add-zero at h, (0, lit< tt, sym (xor_zero_r a)))
remainder_means m modulus (suc n) a low high h =
    let b : ℕ = bit a (m + n) in
    let c : ℕ = modulus * 2 ^ n * b in
    let r : ℕ = remainder m modulus n (bit_xor a c) in
    let ih = remainder_means m modulus n (bit_xor a c) low high (cancelled m modulus n a low high (rw add-suc at h)) in
    let t : ℕ = ih.1.0 in
    let more = term_added n t b ih.1.1 (omega arith) in
    let same : product (suc n) modulus (bit_xor t (b * 2 ^ n)) ≡ bit_xor (product n modulus t) c =
    ap₂ bit_xor (product_low n modulus t b) (ap (λ (x : ℕ). modulus * 2 ^ n * x) more.1) in (
      ih.0,
      (
        bit_xor t (b * 2 ^ n),
        more.0,
        xor_back a c ∙ ap (λ (x : ℕ). bit_xor x c) ih.1.2 ∙ xor_assoc r (product n modulus t) c ∙ ap (bit_xor r) (sym same),
      ),
    )

-- a reduced product is below x^m
pub reduced_product_below : (m modulus a b : ℕ) → 2 ^ m ≤ modulus → modulus < 2 ^ suc m → a < 2 ^ m → reduced_product m modulus a b < 2 ^ m
reduced_product_below m modulus a b low high h = (remainder_means m modulus m (product m a b) low high (product_below m m a b h)).0
