-- Products and remainders of polynomials pass through exclusive or, and what does is known from the powers of two. Assumes nothing.
use Rattle.std.specs.Prelude.{◌≡◌, ℕ, zero, suc, ◌+◌, ◌*◌, ◌/◌, ◌%◌, ◌^◌, ◌<◌, ◌⊎◌, refl}
use Rattle.std.proofs.Common.{sym, ap, ap₂, ◌∙◌, inl, inr, add-zero, mul-one, mul-zero, one-mul, zero-mul, pow-suc, arith, pow_pos}
use Rattle.std.specs.Int.Bits.{bit_xor, xor_assoc, xor_self, xor_zero_r, xor_shifted}
use Rattle.std.proofs.Math.Pow.{split}
use Rattle.fields.specs.Polynomials.{bit, product, remainder, reduced_product}
use Rattle.std.proofs.lemmas.Bool.{cases_eq}
use Rattle.std.proofs.lemmas.Nat.{mod_below, div_below, xor_comm, xor_block, xor_shr, xor_mod}

-- a function that passes through exclusive or
abbrev pub Linear : (ℕ → ℕ) → Type 0
Linear f = (x y : ℕ) → f (bit_xor x y) ≡ bit_xor (f x) (f y)

-- four terms of an exclusive or, the inner two exchanged
pub xor_medial : (a b c d : ℕ) → bit_xor (bit_xor a b) (bit_xor c d) ≡ bit_xor (bit_xor a c) (bit_xor b d)
xor_medial a b c d =
    simp xor_assoc (ap (bit_xor a) (sym (xor_assoc b c d) ∙ ap (λ (x : ℕ). bit_xor x d) (xor_comm b c) ∙ xor_assoc c b d))

-- a number below 2 is 0 or 1
pub below_two : (c : ℕ) → c < 2 → (c ≡ 0) ⊎ (c ≡ 1)
below_two c h = elim (cases_eq c 0) [ inl none ↦ inl none | inr some ↦ inr (omega arith) ]

-- a coefficient is 0 or 1
pub bit_cases : (a i : ℕ) → (bit a i ≡ 0) ⊎ (bit a i ≡ 1)
bit_cases a i = below_two (bit a i) (omega arith)

-- a coefficient of a sum
pub bit-xor : (i : ℕ) → Linear (λ a. bit a i)
bit-xor i a b = ap (λ (x : ℕ). x % 2) (xor_shr a b i) ∙ xor_mod (a / 2 ^ i) (b / 2 ^ i) 1

-- moving up by k places
pub shift_xor : (k : ℕ) → Linear (λ a. a * 2 ^ k)
shift_xor k a b = sym (simp (add-zero, xor_zero_r) at (xor_block k a b 0 0 (pow_pos k) (pow_pos k)))

-- multiplying by a coefficient
pub scale_xor : (u i : ℕ) → Linear (λ a. a * bit u i)
scale_xor u i a b =
    elim (bit_cases u i) [ inl e ↦ simp (e, mul-zero) | inr e ↦ simp (e, mul-one) ]

-- multiplying by a sum of coefficients
pub spread_xor : (a i x y : ℕ) → a * bit_xor (bit x i) (bit y i) ≡ bit_xor (a * bit x i) (a * bit y i)
spread_xor a i x y =
    elim (bit_cases x i) [
      | inl e ↦ simp (e, mul-zero)
      | inr e ↦ elim (bit_cases y i) [ inl d ↦ simp (e, d, mul-zero, mul-one, xor_zero_r) | inr d ↦ simp (e, d, mul-zero, mul-one, xor_self) ]
    ]

-- a product passes through exclusive or in its first factor
pub product_left : (n b : ℕ) → Linear (λ a. product n a b)
unfolding product
product_left zero b x y = refl
product_left (suc n) b x y =
    ap₂ bit_xor (product_left n b x y) (ap (λ (z : ℕ). z * bit b n) (shift_xor n x y) ∙ scale_xor b n (x * 2 ^ n) (y * 2 ^ n))
    ∙ xor_medial (product n x b) (product n y b) (x * 2 ^ n * bit b n) (y * 2 ^ n * bit b n)

-- and in its second
pub product_right : (n a : ℕ) → Linear (product n a)
unfolding product
product_right zero a x y = refl
product_right (suc n) a x y =
    ap₂ bit_xor (product_right n a x y) (ap (λ (z : ℕ). a * 2 ^ n * z) (bit-xor n x y) ∙ spread_xor (a * 2 ^ n) n x y)
    ∙ xor_medial (product n a x) (product n a y) (a * 2 ^ n * bit x n) (a * 2 ^ n * bit y n)

-- a remainder passes through exclusive or
pub remainder_xor : (m modulus n : ℕ) → Linear (remainder m modulus n)
unfolding remainder
remainder_xor m modulus zero x y = refl
remainder_xor m modulus (suc n) x y =
    ap (remainder m modulus n)
    (ap (bit_xor (bit_xor x y)) (ap (λ (z : ℕ). modulus * 2 ^ n * z) (bit-xor (m + n) x y) ∙ spread_xor (modulus * 2 ^ n) (m + n) x y)
    ∙ xor_medial x y (modulus * 2 ^ n * bit x (m + n)) (modulus * 2 ^ n * bit y (m + n)))
    ∙ remainder_xor m modulus n (bit_xor x (modulus * 2 ^ n * bit x (m + n))) (bit_xor y (modulus * 2 ^ n * bit y (m + n)))

-- so a reduced product does in its first factor
pub reduced_left : (m modulus b : ℕ) → Linear (λ a. reduced_product m modulus a b)
reduced_left m modulus b x y = ap (remainder m modulus m) (product_left m b x y) ∙ remainder_xor m modulus m (product m x b) (product m y b)

-- and in its second
pub reduced_right : (m modulus a : ℕ) → Linear (reduced_product m modulus a)
reduced_right m modulus a x y = ap (remainder m modulus m) (product_right m a x y) ∙ remainder_xor m modulus m (product m a x) (product m a y)

-- a linear function takes 0 to 0
pub linear_zero : (f : ℕ → ℕ) → Linear f → f 0 ≡ 0
linear_zero f l = l 0 0 ∙ xor_self (f 0)

-- what stands from x^m on in a number below 2^(m+1)
pub top_below : (m a : ℕ) → a < 2 ^ suc m → a / 2 ^ m < 2
top_below m a h = div_below a (2 ^ m) 2 (pow_pos m) (omega (arith, pow-suc 2 m))

-- linear functions that agree on the powers of two below 2^m agree below 2^m
pub linear_agree : (f g : ℕ → ℕ) → Linear f → Linear g → (m : ℕ) → ((i : ℕ) → i < m → f (2 ^ i) ≡ g (2 ^ i))
    → (a : ℕ) → a < 2 ^ m → f a ≡ g a
linear_agree f g lf lg zero same a h =
    let e : a ≡ 0 = omega arith in rw (e, linear_zero f lf, linear_zero g lg)
linear_agree f g lf lg (suc m) same a h =
    ap f parts ∙ lf (a / 2 ^ m * 2 ^ m) (a % 2 ^ m)
    ∙ ap₂ bit_xor (top (below_two (a / 2 ^ m) (top_below m a h)))
    (linear_agree f g lf lg m (λ i l. same i (omega arith)) (a % 2 ^ m) (mod_below a (2 ^ m) (pow_pos m)))
    ∙ sym (ap g parts ∙ lg (a / 2 ^ m * 2 ^ m) (a % 2 ^ m))
  where
    parts : a ≡ bit_xor (a / 2 ^ m * 2 ^ m) (a % 2 ^ m)
    parts = sym (xor_shifted (a / 2 ^ m) m (a % 2 ^ m) (mod_below a (2 ^ m) (pow_pos m)) ∙ split a m)

    top : (a / 2 ^ m ≡ 0) ⊎ (a / 2 ^ m ≡ 1) → f (a / 2 ^ m * 2 ^ m) ≡ g (a / 2 ^ m * 2 ^ m)
    top (inl e) = rw (e, zero-mul) (linear_zero f lf ∙ sym (linear_zero g lg))
    top (inr e) = rw (e, one-mul) (same m (omega arith))

-- one linear function after another
pub linear_after : (f g : ℕ → ℕ) → Linear f → Linear g → Linear (λ x. f (g x))
linear_after f g lf lg x y = ap f (lg x y) ∙ lf (g x) (g y)

-- a product that is linear in each factor
module _ (m : ℕ) (times : ℕ → ℕ → ℕ) (left : (b : ℕ) → Linear (λ a. times a b)) (right : (a : ℕ) → Linear (times a)) where
  -- it commutes below 2^m where it does on the powers of two
  pub commutes : ((i j : ℕ) → i < m → j < m → times (2 ^ i) (2 ^ j) ≡ times (2 ^ j) (2 ^ i))
      → (a b : ℕ) → a < 2 ^ m → b < 2 ^ m → times a b ≡ times b a
  commutes same a b ha hb =
      linear_agree (λ x. times x b) (times b) (left b) (right b) m
      (λ i hi. linear_agree (times (2 ^ i)) (λ x. times x (2 ^ i)) (right (2 ^ i)) (left (2 ^ i)) m (λ j hj. same i j hi hj) b hb) a ha

  -- it associates below 2^m where it does on the powers of two
  pub associates : ((i j k : ℕ) → i < m → j < m → k < m → times (times (2 ^ i) (2 ^ j)) (2 ^ k) ≡ times (2 ^ i) (times (2 ^ j) (2 ^ k)))
      → (a b c : ℕ) → a < 2 ^ m → b < 2 ^ m → c < 2 ^ m → times (times a b) c ≡ times a (times b c)
  associates same a b c ha hb hc =
      linear_agree (λ x. times (times x b) c) (λ x. times x (times b c))
      (linear_after (λ x. times x c) (λ x. times x b) (left c) (left b)) (left (times b c)) m
      (λ i hi. linear_agree (λ x. times (times (2 ^ i) x) c) (λ x. times (2 ^ i) (times x c))
      (linear_after (λ x. times x c) (times (2 ^ i)) (left c) (right (2 ^ i))) (linear_after (times (2 ^ i)) (λ x. times x c) (right (2 ^ i)) (left c)) m
      (λ j hj. linear_agree (times (times (2 ^ i) (2 ^ j))) (λ x. times (2 ^ i) (times (2 ^ j) x))
      (right (times (2 ^ i) (2 ^ j))) (linear_after (times (2 ^ i)) (times (2 ^ j)) (right (2 ^ i)) (right (2 ^ j))) m
      (λ k hk. same i j k hi hj hk) c hc) b hb) a ha
