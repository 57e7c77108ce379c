-- Shared factors: how the greatest common divisor tells of them, and that without one the steps of a stride stay apart. Assumes nothing.
use Rattle.std.proofs.Common.{◌≡◌, ℕ, zero, suc, ◌+◌, ◌-◌, ◌*◌, ◌/◌, ◌%◌, ◌<◌, ◌≤◌, true, ◌&&◌, eqb, ltb, sym, ap, ◌∙◌, subst, inl, inr, mod-lt, mul_comm, mul_assoc, mul-add, arith}
use Rattle.std.specs.Int.{IsGcd}
use Prim.Native.Nat.{◌∣◌}
use native.Mathlib.Nat.{dvd-mul_left, dvd-mul_right, dvd-mul_right_of_dvd, dvd-add_iff_right, dvd_of_mul-dvd-mul_right, pos_of_dvd_of_pos, mul-sub, mod-add-div, zero-mul, one-mul}
use Rattle.std.proofs.lemmas.Nat.Gcd.{dvd_of_mod-eq-zero, mod-eq-zero_of_dvd, le_of_dvd}
use Rattle.std.proofs.lemmas.Bool.{cases_eq, cases_Bool, cases_order, and_parts, and_from, ltb-true, eqb-true, lt-ltb, eq-eqb, ne_eqb}
use Rattle.frames.proofs.Counting.{count_some, count_none}
use Rattle.lines.specs.Stride.{divides_both, shared_factors}

-- what a shared factor is
factor_facts : (a n d : ℕ) → divides_both a n d ≡ true → (1 < d) × (d ∣ a) × (d ∣ n)
factor_facts a n d e =
    let p = and_parts (ltb 1 d) (eqb (a % d) 0 && eqb (n % d) 0) e in
    let q = and_parts (eqb (a % d) 0) (eqb (n % d) 0) p.1 in
    (ltb-true 1 d p.0, dvd_of_mod-eq-zero d (eqb-true (a % d) 0 q.0), dvd_of_mod-eq-zero d (eqb-true (n % d) 0 q.1))

-- a shared factor is counted
factor_counted : (a n d : ℕ) → 0 < a → 1 < d → d ∣ a → d ∣ n → 0 < shared_factors a n
factor_counted a n d positive above p q =
    count_some (divides_both a n) (a + 1) d (omega (arith, le_of_dvd positive p))
    (and_from (ltb 1 d) _ (lt-ltb 1 d above) (and_from _ _ (eq-eqb (a % d) 0 (mod-eq-zero_of_dvd d p)) (eq-eqb (n % d) 0 (mod-eq-zero_of_dvd d q))))

-- two numbers share no factor where their greatest common divisor is 1
pub alone_from_gcd : (a n g : ℕ) → 0 < a → IsGcd a n g → eqb g 1 ≡ eqb (shared_factors a n) 0
alone_from_gcd a n g positive h = elim (cases_eq g 1) [
  | inl one ↦
      let none : shared_factors a n ≡ 0 = count_none (divides_both a n) (a + 1) (λ d k. elim (cases_Bool (divides_both a n d)) [
        | inl divides ↦ let f = factor_facts a n d divides in absurd (omega (arith, f.0, le_of_dvd {n = g} (omega arith) (h.2 d f.1 f.2)))
        | inr clear ↦ clear
      ]) in
      eq-eqb g 1 one ∙ sym (eq-eqb (shared_factors a n) 0 none)
  | inr other ↦
      let counted = factor_counted a n g positive (omega (arith, pos_of_dvd_of_pos h.0 positive)) h.0 h.1 in
      ne_eqb g 1 other ∙ sym (ne_eqb (shared_factors a n) 0 (λ e. omega arith))
]

-- where n divides a times k for a k below n, a and n share a factor
factor_from : (fuel a n k : ℕ) → k ≤ fuel → 0 < k → k < n → n ∣ a * k → (d : ℕ) × (1 < d) × (d ∣ a) × (d ∣ n)
factor_from zero a n k small some below whole = absurd (omega arith)
factor_from (suc fuel) a n k small some below whole = elim (cases_eq (n % k) 0) [
  | inl none ↦
      let split : n ≡ n / k * k = omega (arith, mod-add-div n k, mul_comm k (n / k)) in
      let product : n / k * k ∣ a * k = subst (λ m. m ∣ a * k) split whole in
      (n / k, above_one (n / k) split, dvd_of_mul-dvd-mul_right (n / k) some product, subst (λ m. n / k ∣ m) (sym split) (dvd-mul_right (n / k) k))
  | inr other ↦ factor_from fuel a n (n % k) (omega (arith, mod-lt n {m = k} some)) (omega arith) (omega (arith, mod-lt n {m = k} some)) rest_whole
]
  where
    above_one : (q : ℕ) → n ≡ q * k → 1 < q
    above_one zero split = absurd (omega (arith, split, zero-mul k))
    above_one (suc zero) split = absurd (omega (arith, split, one-mul k))
    above_one (suc (suc q)) split = omega arith

    rest_whole : n ∣ a * (n % k)
    rest_whole =
        let parts : a * k * (n / k) + a * (n % k) ≡ a * n =
        ap (λ m. m + a * (n % k)) (mul_assoc a k (n / k)) ∙ sym (mul-add a (k * (n / k)) (n % k)) ∙ ap (λ m. a * m) (omega (arith, mod-add-div n k)) in
        (dvd-add_iff_right n (dvd-mul_right_of_dvd n whole (n / k))).1 (rw parts (dvd-mul_left n a))

-- without a shared factor two slots of a line of n slots are never stepped to the same slot below
apart_below : (a n i j : ℕ) → 0 < a → shared_factors a n ≡ 0 → i < j → j < n → a * i % n ≡ a * j % n → ⊥
apart_below a n i j positive alone order within same =
    let gap : a * (j - i) ≡ n * (a * j / n - a * i / n) =
    mul-sub a j i ∙ difference (mod-add-div (a * j) n) (mod-add-div (a * i) n) ∙ sym (mul-sub n (a * j / n) (a * i / n)) in
    let f = factor_from (j - i) a n (j - i) (omega arith) (omega arith) (omega arith) (rw gap (dvd-mul_right n (a * j / n - a * i / n))) in
    let counted = factor_counted a n f.0 positive f.1 f.2 f.3 in
    omega arith
  where
    difference : a * j % n + n * (a * j / n) ≡ a * j → a * i % n + n * (a * i / n) ≡ a * i → a * j - a * i ≡ n * (a * j / n) - n * (a * i / n)
    difference p q = omega (arith, same)

pub steps_apart : (a n i j : ℕ) → 0 < a → shared_factors a n ≡ 0 → i < n → j < n → (i ≡ j → ⊥) → a * i % n ≡ a * j % n → ⊥
steps_apart a n i j positive alone hi hj other same = elim (cases_order i j) [
  | inl e ↦ other e
  | inr order ↦ elim order [ inl below ↦ apart_below a n i j positive alone below hj same | inr above ↦ apart_below a n j i positive alone above hi (sym same) ]
]
