-- Tests over all numbers below a bound, and the one number that passes a test. Assumes nothing.
use Rattle.std.specs.Prelude.{◌≡◌, ℕ, zero, suc, ◌<◌, Bool, true, false, refl}
use Rattle.std.proofs.Common.{sym, ◌∙◌, inl, inr, arith}
use Rattle.std.proofs.lemmas.Bool.{and_parts, and_from, cases_Bool, cond-true, cond-false, cases_eq, both_ways}
use Rattle.fields.specs.Polynomials.{all_below}
use Rattle.fields.specs.Answers.{the_one}

-- a test that passes below n passes at each number below n
pub all_below_at : (f : ℕ → Bool) (n : ℕ) → all_below f n ≡ true → (k : ℕ) → k < n → f k ≡ true
unfolding all_below
all_below_at f zero e k h = absurd (omega arith)
all_below_at f (suc n) e k h =
    let parts = and_parts (f n) (all_below f n) e in
    elim (cases_eq k n) [ inl same ↦ rw same parts.0 | inr other ↦ all_below_at f n parts.1 k (omega arith) ]

-- a test that passes at each number below n passes below n
pub all_below_from : (f : ℕ → Bool) (n : ℕ) → ((k : ℕ) → k < n → f k ≡ true) → all_below f n ≡ true
unfolding all_below
all_below_from f zero h = refl
all_below_from f (suc n) h = and_from (f n) (all_below f n) (h n (omega arith)) (all_below_from f n (λ k l. h k (omega arith)))

-- a test that fails at one number below n fails below n
pub all_below_fails : (f : ℕ → Bool) (n k : ℕ) → k < n → f k ≡ false → all_below f n ≡ false
all_below_fails f n k h e =
    elim (cases_Bool (all_below f n)) [ inl passes ↦ absurd (both_ways (f k) e (all_below_at f n passes k h)) | inr fails ↦ fails ]

-- the one number below n that passes
pub the_one_is : (f : ℕ → Bool) (n b : ℕ) → b < n → f b ≡ true → ((c : ℕ) → c < n → f c ≡ true → c ≡ b) → b ≡ the_one f n
unfolding the_one
the_one_is f zero b h e unique = absurd (omega arith)
the_one_is f (suc n) b h e unique =
    elim (cases_Bool (f n)) [
      | inl passes ↦ sym (unique n (omega arith) passes) ∙ sym (cond-true (f n) n (the_one f n) passes)
      | inr fails ↦
          let below : b < n = elim (cases_eq b n) [ inl same ↦ absurd (both_ways (f n) fails (rw (← same) e)) | inr other ↦ omega arith ] in
          the_one_is f n b below e (λ c l p. unique c (omega arith) p) ∙ sym (cond-false (f n) n (the_one f n) fails)
    ]
