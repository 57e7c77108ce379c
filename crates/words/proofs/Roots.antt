-- Two polynomials with k coefficients that agree at k different points are one.
use Rattle.std.proofs.Common.{◌≡◌, ℕ, zero, suc, ◌<◌, Bool, true, not, ◌&&◌, eqb, ◌⊎◌, sym, refl, ap, ◌∙◌, inl, inr, arith}
use Rattle.std.proofs.lemmas.Bool.{and_parts, and_from, eqb-false, not-true, not_from_false, ne_eqb}
use Rattle.fields.proofs.Domains.{Domain, plus_swap, times_swap, cross_cancel}
use Rattle.frames.specs.Counting.{count}
use Rattle.frames.proofs.Counting.{some_or_none, count_none, count_but_one}

-- k coefficients, the lowest first
abbrev pub Poly : Type 0 → ℕ → Type 0
Poly A zero = Unit {0}
Poly A (suc k) = A × Poly A k

-- the polynomial whose coefficients a function gives
unfoldable pub poly : {A : Type 0} → (ℕ → A) → (k : ℕ) → Poly A k
poly c zero = tt
poly c (suc k) = (c 0, poly (λ j. c (suc j)) k)

-- functions that give one polynomial agree below its length
pub poly_same : {A : Type 0} (c d : ℕ → A) (k : ℕ) → poly c k ≡ poly d k → (j : ℕ) → j < k → c j ≡ d j
unfolding poly
poly_same c d zero e j b = absurd (omega arith)
poly_same c d (suc k) e zero b = ap (λ p. p.0) e
poly_same c d (suc k) e (suc j) b = poly_same (λ i. c (suc i)) (λ i. d (suc i)) k (ap (λ p. p.1) e) j (omega arith)

module _ {A : Type 0} (d : Domain A) where
  -- the value at x
  unfoldable pub at : (k : ℕ) → Poly A k → A → A
  at zero p x = d.nil
  at (suc k) p x = d.plus p.0 (d.times x (at k p.1 x))

  -- the values at a of the polynomial and of what is left of it after each of its lowest coefficients
  suffixes : (k : ℕ) → A → Poly A k → Poly A k
  suffixes zero a p = tt
  suffixes (suc k) a p = (at (suc k) p a, suffixes k a p.1)

  -- the suffixes tell the polynomial
  suffixes_same : (k : ℕ) (a : A) (p r : Poly A k) → suffixes k a p ≡ suffixes k a r → p ≡ r
  unfolding at suffixes
  suffixes_same zero a p r e = refl
  suffixes_same (suc k) a p r e =
      let rest : p.1 ≡ r.1 = suffixes_same k a p.1 r.1 (ap (λ s. s.1) e) in
      let value : d.plus p.0 (d.times a (at k p.1 a)) ≡ d.plus r.0 (d.times a (at k r.1 a)) = ap (λ s. s.0) e in
      let same : d.times a (at k p.1 a) ≡ d.times a (at k r.1 a) = ap (λ s. d.times a (at k s a)) rest in
      let lowest : p.0 ≡ r.0 =
      d.plus_cancel (d.times a (at k p.1 a)) p.0 r.0
      (d.plus_comm _ _ ∙ (value ∙ (ap (d.plus r.0) (sym same) ∙ d.plus_comm _ _))) in
      λ i. (lowest i, rest i)

  -- one step of the division: c is the lowest coefficient, h and v the rest's values at x and at a, s the rest's quotient at x
  quotient_step : (c a x h v s : A) → d.plus (d.times x h) (d.times a s) ≡ d.plus (d.times a v) (d.times x s)
      → d.plus (d.times x (d.plus c (d.times x h))) (d.times a (d.plus (d.plus c (d.times a v)) (d.times x s)))
      ≡ d.plus (d.times a (d.plus c (d.times a v))) (d.times x (d.plus (d.plus c (d.times a v)) (d.times x s)))
  quotient_step c a x h v s e =
      let common = d.plus (d.plus (d.times x c) (d.times a c)) (d.times a (d.times a v)) in
      let left : d.plus (d.times x (d.plus c (d.times x h))) (d.times a (d.plus (d.plus c (d.times a v)) (d.times x s))) ≡ d.plus common (d.times x (d.plus (d.times x h) (d.times a s)))
      = simp (d.times_plus, d.plus_assoc, d.plus_comm, plus_swap d, d.times_comm, times_swap d) in
      let right : d.plus (d.times a (d.plus c (d.times a v))) (d.times x (d.plus (d.plus c (d.times a v)) (d.times x s))) ≡ d.plus common (d.times x (d.plus (d.times a v) (d.times x s)))
      = simp (d.times_plus, d.plus_assoc, d.plus_comm, plus_swap d, d.times_comm, times_swap d) in
      left ∙ (ap (λ t. d.plus common (d.times x t)) e ∙ sym right)

  -- division by x - a, without subtraction: the suffixes are the quotient's coefficients
  quotient : (k : ℕ) (p : Poly A k) (a x : A)
      → d.plus (d.times x (at k p x)) (d.times a (at k (suffixes k a p) x)) ≡ d.plus (d.times a (at k p a)) (d.times x (at k (suffixes k a p) x))
  unfolding at suffixes
  quotient zero p a x = d.plus_comm (d.times x d.nil) (d.times a d.nil)
  quotient (suc k) p a x = quotient_step p.0 a x (at k p.1 x) (at k p.1 a) (at k (suffixes k a p.1) x) (quotient k p.1 a x)

  -- the sums that two divisions leave: from p + s = v + t, p' + s' = v' + t', c + v = c' + v' and c + p = c' + p', s + t' = t + s'
  quotients_cross : (c v p s t c' v' p' s' t' : A) → d.plus p s ≡ d.plus v t → d.plus p' s' ≡ d.plus v' t' → d.plus c v ≡ d.plus c' v' → d.plus c p ≡ d.plus c' p'
      → d.plus s t' ≡ d.plus t s'
  quotients_cross c v p s t c' v' p' s' t' e e' ev ep =
      let first : d.plus (d.plus (d.plus c p) (d.plus c' v')) (d.plus s t') ≡ d.plus (d.plus c c') (d.plus (d.plus p s) (d.plus v' t'))
      = simp (d.plus_assoc, plus_swap d) in
      let second : d.plus (d.plus c c') (d.plus (d.plus p s) (d.plus v' t')) ≡ d.plus (d.plus c c') (d.plus (d.plus v t) (d.plus p' s'))
      = cc in
      let third : d.plus (d.plus c c') (d.plus (d.plus v t) (d.plus p' s')) ≡ d.plus (d.plus (d.plus c' p') (d.plus c v)) (d.plus t s')
      = simp (d.plus_assoc, plus_swap d) in
      let fourth : d.plus (d.plus (d.plus c' p') (d.plus c v)) (d.plus t s') ≡ d.plus (d.plus (d.plus c p) (d.plus c' v')) (d.plus t s')
      = cc in
      d.plus_cancel (d.plus (d.plus c p) (d.plus c' v')) (d.plus s t') (d.plus t s') (first ∙ (second ∙ (third ∙ fourth)))

  -- polynomials that agree at a and at another point have quotients that agree there
  quotients_agree : (k : ℕ) (p r : Poly A (suc k)) (a x : A) → (x ≡ a → ⊥) → at (suc k) p a ≡ at (suc k) r a → at (suc k) p x ≡ at (suc k) r x
      → at k (suffixes k a p.1) x ≡ at k (suffixes k a r.1) x
  unfolding at
  quotients_agree k p r a x differ ea ex =
      cross_cancel d a x (at k (suffixes k a p.1) x) (at k (suffixes k a r.1) x) differ
      (quotients_cross _ _ _ _ _ _ _ _ _ _ (quotient k p.1 a x) (quotient k r.1 a x) ea ex)

  -- polynomials with k coefficients are equal, or agree at fewer than k of n different points
  pub roots : (k : ℕ) (p r : Poly A k) (n : ℕ) (point : ℕ → A) (test : ℕ → Bool)
      → ((i j : ℕ) → i < n → j < n → point i ≡ point j → i ≡ j)
      → ((i : ℕ) → i < n → test i ≡ true → at k p (point i) ≡ at k r (point i))
      → (p ≡ r) ⊎ (count test n < k)
  unfolding suffixes
  roots zero p r n point test apart agree = inl refl
  roots (suc k) p r n point test apart agree =
      elim (some_or_none test n) [
        | inl w ↦
            let a = point w.0 in
            let ea = agree w.0 w.1 w.2 in
            let other = λ (i : ℕ). test i && not (eqb i w.0) in
            elim (roots k (suffixes k a p.1) (suffixes k a r.1) n point other apart
            (λ i b t. quotients_agree k p r a (point i)
            (λ e. eqb-false i w.0 (not-true (eqb i w.0) (and_parts (test i) (not (eqb i w.0)) t).1) (apart i w.0 b w.1 e))
            ea (agree i b (and_parts (test i) (not (eqb i w.0)) t).0))) [
              | inl e ↦ inl (suffixes_same (suc k) a p r (λ i. (ea i, e i)))
              | inr few ↦ inr (omega (
                arith,
                count_but_one test other n w.0
                    (λ i b e t. and_from (test i) (not (eqb i w.0)) t (not_from_false (eqb i w.0) (ne_eqb i w.0 e))),
              ))
            ]
        | inr none ↦ inr (omega (arith, count_none test n none))
      ]

  -- x^j
  unfoldable pub raise : A → ℕ → A
  raise x zero = d.one
  raise x (suc j) = d.times (raise x j) x

  -- the value of c 0 + c 1·x + ... + c (k-1)·x^(k-1)
  unfoldable pub evaluate : (ℕ → A) → ℕ → A → A
  evaluate c zero x = d.nil
  evaluate c (suc k) x = d.plus (evaluate c k x) (d.times (c k) (raise x k))

  -- a polynomial's value is that without the highest term, and that term
  at_last : (c : ℕ → A) (k : ℕ) (x : A) → at (suc k) (poly c (suc k)) x ≡ d.plus (at k (poly c k) x) (d.times (c k) (raise x k))
  unfolding at poly raise
  at_last c zero x = ap (d.plus (c 0)) (d.times_nil x) ∙ (d.plus_comm (c 0) d.nil ∙ ap (d.plus d.nil) (sym (d.times_one (c 0))))
  at_last c (suc k) x =
      ap (λ v. d.plus (c 0) (d.times x v)) (at_last (λ j. c (suc j)) k x) ∙ simp (d.times_plus, d.plus_assoc, d.times_comm, times_swap d)

  -- the value as a sum of terms is the value by nested products
  pub evaluate_at : (c : ℕ → A) (k : ℕ) (x : A) → evaluate c k x ≡ at k (poly c k) x
  unfolding at evaluate
  evaluate_at c zero x = refl
  evaluate_at c (suc k) x = ap (λ v. d.plus v (d.times (c k) (raise x k))) (evaluate_at c k x) ∙ sym (at_last c k x)

  -- the value is the lowest coefficient, and x times the value of the rest
  pub evaluate_lowest : (c : ℕ → A) (k : ℕ) (x : A) → evaluate c (suc k) x ≡ d.plus (c 0) (d.times x (evaluate (λ j. c (suc j)) k x))
  unfolding at poly
  evaluate_lowest c k x = evaluate_at c (suc k) x ∙ ap (λ v. d.plus (c 0) (d.times x v)) (sym (evaluate_at (λ j. c (suc j)) k x))
