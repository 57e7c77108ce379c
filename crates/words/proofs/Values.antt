-- The values of polynomials over a lawful field.
use Rattle.std.proofs.Common.{◌≡◌, ℕ, zero, suc, ◌%◌, ◌<◌, ◌≤◌, true, eqb, ◌⊎◌, sym, refl, ap, ◌∙◌, inl, inr, mod-eq_of_lt, arith}
use Rattle.std.proofs.lemmas.Bool.{eqb-true}
use Rattle.std.proofs.lemmas.Nat.{mod_below}
use Rattle.fields.specs.Lawful.{Tables, Lawful}
use Rattle.fields.proofs.Algebra.{zero_is_an_element}
use Rattle.fields.proofs.Domains.{Element, elements, same_element}
use Rattle.frames.specs.Counting.{count}
use Rattle.words.specs.Words.{power, value}
use Rattle.words.proofs.Roots.{poly, poly_same, at, roots, raise, evaluate, evaluate_at, evaluate_lowest}

-- a power of an element is an element
pub power_below : (f : Tables) → Lawful f → (x j : ℕ) → x < f.order → power f x j < f.order
unfolding power
power_below f l x zero hx = l.one_is_an_element
power_below f l x (suc j) hx = l.products_stay_below (power f x j) x (power_below f l x j hx) hx

-- the value of a polynomial whose coefficients are elements is an element
pub value_below : (f : Tables) → Lawful f → (c : ℕ → ℕ) (k x : ℕ) → ((j : ℕ) → j < k → c j < f.order) → x < f.order → value f c k x < f.order
unfolding value
value_below f l c zero x hc hx = zero_is_an_element f l
value_below f l c (suc k) x hc hx =
    let hp = power_below f l x k hx in
    let here = hc k (omega arith) in
    l.sums_stay_below (value f c k x) (f.times (c k) (power f x k)) (value_below f l c k x (λ j b. hc j (omega arith)) hx) (l.products_stay_below (c k) (power f x k) here hp)

-- equal coefficients give equal values
pub value_same : (f : Tables) (c e : ℕ → ℕ) (k x : ℕ) → ((j : ℕ) → j < k → c j ≡ e j) → value f c k x ≡ value f e k x
unfolding value
value_same f c e zero x h = refl
value_same f c e (suc k) x h =
    let before = value_same f c e k x (λ j b. h j (omega arith)) in
    let here = h k (omega arith) in
    cc

-- the element whose index is the remainder by the order
abbrev element_of : (f : Tables) → Lawful f → ℕ → Element f
element_of f l a = (a % f.order, mod_below a f.order (zero_is_an_element f l))

-- a power is that of the element
power_raise : (f : Tables) (l : Lawful f) (x : Element f) (j : ℕ) → power f x.0 j ≡ (raise (elements f l) x j).0
unfolding power raise elements
power_raise f l x zero = refl
power_raise f l x (suc j) = ap (λ p. f.times p x.0) (power_raise f l x j)

-- a value is that over the elements
value_evaluate : (f : Tables) (l : Lawful f) (c : ℕ → Element f) (k : ℕ) (x : Element f) → value f (λ j. (c j).0) k x.0 ≡ (evaluate (elements f l) c k x).0
unfolding value evaluate elements
value_evaluate f l c zero x = refl
value_evaluate f l c (suc k) x =
    let before = value_evaluate f l c k x in
    let here = power_raise f l x k in
    cc

module _ (f : Tables) (l : Lawful f) where
  -- a value whose coefficients are elements is that of the elements
  value_elements : (c : ℕ → ℕ) (k x : ℕ) → ((j : ℕ) → j < k → c j < f.order) → x < f.order
      → value f c k x ≡ (evaluate (elements f l) (λ j. element_of f l (c j)) k (element_of f l x)).0
  value_elements c k x hc hx =
      value_same f c (λ j. c j % f.order) k x (λ j b. sym (mod-eq_of_lt (hc j b)))
      ∙ (ap (value f (λ j. c j % f.order) k) (sym (mod-eq_of_lt hx)) ∙ value_evaluate f l (λ j. element_of f l (c j)) k (element_of f l x))

  -- the value is the lowest coefficient, and x times the value of the rest
  pub value_lowest : (c : ℕ → ℕ) (k x : ℕ) → ((j : ℕ) → j < suc k → c j < f.order) → x < f.order
      → value f c (suc k) x ≡ f.plus (c 0) (f.times x (value f (λ j. c (suc j)) k x))
  unfolding elements
  value_lowest c k x hc hx =
      let whole = value_elements c (suc k) x hc hx in
      let rest = value_elements (λ j. c (suc j)) k x (λ j b. hc (suc j) (omega arith)) hx in
      let step = ap (λ e. e.0) (evaluate_lowest (elements f l) (λ j. element_of f l (c j)) k (element_of f l x)) in
      let lowest : c 0 % f.order ≡ c 0 = mod-eq_of_lt (hc 0 (omega arith)) in
      let same : x % f.order ≡ x = mod-eq_of_lt hx in
      cc

  -- polynomials with k coefficients are equal, or agree at fewer than k of the first n elements
  pub values_agree_at_few : (c e : ℕ → ℕ) (k n : ℕ) → n ≤ f.order
      → ((j : ℕ) → j < k → c j < f.order) → ((j : ℕ) → j < k → e j < f.order)
      → ((j : ℕ) → j < k → c j ≡ e j) ⊎ (count (λ i. eqb (value f c k i) (value f e k i)) n < k)
  values_agree_at_few c e k n hn hc he =
      elim (roots (elements f l) k (poly c_element k) (poly e_element k) n (element_of f l) (λ i. eqb (value f c k i) (value f e k i)) apart agree) [
        | inl same ↦ inl (λ j b. sym (mod-eq_of_lt (hc j b)) ∙ (ap (λ t. t.0) (poly_same c_element e_element k same j b) ∙ mod-eq_of_lt (he j b)))
        | inr few ↦ inr few
      ]
    where
      c_element : ℕ → Element f
      c_element j = element_of f l (c j)

      e_element : ℕ → Element f
      e_element j = element_of f l (e j)

      apart : (i j : ℕ) → i < n → j < n → element_of f l i ≡ element_of f l j → i ≡ j
      apart i j bi bj same =
          let hi : i < f.order = omega arith in
          let hj : j < f.order = omega arith in
          sym (mod-eq_of_lt hi) ∙ (ap (λ t. t.0) same ∙ mod-eq_of_lt hj)

      agree : (i : ℕ) → i < n → eqb (value f c k i) (value f e k i) ≡ true
          → at (elements f l) k (poly c_element k) (element_of f l i) ≡ at (elements f l) k (poly e_element k) (element_of f l i)
      agree i b t =
          let hi : i < f.order = omega arith in
          sym (evaluate_at (elements f l) c_element k (element_of f l i))
          ∙ (same_element f _ _ (sym (value_elements c k i hc hi) ∙ (eqb-true (value f c k i) (value f e k i) t ∙ value_elements e k i he hi))
          ∙ evaluate_at (elements f l) e_element k (element_of f l i))
