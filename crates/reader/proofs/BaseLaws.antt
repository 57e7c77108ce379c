-- The part of a symbol that the higher coefficients make, and the lowest coefficient that leads through a slot. Assumes nothing.
use Rattle.std.proofs.Common.{◌≡◌, ℕ, zero, suc, ◌+◌, ◌-◌, ◌*◌, ◌/◌, ◌%◌, ◌^◌, ◌<◌, eqb, sym, refl, ap, ◌∙◌, ap₂, inl, inr, pow-suc, div-one, arith}
use native.Mathlib.Nat.{pow-zero, pow-succ', div-div-eq-div-mul, div-eq_of_lt, zero-div, zero-mod}
use Rattle.std.proofs.lemmas.Nat.{mod_below, div_below, div-mul-add, mod-mul-add}
use Rattle.std.proofs.lemmas.Bool.{cases_eq, eq-eqb, ne_eqb}
use Rattle.fields.specs.Answers.{negative_of}
use Rattle.fields.specs.Lawful.{Tables, Lawful}
use Rattle.fields.proofs.Algebra.{zero_is_an_element, zero_is_neutral_right, zero_absorbs, zero_absorbs_left}
use Rattle.fields.proofs.Answering.{partners}
use Rattle.words.specs.Words.{digit, power, value, symbol, in_word}
use Rattle.words.proofs.Digits.{digit_below}
use Rattle.words.proofs.Values.{power_below, value_below, value_same, value_lowest}
use Rattle.reader.specs.Working.{base, lowest}
use Rattle.reader.proofs.Pairing.{negative_below}

-- the lowest digit is the remainder
digit_lowest : (q number : ℕ) → digit q number 0 ≡ number % q
digit_lowest q number = ap (λ p. number / p % q) (pow-zero q) ∙ ap (λ m. m % q) (div-one number)

-- the digits of the quotient are the higher digits
digit_next : (q number j : ℕ) → digit q (number / q) j ≡ digit q number (suc j)
digit_next q number j = ap (λ m. m % q) (div-div-eq-div-mul number q (q ^ j) ∙ ap (λ p. number / p) (sym (pow-succ' q j)))

-- the digits of 0 are 0
digit_zero : (q j : ℕ) → digit q 0 j ≡ 0
digit_zero q j = ap (λ m. m % q) (zero-div (q ^ j)) ∙ zero-mod q

-- past the digits of a number comes 0
digit_past : (q number j : ℕ) → number < q ^ j → digit q number j ≡ 0
digit_past q number j h = ap (λ m. m % q) (div-eq_of_lt h) ∙ zero-mod q

-- equations that follow from each other have equal tests
eqb_same : (a b c d : ℕ) → (a ≡ b → c ≡ d) → (c ≡ d → a ≡ b) → eqb a b ≡ eqb c d
eqb_same a b c d there back = elim (cases_eq a b) [
  | inl same ↦ eq-eqb a b same ∙ sym (eq-eqb c d (there same))
  | inr other ↦ ne_eqb a b other ∙ sym (ne_eqb c d (λ e. other (back e)))
]

module _ (f : Tables) (l : Lawful f) where
  -- the digits in the base of the order are elements
  digits_below : (number : ℕ) (m : ℕ) → (j : ℕ) → j < m → digit f.order number j < f.order
  digits_below number m j _ = digit_below f.order number j (zero_is_an_element f l)

  -- the value of a number's digits is an element
  digits_value_below : (number m place : ℕ) → place < f.order → value f (digit f.order number) m place < f.order
  digits_value_below number m place hp = value_below f l (digit f.order number) m place (digits_below number m) hp

  -- the value of coefficients that are all 0 is 0
  value_zero : (c : ℕ → ℕ) (m place : ℕ) → place < f.order → ((j : ℕ) → c j ≡ 0) → value f c m place ≡ 0
  unfolding value
  value_zero c zero place hp h = refl
  value_zero c (suc m) place hp h =
      let before = value_zero c m place hp h in
      let here = h m in
      let none = zero_absorbs_left f l (power f place m) (power_below f l place m hp) in
      let sum = l.zero_is_neutral 0 (zero_is_an_element f l) in
      cc

  -- a highest coefficient that is 0 adds nothing to a number's value
  value_shorter : (number m place : ℕ) → place < f.order → number < f.order ^ m
      → value f (digit f.order number) (suc m) place ≡ value f (digit f.order number) m place
  unfolding value
  value_shorter number m place hp h =
      let here = digit_past f.order number m h in
      let none = zero_absorbs_left f l (power f place m) (power_below f l place m hp) in
      let sum = zero_is_neutral_right f l (value f (digit f.order number) m place) (digits_value_below number m place hp) in
      cc

  -- a base is an element
  pub base_below : (k high place : ℕ) → place < f.order → base f k high place < f.order
  base_below k high place hp =
      l.products_stay_below place (value f (digit f.order high) (k - 1) place) hp (digits_value_below high (k - 1) place hp)

  -- the base of no higher coefficients is 0
  pub base_zero : (k place : ℕ) → place < f.order → base f k 0 place ≡ 0
  base_zero k place hp =
      ap (f.times place) (value_zero (digit f.order 0) (k - 1) place hp (digit_zero f.order)) ∙ zero_absorbs f l place hp

  -- the value of a number's digits by that of all but the lowest of them
  value_next : (m high place : ℕ) → high < f.order ^ m → place < f.order
      → f.plus (high % f.order) (f.times place (value f (digit f.order (high / f.order)) m place)) ≡ value f (digit f.order high) m place
  unfolding value
  value_next zero high place h hp =
      let none : high ≡ 0 = omega (arith, pow-zero f.order) in
      let left : high % f.order ≡ 0 = ap (λ x. x % f.order) none ∙ zero-mod f.order in
      let right = zero_absorbs f l place hp in
      let sum = l.zero_is_neutral 0 (zero_is_an_element f l) in
      cc
  value_next (suc j) high place h hp =
      let whole = value_lowest f l (digit f.order high) j place (digits_below high (suc j)) hp in
      let first = digit_lowest f.order high in
      let less : high / f.order < f.order ^ j = div_below high f.order (f.order ^ j) (zero_is_an_element f l) (omega (arith, pow-suc f.order j)) in
      let shorter = value_shorter (high / f.order) j place hp less in
      let rest = value_same f (digit f.order (high / f.order)) (λ i. digit f.order high (suc i)) j place (λ i _. digit_next f.order high i) in
      cc

  -- a base by the base of all but the lowest of its coefficients
  pub base_next : (k high place : ℕ) → high < f.order ^ (k - 1) → place < f.order
      → f.times place (f.plus (high % f.order) (base f k (high / f.order) place)) ≡ base f k high place
  base_next k high place h hp = ap (f.times place) (value_next (k - 1) high place h hp)

  -- a symbol is the base and the lowest coefficient
  pub symbol_by_base : (k high c place : ℕ) → 0 < k → c < f.order → place < f.order
      → symbol f k (high * f.order + c) place ≡ f.plus (base f k high place) c
  symbol_by_base zero high c place pos hc hp = absurd (omega arith)
  symbol_by_base (suc j) high c place pos hc hp =
      let number = high * f.order + c in
      let whole = value_lowest f l (digit f.order number) j place (digits_below number (suc j)) hp in
      let first : digit f.order number 0 ≡ c = digit_lowest f.order number ∙ mod-mul-add high f.order c hc in
      let rest = value_same f (λ i. digit f.order number (suc i)) (digit f.order high) j place
      (λ i _. sym (digit_next f.order number i) ∙ ap (λ m. digit f.order m i) (div-mul-add high f.order c hc)) in
      let less : j ≡ suc j - 1 = omega arith in
      let same = ap (λ m. value f (digit f.order high) m place) less in
      let turned = l.sums_commute c (base f (suc j) high place) hc (base_below (suc j) high place hp) in
      whole ∙ ap₂ f.plus first (ap (f.times place) (rest ∙ same)) ∙ turned

  -- an element and its negative add up to 0
  pub negative_adds : (a : ℕ) → a < f.order → f.plus a (negative_of f a) ≡ 0
  negative_adds a ha = (partners f l a (negative_of f a) ha (negative_below f l a ha)).negative_back refl

  -- the lowest coefficient that leads through a slot is an element
  pub lowest_below : (k high slot : ℕ) → slot / f.order < f.order → lowest f k high slot < f.order
  lowest_below k high slot hp =
      l.sums_stay_below (slot % f.order) (negative_of f (base f k high (slot / f.order))) (mod_below slot f.order (zero_is_an_element f l))
      (negative_below f l (base f k high (slot / f.order)) (base_below k high (slot / f.order) hp))

  -- a sum with the negative of an element is c exactly where the element and c add up to the other summand
  taken_over : (b c y : ℕ) → b < f.order → c < f.order → y < f.order → eqb (f.plus y (negative_of f b)) c ≡ eqb (f.plus b c) y
  taken_over b c y hb hc hy = eqb_same (f.plus y m) c (f.plus b c) y there back
    where
      m : ℕ
      m = negative_of f b

      there : f.plus y m ≡ c → f.plus b c ≡ y
      there e =
          let hm = negative_below f l b hb in
          let z = negative_adds b hb in
          let e₁ = l.sums_commute y m hy hm in
          let e₂ = l.sums_associate b m y hb hm hy in
          let e₃ = l.zero_is_neutral y hy in
          cc

      back : f.plus b c ≡ y → f.plus y m ≡ c
      back e =
          let hm = negative_below f l b hb in
          let z = negative_adds b hb in
          let e₁ = l.sums_commute b c hb hc in
          let e₂ = l.sums_associate c b m hc hb hm in
          let e₃ = zero_is_neutral_right f l c hc in
          cc

  -- the lowest coefficient of a slot is c exactly where the word with lowest coefficient c goes through the slot
  pub through : (k high c slot : ℕ) → 0 < k → c < f.order → slot / f.order < f.order
      → eqb (lowest f k high slot) c ≡ in_word f k (high * f.order + c) slot
  through k high c slot pos hc hp =
      taken_over (base f k high (slot / f.order)) c (slot % f.order) (base_below k high (slot / f.order) hp) hc (mod_below slot f.order (zero_is_an_element f l))
      ∙ ap (λ s. eqb s (slot % f.order)) (sym (symbol_by_base k high c (slot / f.order) pos hc hp))
