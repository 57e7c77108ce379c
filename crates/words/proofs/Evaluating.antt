-- One turn of the loop that evaluates a number's polynomial. Assumes nothing.
use Rattle.std.proofs.Common.{◌≡◌, ℕ, ◌+◌, ◌/◌, ◌%◌, ◌^◌, ◌<◌, sym, ap, ◌∙◌, ap₂, mod-lt, pow-suc, add-one}
use native.Mathlib.Nat.{div-div-eq-div-mul}
use Rattle.fields.specs.Lawful.{Tables, Lawful}
use Rattle.fields.proofs.Algebra.{zero_is_an_element}
use Rattle.words.specs.Words.{digit, power, value}
use Rattle.words.proofs.Digits.{digit_below}
use Rattle.words.proofs.Values.{power_below, value_below}

-- the numbers of a turn: what is left of the number, the power of x, and the sum of the terms so far
pub record Turn (f : Tables) (number x j rest raised sum : ℕ) : Type 0 where
  pub rest_is : rest ≡ number / f.order ^ j
  pub raised_is : raised ≡ power f x j
  pub sum_is : sum ≡ value f (digit f.order number) j x

module _ (f : Tables) (laws : Lawful f) (number x : ℕ) (below : x < f.order) {j rest raised sum : ℕ} (turn : Turn f number x j rest raised sum) where
  -- each of them is an element
  pub digit_is_element : rest % f.order < f.order
  digit_is_element = mod-lt rest (zero_is_an_element f laws)

  pub raised_is_element : raised < f.order
  raised_is_element = rw turn.raised_is (power_below f laws x j below)

  pub sum_is_element : sum < f.order
  sum_is_element = rw turn.sum_is (value_below f laws (digit f.order number) j x (λ i _. digit_below f.order number i (zero_is_an_element f laws)) below)

  -- the next turn
  pub next_turn : (term raised' sum' : ℕ) → term ≡ f.times (rest % f.order) raised → raised' ≡ f.times raised x → sum' ≡ f.plus sum term
      → Turn f number x (j + 1) (rest / f.order) raised' sum'
  unfolding power value
  next_turn term raised' sum' et er es =
      let digit_is : rest % f.order ≡ digit f.order number j = ap (λ r. r % f.order) turn.rest_is in
      rw add-one record {
        rest_is = ap (λ r. r / f.order) turn.rest_is ∙ div-div-eq-div-mul number (f.order ^ j) f.order ∙ ap (λ p. number / p) (sym (pow-suc f.order j));
        raised_is = er ∙ ap (λ p. f.times p x) turn.raised_is;
        sum_is = es ∙ ap₂ f.plus turn.sum_is (et ∙ ap₂ f.times digit_is turn.raised_is);
      }
