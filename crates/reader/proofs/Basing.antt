-- Filling the table of bases: each entry is made of one before it. Assumes nothing.
use Rattle.std.proofs.Common.{◌≡◌, ℕ, ◌+◌, ◌-◌, ◌*◌, ◌/◌, ◌%◌, ◌^◌, ◌<◌, List, length, get_or, replicate, sym, ap, ◌∙◌, ap₂, mod-lt, mod-eq_of_lt, one-mul, arith}
use native.Mathlib.Nat.{div-eq_of_lt, div-lt_self}
use Rattle.std.proofs.lemmas.List.{get_or-replicate}
use Rattle.fields.specs.Lawful.{Tables, Lawful}
use Rattle.words.proofs.Limits.{Limits}
use Rattle.words.specs.declared.plan.Plan.{Plan}
use Rattle.reader.specs.Working.{Grid, BasedBelow, base}
use Rattle.reader.specs.declared.pairs.Pair.{Pair}
use Rattle.reader.proofs.BaseLaws.{base_below, base_zero, base_next}
use Rattle.reader.proofs.Grids.{cell_below, cell_few, grid_cell}
use Rattle.reader.proofs.Planned.{planned_by, highs}

-- the first row is of zeros
pub bases_begin : (f : Tables) → Lawful f → {n k d e : ℕ} → Limits f.order n k d e → Grid (base f k) n (1 * n) (replicate 65536 0)
bases_begin f l {n} {k} lim d i h =
    let below : i < n = omega (arith, h, one-mul n) in
    get_or-replicate 65536 i 0 d (omega (arith, lim.n_high, lim.q_high))
    ∙ sym (ap₂ (base f k) (div-eq_of_lt below) (mod-eq_of_lt below) ∙ base_zero f l k i (omega (arith, lim.n_high)))

-- the base of some higher coefficients at a place, from an entry before it; none stands for an entry that is not there
module _ (f : Tables) (l : Lawful f) (p : Plan) {pairs : List Pair} {smaller : List ℕ} {high place : ℕ} (r : BasedBelow f p pairs smaller high place) (none : Pair) where
  lim : Limits f.order p.n p.k p.d p.e
  lim = planned_by f p r.order

  lowest_digit : high % f.order < f.order
  lowest_digit = mod-lt high (omega (arith, lim.q_low))

  element : place < f.order
  element = omega (arith, lim.n_high, r.place_within)

  abbrev upper : ℕ
  upper = get_or smaller (high / f.order * p.n + place) 0

  upper_before : high / f.order * p.n + place < high * p.n
  upper_before = cell_below p.n high (high / f.order) place (div-lt_self {n = high} {k = f.order} (omega (arith, r.begun)) (omega (arith, lim.q_low))) r.place_within

  -- the entry before is there
  pub upper_within : high / f.order * p.n + place < length smaller
  upper_within = rw r.smaller_size upper_before

  upper_is : upper ≡ base f p.k (high / f.order) place
  upper_is = grid_cell (base f p.k) p.n (high * p.n) (high / f.order) place smaller 0 r.place_within upper_before r.filled

  upper_below : upper < f.order
  upper_below = rw upper_is (base_below f l p.k (high / f.order) place element)

  -- so is its sum with the lowest digit
  pub sum_within : high % f.order * f.order + upper < 4096
  sum_within = cell_few f.order (high % f.order) upper lim.q_high lowest_digit upper_below

  abbrev sum : ℕ
  sum = (get_or pairs (high % f.order * f.order + upper) none).sum

  sum_is : sum ≡ f.plus (high % f.order) (base f p.k (high / f.order) place)
  sum_is = ap (λ x. x.sum) (r.paired (high % f.order) upper lowest_digit upper_below none) ∙ ap (f.plus (high % f.order)) upper_is

  sum_below : sum < f.order
  sum_below = rw sum_is (l.sums_stay_below (high % f.order) (base f p.k (high / f.order) place) lowest_digit (base_below f l p.k (high / f.order) place element))

  -- and the product of that with the place
  pub product_within : place * f.order + sum < 4096
  product_within = cell_few f.order place sum lim.q_high element sum_below

  -- which is the base
  pub product_is : (get_or pairs (place * f.order + sum) none).product ≡ base f p.k high place
  product_is = ap (λ x. x.product) (r.paired place sum element sum_below none) ∙ (ap (f.times place) sum_is ∙ base_next f l p.k high place r.high_within element)

-- how many higher coefficients a plan's words have
pub plan_highs : (f : Tables) (p : Plan) (cards q : ℕ) → f.order ≡ p.q → cards ≡ p.q ^ p.k → q ≡ p.q → cards / q ≡ f.order ^ (p.k - 1)
plan_highs f p cards q order ec eq = ap₂ (λ a b. a / b) ec eq ∙ (highs p ∙ ap (λ x. x ^ (p.k - 1)) (sym order))
