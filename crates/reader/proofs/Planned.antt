-- What the limits of a plan give the tables of a reading. Assumes nothing.
use Rattle.std.proofs.Common.{◌≡◌, ℕ, ◌+◌, ◌-◌, ◌*◌, ◌/◌, ◌^◌, ◌<◌, ◌≤◌, ap, ◌∙◌, le_refl, pow-suc, mul-div_cancel, add-one, arith}
use Rattle.std.proofs.lemmas.Nat.{mul-le}
use Rattle.fields.specs.Lawful.{Tables}
use Rattle.words.specs.declared.plan.Plan.{Plan}
use Rattle.words.proofs.Limits.{Limits, limits}
use Rattle.reader.proofs.Grids.{cell_below}

-- the limits of a plan
pub planned : (p : Plan) → Limits p.q p.n p.k p.d p.e
planned p = limits p.q p.n p.k p.d p.e p.limits

-- the same, by the order of a field of the plan
pub planned_by : (f : Tables) (p : Plan) → f.order ≡ p.q → Limits f.order p.n p.k p.d p.e
planned_by f p order = rw order (planned p)

-- a power is the power before times the base
pub power_before : (q k : ℕ) → 1 ≤ k → q ^ k ≡ q ^ (k - 1) * q
power_before q k h =
    let before : k ≡ (k - 1) + 1 = omega arith in
    ap (λ j. q ^ j) (before ∙ add-one (k - 1)) ∙ pow-suc q (k - 1)

-- how many higher coefficients there are
pub highs : (p : Plan) → p.q ^ p.k / p.q ≡ p.q ^ (p.k - 1)
highs p =
    let lim = planned p in
    ap (λ m. m / p.q) (power_before p.q p.k lim.k_low) ∙ mul-div_cancel (p.q ^ (p.k - 1)) (omega (arith, lim.q_low))

-- a table of 65,536 has room for the places of all higher coefficients
pub rows_few : (p : Plan) (high place : ℕ) → high < p.q ^ (p.k - 1) → place < p.n → high * p.n + place < 65536
rows_few p high place hh hp =
    let lim = planned p in
    let powers = p.q ^ (p.k - 1) in
    omega (arith, cell_below p.n powers high place hh hp, mul-le powers p.n powers p.q (le_refl powers) lim.n_high, power_before p.q p.k lim.k_low, lim.few_words)

-- the same, by the order of a field of the plan
pub rows_few_by : (f : Tables) (p : Plan) → f.order ≡ p.q → (high place : ℕ) → high < f.order ^ (p.k - 1) → place < p.n → high * p.n + place < 65536
rows_few_by f p order high place hh hp = rows_few p high place (rw order at hh) hp
