-- What an accepted place of a word gives. Assumes nothing.
use Rattle.std.proofs.Common.{◌≡◌, ℕ, ◌+◌, ◌*◌, ◌^◌, ◌<◌, ◌≤◌, None, Ok, Result, sym, ◌∙◌, ap₂, mul-le-mul, arith}
use Rattle.std.proofs.lemmas.Nat.{mul-add-lt}
use Rattle.std.proofs.lemmas.Bool.{ltb-true}
use Rattle.faults.specs.Faults.{answer}
use Rattle.faults.specs.declared.fault.Fault.{Fault}
use Rattle.faults.proofs.Answers.{accepted}
use Rattle.fields.specs.Lawful.{Tables, Lawful}
use Rattle.fields.proofs.Algebra.{zero_is_an_element}
use Rattle.words.specs.Calls.{place_refusal}
use Rattle.words.specs.Words.{digit, symbol, slot_at}
use Rattle.words.specs.declared.plan.Plan.{Plan}
use Rattle.words.proofs.Digits.{digit_below}
use Rattle.words.proofs.Limits.{limits, passed}
use Rattle.words.proofs.Values.{value_below}

-- a symbol is an element
pub symbol_below : (f : Tables) → Lawful f → (k number place : ℕ) → place < f.order → symbol f k number place < f.order
symbol_below f laws k number place below =
    value_below f laws (digit f.order number) k place (λ i _. digit_below f.order number i (zero_is_an_element f laws)) below

-- an accepted place is one of the word's, and the number has a word
pub placed : (p : Plan) (number place : ℕ) → place_refusal p number place ≡ None → (number < p.q ^ p.k) × (place < p.n)
placed p number place e =
    let c1 = passed _ _ _ e in
    let c2 = passed _ _ _ c1.1 in
    (ltb-true number (p.q ^ p.k) c1.0, ltb-true place p.n c2.0)

-- a slot of a word lies on the plan's row
pub slot_below : (f : Tables) → Lawful f → (p : Plan) → f.order ≡ p.q → (number place : ℕ) → place < p.n → slot_at f p.k number place < p.n * p.q
slot_below f laws p order number place within =
    let l = limits p.q p.n p.k p.d p.e p.limits in
    let s = symbol_below f laws p.k number place (omega (arith, order, within, l.n_high)) in
    rw (← order) (omega (arith, mul-add-lt place f.order (symbol f p.k number place) p.n within s))

-- no plan's row has more than 4,096 slots
pub slots_few : (p : Plan) → p.n * p.q ≤ 4096
slots_few p =
    let l = limits p.q p.n p.k p.d p.e p.limits in
    mul-le-mul {n₁ = p.n} {m₁ = p.q} {n₂ = 64} {m₂ = 64} (omega (arith, l.n_high, l.q_high)) l.q_high

-- an answered symbol and its place make a small number
pub slot_fits : (f : Tables) → Lawful f → (p : Plan) → f.order ≡ p.q → (number place q v : ℕ) → q ≡ p.q
    → ◌≡◌ {A = Result ℕ Fault} (Ok v) (answer (place_refusal p number place) (symbol f p.k number place)) → place * q + v < 4096
slot_fits f laws p order number place q v eq ev =
    let known = accepted (place_refusal p number place) (symbol f p.k number place) v ev in
    let whole : place * q + v ≡ slot_at f p.k number place = ap₂ (λ x y. place * x + y) (eq ∙ sym order) known.1 in
    omega (arith, whole, slot_below f laws p order number place (placed p number place known.0).1, slots_few p)
