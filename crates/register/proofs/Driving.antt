-- Driving a card's slots and turning a slot over. Assumes nothing.
use Rattle.std.proofs.Common.{◌≡◌, ℕ, ◌+◌, ◌*◌, ◌/◌, ◌<◌, Bool, true, false, ◌&&◌, ◌||◌, ltb, List, length, get_or, set, Ok, Result, refl, arith}
use Rattle.std.proofs.lemmas.List.FromFn.{fill_by_all}
use Rattle.faults.specs.Faults.{answer}
use Rattle.faults.specs.declared.fault.Fault.{Fault}
use Rattle.faults.proofs.Answers.{accepted}
use Rattle.fields.specs.Lawful.{Tables, Lawful}
use Rattle.words.specs.Calls.{place_refusal}
use Rattle.words.specs.Words.{symbol, slot_at, in_word}
use Rattle.words.specs.declared.plan.Plan.{Plan}
use Rattle.words.proofs.Addressing.{symbol_below, slot_below}
use Rattle.reader.proofs.Joining.{word_more, marked_all}
use Rattle.reader.proofs.Planned.{planned_by}
use Rattle.register.specs.Racks.{driven}

-- the answered slot of a card at a place, and that it lies on the row
pub slot_told : (f : Tables) → Lawful f → (p : Plan) (number place s : ℕ) → f.order ≡ p.q → place < p.n → ◌≡◌ {A = Result ℕ Fault} (Ok s) (answer (place_refusal p number place) (slot_at f p.k number place))
    → (s ≡ slot_at f p.k number place) × (s < p.n * p.q)
slot_told f l p number place s order within e =
    let same = (accepted (place_refusal p number place) (slot_at f p.k number place) s e).1 in
    (same, rw same (slot_below f l p order number place within))

-- a place more of a card's word is driven
pub driven_more : (f : Tables) → Lawful f → (p : Plan) (number place s : ℕ) (old row : List Bool) → f.order ≡ p.q → place < p.n → s ≡ slot_at f p.k number place → s < length row
    → ((slot : ℕ) → slot < p.n * f.order → get_or row slot false ≡ (get_or old slot false || (ltb (slot / f.order) place && in_word f p.k number slot)))
    → (slot : ℕ) → slot < p.n * f.order → get_or (set row s true) slot false ≡ (get_or old slot false || (ltb (slot / f.order) (place + 1) && in_word f p.k number slot))
driven_more f l p number place s old row order hp is within inv =
    let lim = planned_by f p order in
    rw is (word_more f p.n p.k number place (symbol f p.k number place) old row refl (symbol_below f l p.k number place (omega (arith, lim.n_high))) (omega (arith, is, within)) inv)

-- all places of a card's word are driven
pub driven_all : (f : Tables) (p : Plan) (number : ℕ) (old row : List Bool) → f.order ≡ p.q → length old ≡ p.n * f.order → length row ≡ length old
    → ((slot : ℕ) → slot < p.n * f.order → get_or row slot false ≡ (get_or old slot false || (ltb (slot / f.order) p.n && in_word f p.k number slot)))
    → row ≡ driven f p.k number old
driven_all f p number old row order size same inv =
    let lim = planned_by f p order in
    let all = marked_all f.order p.n old row (in_word f p.k number) (omega (arith, lim.q_low)) inv in
    fill_by_all (λ slot. get_or old slot false || in_word f p.k number slot) row (length old) false same (λ slot h. all slot (omega (arith, size)))
