-- What the calls of a stride line give. Assumes nothing.
use Rattle.std.proofs.Common.{◌≡◌, ℕ, ◌*◌, ◌<◌, ◌≤◌, Bool, false, ◌&&◌, eqb, ltb, cond, List, length, get_or, set, ◌∙◌, inl, inr, mod-lt, arith, length-set}
use Rattle.std.proofs.lemmas.Nat.{mul-lt}
use Rattle.std.proofs.lemmas.List.{get_or-set_same, get_or-set_other}
use Rattle.std.proofs.lemmas.Bool.{cases_Bool, and_parts, ltb-true, eqb-true, cond-false}
use Rattle.lines.specs.Stride.{shared_factors, strides, stride_slots, stride_place, stride_row}
use Rattle.lines.specs.Over.{over_length}
use Rattle.lines.proofs.Factors.{steps_apart}
use Rattle.lines.proofs.Rows.{over_within, over_at, over_set}

-- a stride line has its count of slots, where the line below has as many
pub stride_length : (a n : ℕ) (below : List Bool) → length (stride_row a n below) ≡ cond (eqb (length below) n) n 0
stride_length a n below = over_length (length below) n _

-- a stride that gives slots is in its range and shares no factor with their count
stride_facts : (a n s : ℕ) → n ≡ stride_slots a n → s < n → (0 < a) × (a < 4096) × (shared_factors a n ≡ 0)
stride_facts a n s found h = elim (cases_Bool (strides a n)) [
  | inl steps ↦
      let p = and_parts (ltb 0 a) (ltb a 4096 && eqb (shared_factors a n) 0) steps in
      let q = and_parts (ltb a 4096) (eqb (shared_factors a n) 0) p.1 in
      (ltb-true 0 a p.0, ltb-true a 4096 q.0, eqb-true (shared_factors a n) 0 q.1)
  | inr none ↦ absurd (omega (arith, found ∙ cond-false (strides a n) n 0 none))
]

-- the slot below a slot is one of the line below
place_below : (a n : ℕ) (below : List Bool) (s : ℕ) → s < length (stride_row a n below) → stride_place a n s < length below
place_below a n below s h =
    let p = over_within (length below) n _ s h in
    rw p.0 (mod-lt (a * s) {m = n} (omega (arith, p.1)))

-- the product of stride and slot stays small
pub product_small : (a n : ℕ) (below : List Bool) (s : ℕ) → n ≡ stride_slots a n → length below ≤ 4096 → s < length (stride_row a n below) → a * s < 16777216
product_small a n below s found few h =
    let p = over_within (length below) n _ s h in
    mul-lt a s 4096 4096 (stride_facts a n s found p.1).1 (omega (arith, p.0, p.1))

-- a written slot below is a written slot, and no other
pub stride_set : (a n : ℕ) (below below' : List Bool) (s : ℕ) (b : Bool) → n ≡ stride_slots a n → below' ≡ set below (stride_place a n s) b
    → s < length (stride_row a n below) → stride_row a n below' ≡ set (stride_row a n below) s b
stride_set a n below below' s b found e h =
    let p = over_within (length below) n _ s h in
    let q = stride_facts a n s found p.1 in
    rw e
    (over_set (length below) (length (set below (stride_place a n s) b)) n _ _ s b p.0 (length-set below (stride_place a n s) b ∙ p.0)
    (λ _. get_or-set_same below (stride_place a n s) b false (place_below a n below s h))
    (λ i within other. get_or-set_other below (stride_place a n s) (stride_place a n i) b false (λ same. steps_apart a n i s q.0 q.2 within p.1 other same)))

-- a slot stands as the slot below
pub stride_at : (a n : ℕ) (below : List Bool) (s : ℕ) → s < length (stride_row a n below) → get_or (stride_row a n below) s false ≡ get_or below (stride_place a n s) false
stride_at a n below s h = over_at (length below) n _ s h

-- what the calls of a stride line rest on
pub ruleset stride_steps = (stride_length, stride_set)
