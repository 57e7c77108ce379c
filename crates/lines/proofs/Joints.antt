-- What the calls of a junction give. Assumes nothing.
use Rattle.std.proofs.Common.{◌≡◌, ℕ, ◌<◌, Bool, true, false, ◌||◌, eqb, cond, List, length, get_or, set, ap, ◌∙◌, ap₂, length-set}
use Rattle.std.proofs.lemmas.List.{get_or-set_same, get_or-set_other}
use Rattle.lines.specs.Junction.{junction_row}
use Rattle.lines.specs.Over.{over_length}
use Rattle.lines.proofs.Rows.{over_within, over_at, over_set}

-- a junction has the slots of both lines, where they have as many
pub junction_length : (p q : List Bool) → length (junction_row p q) ≡ cond (eqb (length p) (length q)) (length q) 0
junction_length p q = over_length (length p) (length q) _

-- a slot of the first line that is made to stand makes the junction's stand
pub driven_first : (p p' q : List Bool) (s : ℕ) → p' ≡ set p s true → s < length (junction_row p q) → junction_row p' q ≡ set (junction_row p q) s true
driven_first p p' q s e h =
    let r = over_within (length p) (length q) _ s h in
    over_set (length p) (length p') (length q) _ _ s true r.0 (ap length e ∙ (length-set p s true ∙ r.0))
    (λ _. ap (λ xs. get_or xs s false || get_or q s false) e ∙ ap (λ b. b || get_or q s false) (get_or-set_same p s true false (rw r.0 r.1)))
    (λ i within other. ap (λ xs. get_or xs i false || get_or q i false) e ∙ ap (λ b. b || get_or q i false) (get_or-set_other p s i true false other))

-- a slot of both lines that is made clear makes the junction's clear
pub dropped_both : (p p' q q' : List Bool) (s : ℕ) → p' ≡ set p s false → q' ≡ set q s false → s < length (junction_row p q)
    → junction_row p' q' ≡ set (junction_row p q) s false
dropped_both p p' q q' s e f h =
    let r = over_within (length p) (length q) _ s h in
    rw (e, f, length-set p s false, length-set q s false)
    (over_set (length p) (length p) (length q) _ _ s false r.0 r.0
    (λ _. ap₂ ◌||◌ (get_or-set_same p s false false (rw r.0 r.1)) (get_or-set_same q s false false r.1))
    (λ i within other. ap₂ ◌||◌ (get_or-set_other p s i false false other) (get_or-set_other q s i false false other)))

-- a slot stands when it stands on either
pub junction_at : (p q : List Bool) (s : ℕ) → s < length (junction_row p q) → get_or (junction_row p q) s false ≡ (get_or p s false || get_or q s false)
junction_at p q s h = over_at (length p) (length q) _ s h

-- what the calls of a junction rest on
pub ruleset junction_steps = (junction_length, driven_first, dropped_both, junction_at)
