-- What the calls of an inverted line give. Assumes nothing.
use Rattle.std.proofs.Common.{◌≡◌, ℕ, Bool, true, false, not, List, map, set, ap, ◌∙◌}
use Rattle.std.proofs.lemmas.List.{map-set}
use Rattle.lines.specs.Inverted.{inverted_row}

-- to write a slot is to write the slot below the other way
pub inverted_set : (was is : List Bool) (s : ℕ) (b : Bool) → is ≡ set was s (not b) → inverted_row is ≡ set (inverted_row was) s b
inverted_set was is s true e = ap (map not) e ∙ map-set not was s false
inverted_set was is s false e = ap (map not) e ∙ map-set not was s true
