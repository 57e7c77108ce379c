-- What the entries of a register keep. Assumes nothing.
use Rattle.std.specs.Prelude.{◌≡◌, ℕ, Bool, true, List, Some, None, Option, slice_index_or}

-- no two enrolled names are the same
abbrev pub NamesDiffer : {N : Type 0} → (N → N → Bool) → List (Option N) → Type 0
NamesDiffer {N} same entries = (i j : ℕ) (a b : N) → slice_index_or entries i None ≡ Some a → slice_index_or entries j None ≡ Some b → same a b ≡ true → i ≡ j
