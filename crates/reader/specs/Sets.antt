-- Sets of numbers, as ascending lists. Assumes nothing.
use Rattle.std.specs.Prelude.{ℕ, ◌<◌, List, length, slice_index}

-- a set of numbers below a bound: a list in which each number is smaller than every later one, and below the bound
pub record NumberSet (bound : ℕ) (xs : List ℕ) : Type 0 where
  pub ascending : (i j : ℕ) → i < j → j < length xs → slice_index xs i < slice_index xs j
  pub below : (i : ℕ) → i < length xs → slice_index xs i < bound
