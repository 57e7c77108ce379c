-- The count of slots of a row over a line. Assumes nothing.
use Rattle.std.specs.Prelude.{◌≡◌, ℕ, ◌≤◌, Bool, true, false, cond, [], map, length, ◌==◌, refl}
use Rattle.std.proofs.Common.{inl, inr, arith}
use Rattle.std.specs.List.{range_with_len}
use Rattle.std.proofs.lemmas.List.FromFn.{length-map-range_with_len}
use Rattle.std.proofs.lemmas.Bool.{cases_eq, cond-true, cond-false, eq-eqb, ne_eqb}
use Rattle.lines.specs.Lines.{row_over}

-- over a line of just so many slots the row has so many, and over any other none
pub over_length : (found n : ℕ) (test : ℕ → Bool) → length (row_over found n test) ≡ cond (found == n) n 0
over_length found n test = by_cases (found == n)
  where
    by_cases : (b : Bool) → length (cond b (map test (range_with_len 0 n)) []) ≡ cond b n 0
    by_cases true = length-map-range_with_len test 0 n
    by_cases false = refl

-- a row over a line of few slots has few slots
pub over_few : (found n : ℕ) (test : ℕ → Bool) → found ≤ 4096 → length (row_over found n test) ≤ 4096
over_few found n test few = rw (over_length found n test) (elim (cases_eq found n) [
  | inl same ↦ rw (cond-true (found == n) n 0 (eq-eqb found n same)) (omega arith)
  | inr other ↦ rw (cond-false (found == n) n 0 (ne_eqb found n other)) (omega arith)
])
