-- A list that is filled row by row: the entry of row a and column b stands at a × width + b. Assumes nothing.
use Rattle.std.proofs.Common.{◌≡◌, ℕ, ◌+◌, ◌-◌, ◌*◌, ◌/◌, ◌%◌, ◌<◌, ◌≤◌, List, ◌++◌, length, get_or, sym, ap, ◌∙◌, ap₂, add-mul, one-mul, inl, inr, arith}
use Rattle.std.proofs.lemmas.Nat.{mul-add-lt, mul-le, div-mul-add, mod-mul-add}
use Rattle.std.proofs.lemmas.Bool.{cases_lt}
use Rattle.std.proofs.lemmas.List.{get_or_append_left, get_or-append_right}
use Rattle.reader.specs.Working.{Grid}

-- a cell lies within the grid
pub cell_below : (width m a b : ℕ) → a < m → b < width → a * width + b < m * width
cell_below width m a b ha hb = omega (arith, mul-add-lt a width b m ha hb)

-- a cell of a small square lies within 4,096
pub cell_few : (q a b : ℕ) → q ≤ 64 → a < q → b < q → a * q + b < 4096
cell_few q a b few ha hb = omega (arith, cell_below q q a b ha hb, mul-le q q 64 64 few few)

module _ {X : Type 0} (at : ℕ → ℕ → X) (width : ℕ) where
  -- a row more
  pub grid_row : (a : ℕ) (xs row ys : List X) → length xs ≡ a * width → length row ≡ width → Grid at width (a * width) xs
      → ((d : X) (b : ℕ) → b < width → get_or row b d ≡ at a b) → Grid at width ((a + 1) * width) (xs ++ (row ++ ys))
  grid_row a xs row ys long wide g r d i h =
      elim (cases_lt i (a * width)) [
        | inl below ↦ get_or_append_left xs (row ++ ys) d i (omega (arith, below, long)) ∙ g d i below
        | inr past ↦
            let b = i - a * width in
            let hb : b < width = omega (arith, h, past, add-mul a 1 width, one-mul width) in
            let is : i ≡ a * width + b = omega (arith, past) in
            let cell : at (i / width) (i % width) ≡ at a b = ap (λ j. at (j / width) (j % width)) is ∙ ap₂ at (div-mul-add a width b hb) (mod-mul-add a width b hb) in
            get_or-append_right xs (row ++ ys) (a * width) i d long past ∙ get_or_append_left row ys d b (omega (arith, hb, wide)) ∙ r d b hb ∙ sym cell
      ]

  -- what a list has that is filled past a cell
  pub grid_cell : (m a b : ℕ) (xs : List X) (d : X) → b < width → a * width + b < m → Grid at width m xs → get_or xs (a * width + b) d ≡ at a b
  grid_cell m a b xs d hb hm g = g d (a * width + b) hm ∙ ap₂ at (div-mul-add a width b hb) (mod-mul-add a width b hb)

  -- what a filled list has
  pub grid_at : (m a b : ℕ) (xs : List X) (d : X) → a < m → b < width → Grid at width (m * width) xs → get_or xs (a * width + b) d ≡ at a b
  grid_at m a b xs d ha hb g = grid_cell (m * width) a b xs d hb (cell_below width m a b ha hb) g
