-- How a reading is worked out: all words that differ only in the lowest coefficient are decided together. No public
-- contract speaks of these. Assumes nothing.
use Rattle.std.specs.Prelude.{◌≡◌, ℕ, ◌+◌, ◌-◌, ◌*◌, ◌/◌, ◌%◌, ◌^◌, ◌<◌, ◌≤◌, Bool, false, List, length, get_or, count_by, filter, nat_eq, slice_index_or}
use Rattle.std.specs.List.{range_with_len, AllByRecursion}
use Rattle.fields.specs.Answers.{negative_of}
use Rattle.fields.specs.Lawful.{Tables}
use Rattle.words.specs.Words.{digit, value}
use Rattle.words.specs.declared.plan.Plan.{Plan}
use Rattle.reader.specs.declared.pairs.Pair.{Pair}
use Rattle.reader.specs.declared.spot.Spot.{Spot}

-- a list filled row by row as far as m: the entry of row a and column b stands at a × width + b
abbrev pub Grid : {X : Type 0} → (ℕ → ℕ → X) → ℕ → ℕ → List X → Type 0
Grid {X} at width m xs = (d : X) (i : ℕ) → i < m → slice_index_or xs i d ≡ at (i / width) (i % width)

-- what two elements give
abbrev pub pair_of : Tables → ℕ → ℕ → Pair
pair_of f a b = record { sum = f.plus a b; product = f.times a b; difference = f.plus b (negative_of f a) }

-- a table that has at a × q + b what a and b give
abbrev pub Paired : Tables → List Pair → Type 0
Paired f pairs = (a b : ℕ) → a < f.order → b < f.order → (d : Pair) → slice_index_or pairs (a * f.order + b) d ≡ pair_of f a b

-- the part of a symbol that the higher coefficients make: the symbol at the place of number high × q + c is the base and c
abbrev pub base : Tables → ℕ → ℕ → ℕ → ℕ
base f k high place = f.times place (value f (digit f.order high) (k - 1) place)

-- the lowest coefficient with which the word of these higher coefficients goes through a slot
abbrev pub lowest : Tables → ℕ → ℕ → ℕ → ℕ
lowest f k high slot = f.plus (slot % f.order) (negative_of f (base f k high (slot / f.order)))

-- the slots that stand, in ascending order
abbrev pub standing : List Bool → List ℕ
standing row = filter (λ slot. get_or row slot false) (range_with_len 0 (length row))

-- a slot taken apart into place and symbol
abbrev pub spot_of : ℕ → ℕ → Spot
spot_of q slot = record { place = slot / q; symbol = slot % q }

-- how many of some slots the word with lowest coefficient c goes through
abbrev pub votes : Tables → ℕ → ℕ → ℕ → List ℕ → ℕ
votes f k high c slots = count_by (λ slot. nat_eq (lowest f k high slot) c) slots

-- a table that has at high × n + place the base of these higher coefficients there
abbrev pub Based : Tables → ℕ → ℕ → List ℕ → Type 0
Based f n k bases = (high place : ℕ) → high < f.order ^ (k - 1) → place < n → (d : ℕ) → slice_index_or bases (high * n + place) d ≡ base f k high place

-- the bases of all smaller higher coefficients are there, for a place of some higher coefficients
pub record BasedBelow (f : Tables) (p : Plan) (pairs : List Pair) (smaller : List ℕ) (high place : ℕ) : Type 0 where
  pub order : f.order ≡ p.q
  pub paired : Paired f pairs
  pub pairs_size : length pairs ≡ 4096
  pub begun : 1 ≤ high
  pub high_within : high < f.order ^ (p.k - 1)
  pub place_within : place < p.n
  pub smaller_size : length smaller ≡ high * p.n
  pub filled : Grid (base f p.k) p.n (high * p.n) smaller

-- spots of a row of n places and q symbols
abbrev pub Within : ℕ → ℕ → List Spot → Type 0
Within n q spots = AllByRecursion (λ spot. (spot.place < n) × (spot.symbol < q)) spots

-- how many of some spots the word with lowest coefficient c goes through
abbrev pub spot_votes : Tables → ℕ → ℕ → ℕ → List Spot → ℕ
spot_votes f k high c spots = count_by (λ spot. nat_eq (f.plus spot.symbol (negative_of f (base f k high spot.place))) c) spots

-- the tables of a field and a plan, as a reading works with them
pub record Tabled (f : Tables) (p : Plan) (pairs : List Pair) (bases : List ℕ) : Type 0 where
  pub order : f.order ≡ p.q
  pub paired : Paired f pairs
  pub pairs_size : length pairs ≡ 4096
  pub based : Based f p.n p.k bases
  pub bases_size : length bases ≡ 65536
