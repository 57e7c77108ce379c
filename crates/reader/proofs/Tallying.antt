-- Tallying the votes of spots, each for the lowest coefficient whose word goes through it. Assumes nothing.
use Rattle.std.proofs.Common.{◌≡◌, ℕ, ◌+◌, ◌-◌, ◌*◌, ◌^◌, ◌<◌, ◌≤◌, eqb, List, length, get_or, take, set, replicate, sym, ap, ◌∙◌, ap₂, inl, inr, arith}
use Rattle.std.proofs.ByRecursion.{All-get_or}
use Rattle.std.proofs.lemmas.List.{get_or-replicate, get_or-set_same, get_or-set_other, length-replicate, length-set, length-take-le}
use Rattle.std.proofs.lemmas.List.Sums.{count_by-le-length, count_by_more_yes, count_by_more_no}
use Rattle.std.proofs.lemmas.Bool.{cases_eq, eq-eqb, ne_eqb}
use Rattle.fields.specs.Answers.{negative_of}
use Rattle.fields.specs.Lawful.{Tables, Lawful}
use Rattle.words.specs.declared.plan.Plan.{Plan}
use Rattle.reader.specs.Working.{base, spot_votes, Within, Tabled}
use Rattle.reader.specs.declared.pairs.Pair.{Pair}
use Rattle.reader.specs.declared.spot.Spot.{Spot}
use Rattle.reader.proofs.BaseLaws.{base_below}
use Rattle.reader.proofs.Grids.{cell_few}
use Rattle.reader.proofs.Pairing.{negative_below}
use Rattle.reader.proofs.Planned.{planned, rows_few}

-- the lowest coefficient whose word goes through a spot
abbrev pub voted : Tables → ℕ → ℕ → Spot → ℕ
voted f k high spot = f.plus spot.symbol (negative_of f (base f k high spot.place))

-- the same, as the tables tell it
abbrev told : List Pair → List ℕ → ℕ → ℕ → ℕ → Spot → Pair → ℕ
told pairs bases q n high spot none = (get_or pairs (get_or bases (high * n + spot.place) 0 * q + spot.symbol) none).difference

-- a field of a plan has at most 64 elements
pub order_small : {f : Tables} {p : Plan} {pairs : List Pair} {bases : List ℕ} → Tabled f p pairs bases → f.order ≤ 64
order_small {p = p} t = omega (arith, t.order, (planned p).q_high)

-- 64 votes, of which those of elements are those of the first m spots
pub record Tallied (f : Tables) (k high : ℕ) (spots : List Spot) (m : ℕ) (votes : List ℕ) : Type 0 where
  pub sized : length votes ≡ 64
  pub counted : (c : ℕ) → c < f.order → get_or votes c 0 ≡ spot_votes f k high c (take m spots)

-- no spot has voted
pub tallied_none : {f : Tables} {k high : ℕ} {spots : List Spot} → f.order ≤ 64 → Tallied f k high spots 0 (replicate 64 0)
tallied_none small = record { sized = length-replicate {A = ℕ} 64 0; counted = λ c hc. get_or-replicate 64 c 0 0 (omega arith) }

module _ {f : Tables} {k high : ℕ} {spots : List Spot} {i : ℕ} (hi : i < length spots) {votes : List ℕ} (t : Tallied f k high spots i votes) {c : ℕ} (hc : c < f.order) where
  -- no more have voted than are passed
  pub votes_few : get_or votes c 0 ≤ i
  votes_few =
      omega (arith, t.counted c hc, count_by-le-length (λ (s : Spot). eqb (voted f k high s) c) (take i spots), length-take-le i spots (omega arith))

  -- one spot more votes
  pub tallied_more : (none : Spot) → f.order ≤ 64 → c ≡ voted f k high (get_or spots i none) → Tallied f k high spots (i + 1) (set votes c (get_or votes c 0 + 1))
  tallied_more none small is = record { sized = length-set votes c (get_or votes c 0 + 1) ∙ t.sized; counted = after }
    where
      after : (x : ℕ) → x < f.order → get_or (set votes c (get_or votes c 0 + 1)) x 0 ≡ spot_votes f k high x (take (i + 1) spots)
      after x hx =
          elim (cases_eq x c) [
            | inl here ↦
                let more = count_by_more_yes (λ (s : Spot). eqb (voted f k high s) x) spots i none hi (eq-eqb (voted f k high (get_or spots i none)) x (sym is ∙ sym here)) in
                let put = get_or-set_same votes c (get_or votes c 0 + 1) 0 (omega (arith, t.sized)) in
                ap (λ j. get_or (set votes c (get_or votes c 0 + 1)) j 0) here ∙ put ∙ ap (λ j. get_or votes j 0 + 1) (sym here) ∙ ap (λ v. v + 1) (t.counted x hx) ∙ sym more
            | inr other ↦
                get_or-set_other votes c x (get_or votes c 0 + 1) 0 other ∙ t.counted x hx
                ∙ sym (count_by_more_no (λ (s : Spot). eqb (voted f k high s) x) spots i none hi (ne_eqb (voted f k high (get_or spots i none)) x (λ e. other (sym e ∙ sym is))))
          ]

module _ {f : Tables} (l : Lawful f) {p : Plan} {pairs : List Pair} {bases : List ℕ} (t : Tabled f p pairs bases) {high : ℕ} (hh : high < p.q ^ (p.k - 1))
    (spots : List Spot) (w : Within p.n p.q spots) {i : ℕ} (hi : i < length spots) (d : Spot) {q n : ℕ} (eq : q ≡ f.order) (en : n ≡ p.n) where
  -- the place and the symbol of a spot are those of a row
  placed : ((get_or spots i d).place < p.n) × ((get_or spots i d).symbol < p.q)
  placed = All-get_or (λ spot. (spot.place < p.n) × (spot.symbol < p.q)) spots i d hi w

  -- the base of a spot is in its table
  pub base_within : high * n + (get_or spots i d).place < 65536
  base_within = rw en (rows_few p high (get_or spots i d).place hh placed.0)

  base_is : get_or bases (high * n + (get_or spots i d).place) 0 ≡ base f p.k high (get_or spots i d).place
  base_is =
      ap (λ m. get_or bases (high * m + (get_or spots i d).place) 0) en
      ∙ t.based high (get_or spots i d).place (rw t.order hh) placed.0 0

  element : base f p.k high (get_or spots i d).place < f.order
  element = base_below f l p.k high (get_or spots i d).place (omega (arith, placed.0, (planned p).n_high, t.order))

  -- what it and the symbol give is in its table
  pub pair_within : get_or bases (high * n + (get_or spots i d).place) 0 * q + (get_or spots i d).symbol < 4096
  pair_within = cell_few q (get_or bases (high * n + (get_or spots i d).place) 0) (get_or spots i d).symbol (omega (arith, order_small t)) (omega (arith, base_is, element)) (omega (arith, placed.1, t.order))

  -- the tables tell which lowest coefficient a spot votes for
  pub told_is : (none : Pair) → told pairs bases q n high (get_or spots i d) none ≡ voted f p.k high (get_or spots i d)
  told_is none =
      ap₂ (λ b m. (get_or pairs (b * m + (get_or spots i d).symbol) none).difference) base_is eq
      ∙ ap (λ (pair : Pair). pair.difference) (t.paired (base f p.k high (get_or spots i d).place) (get_or spots i d).symbol element (omega (arith, placed.1, t.order)) none)

  -- it is an element
  pub told_below : (none : Pair) → told pairs bases q n high (get_or spots i d) none < f.order
  told_below none =
      let b = base f p.k high (get_or spots i d).place in
      rw (told_is none) (l.sums_stay_below (get_or spots i d).symbol (negative_of f b) (omega (arith, placed.1, t.order)) (negative_below f l b element))
