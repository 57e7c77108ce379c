-- The covered words of a row, by the votes of the spots that stand. Assumes nothing.
use Rattle.std.proofs.Common.{◌≡◌, ℕ, ◌+◌, ◌-◌, ◌*◌, ◌/◌, ◌%◌, ◌^◌, ◌<◌, Bool, cond, eqb, leb, List, [], ◌∷◌, map, length, get_or, take, sym, refl, ap, ◌∙◌, ap₂, arith}
use Rattle.std.proofs.lemmas.Nat.{mod_below, div_below}
use Rattle.std.proofs.ByRecursion.{All-from_get_or, All-map}
use Rattle.std.proofs.lemmas.List.Sums.{sum_by-cons}
use Rattle.fields.specs.Lawful.{Tables, Lawful}
use Rattle.words.specs.declared.plan.Plan.{Plan}
use Rattle.reader.specs.Distances.{covered, cover}
use Rattle.reader.specs.Working.{lowest, standing, spot_of, votes, spot_votes, Within, Tabled}
use Rattle.reader.specs.declared.pairs.Pair.{Pair}
use Rattle.reader.specs.declared.spot.Spot.{Spot}
use Rattle.reader.proofs.Gathering.{Gathered}
use Rattle.reader.proofs.Grids.{cell_below}
use Rattle.reader.proofs.Planned.{planned, power_before, highs}
use Rattle.reader.proofs.Tallying.{voted}
use Rattle.reader.proofs.Votes.{covered_by_votes, standing_below}

-- the votes of slots taken apart are those of the slots
pub votes_of_spots : (f : Tables) (k high c : ℕ) (slots : List ℕ) → spot_votes f k high c (map (spot_of f.order) slots) ≡ votes f k high c slots
votes_of_spots f k high c [] = refl
votes_of_spots f k high c (s ∷ ss) =
    sum_by-cons (λ (spot : Spot). cond (eqb (voted f k high spot) c) 1 0) (spot_of f.order s) (map (spot_of f.order) ss)
    ∙ ap (λ v. cond (eqb (lowest f k high s) c) 1 0 + v) (votes_of_spots f k high c ss)
    ∙ sym (sum_by-cons (λ slot. cond (eqb (lowest f k high slot) c) 1 0) s ss)

module _ (p : Plan) (row : List Bool) (long : length row ≡ p.n * p.q) where
  -- the spots that stand lie on the row
  pub spots_within : Within p.n p.q (map (spot_of p.q) (standing row))
  spots_within =
      let some : 0 < p.q = omega (arith, (planned p).q_low) in
      All-map (λ (spot : Spot). (spot.place < p.n) × (spot.symbol < p.q)) (spot_of p.q) (standing row)
      (All-from_get_or (λ slot. (slot / p.q < p.n) × (slot % p.q < p.q)) (standing row) 0
      (λ i h. let s = get_or (standing row) i 0 in (div_below s p.q p.n some (omega (arith, standing_below row i h)), mod_below s p.q some)))

module _ {f : Tables} {p : Plan} {pairs : List Pair} {bases : List ℕ} (t : Tabled f p pairs bases) where
  -- a word is covered exactly where its votes and e make n
  pub covered_told : Lawful f → (high c : ℕ) (row : List Bool) (spots : List Spot) (v : ℕ) → c < p.q → length row ≡ p.n * p.q
      → spots ≡ map (spot_of p.q) (standing row) → v ≡ spot_votes f p.k high c spots
      → covered f p.n p.k p.e row (high * p.q + c) ≡ leb p.n (v + p.e)
  covered_told l high c row spots v hc long are is =
      let lim = planned p in
      let told : v ≡ votes f p.k high c (standing row) =
      is ∙ ap (spot_votes f p.k high c) (are ∙ ap (λ q. map (spot_of q) (standing row)) (sym t.order)) ∙ votes_of_spots f p.k high c (standing row) in
      ap (λ q. covered f p.n p.k p.e row (high * q + c)) (sym t.order)
      ∙ covered_by_votes f l p.n p.k high c row (omega (arith, lim.n_high, t.order)) lim.k_low (omega (arith, hc, t.order)) (long ∙ ap (λ q. p.n * q) (sym t.order)) p.e
      ∙ ap (λ m. leb p.n (m + p.e)) (sym told)

  -- past all higher coefficients the covered numbers are the cover
  pub cover_all : (row : List Bool) (high count : ℕ) (found : List ℕ) → high ≡ p.q ^ (p.k - 1)
      → Gathered (covered f p.n p.k p.e row) (high * p.q) count found
      → (count ≡ length (cover f p.n p.k p.e row)) × (found ≡ take 32 (cover f p.n p.k p.e row))
  cover_all row high count found all g =
      let past : high * p.q ≡ f.order ^ p.k =
      ap (λ i. i * p.q) all ∙ sym (power_before p.q p.k (planned p).k_low) ∙ ap (λ q. q ^ p.k) (sym t.order) in
      let whole = rw past at g in
      (whole.counted, whole.listed)

-- how many higher coefficients there are
pub highs_are : (p : Plan) {cards q : ℕ} → cards ≡ p.q ^ p.k → q ≡ p.q → cards / q ≡ p.q ^ (p.k - 1)
highs_are p all eq = ap₂ (λ m i. m / i) all eq ∙ highs p

-- the numbers of a plan's cards are few
pub number_few : (p : Plan) (high c : ℕ) → high < p.q ^ (p.k - 1) → c < p.q → high * p.q + c < 65536
number_few p high c hh hc =
    let lim = planned p in
    omega (arith, cell_below p.q (p.q ^ (p.k - 1)) high c hh hc, power_before p.q p.k lim.k_low, lim.few_words)
