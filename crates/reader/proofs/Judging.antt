-- What the parts of a reading give together. Assumes nothing.
use Rattle.std.proofs.Common.{◌≡◌, ℕ, ◌^◌, ◌<◌, ◌≤◌, Bool, true, false, cond, ltb, List, ◌++◌, length, take, drop, sym, ap, ◌∙◌, ap₂, arith}
use Rattle.std.specs.List.{AllByRecursion}
use Rattle.std.proofs.lemmas.List.{take_all}
use Rattle.std.proofs.lemmas.Bool.{le-ltb, lt-ltb}
use Rattle.fields.specs.Lawful.{Tables}
use Rattle.words.specs.declared.plan.Plan.{Plan}
use Rattle.reader.specs.Distances.{distance, cover}
use Rattle.reader.specs.Verdicts.{verdict, is_reading, listed}
use Rattle.reader.specs.declared.verdict.Verdict.{Verdict}
use Rattle.reader.specs.declared.verdict.Verdict.TheVariants.{Overload, Noise, Reading}
use Rattle.reader.proofs.Deciding.{cover_set}
use Rattle.reader.proofs.Planned.{planned}
use Rattle.reader.proofs.Sets.{set_below}

-- the covered numbers and the distance of a row by a plan, and what they give
abbrev plan_cover : Tables → Plan → List Bool → List ℕ
plan_cover f p row = cover f p.n p.k p.e row

abbrev plan_distance : Tables → Plan → List Bool → List ℕ → ℕ
plan_distance f p row xs = distance f p.n p.k row xs

abbrev plan_verdict : Tables → Plan → List Bool → Verdict
plan_verdict f p row = verdict f p.n p.k p.d p.e row

abbrev plan_listed : Tables → Plan → List Bool → List ℕ → List ℕ
plan_listed f p row list = listed f p.n p.k p.d p.e row list

-- the verdict by its two tests
verdict_by : (f : Tables) (p : Plan) (row : List Bool) (a b : Bool) → ltb p.d (length (plan_cover f p row)) ≡ a → ltb p.e (plan_distance f p row (plan_cover f p row)) ≡ b
    → plan_verdict f p row ≡ cond a (Overload (length (plan_cover f p row))) (cond b (Noise (plan_distance f p row (plan_cover f p row))) (Reading (length (plan_cover f p row))))
verdict_by f p row a b ea eb =
    let c = plan_cover f p row in
    ap₂ (λ x y. cond x (Overload (length c)) (cond y (Noise (plan_distance f p row c)) (Reading (length c)))) ea eb

-- the list by the verdict
list_by : (f : Tables) (p : Plan) (row : List Bool) (list : List ℕ) (v : Verdict) → plan_verdict f p row ≡ v
    → plan_listed f p row list ≡ cond (is_reading v) (plan_cover f p row ++ drop (length (plan_cover f p row)) list) list
list_by f p row list v e = let c = plan_cover f p row in ap (λ w. cond (is_reading w) (c ++ drop (length c) list) list) e

-- where at most d words are covered
module _ (f : Tables) (p : Plan) (row : List Bool) (numbers list : List ℕ) (count : ℕ)
    (counted : count ≡ length (plan_cover f p row)) (gathered : numbers ≡ take 32 (plan_cover f p row)) (within : count ≤ p.d) where
  -- what is listed is the cover
  pub listed_is : numbers ≡ plan_cover f p row
  listed_is = gathered ∙ take_all 32 (plan_cover f p row) (omega (arith, (planned p).d_high))

  -- and numbers of cards
  pub listed_below : f.order ≡ p.q → AllByRecursion (λ x. x < p.q ^ p.k) numbers
  listed_below order = rw (listed_is, ← order) (set_below (f.order ^ p.k) (plan_cover f p row) (cover_set f p.n p.k p.e row))

  -- a list with room for d has room for them
  pub listed_fits : p.d ≤ length list → length numbers ≤ length list
  listed_fits room = omega (arith, ap length listed_is)

  no_overload : ltb p.d (length (plan_cover f p row)) ≡ false
  no_overload = le-ltb p.d (length (plan_cover f p row)) (omega arith)

  -- a distance of more than e is noise
  pub noise_is : (away : ℕ) → away ≡ plan_distance f p row numbers → p.e < away → (Noise away ≡ plan_verdict f p row) × (list ≡ plan_listed f p row list)
  noise_is away told far =
      let c = plan_cover f p row in
      let is : away ≡ plan_distance f p row c = told ∙ ap (plan_distance f p row) listed_is in
      let v = verdict_by f p row false true no_overload (lt-ltb p.e (plan_distance f p row c) (omega (arith, is, far))) in
      (ap Noise is ∙ sym v, sym (list_by f p row list (Noise (plan_distance f p row c)) v))

  -- any other is a reading
  pub reading_is : (away : ℕ) → away ≡ plan_distance f p row numbers → away ≤ p.e
      → (Reading count ≡ plan_verdict f p row) × (numbers ++ drop (length numbers) list ≡ plan_listed f p row list)
  reading_is away told near =
      let c = plan_cover f p row in
      let is : away ≡ plan_distance f p row c = told ∙ ap (plan_distance f p row) listed_is in
      let v = verdict_by f p row false false no_overload (le-ltb p.e (plan_distance f p row c) (omega (arith, is, near))) in
      (ap Reading counted ∙ sym v, ap (λ xs. xs ++ drop (length xs) list) listed_is ∙ sym (list_by f p row list (Reading (length c)) v))
