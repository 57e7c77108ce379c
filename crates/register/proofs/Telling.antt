-- What a verdict's line of text tells: no number of it is large, and there are few. Assumes nothing.
use Rattle.std.proofs.Common.{◌≡◌, ℕ, ◌*◌, ◌^◌, ◌<◌, ◌≤◌, Bool, true, false, cond, not, eqb, ltb, leb, List, [], ◌∷◌, ◌++◌, length, get_or, take, drop, is_some, Some, None, Ok, Option, Result, sym, refl, ap, ◌∙◌, ap₂, arith}
use Rattle.std.specs.List.{All, AllByRecursion, find}
use Rattle.std.proofs.lemmas.Nat.{mul-le}
use Rattle.std.proofs.lemmas.List.Elements.{All-from_recursion, All-weaker, recursion_from_All}
use Rattle.std.proofs.lemmas.List.{take_at}
use Rattle.std.proofs.lemmas.Bool.{eqb-true, leb-true, ltb-false}
use Rattle.faults.specs.Faults.{answer}
use Rattle.faults.specs.declared.fault.Fault.{Fault}
use Rattle.faults.proofs.Answers.{accepted}
use Rattle.fields.specs.Lawful.{Tables}
use Rattle.frames.specs.Frames.{differ}
use Rattle.frames.proofs.Counting.{count_le}
use Rattle.words.specs.declared.plan.Plan.{Plan}
use Rattle.words.proofs.Limits.{passed}
use Rattle.reader.specs.Calls.{reading_refusal, list_after}
use Rattle.reader.specs.Distances.{joined, distance, cover, covered}
use Rattle.reader.specs.Verdicts.{verdict, is_reading, listed}
use Rattle.reader.specs.declared.verdict.Verdict as unnamed
use Rattle.reader.specs.declared.verdict.Verdict.TheVariants as told
use Rattle.reader.proofs.Deciding.{cover_set}
use Rattle.reader.proofs.Gathering.{kept_few}
use Rattle.reader.proofs.Planned.{planned, planned_by}
use Rattle.reader.proofs.Sets.{set_below}
use Rattle.register.specs.Calls.{text_refusal}
use Rattle.register.specs.Racks.{enrolled}
use Rattle.register.specs.Texts.{told_numbers, told_line, verdict_line, listed_count}
use Rattle.register.specs.Verdicts.{values, judged, by_names, with_names, smallest_foreign}
use Rattle.register.specs.declared.verdict.Verdict.{Verdict}
use Rattle.register.proofs.Judging.{reading_counts}

-- every number of a list has at most five digits
abbrev Small : List ℕ → Type 0
Small xs = AllByRecursion (λ x. x < 100000) xs

-- the values of a reading by names are small where its numbers and their count are
named_small : (test : ℕ → Bool) (xs : List ℕ) (count : ℕ) → Small xs → count < 100000 → Small (values (by_names (find test xs) count))
named_small test [] count s h = (h, tt)
named_small test (x ∷ xs) count s h = go (test x) (named_small test xs count s.1 h)
  where
    go : (b : Bool) → Small (values (by_names (find test xs) count)) → Small (values (by_names (cond b (Some x) (find test xs)) count))
    go true later = (s.0, (h, tt))
    go false later = later

-- names change nothing of how many numbers are listed
named_count : (foreign : Option ℕ) (count : ℕ) → listed_count (by_names foreign count) ≡ count
named_count None count = refl
named_count (Some x) count = refl

module _ (f : Tables) (p : Plan) (row : List Bool) where
  -- the covered numbers of the row
  abbrev plan_cover : List ℕ
  plan_cover = cover f p.n p.k p.e row

  -- their distance from it
  abbrev plan_distance : ℕ
  plan_distance = distance f p.n p.k row plan_cover

  -- the verdict on it, before anyone's name is asked
  abbrev plan_verdict : unnamed.Verdict
  plan_verdict = verdict f p.n p.k p.d p.e row

  -- the same, by whether more numbers are covered than may speak, and whether they are too far
  abbrev decided : (a b : Bool) → unnamed.Verdict
  decided a b = cond a (told.Overload (length plan_cover)) (cond b (told.Noise plan_distance) (told.Reading (length plan_cover)))

  -- no more numbers are covered than there are cards
  cover_few : f.order ≡ p.q → length plan_cover < 100000
  cover_few order = omega (arith, kept_few (covered f p.n p.k p.e row) (f.order ^ p.k), (planned_by f p order).few_words)

  -- a covered number is that of a card
  cover_small : f.order ≡ p.q → Small plan_cover
  cover_small order =
      let few = (planned_by f p order).few_words in
      let below = All-from_recursion (λ x. x < f.order ^ p.k) plan_cover (set_below (f.order ^ p.k) plan_cover (cover_set f p.n p.k p.e row)) in
      recursion_from_All (λ x. x < 100000) plan_cover (All-weaker (λ x. x < f.order ^ p.k) (λ x. x < 100000) (λ x h. omega arith) plan_cover below)

  -- no distance is more than the slots of a line
  distance_few : f.order ≡ p.q → plan_distance < 100000
  distance_few order =
      let known = planned_by f p order in
      omega (arith, count_le (λ slot. differ (get_or row slot false) (joined f p.k plan_cover slot)) (p.n * f.order), mul-le p.n f.order 64 64 (omega (arith, known.n_high, known.q_high)) known.q_high)

  -- the numbers that are told are small
  numbers_small : f.order ≡ p.q → Small (told_numbers f p row)
  numbers_small order = go (is_reading plan_verdict)
    where
      go : (b : Bool) → Small (cond b plan_cover [])
      go true = cover_small order
      go false = tt

  -- and they are few
  numbers_few : length (told_numbers f p row) ≤ 32
  numbers_few = go (ltb p.d (length plan_cover)) (ltb p.e plan_distance) refl
    where
      go : (a b : Bool) → ltb p.d (length plan_cover) ≡ a → length (cond (is_reading (decided a b)) plan_cover []) ≤ 32
      go true b e = omega arith
      go false true e = omega arith
      go false false e = omega (arith, ltb-false p.d (length plan_cover) e, (planned p).d_high)

  module _ {N : Type 0} (entries : List (Option N)) where
    -- they are as many as the verdict says
    numbers_counted : length (told_numbers f p row) ≡ listed_count (judged f p entries row)
    numbers_counted = go (ltb p.d (length plan_cover)) (ltb p.e plan_distance)
      where
        go : (a b : Bool) → length (cond (is_reading (decided a b)) plan_cover []) ≡ listed_count (with_names (decided a b) (smallest_foreign entries plan_cover))
        go true b = refl
        go false true = refl
        go false false = sym (named_count (smallest_foreign entries plan_cover) (length plan_cover))

    -- the values of a verdict are small
    values_small : f.order ≡ p.q → Small (values (judged f p entries row))
    values_small order = go (ltb p.d (length plan_cover)) (ltb p.e plan_distance)
      where
        go : (a b : Bool)
            → Small (values (with_names (decided a b) (smallest_foreign entries plan_cover)))
        go true b = (cover_few order, tt)
        go false true = (distance_few order, tt)
        go false false =
            named_small (λ x. not (enrolled entries x)) plan_cover (length plan_cover) (cover_small order) (cover_few order)

    -- the list begins with the numbers that are told, as many as the verdict says
    numbers_listed : (list : List ℕ) → take (listed_count (judged f p entries row)) (listed f p.n p.k p.d p.e row list) ≡ told_numbers f p row
    numbers_listed list = go plan_verdict refl
      where
        go : (u : unnamed.Verdict) → plan_verdict ≡ u
            → take (listed_count (with_names u (smallest_foreign entries plan_cover))) (cond (is_reading u) (plan_cover ++ drop (length plan_cover) list) list) ≡ cond (is_reading u) plan_cover []
        go (told.Overload count) e = refl
        go (told.Noise away) e = refl
        go (told.Reading count) e =
            ap (λ m. take m (plan_cover ++ drop (length plan_cover) list)) (named_count (smallest_foreign entries plan_cover) count)
            ∙ take_at plan_cover (drop (length plan_cover) list) count (sym (reading_counts f p row count e))

-- what a call has passed that no check refuses: the order of the field, the checks of a judgement, and the room of the text
told_passed : (f : Tables) (p : Plan) (row : List Bool) (list text : List ℕ) → text_refusal f p row list text ≡ None
    → (f.order ≡ p.q) × (reading_refusal f p row list ≡ None) × (256 ≤ length text)
told_passed f p row list text none =
    let c1 = passed (eqb f.order p.q) _ _ none in
    let c2 = passed (eqb (length row) (p.n * p.q)) _ _ c1.1 in
    let c3 = passed (leb p.d (length list)) _ _ c2.1 in
    let c4 = passed (leb 256 (length text)) _ _ c3.1 in
    (eqb-true f.order p.q c1.0, rw (c1.0, c2.0, c3.0), leb-true 256 (length text) c4.0)

-- what is known of a verdict that is told: no check refuses it, its values and numbers are small, the numbers are few and as
-- many as are counted, and its line is that of the row
pub record TellsRow {N : Type 0} (f : Tables) (p : Plan) (entries : List (Option N)) (row : List Bool) (list text : List ℕ) (v : Verdict) (count : ℕ) (numbers : List ℕ) : Type 0 where
  pub none_refuses : text_refusal f p row list text ≡ None
  pub values_fit : All (λ x. x < 100000) (values v)
  pub numbers_fit : All (λ x. x < 100000) numbers
  pub few : length numbers ≤ 32
  pub counted : count ≡ length numbers
  pub line : verdict_line v numbers ≡ told_line f p entries row

-- so it is where no check of a text refuses: a judgement, how many numbers it lists, and the list then
pub told_by : {N : Type 0} (f : Tables) (p : Plan) (entries : List (Option N)) (row : List Bool) (list text after : List ℕ) (u : Unit {0}) (v : Verdict) (count : ℕ)
    → ◌≡◌ {A = Result (Unit {0}) Fault} (Ok u) (answer (text_refusal f p row list text) tt)
    → ◌≡◌ {A = Result Verdict Fault} (Ok v) (answer (reading_refusal f p row list) (judged f p entries row))
    → count ≡ listed_count v → after ≡ list_after f p row list → TellsRow f p entries row list text v count (take count after)
told_by f p entries row list text after u v count passes judgement counted left =
    let none = (accepted (text_refusal f p row list text) tt u passes).0 in
    let known = told_passed f p row list text none in
    let is : v ≡ judged f p entries row = (accepted (reading_refusal f p row list) (judged f p entries row) v judgement).1 in
    let front : after ≡ listed f p.n p.k p.d p.e row list = left ∙ ap (λ o. cond (is_some o) list (listed f p.n p.k p.d p.e row list)) known.1 in
    let numbers : take count after ≡ told_numbers f p row = ap₂ take (counted ∙ ap listed_count is) front ∙ numbers_listed f p row entries list in
    record {
      none_refuses = none;
      values_fit = All-from_recursion (λ x. x < 100000) (values v) (rw is (values_small f p row entries known.0));
      numbers_fit = All-from_recursion (λ x. x < 100000) (take count after) (rw numbers (numbers_small f p row known.0));
      few = rw numbers (numbers_few f p row);
      counted = counted ∙ (ap listed_count is ∙ (sym (numbers_counted f p row entries) ∙ ap length (sym numbers)));
      line = ap₂ verdict_line is numbers;
    }
