-- What distance guarantees, for every lawful field, every plan and every line. Assumes nothing.
use Rattle.std.specs.Prelude.{◌≡◌, ℕ, ◌-◌, ◌*◌, ◌^◌, ◌≤◌, Bool, true, false, List, length, take, ◌≢◌}
use Rattle.fields.specs.Lawful.{Tables, Lawful}
use Rattle.words.specs.Plans.{plan_exists}
use Rattle.reader.specs.Distances.{distance, distance_between, cover}
use Rattle.reader.specs.Sets.{NumberSet}
use Rattle.reader.specs.Verdicts.{verdict, is_reading}
use Rattle.reader.specs.declared.verdict.Verdict.{Verdict}
use Rattle.reader.specs.declared.verdict.Verdict.TheVariants.{Reading}

-- a set of at most d of the cards
pub record Speakers (f : Tables) (k d : ℕ) (xs : List ℕ) : Type 0 where
  pub cards : NumberSet (f.order ^ k) xs
  pub few : length xs ≤ d

-- the promises of a reader on one line, by what it says of a set that is read, and what it says where none is
pub record Decided (f : Tables) (n k d e : ℕ) (row : List Bool) (SaysItIsRead : List ℕ → Type 0) (SaysNoneIsRead : Type 0) : Type 0 where
  -- the distance between two different sets of at most d words is at least n - d(k-1)
  pub sets_lie_far_apart : (xs ys : List ℕ) → Speakers f k d xs → Speakers f k d ys → (xs ≢ ys) → n - d * (k - 1) ≤ distance_between f n k xs ys
  -- of the sets of at most d words, none or one lies within e slots of the line
  pub at_most_one_set_is_near : (xs ys : List ℕ) → Speakers f k d xs → Speakers f k d ys → distance f n k row xs ≤ e → distance f n k row ys ≤ e → xs ≡ ys
  -- if one does, the reader says that it is read
  pub a_near_set_is_read : (xs : List ℕ) → Speakers f k d xs → distance f n k row xs ≤ e → SaysItIsRead xs
  -- if none does, the reader says that none is read
  pub no_near_set_is_no_reading : ((xs : List ℕ) → Speakers f k d xs → distance f n k row xs ≤ e → ⊥) → SaysNoneIsRead

-- the promises of the verdict on one line: it reads a near set, and the covered numbers are exactly that set; where there
-- is none, it is overload or noise
abbrev pub DistanceDecides : Tables → ℕ → ℕ → ℕ → ℕ → List Bool → Type 0
DistanceDecides f n k d e row =
    Decided f n k d e row (λ xs. (verdict f n k d e row ≡ Reading (length xs)) × (cover f n k e row ≡ xs)) (is_reading (verdict f n k d e row) ≡ false)

-- Distance decides every reading.
abbrev pub DistanceDecidesEveryReading : Type 0
DistanceDecidesEveryReading =
    (f : Tables) → Lawful f → (n k d e : ℕ) → plan_exists f.order n k d e ≡ true → (row : List Bool) → length row ≡ n * f.order → DistanceDecides f n k d e row

-- the promises of a reader on one line, for the list as it is then: it begins with exactly the set that is read
abbrev pub DecidedByDistance : Tables → ℕ → ℕ → ℕ → ℕ → List Bool → List ℕ → (List ℕ → Type 0) → Type 0 → Type 0
DecidedByDistance f n k d e row list SaysItIsRead SaysNoneIsRead = Decided f n k d e row (λ xs. SaysItIsRead xs × (take (length xs) list ≡ xs)) SaysNoneIsRead

-- the promises for a verdict before anyone's name is asked: a reading of as many numbers, or overload or noise
abbrev pub ReadByDistance : Tables → ℕ → ℕ → ℕ → ℕ → List Bool → Verdict → List ℕ → Type 0
ReadByDistance f n k d e row v list = DecidedByDistance f n k d e row list (λ xs. v ≡ Reading (length xs)) (is_reading v ≡ false)
