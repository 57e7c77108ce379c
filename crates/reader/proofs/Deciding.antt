-- Distance decides every reading. Assumes nothing.
use Rattle.std.proofs.Common.{◌≡◌, ℕ, ◌+◌, ◌-◌, ◌*◌, ◌^◌, ◌<◌, ◌≤◌, Bool, true, false, cond, ltb, ◌⊎◌, List, ◌++◌, length, get_or, take, drop, sym, refl, ap, ◌∙◌, inl, inr, arith}
use Rattle.std.proofs.lemmas.List.{take_at}
use Rattle.std.proofs.lemmas.Bool.{le-leb, lt-leb, le-ltb, ltb-false}
use Rattle.fields.specs.Lawful.{Tables, Lawful}
use Rattle.words.proofs.Limits.{Limits, limits}
use Rattle.reader.specs.Distances.{joined, distance, distance_between, clear_slots, covered, cover}
use Rattle.reader.specs.Promises.{Speakers, DistanceDecides, DistanceDecidesEveryReading, ReadByDistance}
use Rattle.reader.specs.Sets.{NumberSet}
use Rattle.reader.specs.Verdicts.{verdict, is_reading, listed}
use Rattle.reader.specs.declared.verdict.Verdict.{Verdict}
use Rattle.reader.specs.declared.verdict.Verdict.TheVariants.{Overload, Noise, Reading}
use Rattle.reader.proofs.Distances.{differ_symmetric, differ_triangle, outside_row, inside_row, between}
use Rattle.reader.proofs.Sets.{member, Apart, same_or_apart, kept_set, kept_member, kept_is_set}

-- the verdict on a set of covered words
abbrev judged : Tables → ℕ → ℕ → ℕ → ℕ → List Bool → List ℕ → Verdict
judged f n k d e row c =
    cond (ltb d (length c)) (Overload (length c)) (cond (ltb e (distance f n k row c)) (Noise (distance f n k row c)) (Reading (length c)))

module _ (f : Tables) (l : Lawful f) (n k d : ℕ) (hn : n ≤ f.order) where
  -- two sets of at most d words of which one has a number that the other has not lie far apart
  pub apart_far : (xs ys : List ℕ) → Speakers f k d xs → Speakers f k d ys → Apart (f.order ^ k) xs ys ⊎ Apart (f.order ^ k) ys xs
      → n ≤ distance_between f n k xs ys + d * (k - 1)
  apart_far xs ys s t (inl a) = between f l n k d hn xs ys t a.number a.below a.inside a.outside
  apart_far xs ys s t (inr a) =
      omega (arith, between f l n k d hn ys xs s a.number a.below a.inside a.outside, differ_symmetric (joined f k xs) (joined f k ys) (n * f.order))

  -- two different sets of at most d words lie far apart
  pub different_far : (xs ys : List ℕ) → Speakers f k d xs → Speakers f k d ys → (xs ≡ ys → ⊥) → n ≤ distance_between f n k xs ys + d * (k - 1)
  different_far xs ys s t different =
      elim (same_or_apart (f.order ^ k) xs ys s.cards t.cards) [ inl same ↦ absurd (different same) | inr a ↦ apart_far xs ys s t a ]

module _ (f : Tables) (l : Lawful f) (n k d e : ℕ) (hn : n ≤ f.order) (far : d * (k - 1) + 2 * e < n) (row : List Bool) where
  -- two sets of at most d words within e slots of a line are equal
  pub near_same : (xs ys : List ℕ) → Speakers f k d xs → Speakers f k d ys → distance f n k row xs ≤ e → distance f n k row ys ≤ e → xs ≡ ys
  near_same xs ys s t hx hy =
      elim (same_or_apart (f.order ^ k) xs ys s.cards t.cards) [
        | inl same ↦ same
        | inr a ↦
            absurd (omega (
              arith,
              apart_far f l n k d hn xs ys s t a,
              differ_triangle (λ slot. get_or row slot false) (joined f k xs) (joined f k ys) (n * f.order),
            ))
      ]

  -- where a set of at most d words lies within e slots of a line, the covered numbers are exactly its members
  pub near_covered : (xs : List ℕ) → Speakers f k d xs → distance f n k row xs ≤ e → (z : ℕ) → z < f.order ^ k → covered f n k e row z ≡ member xs z
  near_covered xs s near z below = told (member xs z) refl
    where
      told : (b : Bool) → member xs z ≡ b → covered f n k e row z ≡ member xs z
      told true m = le-leb (clear_slots f n k row z) e (omega (arith, inside_row f l n k row xs z hn m)) ∙ sym m
      told false m = lt-leb (clear_slots f n k row z) e (omega (arith, outside_row f l n k d hn row xs s z below m)) ∙ sym m

  -- the covered numbers are that set
  pub near_cover : (xs : List ℕ) → Speakers f k d xs → distance f n k row xs ≤ e → cover f n k e row ≡ xs
  near_cover xs s near = kept_is_set (covered f n k e row) (f.order ^ k) xs s.cards (near_covered xs s near)

  -- the verdict is a reading
  pub near_read : (xs : List ℕ) → Speakers f k d xs → distance f n k row xs ≤ e → verdict f n k d e row ≡ Reading (length xs)
  near_read xs s near =
      let same = ap (judged f n k d e row) (near_cover xs s near) in
      let few = le-ltb d (length xs) s.few in
      let close = le-ltb e (distance f n k row xs) near in
      cc

-- a list after a reading of a set begins with it
pub read_listed : (f : Tables) (n k d e : ℕ) (row : List Bool) (list xs : List ℕ) → verdict f n k d e row ≡ Reading (length xs) → cover f n k e row ≡ xs
    → take (length xs) (listed f n k d e row list) ≡ xs
read_listed f n k d e row list xs told same =
    let c = cover f n k e row in
    let is : listed f n k d e row list ≡ c ++ drop (length c) list = ap (λ v. cond (is_reading v) (c ++ drop (length c) list) list) told in
    ap (take (length xs)) is ∙ (take_at c (drop (length c) list) (length xs) (ap length same) ∙ same)

-- the covered numbers are a set
pub cover_set : (f : Tables) (n k e : ℕ) (row : List Bool) → NumberSet (f.order ^ k) (cover f n k e row)
cover_set f n k e row = kept_set (covered f n k e row) (f.order ^ k)

-- its members are the numbers below q^k whose words are covered
pub cover_member : (f : Tables) (n k e : ℕ) (row : List Bool) (x : ℕ) → x < f.order ^ k → member (cover f n k e row) x ≡ covered f n k e row x
cover_member f n k e row x below = kept_member (covered f n k e row) (f.order ^ k) x below

-- where no set of at most d words lies within e slots of a line, the verdict is no reading
pub none_read : (f : Tables) (n k d e : ℕ) (row : List Bool) → ((xs : List ℕ) → Speakers f k d xs → distance f n k row xs ≤ e → ⊥) → is_reading (verdict f n k d e row) ≡ false
none_read f n k d e row none = told (ltb d (length c)) (ltb e (distance f n k row c)) refl refl
  where
    c : List ℕ
    c = cover f n k e row

    told : (a b : Bool) → ltb d (length c) ≡ a → ltb e (distance f n k row c) ≡ b
        → is_reading (cond a (Overload (length c)) (cond b (Noise (distance f n k row c)) (Reading (length c)))) ≡ false
    told true b ea eb = refl
    told false true ea eb = refl
    told false false ea eb =
        absurd (none c (record { cards = cover_set f n k e row; few = ltb-false d (length c) ea }) (ltb-false e (distance f n k row c) eb))

-- distance decides the reading of one line
decides : (f : Tables) → Lawful f → (n k d e : ℕ) → Limits f.order n k d e → (row : List Bool) → DistanceDecides f n k d e row
decides f l n k d e known row =
    let hn = known.n_high in
    let far = known.far_apart in
    record {
      sets_lie_far_apart = λ xs ys s t different. omega (arith, different_far f l n k d hn xs ys s t different);
      at_most_one_set_is_near = near_same f l n k d e hn far row;
      a_near_set_is_read = λ xs s near. (near_read f l n k d e hn far row xs s near, near_cover f l n k d e hn far row xs s near);
      no_near_set_is_no_reading = none_read f n k d e row;
    }

-- distance decides every reading
pub distance_decides : DistanceDecidesEveryReading
distance_decides f l n k d e plan row size = decides f l n k d e (limits f.order n k d e plan) row

-- distance decides the verdict of a reader, and the list after it
pub reading_decided : (f : Tables) → Lawful f → (n k d e : ℕ) → Limits f.order n k d e → (row : List Bool) (list : List ℕ)
    → ReadByDistance f n k d e row (verdict f n k d e row) (listed f n k d e row list)
reading_decided f l n k d e known row list =
    let decided = decides f l n k d e known row in
    record {
      sets_lie_far_apart = decided.sets_lie_far_apart;
      at_most_one_set_is_near = decided.at_most_one_set_is_near;
      a_near_set_is_read = λ xs s near.
          let read = decided.a_near_set_is_read xs s near in
          (read.0, read_listed f n k d e row list xs read.0 read.1);
      no_near_set_is_no_reading = decided.no_near_set_is_no_reading;
    }
