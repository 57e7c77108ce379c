-- How far a test of slots lies from the joined words of a set, and what a word adds to that. Assumes nothing.
use Rattle.std.proofs.Common.{◌≡◌, ℕ, ◌+◌, ◌-◌, ◌*◌, ◌^◌, ◌<◌, ◌≤◌, Bool, true, false, not, ◌&&◌, ◌||◌, List, length, get_or, refl, arith}
use Rattle.std.proofs.lemmas.Nat.{mul-le}
use Rattle.std.proofs.lemmas.Bool.{and_parts, false≢true}
use Rattle.fields.specs.Lawful.{Tables, Lawful}
use Rattle.frames.specs.Counting.{count}
use Rattle.frames.specs.Frames.{differ}
use Rattle.frames.proofs.Counting.{count_same, count_mono, count_none, count_parts}
use Rattle.words.specs.Words.{in_word}
use Rattle.words.proofs.Shared.{word_size}
use Rattle.reader.specs.Distances.{joined, distance, distance_between, clear_slots}
use Rattle.reader.specs.Promises.{Speakers}
use Rattle.reader.proofs.Overlaps.{count_covered, joined_has, overlap, slots_by_places}
use Rattle.reader.proofs.Sets.{member, set_below}

-- two tests differ as often in either order
pub differ_symmetric : (g h : ℕ → Bool) (n : ℕ) → count (λ i. differ (g i) (h i)) n ≡ count (λ i. differ (h i) (g i)) n
differ_symmetric g h n = count_same (λ i. differ (g i) (h i)) (λ i. differ (h i) (g i)) n (λ i _. turned (g i) (h i))
  where
    turned : (a b : Bool) → differ a b ≡ differ b a
    turned true true = refl
    turned true false = refl
    turned false true = refl
    turned false false = refl

-- two tests differ at most as often as each of them differs from a third
pub differ_triangle : (f g h : ℕ → Bool) (n : ℕ)
    → count (λ i. differ (g i) (h i)) n ≤ count (λ i. differ (f i) (g i)) n + count (λ i. differ (f i) (h i)) n
differ_triangle f g h n =
    count_covered (λ i. differ (g i) (h i)) (λ i. differ (f i) (g i)) (λ i. differ (f i) (h i)) n (λ i _. around (f i) (g i) (h i))
  where
    around : (a b c : Bool) → differ b c ≡ true → (differ a b || differ a c) ≡ true
    around true true c e = e
    around true false c e = refl
    around false true c e = refl
    around false false c e = e

-- the slots of a member's word that fail a test are slots in which the test differs from the joined words
pub inside_word : (f : Tables) (n k : ℕ) (test : ℕ → Bool) (xs : List ℕ) (x : ℕ) → member xs x ≡ true
    → count (λ slot. in_word f k x slot && not (test slot)) (n * f.order) ≤ count (λ slot. differ (test slot) (joined f k xs slot)) (n * f.order)
inside_word f n k test xs x m =
    count_mono (λ slot. in_word f k x slot && not (test slot)) (λ slot. differ (test slot) (joined f k xs slot)) (n * f.order)
    (λ i _ h. let both = and_parts (in_word f k x i) (not (test i)) h in lacks (test i) (joined f k xs i) both.1 (joined_has f k xs x i m both.0))
  where
    lacks : (a b : Bool) → not a ≡ true → b ≡ true → differ a b ≡ true
    lacks true b h e = absurd (false≢true h)
    lacks false b h e = e

-- the slots of a member's word that are clear on a row are at most the set's distance from the row
pub inside_row : (f : Tables) → Lawful f → (n k : ℕ) (row : List Bool) (xs : List ℕ) (x : ℕ) → n ≤ f.order → member xs x ≡ true → clear_slots f n k row x ≤ distance f n k row xs
inside_row f l n k row xs x hn m =
    omega (arith, slots_by_places f l n k x (λ slot. not (get_or row slot false)) hn, inside_word f n k (λ slot. get_or row slot false) xs x m)

module _ (f : Tables) (l : Lawful f) (n k d : ℕ) (hn : n ≤ f.order) where
  -- each of the n slots of a word outside a set fails a test, or passes it and is none of the set's, or is one of the
  -- set's, which at most d(k-1) are
  pub outside_word : (test : ℕ → Bool) (ys : List ℕ) → Speakers f k d ys → (x : ℕ) → x < f.order ^ k → member ys x ≡ false
      → n ≤ count (λ slot. in_word f k x slot && not (test slot)) (n * f.order)
      + (count (λ slot. differ (test slot) (joined f k ys slot)) (n * f.order) + d * (k - 1))
  outside_word test ys s x below out =
      let size = word_size f l n k x hn in
      let parts = count_parts (in_word f k x) test (n * f.order) in
      let rest =
      count_covered (λ slot. in_word f k x slot && test slot) (λ slot. differ (test slot) (joined f k ys slot)) (λ slot. in_word f k x slot && joined f k ys slot) (n * f.order)
      (λ i _. either (in_word f k x i) (test i) (joined f k ys i)) in
      let shares = overlap f l n k x ys hn below (set_below (f.order ^ k) ys s.cards) out in
      omega (arith, mul-le (length ys) (k - 1) d (k - 1) s.few (omega arith))
    where
      either : (a b c : Bool) → (a && b) ≡ true → (differ b c || (a && c)) ≡ true
      either true true true e = refl
      either true true false e = refl
      either true false c e = absurd (false≢true e)
      either false b c e = absurd (false≢true e)

  -- a word outside a set: its slots that are clear on a row, the set's distance from the row and d(k-1) make at least n
  pub outside_row : (row : List Bool) (ys : List ℕ) → Speakers f k d ys → (x : ℕ) → x < f.order ^ k → member ys x ≡ false
      → n ≤ clear_slots f n k row x + (distance f n k row ys + d * (k - 1))
  outside_row row ys s x below out =
      omega (arith, slots_by_places f l n k x (λ slot. not (get_or row slot false)) hn, outside_word (λ slot. get_or row slot false) ys s x below out)

  -- a set with a number that another has not lies at least n - d(k-1) slots from it
  pub between : (xs ys : List ℕ) → Speakers f k d ys → (x : ℕ) → x < f.order ^ k → member xs x ≡ true → member ys x ≡ false
      → n ≤ distance_between f n k xs ys + d * (k - 1)
  between xs ys s x below inside outside =
      let clear = count_none (λ slot. differ (joined f k xs slot) (joined f k xs slot)) (n * f.order) (λ i _. itself (joined f k xs i)) in
      omega (arith, inside_word f n k (joined f k xs) xs x inside, outside_word (joined f k xs) ys s x below outside)
    where
      itself : (a : Bool) → differ a a ≡ false
      itself true = refl
      itself false = refl
