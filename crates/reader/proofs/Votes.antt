-- How many of the slots that stand the words with one base go through. Assumes nothing.
use Rattle.std.proofs.Common.{◌≡◌, ℕ, zero, suc, ◌+◌, ◌*◌, ◌/◌, ◌<◌, ◌≤◌, Bool, true, false, cond, ◌&&◌, eqb, leb, List, [], ◌∷◌, length, get_or, count_by, filter, sym, refl, ap, ◌∙◌, inl, inr, zero-add, add-one, arith}
use Rattle.std.specs.List.{range_with_len}
use Rattle.std.proofs.lemmas.Nat.{div_below}
use Rattle.std.proofs.lemmas.List.Sums.{sum_by-append}
use Rattle.std.proofs.lemmas.Bool.{cases_lt, le-leb, lt-leb}
use Rattle.fields.specs.Lawful.{Tables, Lawful}
use Rattle.fields.proofs.Algebra.{zero_is_an_element}
use Rattle.frames.specs.Counting.{count}
use Rattle.frames.proofs.Counting.{count_not, count_same}
use Rattle.words.specs.Words.{slot_at, in_word}
use Rattle.reader.specs.Distances.{clear_slots, covered}
use Rattle.reader.specs.Working.{lowest, standing, votes}
use Rattle.reader.proofs.BaseLaws.{through}
use Rattle.reader.proofs.Gathering.{kept_more}
use Rattle.reader.proofs.Overlaps.{slots_by_places}
use Rattle.reader.proofs.Sets.{kept_set}

-- how many of those that one test keeps of the numbers below n pass another
count_kept : (p test : ℕ → Bool) (n : ℕ) → count_by test (filter p (range_with_len 0 n)) ≡ count (λ i. p i && test i) n
unfolding count
count_kept p test zero = refl
count_kept p test (suc n) =
    ap (λ m. count_by test (filter p (range_with_len 0 m))) (sym (add-one n))
    ∙ ap (count_by test) (kept_more p n)
    ∙ sum_by-append (λ x. cond (test x) 1 0) (filter p (range_with_len 0 n)) (cond (p n) (n ∷ []) [])
    ∙ omega (arith, count_kept p test n, last (p n))
  where
    last : (b : Bool) → count_by test (cond b (n ∷ []) []) ≡ cond (b && test n) 1 0
    last true = zero-add (cond (test n) 1 0)
    last false = refl

-- how many of the slots that stand pass a test
pub count_standing : (test : ℕ → Bool) (row : List Bool) → count_by test (standing row) ≡ count (λ slot. get_or row slot false && test slot) (length row)
count_standing test row = count_kept (λ slot. get_or row slot false) test (length row)

module _ (f : Tables) (l : Lawful f) (n k high c : ℕ) (row : List Bool) (hn : n ≤ f.order) (pos : 0 < k) (hc : c < f.order) (long : length row ≡ n * f.order) where
  -- the slots of a word's n places stand, and vote for its lowest coefficient, or are clear
  pub votes_and_clear : votes f k high c (standing row) + clear_slots f n k row (high * f.order + c) ≡ n
  votes_and_clear =
      let x = high * f.order + c in
      let counted = count_standing (λ slot. eqb (lowest f k high slot) c) row in
      let all = ap (count (λ slot. get_or row slot false && eqb (lowest f k high slot) c)) long in
      let same = count_same (λ slot. get_or row slot false && eqb (lowest f k high slot) c) (λ slot. in_word f k x slot && get_or row slot false) (n * f.order)
      (λ s h. voted s (div_below s f.order n (zero_is_an_element f l) h)) in
      let places = slots_by_places f l n k x (λ slot. get_or row slot false) hn in
      omega (arith, count_not (λ place. get_or row (slot_at f k x place) false) n)
    where
      turned : (a b : Bool) → (a && b) ≡ (b && a)
      turned true true = refl
      turned true false = refl
      turned false true = refl
      turned false false = refl

      voted : (s : ℕ) → s / f.order < n → (get_or row s false && eqb (lowest f k high s) c) ≡ (in_word f k (high * f.order + c) s && get_or row s false)
      voted s h =
          turned (get_or row s false) (eqb (lowest f k high s) c)
          ∙ ap (λ b. b && get_or row s false) (through f l k high c s pos hc (omega arith))

  -- a word is covered exactly where its votes and e make n
  pub covered_by_votes : (e : ℕ) → covered f n k e row (high * f.order + c) ≡ leb n (votes f k high c (standing row) + e)
  covered_by_votes e =
      let sum = votes_and_clear in
      let clear = clear_slots f n k row (high * f.order + c) in
      let found = votes f k high c (standing row) in
      elim (cases_lt e clear) [
        | inl more ↦ lt-leb clear e more ∙ sym (lt-leb n (found + e) (omega arith))
        | inr few ↦ le-leb clear e few ∙ sym (le-leb n (found + e) (omega arith))
      ]

-- a slot that stands lies on the row
pub standing_below : (row : List Bool) (i : ℕ) → i < length (standing row) → get_or (standing row) i 0 < length row
standing_below row i h = (kept_set (λ slot. get_or row slot false) (length row)).below i h
