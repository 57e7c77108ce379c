-- Marking the words of numbers, and comparing the marks with a row. Assumes nothing.
use Rattle.std.proofs.Common.{◌≡◌, ℕ, suc, ◌+◌, ◌-◌, ◌*◌, ◌/◌, ◌%◌, ◌^◌, ◌<◌, ◌≤◌, Bool, true, false, cond, ◌&&◌, ◌||◌, ltb, ◌⊎◌, List, [], ◌∷◌, ◌++◌, length, get_or, take, set, replicate, count_by, sym, refl, ap, ◌∙◌, ap₂, inl, inr, mod-lt, div-add-mod', zero-add, arith}
use Rattle.std.specs.List.{zip}
use Rattle.std.proofs.lemmas.Nat.{div_below, div-mul-add}
use Rattle.std.proofs.lemmas.List.{get_or-replicate, get_or-set_same, get_or-set_other, take_more}
use Rattle.std.proofs.lemmas.Bool.{cases_eq, cases_lt, lt-ltb, le-ltb, eq-eqb, ne_eqb, and_from, and_right, or_right}
use Rattle.std.proofs.lemmas.List.Sums.{sum_by-cons}
use Rattle.fields.specs.Lawful.{Tables, Lawful}
use Rattle.frames.specs.Counting.{count}
use Rattle.frames.specs.Frames.{differ}
use Rattle.frames.proofs.Counting.{count_same, count_split}
use Rattle.words.specs.Words.{symbol, in_word}
use Rattle.words.specs.declared.plan.Plan.{Plan}
use Rattle.words.proofs.Addressing.{symbol_below}
use Rattle.words.proofs.Drawing.{in_word_at}
use Rattle.words.proofs.Limits.{Limits}
use Rattle.reader.specs.Distances.{joined, distance}
use Rattle.reader.specs.Working.{Tabled, base}
use Rattle.reader.specs.declared.pairs.Pair.{Pair}
use Rattle.reader.proofs.BaseLaws.{base_below, symbol_by_base}
use Rattle.reader.proofs.Planned.{planned_by, power_before, rows_few_by}
use Rattle.reader.proofs.Grids.{cell_few}

-- one number more is joined
pub joined_more : (f : Tables) (k : ℕ) (xs : List ℕ) (x slot : ℕ) → joined f k (xs ++ x ∷ []) slot ≡ (joined f k xs slot || in_word f k x slot)
unfolding joined
joined_more f k [] x slot = ends (in_word f k x slot)
  where
    ends : (a : Bool) → (a || false) ≡ a
    ends true = refl
    ends false = refl
joined_more f k (y ∷ ys) x slot = ap (λ b. in_word f k y slot || b) (joined_more f k ys x slot) ∙ turned (in_word f k y slot)
  where
    turned : (a : Bool) → (a || (joined f k ys slot || in_word f k x slot)) ≡ ((a || joined f k ys slot) || in_word f k x slot)
    turned true = refl
    turned false = refl

-- a number that is not the next one is below it as it is below the one after
below_next : (a b : ℕ) → (a ≡ b → ⊥) → ltb a b ≡ ltb a (b + 1)
below_next a b other =
    elim (cases_lt a b) [
      | inl below ↦ lt-ltb a b below ∙ sym (lt-ltb a (b + 1) (omega arith))
      | inr above ↦ le-ltb a b above ∙ sym (le-ltb a (b + 1) (omega arith))
    ]

-- where the slots of a word are marked in the places so far, and the one of a place more is
pub word_more : (f : Tables) (n k number place told : ℕ) (old marks : List Bool) → told ≡ symbol f k number place → told < f.order → place * f.order + told < length marks
    → ((slot : ℕ) → slot < n * f.order → get_or marks slot false ≡ (get_or old slot false || (ltb (slot / f.order) place && in_word f k number slot)))
    → (slot : ℕ) → slot < n * f.order → get_or (set marks (place * f.order + told) true) slot false ≡ (get_or old slot false || (ltb (slot / f.order) (place + 1) && in_word f k number slot))
word_more f n k number place told old marks told_is told_below within inv slot hs =
    elim (cases_eq slot (place * f.order + told)) [
      | inl same ↦
          ap (λ s. get_or (set marks (place * f.order + told) true) s false) same
          ∙ (get_or-set_same marks (place * f.order + told) true false within
          ∙ sym (or_right (get_or old slot false) (ltb (slot / f.order) (place + 1) && in_word f k number slot)
          (and_from (ltb (slot / f.order) (place + 1)) (in_word f k number slot)
          (lt-ltb (slot / f.order) (place + 1) (omega (arith, ap (λ s. s / f.order) same, div-mul-add place f.order told told_below)))
          (ap (in_word f k number) same ∙ (in_word_at f k number place told told_below ∙ eq-eqb (symbol f k number place) told (sym told_is))))))
      | inr other ↦
          get_or-set_other marks (place * f.order + told) slot true false other
          ∙ (inv slot hs ∙ ap (λ b. get_or old slot false || b) (elsewhere other (cases_eq (slot / f.order) place)))
    ]
  where
    elsewhere : (slot ≡ place * f.order + told → ⊥) → (slot / f.order ≡ place) ⊎ (slot / f.order ≡ place → ⊥)
        → (ltb (slot / f.order) place && in_word f k number slot) ≡ (ltb (slot / f.order) (place + 1) && in_word f k number slot)
    elsewhere other (inl here) =
        let none = ne_eqb (symbol f k number (slot / f.order)) (slot % f.order)
        (λ e. other (sym (div-add-mod' slot f.order) ∙ ap₂ (λ a b. a * f.order + b) here (sym e ∙ (ap (symbol f k number) here ∙ sym told_is)))) in
        and_right (ltb (slot / f.order) place) (in_word f k number slot) none
        ∙ sym (and_right (ltb (slot / f.order) (place + 1)) (in_word f k number slot) none)
    elsewhere other (inr away) = ap (λ b. b && in_word f k number slot) (below_next (slot / f.order) place away)

-- the symbol of a number's word at a place, from the tables; none stands for an entry that is not there
module _ (f : Tables) (l : Lawful f) (p : Plan) {pairs : List Pair} {bases : List ℕ} (t : Tabled f p pairs bases) (none : Pair)
    (number place : ℕ) (hx : number < p.q ^ p.k) (hp : place < p.n) where
  lim : Limits f.order p.n p.k p.d p.e
  lim = planned_by f p t.order

  high_within : number / f.order < f.order ^ (p.k - 1)
  high_within =
      div_below number f.order (f.order ^ (p.k - 1)) (omega (arith, lim.q_low))
      (omega (arith, hx, ap (λ q. q ^ p.k) t.order, power_before f.order p.k lim.k_low))

  lowest_digit : number % f.order < f.order
  lowest_digit = mod-lt number (omega (arith, lim.q_low))

  element : place < f.order
  element = omega (arith, lim.n_high)

  -- the base is within its table
  pub base_within : number / f.order * p.n + place < 65536
  base_within = rows_few_by f p t.order (number / f.order) place high_within hp

  abbrev found : ℕ
  found = get_or bases (number / f.order * p.n + place) 0

  found_is : found ≡ base f p.k (number / f.order) place
  found_is = t.based (number / f.order) place high_within hp 0

  found_below : found < f.order
  found_below = rw found_is (base_below f l p.k (number / f.order) place element)

  -- and so is the sum
  pub symbol_within : found * f.order + number % f.order < 4096
  symbol_within = cell_few f.order found (number % f.order) lim.q_high found_below lowest_digit

  abbrev told : ℕ
  told = (get_or pairs (found * f.order + number % f.order) none).sum

  -- which is the symbol
  pub told_is : told ≡ symbol f p.k number place
  told_is =
      ap (λ x. x.sum) (t.paired found (number % f.order) found_below lowest_digit none)
      ∙ (ap (λ b. f.plus b (number % f.order)) found_is
      ∙ (sym (symbol_by_base f l p.k (number / f.order) (number % f.order) place lim.k_low lowest_digit element)
      ∙ ap (λ x. symbol f p.k x place) (div-add-mod' number f.order)))

  told_below : told < f.order
  told_below = rw told_is (symbol_below f l p.k number place element)

  -- and the slot is one of the marks
  pub slot_few : place * f.order + told < 4096
  slot_few = cell_few f.order place told lim.q_high element told_below

-- the places together mark the whole word
pub marked_all : (q n : ℕ) (old marks : List Bool) (word : ℕ → Bool) → 0 < q
    → ((slot : ℕ) → slot < n * q → get_or marks slot false ≡ (get_or old slot false || (ltb (slot / q) n && word slot)))
    → (slot : ℕ) → slot < n * q → get_or marks slot false ≡ (get_or old slot false || word slot)
marked_all q n old marks word pos inv slot hs =
    inv slot hs ∙ ap (λ b. get_or old slot false || (b && word slot)) (lt-ltb (slot / q) n (div_below slot q n pos hs))

-- the words of no number mark nothing
pub unmarked : (f : Tables) (k slot : ℕ) (marks : List Bool) → marks ≡ replicate 4096 false → slot < 4096 → get_or marks slot false ≡ joined f k [] slot
unfolding joined
unmarked f k slot marks e h = ap (λ m. get_or m slot false) e ∙ get_or-replicate 4096 slot false false h

-- one number more is marked
pub numbers_more : (f : Tables) (n k q : ℕ) (xs : List ℕ) (i : ℕ) (before after : List Bool) → i < length xs
    → ((slot : ℕ) → slot < n * q → get_or before slot false ≡ joined f k (take i xs) slot)
    → ((slot : ℕ) → slot < n * q → get_or after slot false ≡ (get_or before slot false || in_word f k (get_or xs i 0) slot))
    → (slot : ℕ) → slot < n * q → get_or after slot false ≡ joined f k (take (i + 1) xs) slot
numbers_more f n k q xs i before after hi inv step slot hs =
    step slot hs
    ∙ (ap (λ b. b || in_word f k (get_or xs i 0) slot) (inv slot hs)
    ∙ (sym (joined_more f k (take i xs) (get_or xs i 0) slot) ∙ ap (λ ys. joined f k ys slot) (sym (take_more xs i 0 hi))))

-- as many pairs of two lists differ as slots of the first, where the second is as long at least
pub differing_pairs : (row marks : List Bool) → length row ≤ length marks
    → count_by (λ (slot : Bool × Bool). differ slot.0 slot.1) (zip row marks) ≡ count (λ s. differ (get_or row s false) (get_or marks s false)) (length row)
unfolding count
differing_pairs [] marks h = refl
differing_pairs (x ∷ xs) [] h = absurd (omega arith)
differing_pairs (x ∷ xs) (y ∷ ys) h =
    let test : ℕ → Bool = λ s. differ (get_or (x ∷ xs) s false) (get_or (y ∷ ys) s false) in
    let first = sum_by-cons (λ (slot : Bool × Bool). cond (differ slot.0 slot.1) 1 0) (x, y) (zip xs ys) in
    let rest = differing_pairs xs ys (omega arith) in
    let split = count_split test 1 (length xs) in
    let all : suc (length xs) ≡ 1 + length xs = omega arith in
    let one : count test 1 ≡ cond (differ x y) 1 0 = zero-add (cond (differ x y) 1 0) in
    let same = count_same (λ i. test (1 + i)) (λ i. differ (get_or xs i false) (get_or ys i false)) (length xs) (λ i _. ap₂ differ (next x xs i) (next y ys i)) in
    first ∙ omega (arith, rest, split, same, one, ap (count test) all)
  where
    next : (z : Bool) (zs : List Bool) (i : ℕ) → get_or (z ∷ zs) (1 + i) false ≡ get_or zs i false
    next z zs i = let after : 1 + i ≡ suc i = omega arith in ap (λ k. get_or (z ∷ zs) k false) after

-- the marks compared with a row give the distance
pub compared_all : (f : Tables) (n k : ℕ) (row marks : List Bool) (xs : List ℕ) → length row ≡ n * f.order
    → ((slot : ℕ) → slot < n * f.order → get_or marks slot false ≡ joined f k xs slot)
    → count (λ s. differ (get_or row s false) (get_or marks s false)) (length row) ≡ distance f n k row xs
compared_all f n k row marks xs size inv =
    ap (count (λ s. differ (get_or row s false) (get_or marks s false))) size
    ∙ count_same (λ s. differ (get_or row s false) (get_or marks s false)) (λ s. differ (get_or row s false) (joined f k xs s)) (n * f.order)
    (λ s h. ap (differ (get_or row s false)) (inv s h))
