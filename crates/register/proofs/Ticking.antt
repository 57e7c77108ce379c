-- What a tick, a knock and an opened frame do to the distance of the ticked cards from the line. Assumes nothing.
use Rattle.std.proofs.Common.{◌≡◌, ℕ, suc, ◌+◌, ◌*◌, ◌<◌, ◌≤◌, Bool, true, false, cond, ◌||◌, eqb, ltb, List, [], ◌∷◌, length, get_or, set, replicate, sym, refl, ap, ◌∙◌, ap₂, inl, inr, arith}
use Rattle.std.specs.List.{AllByRecursion}
use Rattle.std.proofs.lemmas.List.FromFn.{length-map-range_with_len, get_or-map-range_with_len}
use Rattle.std.proofs.lemmas.List.{get_or_past, get_or-replicate, get_or-set_other, length-replicate}
use Rattle.std.proofs.lemmas.Bool.{cases_lt, eqb-true, eqb-false, ltb-true, ltb-false}
use Rattle.std.proofs.Math.Bool.{or-false, or_assoc, or_comm}
use Rattle.fields.specs.Lawful.{Tables}
use Rattle.frames.specs.Frames.{differ}
use Rattle.frames.proofs.Counting.{count_mono, count_none, count_but_one}
use Rattle.words.specs.Words.{in_word}
use Rattle.reader.specs.Distances.{joined, distance}
use Rattle.reader.specs.Sets.{NumberSet}
use Rattle.reader.proofs.Sets.{Ascends, set_ascends, ascends_set}
use Rattle.register.specs.Books.{with_number}
use Rattle.register.specs.Racks.{driven}

-- an ascending list with a number more ascends
with_ascends : (low bound x : ℕ) (xs : List ℕ) → low ≤ x → x < bound → Ascends low bound xs → Ascends low bound (with_number x xs)
with_ascends low bound x [] l u a = (l, u, tt)
with_ascends low bound x (y ∷ ys) l u a = go (ltb x y) (eqb x y) refl refl (λ higher. with_ascends (suc y) bound x ys higher u a.2)
  where
    go : (b c : Bool) → ltb x y ≡ b → eqb x y ≡ c → (suc y ≤ x → Ascends (suc y) bound (with_number x ys))
        → Ascends low bound (cond b (x ∷ y ∷ ys) (cond c (y ∷ ys) (y ∷ with_number x ys)))
    go true c eb ec later = (l, u, (ltb-true x y eb, a.1, a.2))
    go false true eb ec later = a
    go false false eb ec later = (a.0, a.1, later (omega (arith, ltb-false x y eb, eqb-false x y ec)))

-- a set with a number more is a set
pub with_number_set : (bound x : ℕ) (xs : List ℕ) → x < bound → NumberSet bound xs → NumberSet bound (with_number x xs)
with_number_set bound x xs below s =
    ascends_set 0 bound (with_number x xs) (with_ascends 0 bound x xs (omega arith) below (set_ascends 0 bound xs (λ l. omega arith) s))

-- what holds of a number and of all numbers of a list holds of all numbers of the list with it
pub with_number_all : (P : ℕ → Type 0) (x : ℕ) (xs : List ℕ) → P x → AllByRecursion P xs → AllByRecursion P (with_number x xs)
with_number_all P x [] here all = (here, tt)
with_number_all P x (y ∷ ys) here all = go (ltb x y) (eqb x y) (with_number_all P x ys here all.1)
  where
    go : (b c : Bool) → AllByRecursion P (with_number x ys) → AllByRecursion P (cond b (x ∷ y ∷ ys) (cond c (y ∷ ys) (y ∷ with_number x ys)))
    go true c later = (here, all)
    go false true later = all
    go false false later = (all.0, later)

-- the joined words of a set with a number more are those of the set and the number's word
pub with_number_joined : (f : Tables) (k x : ℕ) (xs : List ℕ) (slot : ℕ) → joined f k (with_number x xs) slot ≡ (joined f k xs slot || in_word f k x slot)
unfolding joined
with_number_joined f k x [] slot = or-false (in_word f k x slot)
with_number_joined f k x (y ∷ ys) slot = go (ltb x y) (eqb x y) refl (with_number_joined f k x ys slot)
  where
    again : (a b : Bool) → (a || b) ≡ ((a || b) || a)
    again true b = refl
    again false true = refl
    again false false = refl

    go : (b c : Bool) → eqb x y ≡ c → joined f k (with_number x ys) slot ≡ (joined f k ys slot || in_word f k x slot)
        → joined f k (cond b (x ∷ y ∷ ys) (cond c (y ∷ ys) (y ∷ with_number x ys))) slot ≡ ((in_word f k y slot || joined f k ys slot) || in_word f k x slot)
    go true c ec later = or_comm (in_word f k x slot) (in_word f k y slot || joined f k ys slot)
    go false true ec later =
        again (in_word f k y slot) (joined f k ys slot) ∙ ap (λ z. (in_word f k y slot || joined f k ys slot) || in_word f k z slot) (sym (eqb-true x y ec))
    go false false ec later =
        ap (λ j. in_word f k y slot || j) later ∙ sym (or_assoc (in_word f k y slot) (joined f k ys slot) (in_word f k x slot))

-- a row is as long after a word is driven
pub length_driven : (f : Tables) (k x : ℕ) (row : List Bool) → length (driven f k x row) ≡ length row
length_driven f k x row = length-map-range_with_len (λ slot. get_or row slot false || in_word f k x slot) 0 (length row)

-- a slot of a row after a word is driven
pub driven_slot : (f : Tables) (k x : ℕ) (row : List Bool) (slot : ℕ) → slot < length row → get_or (driven f k x row) slot false ≡ (get_or row slot false || in_word f k x slot)
driven_slot f k x row slot within = get_or-map-range_with_len (λ s. get_or row s false || in_word f k x s) 0 (length row) slot slot false within (omega arith)

-- a tick brings the ticked cards no farther from the line
pub tick_near : (f : Tables) (n k x : ℕ) (row : List Bool) (xs : List ℕ) → length row ≡ n * f.order → distance f n k (driven f k x row) (with_number x xs) ≤ distance f n k row xs
tick_near f n k x row xs long =
    count_mono (λ slot. differ (get_or (driven f k x row) slot false) (joined f k (with_number x xs) slot)) (λ slot. differ (get_or row slot false) (joined f k xs slot)) (n * f.order)
    (λ slot below h.
    were (get_or row slot false) (joined f k xs slot) (in_word f k x slot)
    (sym (ap₂ differ (driven_slot f k x row slot (omega arith)) (with_number_joined f k x xs slot)) ∙ h))
  where
    were : (a j w : Bool) → differ (a || w) (j || w) ≡ true → differ a j ≡ true
    were true true w h = h
    were true false w h = refl
    were false true w h = refl
    were false false true h = h
    were false false false h = h

-- a knock brings them at most one slot farther from it
pub knock_near : (f : Tables) (n k slot : ℕ) (b : Bool) (row : List Bool) (xs : List ℕ) → distance f n k (set row slot b) xs ≤ distance f n k row xs + 1
knock_near f n k slot b row xs =
    omega (
      arith,
      count_but_one (λ s. differ (get_or (set row slot b) s false) (joined f k xs s)) (λ s. differ (get_or row s false) (joined f k xs s)) (n * f.order) slot
          (λ s below other h. ap (λ a. differ a (joined f k xs s)) (sym (get_or-set_other row slot s b false other)) ∙ h),
    )

-- no cards at all lie at distance 0 from a clear line
pub clear_near : (f : Tables) (n k slots : ℕ) → distance f n k (replicate slots false) [] ≡ 0
unfolding joined
clear_near f n k slots = count_none (λ slot. differ (get_or (replicate slots false) slot false) false) (n * f.order) (λ slot _. ap (λ a. differ a false) (clear slot))
  where
    clear : (slot : ℕ) → get_or (replicate slots false) slot false ≡ false
    clear slot = elim (cases_lt slot slots) [
      | inl within ↦ get_or-replicate slots slot false false within
      | inr past ↦ get_or_past (replicate slots false) slot false (omega (arith, length-replicate {A = Bool} slots false))
    ]
