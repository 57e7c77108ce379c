-- The laws of counting the numbers below a bound that pass a test.
use Rattle.std.proofs.Common.{◌≡◌, ℕ, zero, suc, ◌+◌, ◌*◌, ◌/◌, ◌%◌, ◌<◌, ◌≤◌, Bool, true, false, cond, not, ◌&&◌, ◌||◌, ◌⊎◌, sym, refl, ap, ◌∙◌, inl, inr, add-zero, add-suc, suc-mul, zero-mul, mul-one, arith}
use Rattle.std.proofs.lemmas.Bool.{cases_Bool, cases_eq, true≢false, both_ways}
use Rattle.std.proofs.lemmas.Nat.{div-mul-add, mod-mul-add}
use Rattle.frames.specs.Counting.{count}

-- the sum of a function's values at the numbers below n
unfoldable pub total : (ℕ → ℕ) → ℕ → ℕ
total f zero = 0
total f (suc n) = total f n + f n

-- a smaller function has a smaller sum
pub total_le : (f g : ℕ → ℕ) (n : ℕ) → ((i : ℕ) → i < n → f i ≤ g i) → total f n ≤ total g n
unfolding total
total_le f g zero h = omega arith
total_le f g (suc n) h = omega (arith, total_le f g n (λ i b. h i (omega arith)), h n (omega arith))

-- equal functions have equal sums
pub total_same : (f g : ℕ → ℕ) (n : ℕ) → ((i : ℕ) → i < n → f i ≡ g i) → total f n ≡ total g n
unfolding total
total_same f g zero h = refl
total_same f g (suc n) h = omega (arith, total_same f g n (λ i b. h i (omega arith)), h n (omega arith))

-- the sum of the sum of two functions is the sum of their sums
pub total_plus : (f g : ℕ → ℕ) (n : ℕ) → total (λ i. f i + g i) n ≡ total f n + total g n
unfolding total
total_plus f g zero = refl
total_plus f g (suc n) = omega (arith, total_plus f g n)

-- the sum of a constant
pub total_constant : (c n : ℕ) → total (λ i. c) n ≡ n * c
unfolding total
total_constant c zero = sym (zero-mul c)
total_constant c (suc n) = ap (λ m. m + c) (total_constant c n) ∙ sym (suc-mul n c)

-- a count is a sum of ones
pub count_total : (f : ℕ → Bool) (n : ℕ) → count f n ≡ total (λ i. cond (f i) 1 0) n
unfolding count total
count_total f zero = refl
count_total f (suc n) = ap (λ m. m + cond (f n) 1 0) (count_total f n)

-- what a number adds to a count
abbrev one : Bool → ℕ
one x = cond x 1 0

-- what a test counts for is at most what passing it counts for
pub cond_le : (x : Bool) (worth : ℕ) → cond x worth 0 ≤ worth
cond_le true worth = omega arith
cond_le false worth = omega arith

-- a number adds no more under a stronger test
ones_le : (x y : Bool) → (x ≡ true → y ≡ true) → cond x 1 0 ≤ cond y 1 0
ones_le true true h = omega arith
ones_le true false h = absurd (true≢false (sym (h refl)))
ones_le false true h = omega arith
ones_le false false h = omega arith

-- a count is at most its bound
pub count_le : (f : ℕ → Bool) (n : ℕ) → count f n ≤ n
unfolding count
count_le f zero = omega arith
count_le f (suc n) = omega (arith, count_le f n, cond_le (f n) 1)

-- a stronger test has a smaller count
pub count_mono : (f g : ℕ → Bool) (n : ℕ) → ((i : ℕ) → i < n → f i ≡ true → g i ≡ true) → count f n ≤ count g n
unfolding count
count_mono f g zero h = omega arith
count_mono f g (suc n) h =
    omega (arith, count_mono f g n (λ i b. h i (omega arith)), ones_le (f n) (g n) (h n (omega arith)))

-- equal tests have equal counts
pub count_same : (f g : ℕ → Bool) (n : ℕ) → ((i : ℕ) → i < n → f i ≡ g i) → count f n ≡ count g n
unfolding count
count_same f g zero h = refl
count_same f g (suc n) h =
    omega (arith, count_same f g n (λ i b. h i (omega arith)), ap one (h n (omega arith)))

-- a test that no number passes has the count 0
pub count_none : (f : ℕ → Bool) (n : ℕ) → ((i : ℕ) → i < n → f i ≡ false) → count f n ≡ 0
unfolding count
count_none f zero h = refl
count_none f (suc n) h =
    omega (arith, count_none f n (λ i b. h i (omega arith)), ap one (h n (omega arith)))

-- a test that every number passes has its bound for a count
pub count_every : (f : ℕ → Bool) (n : ℕ) → ((i : ℕ) → i < n → f i ≡ true) → count f n ≡ n
unfolding count
count_every f zero h = refl
count_every f (suc n) h =
    omega (arith, count_every f n (λ i b. h i (omega arith)), ap one (h n (omega arith)))

-- a number that passes makes the count positive
pub count_some : (f : ℕ → Bool) (n i : ℕ) → i < n → f i ≡ true → 0 < count f n
unfolding count
count_some f zero i b t = omega arith
count_some f (suc n) i b t =
    elim (cases_eq i n) [ inl e ↦ omega (arith, ap (λ j. one (f j)) e, ap one t) | inr d ↦ omega (arith, count_some f n i (omega arith) t) ]

-- either some number passes, or none does
pub some_or_none : (f : ℕ → Bool) (n : ℕ) → ((i : ℕ) × (i < n) × (f i ≡ true)) ⊎ ((i : ℕ) → i < n → f i ≡ false)
some_or_none f zero = inr (λ i b. absurd (omega arith))
some_or_none f (suc n) = go (f n) refl (some_or_none f n)
  where
    go : (x : Bool) → f n ≡ x → ((i : ℕ) × (i < n) × (f i ≡ true)) ⊎ ((i : ℕ) → i < n → f i ≡ false)
        → ((i : ℕ) × (i < suc n) × (f i ≡ true)) ⊎ ((i : ℕ) → i < suc n → f i ≡ false)
    go true e r = inl (n, omega arith, e)
    go false e (inl p) = inl (p.0, omega arith, p.2)
    go false e (inr h) = inr (λ i b. elim (cases_eq i n) [ inl s ↦ ap f s ∙ e | inr d ↦ h i (omega arith) ])

-- a test that at most one number passes has at most the count 1
pub count_once : (f : ℕ → Bool) (n : ℕ) → ((i j : ℕ) → i < n → j < n → f i ≡ true → f j ≡ true → i ≡ j) → count f n ≤ 1
unfolding count
count_once f zero h = omega arith
count_once f (suc n) h = go (f n) refl (count_once f n (λ i j b c. h i j (omega arith) (omega arith)))
  where
    go : (x : Bool) → f n ≡ x → count f n ≤ 1 → count f n + cond (f n) 1 0 ≤ 1
    go true e r =
        let none = count_none f n (λ i b. elim (cases_Bool (f i)) [ inl t ↦ absurd (omega (arith, h i n (omega arith) (omega arith) t e)) | inr t ↦ t ]) in
        omega (arith, cond_le (f n) 1)
    go false e r = omega (arith, ap one e)

-- a test that one number alone passes has the count 1
pub count_exactly_once : (f : ℕ → Bool) (n i : ℕ) → i < n → f i ≡ true → ((j : ℕ) → j < n → f j ≡ true → j ≡ i) → count f n ≡ 1
count_exactly_once f n i b t only =
    omega (arith, count_some f n i b t, count_once f n (λ j k bj bk hj hk. only j bj hj ∙ sym (only k bk hk)))

-- a count over m + n numbers is that over the first m and that over the next n
pub count_split : (f : ℕ → Bool) (m n : ℕ) → count f (m + n) ≡ count f m + count (λ i. f (m + i)) n
unfolding count
count_split f m zero = rw (add-zero m) (omega arith)
count_split f m (suc n) = rw add-suc (omega (arith, count_split f m n))

-- the numbers that pass a test are those that pass a second and those that fail it
pub count_parts : (f g : ℕ → Bool) (n : ℕ) → count f n ≡ count (λ i. f i && g i) n + count (λ i. f i && not (g i)) n
unfolding count
count_parts f g zero = refl
count_parts f g (suc n) = omega (arith, count_parts f g n, parts (f n) (g n))
  where
    parts : (x y : Bool) → cond x 1 0 ≡ cond (x && y) 1 0 + cond (x && not y) 1 0
    parts true true = refl
    parts true false = refl
    parts false true = refl
    parts false false = refl

-- the numbers that pass one of two tests, with those that pass both, are those that pass each
pub count_either : (f g : ℕ → Bool) (n : ℕ) → count (λ i. f i || g i) n + count (λ i. f i && g i) n ≡ count f n + count g n
unfolding count
count_either f g zero = refl
count_either f g (suc n) = omega (arith, count_either f g n, parts (f n) (g n))
  where
    parts : (x y : Bool) → cond (x || y) 1 0 + cond (x && y) 1 0 ≡ cond x 1 0 + cond y 1 0
    parts true true = refl
    parts true false = refl
    parts false true = refl
    parts false false = refl

-- the numbers that pass a test and those that fail it are all the numbers
pub count_not : (f : ℕ → Bool) (n : ℕ) → count f n + count (λ i. not (f i)) n ≡ n
unfolding count
count_not f zero = refl
count_not f (suc n) = omega (arith, count_not f n, parts (f n))
  where
    parts : (x : Bool) → cond x 1 0 + cond (not x) 1 0 ≡ 1
    parts true = refl
    parts false = refl

-- a test that is stronger but at one place has a count larger by at most 1
pub count_but_one : (f g : ℕ → Bool) (n place : ℕ) → ((i : ℕ) → i < n → (i ≡ place → ⊥) → f i ≡ true → g i ≡ true) → count f n ≤ suc (count g n)
unfolding count
count_but_one f g zero place h = omega arith
count_but_one f g (suc n) place h =
    elim (cases_eq n place) [
      | inl e ↦ omega (arith, cond_le (f n) 1, count_mono f g n (λ i b. h i (omega arith) (λ s. omega arith)))
      | inr d ↦ omega (arith, ones_le (f n) (g n) (h n (omega arith) d), count_but_one f g n place (λ i b. h i (omega arith)))
    ]

-- the slots of n rows of q: a count over them is the sum of the rows' counts
pub count_rows : (g : ℕ → ℕ → Bool) (n q : ℕ) → count (λ s. g (s / q) (s % q)) (n * q) ≡ total (λ i. count (g i) q) n
unfolding count total
count_rows g zero q = rw zero-mul
count_rows g (suc n) q =
    rw (suc-mul, count_split (λ s. g (s / q) (s % q)) (n * q) q, count_rows g n q)
    (ap (λ m. total (λ i. count (g i) q) n + m) (count_same (λ i. g ((n * q + i) / q) ((n * q + i) % q)) (g n) q (λ i b. rw (div-mul-add n q i b, mod-mul-add n q i b))))

-- where at most one slot of each row passes, and that only in rows that pass a second test,
-- no more slots pass than rows pass that test
pub count_rows_once : (g : ℕ → ℕ → Bool) (h : ℕ → Bool) (n q : ℕ)
    → ((i s t : ℕ) → i < n → s < q → t < q → g i s ≡ true → g i t ≡ true → s ≡ t)
    → ((i s : ℕ) → i < n → s < q → g i s ≡ true → h i ≡ true)
    → count (λ s. g (s / q) (s % q)) (n * q) ≤ count h n
count_rows_once g h n q once only =
    rw (count_rows g n q, count_total h n) (total_le (λ i. count (g i) q) (λ i. cond (h i) 1 0) n (λ i b. row i b (h i) refl))
  where
    row : (i : ℕ) → i < n → (x : Bool) → h i ≡ x → count (g i) q ≤ cond (h i) 1 0
    row i b true e = rw e (count_once (g i) q (λ s t. once i s t b))
    row i b false e = rw (e, count_none (g i) q (λ s c. elim (cases_Bool (g i s)) [ inl t ↦ absurd (both_ways (h i) e (only i s b c t)) | inr t ↦ t ])) (omega arith)

-- where one slot of each row passes, as many slots pass as there are rows
pub count_rows_exactly_once : (g : ℕ → ℕ → Bool) (n q : ℕ) → ((i : ℕ) → i < n → count (g i) q ≡ 1) → count (λ s. g (s / q) (s % q)) (n * q) ≡ n
count_rows_exactly_once g n q one_each =
    count_rows g n q ∙ (total_same (λ i. count (g i) q) (λ i. 1) n one_each ∙ (total_constant 1 n ∙ mul-one n))

-- where every number below n passes, each of them does
pub count_full : (f : ℕ → Bool) (n : ℕ) → count f n ≡ n → (k : ℕ) → k < n → f k ≡ true
count_full f n e k h = elim (cases_Bool (f k)) [
  | inl passes ↦ passes
  | inr fails ↦ absurd (omega (arith, count_some (λ i. not (f i)) n k h (ap not fails), count_not f n))
]
