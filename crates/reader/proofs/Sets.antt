-- Sets of numbers as ascending lists: their members, and when two of them are equal. Assumes nothing.
use Rattle.std.proofs.Common.{◌≡◌, ℕ, zero, suc, ◌+◌, ◌<◌, ◌≤◌, Bool, true, false, cond, ◌||◌, eqb, ◌⊎◌, List, [], ◌∷◌, length, get_or, filter, sym, refl, ap, ◌∙◌, inl, inr, arith}
use Rattle.std.specs.List.{range_with_len, AllByRecursion}
use Rattle.std.proofs.lemmas.Bool.{cases_eq, false≢true, eq-eqb, ne_eqb, or_from, or_left}
use Rattle.frames.specs.Frames.{differ}
use Rattle.frames.proofs.Counting.{some_or_none}
use Rattle.reader.specs.Sets.{NumberSet}

-- whether a number is a member of a list
abbrev pub member : List ℕ → ℕ → Bool
member [] z = false
member (x ∷ xs) z = eqb z x || member xs z

-- a list ascends from a lowest number up to a bound
abbrev pub Ascends : ℕ → ℕ → List ℕ → Type 0
Ascends low bound [] = Unit {0}
Ascends low bound (x ∷ xs) = (low ≤ x) × (x < bound) × Ascends (suc x) bound xs

-- a list that ascends from a number ascends from every smaller one
pub ascends_lower : (lower low bound : ℕ) (xs : List ℕ) → lower ≤ low → Ascends low bound xs → Ascends lower bound xs
ascends_lower lower low bound [] h a = tt
ascends_lower lower low bound (x ∷ xs) h a = (omega (arith, a.0), a.1, a.2)

-- a set without its lowest number
set_rest : (bound x : ℕ) (xs : List ℕ) → NumberSet bound (x ∷ xs) → NumberSet bound xs
set_rest bound x xs s =
    record { ascending = λ i j h l. s.ascending (suc i) (suc j) (omega arith) (omega arith); below = λ i l. s.below (suc i) (omega arith) }

-- a set ascends
pub set_ascends : (low bound : ℕ) (xs : List ℕ) → (0 < length xs → low ≤ get_or xs 0 0) → NumberSet bound xs → Ascends low bound xs
set_ascends low bound [] h s = tt
set_ascends low bound (x ∷ xs) h s =
    (h (omega arith), s.below 0 (omega arith), set_ascends (suc x) bound xs (λ l. s.ascending 0 1 (omega arith) (omega arith)) (set_rest bound x xs s))

-- every number of an ascending list lies from the lowest number up to the bound
pub ascends_within : (low bound : ℕ) (xs : List ℕ) → Ascends low bound xs → (i : ℕ) → i < length xs → (low ≤ get_or xs i 0) × (get_or xs i 0 < bound)
ascends_within low bound [] a i l = absurd (omega arith)
ascends_within low bound (x ∷ xs) a zero l = (a.0, a.1)
ascends_within low bound (x ∷ xs) a (suc i) l =
    let rest = ascends_within (suc x) bound xs a.2 i (omega arith) in
    (omega (arith, rest.0, a.0), rest.1)

-- in an ascending list each number is smaller than every later one
pub ascends_order : (low bound : ℕ) (xs : List ℕ) → Ascends low bound xs → (i j : ℕ) → i < j → j < length xs → get_or xs i 0 < get_or xs j 0
ascends_order low bound [] a i j h l = absurd (omega arith)
ascends_order low bound (x ∷ xs) a i zero h l = absurd (omega arith)
ascends_order low bound (x ∷ xs) a zero (suc j) h l = (ascends_within (suc x) bound xs a.2 j (omega arith)).0
ascends_order low bound (x ∷ xs) a (suc i) (suc j) h l = ascends_order (suc x) bound xs a.2 i j (omega arith) (omega arith)

-- an ascending list is a set
pub ascends_set : (low bound : ℕ) (xs : List ℕ) → Ascends low bound xs → NumberSet bound xs
ascends_set low bound xs a =
    record { ascending = ascends_order low bound xs a; below = λ i l. (ascends_within low bound xs a i l).1 }

-- the numbers of a set are below its bound
pub set_below : (bound : ℕ) (xs : List ℕ) → NumberSet bound xs → AllByRecursion (λ x. x < bound) xs
set_below bound [] s = tt
set_below bound (x ∷ xs) s = (s.below 0 (omega arith), set_below bound xs (set_rest bound x xs s))

-- a number below the lowest of an ascending list is no member
pub not_member : (low bound : ℕ) (xs : List ℕ) (z : ℕ) → Ascends low bound xs → z < low → member xs z ≡ false
not_member low bound [] z a h = refl
not_member low bound (x ∷ xs) z a h =
    or_from (eqb z x) (member xs z) (ne_eqb z x (λ e. omega (arith, a.0))) (not_member (suc x) bound xs z a.2 (omega (arith, a.0)))

-- what a test keeps of the numbers from the lowest on ascends
pub kept_ascends : (test : ℕ → Bool) (low n bound : ℕ) → low + n ≡ bound → Ascends low bound (filter test (range_with_len low n))
kept_ascends test low zero bound e = tt
kept_ascends test low (suc n) bound e =
    go (test low) (kept_ascends test (low + 1) n bound (omega arith))
  where
    go : (b : Bool) → Ascends (low + 1) bound (filter test (range_with_len (low + 1) n))
        → Ascends low bound (cond b (low ∷ filter test (range_with_len (low + 1) n)) (filter test (range_with_len (low + 1) n)))
    go true a = (omega arith, omega arith, ascends_lower (suc low) (low + 1) bound (filter test (range_with_len (low + 1) n)) (omega arith) a)
    go false a = ascends_lower low (low + 1) bound (filter test (range_with_len (low + 1) n)) (omega arith) a

-- what a test keeps of the numbers below a bound is a set
pub kept_set : (test : ℕ → Bool) (bound : ℕ) → NumberSet bound (filter test (range_with_len 0 bound))
kept_set test bound = ascends_set 0 bound (filter test (range_with_len 0 bound)) (kept_ascends test 0 bound bound (omega arith))

-- tests that agree on the numbers from the lowest on keep the same of them
pub kept_same : (p q : ℕ → Bool) (low n : ℕ) → ((z : ℕ) → low ≤ z → z < low + n → p z ≡ q z) → filter p (range_with_len low n) ≡ filter q (range_with_len low n)
kept_same p q low zero h = refl
kept_same p q low (suc n) h =
    let here : p low ≡ q low = h low (omega arith) (omega arith) in
    let rest = kept_same p q (low + 1) n (λ z l u. h z (omega arith) (omega arith)) in
    cc

-- an ascending list is what its own members' test keeps
pub ascends_kept : (low n bound : ℕ) (xs : List ℕ) → low + n ≡ bound → Ascends low bound xs → filter (member xs) (range_with_len low n) ≡ xs
ascends_kept low zero bound [] e a = refl
ascends_kept low zero bound (x ∷ xs) e a = absurd (omega (arith, a.0, a.1))
ascends_kept low (suc n) bound [] e a = ascends_kept (low + 1) n bound [] (omega arith) tt
ascends_kept low (suc n) bound (x ∷ xs) e a =
    elim (cases_eq low x) [
      | inl same ↦
          let here : member (x ∷ xs) low ≡ true = or_left (eqb low x) (member xs low) (eq-eqb low x same) in
          let later = kept_same (member (x ∷ xs)) (member xs) (low + 1) n (λ z l u. ap (λ b. b || member xs z) (ne_eqb z x (λ s. omega arith))) in
          let rest = ascends_kept (low + 1) n bound xs (omega arith) (ascends_lower (low + 1) (suc x) bound xs (omega arith) a.2) in
          cc
      | inr apart ↦
          let higher : Ascends (low + 1) bound (x ∷ xs) = (omega (arith, a.0), a.1, a.2) in
          let here = not_member (low + 1) bound (x ∷ xs) low higher (omega arith) in
          let rest = ascends_kept (low + 1) n bound (x ∷ xs) (omega arith) higher in
          cc
    ]

-- a set is what its own members' test keeps of the numbers below its bound
pub set_kept : (bound : ℕ) (xs : List ℕ) → NumberSet bound xs → filter (member xs) (range_with_len 0 bound) ≡ xs
set_kept bound xs s = ascends_kept 0 bound bound xs (omega arith) (set_ascends 0 bound xs (λ l. omega arith) s)

-- a set is what a test keeps that agrees with its members' test
pub kept_is_set : (test : ℕ → Bool) (bound : ℕ) (xs : List ℕ) → NumberSet bound xs → ((z : ℕ) → z < bound → test z ≡ member xs z)
    → filter test (range_with_len 0 bound) ≡ xs
kept_is_set test bound xs s h = kept_same test (member xs) 0 bound (λ z l u. h z (omega arith)) ∙ set_kept bound xs s

-- two sets with the same members are equal
pub same_members : (bound : ℕ) (xs ys : List ℕ) → NumberSet bound xs → NumberSet bound ys → ((z : ℕ) → z < bound → member xs z ≡ member ys z) → xs ≡ ys
same_members bound xs ys s t h = sym (set_kept bound xs s) ∙ kept_is_set (member xs) bound ys t h

-- the members of what a test keeps are the numbers below the bound that pass it
pub kept_member : (test : ℕ → Bool) (bound z : ℕ) → z < bound → member (filter test (range_with_len 0 bound)) z ≡ test z
kept_member test bound z h = go 0 bound (omega arith) (omega arith)
  where
    here : (low n : ℕ) → (b : Bool) → test low ≡ b → z ≡ low → member (cond b (low ∷ filter test (range_with_len (low + 1) n)) (filter test (range_with_len (low + 1) n))) z ≡ test z
    here low n true t e = or_left (eqb z low) (member (filter test (range_with_len (low + 1) n)) z) (eq-eqb z low e) ∙ sym (ap test e ∙ t)
    here low n false t e =
        not_member (low + 1) (low + 1 + n) (filter test (range_with_len (low + 1) n)) z (kept_ascends test (low + 1) n (low + 1 + n) refl) (omega arith) ∙ sym (ap test e ∙ t)

    later : (low n : ℕ) → (b : Bool) → (z ≡ low → ⊥) → member (filter test (range_with_len (low + 1) n)) z ≡ test z
        → member (cond b (low ∷ filter test (range_with_len (low + 1) n)) (filter test (range_with_len (low + 1) n))) z ≡ test z
    later low n true d r = ap (λ b. b || member (filter test (range_with_len (low + 1) n)) z) (ne_eqb z low d) ∙ r
    later low n false d r = r

    go : (low n : ℕ) → low ≤ z → z < low + n → member (filter test (range_with_len low n)) z ≡ test z
    go low zero l u = absurd (omega arith)
    go low (suc n) l u =
        elim (cases_eq z low) [
          | inl e ↦ here low n (test low) refl e
          | inr d ↦ later low n (test low) d (go (low + 1) n (omega arith) (omega arith))
        ]

-- one of two sets has a number below the bound that the other has not
pub record Apart (bound : ℕ) (xs ys : List ℕ) : Type 0 where
  pub number : ℕ
  pub below : number < bound
  pub inside : member xs number ≡ true
  pub outside : member ys number ≡ false

-- two sets are equal, or one has a number that the other has not
pub same_or_apart : (bound : ℕ) (xs ys : List ℕ) → NumberSet bound xs → NumberSet bound ys → (xs ≡ ys) ⊎ (Apart bound xs ys ⊎ Apart bound ys xs)
same_or_apart bound xs ys s t =
    elim (some_or_none (λ z. differ (member xs z) (member ys z)) bound) [
      | inl found ↦ inr (told found.0 found.1 (member xs found.0) (member ys found.0) refl refl found.2)
      | inr none ↦ inl (same_members bound xs ys s t (λ z h. equal (member xs z) (member ys z) (none z h)))
    ]
  where
    told : (z : ℕ) → z < bound → (a b : Bool) → member xs z ≡ a → member ys z ≡ b → differ a b ≡ true → Apart bound xs ys ⊎ Apart bound ys xs
    told z h true true ea eb e = absurd (false≢true e)
    told z h true false ea eb e = inl (record { number = z; below = h; inside = ea; outside = eb })
    told z h false true ea eb e = inr (record { number = z; below = h; inside = eb; outside = ea })
    told z h false false ea eb e = absurd (false≢true e)

    equal : (a b : Bool) → differ a b ≡ false → a ≡ b
    equal true true e = refl
    equal true false e = e
    equal false true e = sym e
    equal false false e = refl
