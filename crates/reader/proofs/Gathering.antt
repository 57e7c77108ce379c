-- Gathering into a list, in ascending order and as far as it has room, what is kept of the numbers passed. Assumes nothing.
use Rattle.std.proofs.Common.{◌≡◌, ℕ, ◌+◌, ◌-◌, ◌*◌, ◌<◌, ◌≤◌, Bool, true, false, cond, List, [], ◌∷◌, ◌++◌, map, length, take, drop, get_or, filter, sym, ap, ◌∙◌, ap₂, inl, inr, arith}
use Rattle.std.specs.List.{range_with_len}
use Rattle.std.proofs.lemmas.List.FromFn.{length-range_with_len, filter_of_map_range_with_len_more}
use Rattle.std.proofs.lemmas.List.{append-nil, map-id, map_push, length-map, length_push, length-take-le, take_all, take-append-le, get_or-take, get_or-drop}
use Rattle.std.proofs.lemmas.List.Sums.{count_by-le-length, length-filter}
use Rattle.std.proofs.lemmas.Bool.{cases_lt, cond-true, cond-false}
use Rattle.std.proofs.lemmas.Nat.{div-mul-add, mod-mul-add}
use Rattle.reader.specs.Working.{spot_of}
use Rattle.reader.specs.declared.spot.Spot.{Spot}

-- what a test keeps of the numbers below m + 1
pub kept_more : (test : ℕ → Bool) (m : ℕ) → filter test (range_with_len 0 (m + 1)) ≡ filter test (range_with_len 0 m) ++ cond (test m) (m ∷ []) []
kept_more test m =
    ap (filter test) (sym (map-id (range_with_len 0 (m + 1))))
    ∙ filter_of_map_range_with_len_more test (λ x. x) 0 m m (omega arith)
    ∙ ap (λ xs. filter test xs ++ cond (test m) (m ∷ []) []) (map-id (range_with_len 0 m))

-- no more numbers are kept than there are
pub kept_few : (test : ℕ → Bool) (m : ℕ) → length (filter test (range_with_len 0 m)) ≤ m
kept_few test m = omega (arith, length-filter test (range_with_len 0 m), count_by-le-length test (range_with_len 0 m), length-range_with_len 0 m)

-- a number that is not kept changes nothing
pub kept_no : (test : ℕ → Bool) (m : ℕ) → test m ≡ false → filter test (range_with_len 0 (m + 1)) ≡ filter test (range_with_len 0 m)
kept_no test m out =
    let kept = filter test (range_with_len 0 m) in
    kept_more test m ∙ ap (λ more. kept ++ more) (cond-false (test m) (m ∷ []) [] out) ∙ append-nil kept

-- a number that is kept comes last
pub kept_yes : (test : ℕ → Bool) (m : ℕ) → test m ≡ true → filter test (range_with_len 0 (m + 1)) ≡ filter test (range_with_len 0 m) ++ m ∷ []
kept_yes test m in' = kept_more test m ∙ ap (λ more. filter test (range_with_len 0 m) ++ more) (cond-true (test m) (m ∷ []) [] in')

-- the first n of a list and one more are the first n of those of the list and it
take_push : {X : Type 0} (n : ℕ) (xs : List X) (x : X) → take n (take n xs ++ x ∷ []) ≡ take n (xs ++ x ∷ [])
take_push n xs x =
    elim (cases_lt n (length xs)) [
      | inl more ↦
          let size = length-take-le n xs (omega arith) in
          take-append-le n (take n xs) (x ∷ []) (omega arith) ∙ take_all n (take n xs) (omega arith) ∙ sym (take-append-le n xs (x ∷ []) (omega arith))
      | inr few ↦ ap (λ ys. take n (ys ++ x ∷ [])) (take_all n xs few)
    ]

-- of the numbers below m that a test keeps, a count tells how many they are, and a list has the first 32
pub record Gathered (test : ℕ → Bool) (m count : ℕ) (xs : List ℕ) : Type 0 where
  pub counted : count ≡ length (filter test (range_with_len 0 m))
  pub listed : xs ≡ take 32 (filter test (range_with_len 0 m))

module _ {test : ℕ → Bool} {m count : ℕ} {xs : List ℕ} (g : Gathered test m count xs) where
  -- no more are gathered than are passed
  pub gathered_few : count ≤ m
  gathered_few = omega (arith, g.counted, kept_few test m)

  -- a number that is not kept
  pub gathered_no : (n : ℕ) → n ≡ m + 1 → test m ≡ false → Gathered test n count xs
  gathered_no n e out =
      let same = kept_no test m out in
      rw e (record { counted = g.counted ∙ ap length (sym same); listed = g.listed ∙ ap (take 32) (sym same) })

  -- a number that is kept
  pub gathered_yes : (n : ℕ) → n ≡ m + 1 → test m ≡ true → Gathered test n (count + 1) (take 32 (xs ++ m ∷ []))
  gathered_yes n e in' =
      let kept = filter test (range_with_len 0 m) in
      let grown = kept_yes test m in' in
      rw e (record {
        counted = omega (arith, g.counted, ap length grown, length_push kept m);
        listed = ap (λ ys. take 32 (ys ++ m ∷ [])) g.listed ∙ take_push 32 kept m ∙ ap (take 32) (sym grown);
      })

-- the spots of the slots that a test keeps: a slot that is kept comes last
pub spots_yes : (test : ℕ → Bool) (q slot : ℕ) (spots : List Spot) (spot : Spot) → spots ≡ map (spot_of q) (filter test (range_with_len 0 slot)) → test slot ≡ true → spot ≡ spot_of q slot
    → spots ++ spot ∷ [] ≡ map (spot_of q) (filter test (range_with_len 0 (slot + 1)))
spots_yes test q slot spots spot before in' is =
    ap₂ (λ xs x. xs ++ x ∷ []) before is ∙ sym (map_push (spot_of q) (filter test (range_with_len 0 slot)) slot) ∙ ap (map (spot_of q)) (sym (kept_yes test slot in'))

-- no more spots are listed than slots are passed
pub spots_few : (test : ℕ → Bool) (q slot : ℕ) (spots : List Spot) → spots ≡ map (spot_of q) (filter test (range_with_len 0 slot)) → length spots ≤ slot
spots_few test q slot spots e = omega (arith, ap length e, length-map (filter test (range_with_len 0 slot)) (spot_of q), kept_few test slot)

-- the spot of a place and a symbol is that of their slot
pub spot_at : (q place symbol : ℕ) → symbol < q → ◌≡◌ {A = Spot} (record { place = place; symbol = symbol }) (spot_of q (place * q + symbol))
spot_at q place symbol h = sym (ap₂ (λ a b. record { place = a; symbol = b }) (div-mul-add place q symbol h) (mod-mul-add place q symbol h))

-- a slot of the row of a place, cut out of all slots
pub row_slot : (slots : List Bool) (place symbol width q : ℕ) → width ≡ q → symbol < q → get_or slots (place * q + symbol) false ≡ get_or (take (place * width + width - place * width) (drop (place * width) slots)) symbol false
row_slot slots place symbol width q e h =
    rw e (sym (get_or-take (place * q + q - place * q) (drop (place * q) slots) symbol false (omega (arith, h)) ∙ get_or-drop (place * q) slots symbol false))
