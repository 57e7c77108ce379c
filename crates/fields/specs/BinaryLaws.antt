-- The binary fields of degree 2 to 6 are lawful: by linearity each law of products comes down to the powers of two,
-- and there it is a test that computes, once for every irreducible modulus. Assumes nothing.
use Rattle.std.specs.Prelude.{◌≡◌, ℕ, zero, suc, ◌-◌, ◌^◌, ◌<◌, ◌≤◌, Bool, true, false, ◌&&◌, ◌==◌, nat_lt, refl}
use Rattle.std.proofs.Common.{arith}
use Rattle.std.specs.Int.Bits.{xor_assoc, xor_self}
use Rattle.fields.specs.Lawful.{Lawful}
use Rattle.fields.specs.Kinds.{binary_tables}
use Rattle.fields.specs.Polynomials.{product, remainder, reduced_product, all_below, irreducible}
use Rattle.fields.specs.Linear.{linear_agree, commutes, associates, reduced_left, reduced_right}
use Rattle.fields.specs.Remainders.{reduced_product_below}
use Rattle.fields.specs.Searching.{all_below_at}
use Rattle.std.proofs.lemmas.Bool.Decides.{nat_tests}
use Rattle.std.proofs.lemmas.Bool.{and_parts, eqb-true, ltb-true}
use Rattle.std.proofs.lemmas.Nat.{pow_below, xor_comm, xor_lt}

-- the tests of one modulus of degree m
module _ (m modulus : ℕ) where
  -- the product of its field
  abbrev times : ℕ → ℕ → ℕ
  times = reduced_product m modulus

  -- the product of a^2, a^4 and so on, n factors: the inverse of a where n is m - 1
  inverse : ℕ → ℕ → ℕ
  inverse zero a = 1
  inverse (suc n) a = let s : ℕ = times a a in times s (inverse n s)

  -- 1 is neutral at 2^i
  one_test : ℕ → Bool
  one_test i = times 1 (2 ^ i) == 2 ^ i

  -- 2^i and 2^j commute
  commute_test : ℕ → ℕ → Bool
  commute_test i j = times (2 ^ i) (2 ^ j) == times (2 ^ j) (2 ^ i)

  -- 2^i, 2^j and 2^k associate
  associate_test : ℕ → ℕ → ℕ → Bool
  associate_test i j k = times (times (2 ^ i) (2 ^ j)) (2 ^ k) == times (2 ^ i) (times (2 ^ j) (2 ^ k))

  -- a + 1 has an inverse below 2^m
  inverse_test : ℕ → Bool
  inverse_test a = let b : ℕ = inverse (m - 1) (suc a) in nat_lt b (2 ^ m) && times (suc a) b == 1

  -- 1 is neutral at each exponent below m
  one_tests : Bool
  one_tests = all_below one_test m

  -- each two exponents below m commute
  commute_tests : Bool
  commute_tests = all_below (λ i. all_below (commute_test i) m) m

  -- each three exponents below m associate
  associate_tests : Bool
  associate_tests = all_below (λ i. all_below (λ j. all_below (associate_test i j) m) m) m

  -- each number from 1 below 2^m has an inverse
  inverse_tests : Bool
  inverse_tests = all_below inverse_test (2 ^ m - 1)

  -- all of these, where the modulus is irreducible
  modulus_test : Bool
  modulus_test = elim (irreducible m modulus) [ true ↦ one_tests && (commute_tests && (associate_tests && inverse_tests)) | false ↦ true ]

-- the tests of every modulus below 2^(m+1)
degree_test : ℕ → Bool
degree_test m = all_below (modulus_test m) (2 ^ suc m)

-- they pass at every degree below 7: this is computed
all_pass : all_below degree_test 7 ≡ true
unfolding degree_test modulus_test one_tests one_test commute_tests commute_test associate_tests associate_test inverse_tests inverse_test inverse all_below irreducible remainder product
all_pass = refl

-- an irreducible modulus has degree m
pub irreducible_degree : (m modulus : ℕ) → irreducible m modulus ≡ true → (2 ^ m ≤ modulus) × (modulus < 2 ^ suc m)
unfolding irreducible
irreducible_degree m modulus e = (grind (arith, nat_tests), grind (arith, nat_tests))

-- what the tests say of one irreducible modulus of degree at most 6
module _ (m modulus : ℕ) (small : m ≤ 6) (e : irreducible m modulus ≡ true) where
  -- they pass
  passed : (one_tests m modulus ≡ true) × ((commute_tests m modulus ≡ true) × ((associate_tests m modulus ≡ true) × (inverse_tests m modulus ≡ true)))
  unfolding degree_test modulus_test
  passed =
      let all : degree_test m ≡ true = all_below_at degree_test 7 all_pass m (omega arith) in
      let here : modulus_test m modulus ≡ true = all_below_at (modulus_test m) (2 ^ suc m) all modulus (irreducible_degree m modulus e).1 in
      let p = and_parts (one_tests m modulus) _ (rw (e, modulus_test) at here) in
      let q = and_parts (commute_tests m modulus) _ p.1 in
      (p.0, (q.0, and_parts (associate_tests m modulus) (inverse_tests m modulus) q.1))

  -- 1 is neutral at the powers of two
  one_times : (i : ℕ) → i < m → times m modulus 1 (2 ^ i) ≡ 2 ^ i
  unfolding one_tests one_test
  one_times i h = eqb-true (times m modulus 1 (2 ^ i)) (2 ^ i) (all_below_at (one_test m modulus) m passed.0 i h)

  -- the powers of two commute
  powers_commute : (i j : ℕ) → i < m → j < m → times m modulus (2 ^ i) (2 ^ j) ≡ times m modulus (2 ^ j) (2 ^ i)
  unfolding commute_tests commute_test
  powers_commute i j hi hj =
      let at_i = all_below_at (λ i. all_below (commute_test m modulus i) m) m passed.1.0 i hi in
      eqb-true _ _ (all_below_at (commute_test m modulus i) m at_i j hj)

  -- the powers of two associate
  powers_associate : (i j k : ℕ) → i < m → j < m → k < m
      → times m modulus (times m modulus (2 ^ i) (2 ^ j)) (2 ^ k) ≡ times m modulus (2 ^ i) (times m modulus (2 ^ j) (2 ^ k))
  unfolding associate_tests associate_test
  powers_associate i j k hi hj hk =
      let at_i = all_below_at (λ i. all_below (λ j. all_below (associate_test m modulus i j) m) m) m passed.1.1.0 i hi in
      let at_j = all_below_at (λ j. all_below (associate_test m modulus i j) m) m at_i j hj in
      eqb-true _ _ (all_below_at (associate_test m modulus i j) m at_j k hk)

  -- each number from 1 has an inverse
  inverts : (a : ℕ) → 0 < a → a < 2 ^ m → (b : ℕ) × (b < 2 ^ m) × (times m modulus a b ≡ 1)
  unfolding inverse_tests inverse_test
  inverts zero h l = absurd (omega arith)
  inverts (suc a) h l =
      let b : ℕ = inverse m modulus (m - 1) (suc a) in
      let parts = and_parts (nat_lt b (2 ^ m)) _ (all_below_at (inverse_test m modulus) (2 ^ m - 1) passed.1.1.1 a (omega arith)) in
      (b, ltb-true b (2 ^ m) parts.0, eqb-true _ _ parts.1)

-- the binary field of an irreducible modulus of degree 2 to 6 is lawful
pub binary_laws : (m modulus : ℕ) → 2 ≤ m → m ≤ 6 → irreducible m modulus ≡ true → Lawful (binary_tables m modulus)
binary_laws m modulus large small e =
    let degree = irreducible_degree m modulus e in
    let left = reduced_left m modulus in
    let right = reduced_right m modulus in
    record {
      sums_stay_below = xor_lt m;
      products_stay_below = λ a b h _. reduced_product_below m modulus a b degree.0 degree.1 h;
      sums_commute = λ a b _ _. xor_comm a b;
      products_commute = commutes m (times m modulus) left right (powers_commute m modulus small e);
      sums_associate = λ a b c _ _ _. xor_assoc a b c;
      products_associate = associates m (times m modulus) left right (powers_associate m modulus small e);
      products_distribute = λ a b c _ _ _. right a b c;
      zero_is_neutral = λ a _. refl;
      one_is_neutral = linear_agree (times m modulus 1) (λ a. a) (right 1) (λ x y. refl) m (one_times m modulus small e);
      one_is_an_element = pow_below 0 m (omega arith);
      negatives = λ a h. (a, h, xor_self a);
      inverses = inverts m modulus small e;
    }
