-- The prime fields are lawful. Assumes nothing.
use Rattle.std.specs.Prelude.{◌≡◌, ℕ, zero, suc, ◌+◌, ◌-◌, ◌*◌, ◌%◌, ◌<◌, ◌≤◌, Bool, true, false, not, ◌==◌, ◌≢◌, length, get_or, nat_eq, nat_le, refl}
use Rattle.std.specs.List.{range_with_len}
use Rattle.std.proofs.Common.{sym, ap, ◌∙◌, inl, inr, add_comm, add_assoc, mul_comm, mul_assoc, mul-add, mod-lt, mod-eq_of_lt, zero-add, one-mul, arith}
use Rattle.std.proofs.Math.Nat.{add-mod-mod, mod-add-mod, mod_self}
use Rattle.std.proofs.lemmas.Nat.{mul-mod_first, mul-mod_second}
use Rattle.std.proofs.lemmas.Bool.Decides.{nat_tests}
use Rattle.std.proofs.lemmas.Bool.{and_from, and_left, and_right, eq-eqb, ne_eqb, eqb-true, cases_Bool, not_from_true, not_from_false}
use Rattle.std.proofs.lemmas.List.FromFn.{length-range_with_len, get_or-range_with_len}
use Rattle.std.proofs.lemmas.List.Folds.{list_all_at}
use Rattle.std.proofs.lemmas.List.Sums.{list_all-from_AllPass}
use Rattle.fields.specs.Answers.{the_one, inverse_of}
use Rattle.fields.specs.Lawful.{Lawful}
use Rattle.fields.specs.Polynomials.{all_below}
use Rattle.fields.specs.Kinds.{prime, makes_prime_field, prime_tables}
use Rattle.fields.specs.Searching.{all_below_at}

-- a number that divides p, other than 1 and p, shows that p is no prime
pub divided : (p d : ℕ) → 2 ≤ d → d < p → p % d ≡ 0 → false ≡ prime p
unfolding prime
divided p d large small e =
    let found : get_or (range_with_len 2 (p - 2)) (d - 2) 0 ≡ d = omega (arith, get_or-range_with_len 2 (p - 2) (d - 2) 0 (omega arith)) in
    let fails : not (p % get_or (range_with_len 2 (p - 2)) (d - 2) 0 == 0) ≡ false = not_from_true _ (eq-eqb _ 0 (rw found e)) in
    sym (and_right (nat_le 2 p) _ (list_all_at (λ k. not (p % k == 0)) (range_with_len 2 (p - 2)) (d - 2) 0 (omega (arith, length-range_with_len 2 (p - 2))) fails))

-- where no number from 2 to p - 1 divides p, p is a prime if it is at least 2
pub undivided : (p : ℕ) → ((k : ℕ) → k + 2 < p → p % (k + 2) ≢ 0) → nat_le 2 p ≡ prime p
unfolding prime
undivided p none =
    let every = list_all-from_AllPass (λ d. not (p % d == 0)) (range_with_len 2 (p - 2)) passes in
    elim (cases_Bool (nat_le 2 p)) [
      | inl yes' ↦ yes' ∙ sym (and_from (nat_le 2 p) _ yes' every)
      | inr no' ↦ no' ∙ sym (and_left (nat_le 2 p) _ no')
    ]
  where
    passes : (k d : ℕ) → k < length (range_with_len 2 (p - 2)) → not (p % get_or (range_with_len 2 (p - 2)) k d == 0) ≡ true
    passes k d h =
        let within : k < p - 2 = omega (arith, length-range_with_len 2 (p - 2)) in
        let found : get_or (range_with_len 2 (p - 2)) k d ≡ k + 2 = omega (arith, get_or-range_with_len 2 (p - 2) k d within) in
        not_from_false _ (ne_eqb _ 0 (rw found (none k (omega arith))))

-- whether every element of the prime field but 0 has an inverse
inverts : ℕ → Bool
inverts p = all_below (λ a. nat_eq ((suc a * inverse_of (prime_tables p) (suc a)) % p) 1) (p - 1)

every_prime_inverts : all_below (λ p. elim (prime p) [ true ↦ inverts p | false ↦ true ]) 62 ≡ true
unfolding inverts the_one prime all_below
every_prime_inverts = refl

-- a prime below 62 has an inverse for each element but 0
prime_inverses : (p : ℕ) → p < 62 → prime p ≡ true → (a : ℕ) → 0 < a → a < p → (b : ℕ) × (b < p) × ((a * b) % p ≡ 1)
unfolding inverts
prime_inverses p small ok (suc a) positive below =
    let b : ℕ = inverse_of (prime_tables p) (suc a) in
    let passes : inverts p ≡ true = rw ok at (all_below_at _ 62 every_prime_inverts p small) in
    let found = all_below_at (λ n. nat_eq ((suc n * inverse_of (prime_tables p) (suc n)) % p) 1) (p - 1) passes a (omega arith) in
    (b % p, mod-lt b (omega arith), mul-mod_second (suc a) b p ∙ eqb-true _ _ found)
prime_inverses p small ok zero positive below = absurd (omega arith)

-- the negative of an element modulo p
prime_negatives : (p a : ℕ) → a < p → (b : ℕ) × (b < p) × ((a + b) % p ≡ 0)
prime_negatives p a below =
    let whole : a + (p - a) ≡ p = omega arith in
    ((p - a) % p, mod-lt (p - a) (omega arith), add-mod-mod a (p - a) p ∙ ap (λ x. x % p) whole ∙ mod_self p)

-- every prime field is lawful
pub prime_laws : (p : ℕ) → makes_prime_field p ≡ true → Lawful (prime_tables p)
unfolding prime
prime_laws p ok =
    let small : p ≤ 61 = grind (arith, nat_tests) in
    let is : prime p ≡ true = grind (arith, nat_tests) in
    let large : 2 ≤ p = grind (arith, nat_tests) in
    let positive : 0 < p = omega arith in
    record {
      sums_stay_below = λ a b ha hb. mod-lt (a + b) positive;
      products_stay_below = λ a b ha hb. mod-lt (a * b) positive;
      sums_commute = λ a b ha hb. ap (λ x. x % p) (add_comm a b);
      products_commute = λ a b ha hb. ap (λ x. x % p) (mul_comm a b);
      sums_associate = λ a b c ha hb hc. mod-add-mod (a + b) p c ∙ ap (λ x. x % p) (add_assoc a b c) ∙ sym (add-mod-mod a (b + c) p);
      products_associate = λ a b c ha hb hc. mul-mod_first (a * b) c p ∙ ap (λ x. x % p) (mul_assoc a b c) ∙ sym (mul-mod_second a (b * c) p);
      products_distribute = λ a b c ha hb hc.
          mul-mod_second a (b + c) p ∙ ap (λ x. x % p) (mul-add a b c)
          ∙ sym (mod-add-mod (a * b) p ((a * c) % p) ∙ add-mod-mod (a * b) (a * c) p);
      zero_is_neutral = λ a ha. ap (λ x. x % p) (zero-add a) ∙ mod-eq_of_lt ha;
      one_is_neutral = λ a ha. ap (λ x. x % p) (one-mul a) ∙ mod-eq_of_lt ha;
      one_is_an_element = omega arith;
      negatives = λ a ha. prime_negatives p a ha;
      inverses = λ a pos ha. prime_inverses p (omega arith) is a pos ha;
    }
