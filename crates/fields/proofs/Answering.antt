-- What the answers of a field's calls give to those who hold its laws. Assumes nothing.
use native.Mathlib.Nat.{zero-mod, mod_self}
use Rattle.std.specs.Int.Bits.{xor_self}
use Rattle.std.proofs.Common.{◌≡◌, ℕ, ◌+◌, ◌-◌, ◌%◌, ◌^◌, true, ◌<◌, ◌≤◌, Option, Some, None, eqb, Ok, Err, sym, ap, ◌∙◌, inl, inr, arith}
use Rattle.std.specs.Option.{MatchOption, ok_or}
use Rattle.std.proofs.lemmas.Bool.{eq-eqb, eqb-true, cases_eq, cases_lt}
use Rattle.faults.specs.Faults.{fault}
use Rattle.faults.specs.declared.fault.Fault.{Fault}
use Rattle.faults.specs.declared.refusal.Refusal.TheVariants.{Element}
use Rattle.fields.specs.Lawful.{Tables, Lawful}
use Rattle.fields.specs.Answers.{element_answer, table_answer, negative_of, inverse_of, negative_answer, inverse_answer}
use Rattle.fields.specs.Kinds.{makes_prime_field, makes_binary_field, prime_tables, binary_tables}
use Rattle.fields.specs.PrimeLaws.{prime_laws}
use Rattle.fields.specs.BinarySteps.{admitted_laws}
use Rattle.fields.specs.Theorems.{PartnersAreUnique}
use Rattle.fields.proofs.Algebra.{one_negative, one_inverse, zero_absorbs, zero_absorbs_left}
use Rattle.fields.specs.Searching.{the_one_is}
use Rattle.std.proofs.lemmas.Bool.Decides.{nat_tests}

-- an accepted index is the one handed in, and an element
pub element_ok : (q a v : ℕ) → Ok v ≡ element_answer q a → (v ≡ a) × (a < q)
element_ok q a v e = (grind (arith, nat_tests), grind (arith, nat_tests))

-- the answer of a table at two elements
pub table_ok : (q : ℕ) (table : ℕ → ℕ → ℕ) (a b : ℕ) → a < q → b < q → table_answer q table a b ≡ Ok (table a b)
table_ok q table a b ha hb = grind (arith, nat_tests)

module _ (f : Tables) (laws : Lawful f) where
  -- what adds up with a to 0 is its negative
  negative_is : (a v : ℕ) → a < f.order → v < f.order → f.plus a v ≡ 0 → v ≡ negative_of f a
  negative_is a v ha hv e = the_one_is (λ b. eqb (f.plus a b) 0) f.order v hv (eq-eqb _ 0 e) (λ c hc p. one_negative f laws a c v ha hc hv (eqb-true _ 0 p) e)

  -- what multiplies with a to 1 is its inverse
  inverse_is : (a v : ℕ) → a < f.order → v < f.order → f.times a v ≡ 1 → v ≡ inverse_of f a
  inverse_is a v ha hv e = the_one_is (λ b. eqb (f.times a b) 1) f.order v hv (eq-eqb _ 1 e) (λ c hc p. one_inverse f laws a c v ha hc hv (eqb-true _ 1 p) e)

  -- what adds up with an accepted index to 0 is the negative that is answered
  pub negative_answered : (a a' v : ℕ) → Ok a' ≡ element_answer f.order a → v < f.order → (a' < f.order → f.plus a' v ≡ 0) → Ok v ≡ negative_answer f a
  negative_answered a a' v given hv e =
      let known = element_ok f.order a a' given in
      let below : a' < f.order = omega (arith, known.0, known.1) in
      let is = negative_is a' v below hv (e below) in
      grind (arith, nat_tests)

  -- where each element is its own negative, an element is the negative that is answered
  pub own_negative_answered : ((a : ℕ) → a < f.order → f.plus a a ≡ 0) → (a : ℕ) → element_answer f.order a ≡ negative_answer f a
  own_negative_answered own a =
      let is : a < f.order → a ≡ negative_of f a = λ below. negative_is a a below below (own a below) in
      grind (arith, nat_tests)

  -- what multiplies with a to 1 is the inverse that is answered
  pub inverse_answered : (a v : ℕ) → a < f.order → v < f.order → f.times a v ≡ 1 → Ok v ≡ inverse_answer f a
  inverse_answered a v ha hv e =
      let is = inverse_is a v ha hv e in
      let nil = zero_absorbs_left f laws v hv in
      grind (arith, nat_tests)

  -- where no product of a with an element but 0 is 1, the inverse is refused
  pub inverse_missing : (a : ℕ) → a < f.order → ((b : ℕ) → 0 < b → b < f.order → f.times a b ≡ 1 → ⊥) → Err (fault Element a) ≡ inverse_answer f a
  inverse_missing a ha none = elim (cases_eq a 0) [
    | inl same ↦ grind (arith, nat_tests)
    | inr other ↦
        let found = laws.inverses a (omega arith) ha in
        let nil = zero_absorbs f laws a ha in
        absurd (none found.0 (grind arith) found.1 found.2)
  ]

-- a table's answer that is a value: both indices are elements, and it is the table's value
pub table_value : (q : ℕ) (table : ℕ → ℕ → ℕ) (a b v : ℕ) → Ok v ≡ table_answer q table a b → (a < q) × (b < q) × (v ≡ table a b)
table_value q table a b v e = (grind (arith, nat_tests), grind (arith, nat_tests), grind (arith, nat_tests))

-- the product of a and b is answered, and is 1
abbrev pub MakesOne : Tables → ℕ → ℕ → Type 0
MakesOne f a b = table_answer f.order f.times a b ≡ Ok 1

-- the first element from 1 on whose product with a is 1 is the inverse that is answered, and where there is none, it is refused
pub inverse_searched : (f : Tables) → Lawful f → (n : ℕ) → n ≡ f.order → (a : ℕ) (found : Option ℕ)
    → MatchOption found ((b : ℕ) → 1 ≤ b → b < n → MakesOne f a b → ⊥) (λ b. (1 ≤ b) × (b < n) × MakesOne f a b × ((c : ℕ) → 1 ≤ c → c < b → MakesOne f a c → ⊥))
    → ok_or found (fault Element a) ≡ inverse_answer f a
inverse_searched f laws n whole a (Some b) h =
    let v = table_value f.order f.times a b 1 (sym h.2) in inverse_answered f laws a b v.0 v.1 (sym v.2)
inverse_searched f laws n whole a None none = elim (cases_lt a f.order) [
  | inl ha ↦ inverse_missing f laws a ha (λ b positive below e. none b positive (omega arith) (table_ok f.order f.times a b ha below ∙ ap Ok e))
  | inr above ↦ let large = laws.one_is_an_element in grind (arith, nat_tests)
]

-- a table refuses no two elements
pub table_accepts : (q : ℕ) (table : ℕ → ℕ → ℕ) (a b : ℕ) (d : Fault) → a < q → b < q → Err d ≡ table_answer q table a b → ⊥
table_accepts q table a b d ha hb e = grind (arith, nat_tests)

-- negatives and inverses are those of the tables, and no others
pub partners : PartnersAreUnique
partners f laws a b ha hb =
    record {
      negative = negative_is f laws a b ha hb;
      negative_back = λ e. let found = laws.negatives a ha in ap (f.plus a) (e ∙ sym (negative_is f laws a found.0 ha found.1 found.2)) ∙ found.2;
      inverse = inverse_is f laws a b ha hb;
      inverse_back = λ positive e. let found = laws.inverses a positive ha in ap (f.times a) (e ∙ sym (inverse_is f laws a found.0 ha found.1 found.2)) ∙ found.2;
    }

-- in a prime field, the negative of an element but 0 is what it lacks to p
pub prime_negative : (p : ℕ) → makes_prime_field p ≡ true → (a a' : ℕ) → Ok a' ≡ element_answer p a → (a' ≡ 0 → ⊥) → Ok (p - a') ≡ negative_answer (prime_tables p) a
prime_negative p ok a a' given other =
    let known = element_ok p a a' given in
    let whole : a' + (p - a') ≡ p = omega arith in
    negative_answered (prime_tables p) (prime_laws p ok) a a' (p - a') given (omega arith) (λ _. ap (λ x. x % p) whole ∙ mod_self p)

-- and the negative of 0 is 0
pub prime_negative_zero : (p : ℕ) → makes_prime_field p ≡ true → (a a' : ℕ) → Ok a' ≡ element_answer p a → a' ≡ 0 → Ok 0 ≡ negative_answer (prime_tables p) a
prime_negative_zero p ok a a' given nil =
    let laws = prime_laws p ok in
    let sum : a' + 0 ≡ 0 = omega arith in
    negative_answered (prime_tables p) laws a a' 0 given (omega (arith, laws.one_is_an_element)) (λ _. ap (λ x. x % p) sum ∙ zero-mod p)

-- in a binary field each element is its own negative
pub binary_negative : (m modulus : ℕ) → makes_binary_field m modulus ≡ true → (a : ℕ) → element_answer (2 ^ m) a ≡ negative_answer (binary_tables m modulus) a
binary_negative m modulus ok = own_negative_answered (binary_tables m modulus) (admitted_laws m modulus ok) (λ a _. xor_self a)
