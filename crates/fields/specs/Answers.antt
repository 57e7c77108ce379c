-- What the calls of a field answer, by its tables. Assumes nothing.
use Rattle.std.specs.Prelude.{ℕ, zero, suc, Bool, cond, Ok, Err, Result, ◌==◌, nat_eq, nat_lt}
use Rattle.faults.specs.Faults.{fault}
use Rattle.faults.specs.declared.fault.Fault.{Fault}
use Rattle.faults.specs.declared.refusal.Refusal.TheVariants.{Element}
use Rattle.fields.specs.Lawful.{Tables}

-- an index that is an element, or refusal 6 with the index
abbrev pub element_answer : ℕ → ℕ → Result ℕ Fault
element_answer q a = cond (nat_lt a q) (Ok a) (Err (fault Element a))

-- the value that a table has for two elements, or refusal 6 with the first index that is no element
abbrev pub table_answer : ℕ → (ℕ → ℕ → ℕ) → ℕ → ℕ → Result ℕ Fault
table_answer q table a b = cond (nat_lt a q) (cond (nat_lt b q) (Ok (table a b)) (Err (fault Element b))) (Err (fault Element a))

-- the number below n that passes a test which one number below n passes
unfoldable pub the_one : (ℕ → Bool) → ℕ → ℕ
the_one f zero = 0
the_one f (suc n) = cond (f n) n (the_one f n)

-- the element whose sum with a is 0
abbrev pub negative_of : Tables → ℕ → ℕ
negative_of f a = the_one (λ b. nat_eq (f.plus a b) 0) f.order

-- the element whose product with a is 1
abbrev pub inverse_of : Tables → ℕ → ℕ
inverse_of f a = the_one (λ b. nat_eq (f.times a b) 1) f.order

-- the negative of an element, or refusal 6 with the index
abbrev pub negative_answer : Tables → ℕ → Result ℕ Fault
negative_answer f a = cond (nat_lt a f.order) (Ok (negative_of f a)) (Err (fault Element a))

-- the inverse of an element other than 0, or refusal 6 with the index
abbrev pub inverse_answer : Tables → ℕ → Result ℕ Fault
inverse_answer f a = cond (a == 0) (Err (fault Element a)) (cond (nat_lt a f.order) (Ok (inverse_of f a)) (Err (fault Element a)))
