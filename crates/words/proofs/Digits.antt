-- The digits of a number in a base.
use Rattle.std.proofs.Common.{◌≡◌, ℕ, zero, suc, ◌+◌, ◌*◌, ◌/◌, ◌%◌, ◌^◌, ◌<◌, sym, ◌∙◌, mod-eq_of_lt, arith}
use native.Mathlib.Nat.{pow-zero, pow-succ', one-le-pow}
use lib.Arith.{mod-mul}
use Rattle.std.proofs.lemmas.Nat.{mod_below}
use Rattle.words.specs.Words.{digit}

-- a digit is below the base
pub digit_below : (q number j : ℕ) → 0 < q → digit q number j < q
digit_below q number j pos = mod_below (number / q ^ j) q pos

-- the remainder by a power of the base is one digit more than that by the power before
pub mod_power : (q number k : ℕ) → 0 < q → number % q ^ suc k ≡ digit q number k * q ^ k + number % q ^ k
mod_power q number k pos = rw (pow-succ' q k) (mod-mul number pos (one-le-pow k q pos))

-- numbers with the same lowest k digits have one remainder by the k-th power of the base
pub mods_same : (q a b k : ℕ) → 0 < q → ((j : ℕ) → j < k → digit q a j ≡ digit q b j) → a % q ^ k ≡ b % q ^ k
mods_same q a b zero pos h = rw (pow-zero q) (omega arith)
mods_same q a b (suc k) pos h =
    let rest = mods_same q a b k pos (λ j l. h j (omega arith)) in
    let here = h k (omega arith) in
    let ea = mod_power q a k pos in
    let eb = mod_power q b k pos in
    cc

-- numbers below the k-th power of the base with the same k digits are equal
pub digits_same : (q a b k : ℕ) → 0 < q → a < q ^ k → b < q ^ k → ((j : ℕ) → j < k → digit q a j ≡ digit q b j) → a ≡ b
digits_same q a b k pos ha hb h = sym (mod-eq_of_lt ha) ∙ (mods_same q a b k pos h ∙ mod-eq_of_lt hb)
