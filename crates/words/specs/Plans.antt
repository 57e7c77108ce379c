-- The limits of a plan. Assumes nothing.
use Rattle.std.specs.Prelude.{ℕ, ◌+◌, ◌-◌, ◌*◌, ◌^◌, Bool, not, ◌&&◌, is_some, None, Option, nat_le, nat_lt}
use Rattle.faults.specs.Faults.{fault, check}
use Rattle.faults.specs.declared.fault.Fault.{Fault}
use Rattle.faults.specs.declared.refusal.Refusal.TheVariants.{Field, Range, Words, Distance}

-- how many slots the words of d cards and e wrong slots can take from one word: this has to stay below n
abbrev pub burden : ℕ → ℕ → ℕ → ℕ
burden k d e = d * (k - 1) + 2 * e

-- the checks of a plan's numbers, in their order
abbrev pub plan_refusal : ℕ → ℕ → ℕ → ℕ → ℕ → Option Fault
plan_refusal q n k d e =
    check (nat_le 2 q && nat_le q 64) (fault Field q)
    (check (nat_le 1 n && nat_le n q) (fault Range n)
    (check (nat_le 1 k) (fault Range k)
    (check (nat_le 1 d && nat_le d 32) (fault Range d)
    (check (nat_le (q ^ k) 65536) (fault Words k)
    (check (nat_lt (burden k d e) n) (fault Distance (burden k d e)) None)))))

-- whether there is a plan with these numbers: no check refuses
abbrev pub plan_exists : ℕ → ℕ → ℕ → ℕ → ℕ → Bool
plan_exists q n k d e = not (is_some (plan_refusal q n k d e))
