-- The spare bits behind the bits of the numbers. Assumes nothing.
use Rattle.std.specs.Prelude.{◌≡◌, ℕ, ◌*◌, ◌<◌, ◌≤◌, Bool, true, false, ◌&&◌, List, length, nat_lt}
use Rattle.faults.specs.Faults.{fault}
use Rattle.faults.specs.declared.fault.Fault.{Fault}
use Rattle.faults.specs.declared.refusal.Refusal.TheVariants.{Spare}
use Rattle.frames.specs.Frames.{stands}

-- whether a bit is set; none behind the last byte is
abbrev pub is_set : List ℕ → ℕ → Bool
is_set bits place = nat_lt place (8 * length bits) && stands bits place

-- from one place up to another no bit is set
abbrev pub NoneSet : List ℕ → ℕ → ℕ → Type 0
NoneSet bits start end = (place : ℕ) → start ≤ place → place < end → is_set bits place ≡ false

-- behind the bits of so many numbers no bit is set
abbrev pub SparesAreClear : List ℕ → ℕ → Type 0
SparesAreClear bits numbers = (place : ℕ) → numbers ≤ place → is_set bits place ≡ false

-- a fault tells the first bit that is set behind those of so many numbers
pub record TellsFirstSpare (bits : List ℕ) (numbers : ℕ) (f : Fault) : Type 0 where
  pub rule : f ≡ fault Spare f.figure
  pub behind : numbers ≤ f.figure
  pub set : is_set bits f.figure ≡ true
  pub first : NoneSet bits numbers f.figure
