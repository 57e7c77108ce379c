-- The book of a run: it is fed each call and whether it was accepted, and looks at nothing else. Assumes nothing.
use Rattle.std.specs.Prelude.{ℕ, ◌+◌, Bool, cond, not, List, [], ◌∷◌, Some, None, filter, Option, ◌==◌, nat_lt}
use Rattle.register.specs.Calls.{Call, to_enrol, to_strike, to_open, to_tick, to_knock, to_read, to_close, to_judge}

-- a name with its number
pub record Enrolment (N : Type 0) : Type 0 where
  pub name : N
  pub number : ℕ

-- the roll of names with numbers, the ticked numbers in ascending order, and the count of knocks
pub record Book (N : Type 0) : Type 0 where
  pub roll : List (Enrolment N)
  pub ticked : List ℕ
  pub knocks : ℕ

-- the book of a run that has not begun
abbrev pub blank : {N : Type 0} → Book N
blank = record { roll = []; ticked = []; knocks = 0 }

-- the roll's number for the same name
abbrev pub roll_number : {N : Type 0} → (N → N → Bool) → N → List (Enrolment N) → Option ℕ
roll_number same name [] = None
roll_number same name (entry ∷ roll) = cond (same entry.name name) (Some entry.number) (roll_number same name roll)

-- an ascending list with a number more, unless it is there already
abbrev pub with_number : ℕ → List ℕ → List ℕ
with_number x [] = x ∷ []
with_number x (y ∷ ys) = cond (nat_lt x y) (x ∷ y ∷ ys) (cond (x == y) (y ∷ ys) (y ∷ with_number x ys))

-- the ticked numbers with that of the ticked name
abbrev pub ticked_with : Option ℕ → List ℕ → List ℕ
ticked_with None ticked = ticked
ticked_with (Some number) ticked = with_number number ticked

-- what the book holds after an accepted call
abbrev pub noted : {N : Type 0} → (N → N → Bool) → Book N → Call N → Book N
noted same b (to_enrol name number) = record { roll = record { name = name; number = number } ∷ b.roll; ticked = b.ticked; knocks = b.knocks }
noted same b (to_strike name) = record { roll = filter (λ entry. not (same entry.name name)) b.roll; ticked = b.ticked; knocks = b.knocks }
noted same b to_open = record { roll = b.roll; ticked = []; knocks = 0 }
noted same b (to_tick mark name) = record { roll = b.roll; ticked = ticked_with (roll_number same name b.roll) b.ticked; knocks = b.knocks }
noted same b (to_knock mark slot) = record { roll = b.roll; ticked = b.ticked; knocks = b.knocks + 1 }
noted same b (to_read mark list) = b
noted same b (to_close mark) = b
noted same b (to_judge list) = b

-- what the book holds after a call: a refused one changes nothing
abbrev pub fed : {N : Type 0} → (N → N → Bool) → Book N → Call N → Bool → Book N
fed same b call accepted = cond accepted (noted same b call) b
