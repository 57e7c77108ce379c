-- A refusal with its figure. Assumes nothing.
use Rattle.std.specs.Prelude.{ℕ, Bool, cond, List, ◌++◌, Some, None, Ok, Err, codes, decimal, Option, Result}
use Rattle.faults.specs.declared.fault.Fault.{Fault}
use Rattle.faults.specs.declared.refusal.Refusal.{Refusal}
use Rattle.faults.specs.Refusals.{number, meaning}

-- the fault that refuses for a reason, with its figure
abbrev pub fault : Refusal → ℕ → Fault
fault why n = record { refusal = why; figure = n }

-- a fault as it is printed: its number, its meaning and its figure
abbrev pub printed : Fault → List ℕ
printed f = codes "refusal " ++ (decimal (number f.refusal) ++ (codes ", " ++ (meaning f.refusal ++ (codes ": " ++ decimal f.figure))))

-- one check of several: where its test fails, its fault refuses; otherwise the checks after it decide
abbrev pub check : Bool → Fault → Option Fault → Option Fault
check passes f rest = cond passes rest (Some f)

-- the checks of one part, and after them those of another
abbrev pub then : Option Fault → Option Fault → Option Fault
then None rest = rest
then (Some f) rest = Some f

-- the answer of a call: its value where nothing refuses, and otherwise the fault
abbrev pub answer : {A : Type 0} → Option Fault → A → Result A Fault
answer None value = Ok value
answer (Some f) value = Err f
