-- What an answer tells of the checks behind it. Assumes nothing.
use Rattle.std.proofs.Common.{◌≡◌, Bool, true, false, Some, None, Ok, Err, Option, Result, refl}
use Rattle.faults.specs.Faults.{check, answer}
use Rattle.faults.specs.declared.fault.Fault.{Fault}

-- a refusal is the same whatever value was wanted
pub refused_alike : {A B : Type 0} (refusal : Option Fault) (a : A) (b : B) (d : Fault) → ◌≡◌ {A = Result A Fault} (Err d) (answer refusal a) → ◌≡◌ {A = Result B Fault} (Err d) (answer refusal b)
refused_alike None a b d e = cc
refused_alike (Some f) a b d e = cc

-- an accepted call had no refusal
pub accepted : {A : Type 0} (refusal : Option Fault) (a v : A) → ◌≡◌ {A = Result A Fault} (Ok v) (answer refusal a) → (refusal ≡ None) × (v ≡ a)
accepted None a v e = (refl, cc)
accepted (Some f) a v e = (cc, cc)

-- one check alone that refuses decides a row of checks that it begins
pub check_refuses : (passes : Bool) (f d : Fault) (rest : Option Fault) → ◌≡◌ {A = Result (Unit {0}) Fault} (Err d) (answer (check passes f None) tt) → check passes f rest ≡ Some d
check_refuses true f d rest e = cc
check_refuses false f d rest e = cc

-- one check alone that accepts has passed
pub check_passed : (passes : Bool) (f : Fault) (u : Unit {0}) → ◌≡◌ {A = Result (Unit {0}) Fault} (Ok u) (answer (check passes f None) tt) → passes ≡ true
check_passed true f u e = refl
check_passed false f u e = cc

-- one check alone that accepts leaves a row of checks that it begins to the rest
pub check_accepts : (passes : Bool) (f : Fault) (u : Unit {0}) (rest : Option Fault) → ◌≡◌ {A = Result (Unit {0}) Fault} (Ok u) (answer (check passes f None) tt) → check passes f rest ≡ rest
check_accepts true f u rest e = refl
check_accepts false f u rest e = cc

-- the answer where a check refuses, and where none does
pub answer_refused : {A : Type 0} (refusal : Option Fault) (value : A) (d : Fault) → refusal ≡ Some d → ◌≡◌ {A = Result A Fault} (Err d) (answer refusal value)
answer_refused refusal value d e = rw e refl

pub answer_accepted : {A : Type 0} (refusal : Option Fault) (v value : A) → refusal ≡ None → v ≡ value → ◌≡◌ {A = Result A Fault} (Ok v) (answer refusal value)
answer_accepted refusal v value e same = rw (e, same) refl
