-- What a refused call leaves. Assumes nothing.
use Rattle.std.proofs.Common.{◌≡◌, Some, None, Err, Option, Result, refl}
use Rattle.faults.specs.Faults.{answer}
use Rattle.faults.specs.declared.fault.Fault.{Fault}
use Rattle.register.specs.Calls.{unless}

-- where a check refuses, the old is left
pub old_left : {A B : Type 0} (refused : Option Fault) (value : B) (d : Fault) (new old : A) → ◌≡◌ {A = Result B Fault} (Err d) (answer refused value) → old ≡ unless refused new old
old_left None value d new old e = cc
old_left (Some f) value d new old e = refl
