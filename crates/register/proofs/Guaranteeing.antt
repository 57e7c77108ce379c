-- The whole guarantee of a reading. Assumes nothing.
use Rattle.std.proofs.Common.{◌≡◌, ℕ, Bool, List, IfOk, Some, None, Ok, Err, Option, Result, refl}
use Rattle.faults.specs.Faults.{answer}
use Rattle.faults.specs.declared.fault.Fault.{Fault}
use Rattle.fields.specs.Lawful.{Tables, Lawful}
use Rattle.words.specs.declared.plan.Plan.{Plan}
use Rattle.register.specs.Calls.{to_read, refusal, list_left}
use Rattle.names.specs.Names.{Alike}
use Rattle.register.specs.Promises.{JudgedByDistance, ReadingIsGuaranteed}
use Rattle.register.specs.Racks.{Rack}
use Rattle.register.specs.Verdicts.{judged}
use Rattle.register.specs.declared.verdict.Verdict.{Verdict}
use Rattle.register.proofs.Deciding.{runs_decide}

-- the guarantee of a reading that answers and leaves the list as the definitions say
pub guaranteed : {N : Type 0} (same : N → N → Bool) → Alike same → (f : Tables) → Lawful f → (p : Plan) (s : Rack N) (mark : ℕ) (list after : List ℕ) (r : Result Verdict Fault)
    → r ≡ answer (refusal same f p s (to_read mark list)) (judged f p s.entries s.row) → after ≡ list_left f p (refusal same f p s (to_read mark list)) s.row list
    → IfOk r (λ v. JudgedByDistance f p s.entries s.row v after) → IfOk r (λ v. ReadingIsGuaranteed same f p s v after)
guaranteed same alike f l p s mark list after r told left distance = go r (refusal same f p s (to_read mark list)) refl told left distance
  where
    go : (r : Result Verdict Fault) (o : Option Fault) → refusal same f p s (to_read mark list) ≡ o → r ≡ answer o (judged f p s.entries s.row) → after ≡ list_left f p o s.row list
        → IfOk r (λ v. JudgedByDistance f p s.entries s.row v after) → IfOk r (λ v. ReadingIsGuaranteed same f p s v after)
    go (Ok v) None none e k promises =
        let is : v ≡ judged f p s.entries s.row = cc in
        record { by_distance = promises; over_runs = rw (is, k) (runs_decide same alike f l p s mark list none) }
    go (Ok v) (Some d) none e k promises = cc
    go (Err x) o none e k promises = tt
