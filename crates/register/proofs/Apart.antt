-- No call makes two enrolled names the same. Assumes nothing.
use Rattle.std.proofs.Common.{◌≡◌, ℕ, ◌^◌, Bool, true, false, cond, not, ◌&&◌, eqb, ltb, length, Some, None, Option, refl}
use Rattle.faults.specs.Faults.{fault}
use Rattle.faults.specs.declared.fault.Fault.{Fault}
use Rattle.faults.specs.declared.refusal.Refusal.TheVariants.{Field, Card, Taken, Open}
use Rattle.fields.specs.Lawful.{Tables}
use Rattle.words.specs.declared.plan.Plan.{Plan}
use Rattle.words.proofs.Limits.{passed, none_refuses}
use Rattle.register.specs.Calls.{Call, to_enrol, to_strike, to_open, to_tick, to_knock, to_read, to_close, to_judge, name_free, name_known, refusal, after, accepts}
use Rattle.names.specs.Names.{Alike}
use Rattle.register.specs.Entries.{NamesDiffer}
use Rattle.register.specs.Promises.{CallsKeepNamesApart}
use Rattle.register.specs.Racks.{Rack, enrolled, number_of}
use Rattle.register.proofs.Naming.{enrolling_keeps_names_apart, striking_keeps_names_apart}

-- a name that is not enrolled has no number
name_is_free : (number : Option ℕ) → name_free number ≡ None → number ≡ None
name_is_free None e = refl
name_is_free (Some i) e = cc

-- a name that is enrolled has a number
pub name_is_known : (number : Option ℕ) (rest : ℕ → Option Fault) → name_known number rest ≡ None → (i : ℕ) × (number ≡ Some i) × (rest i ≡ None)
name_is_known None rest e = cc
name_is_known (Some i) rest e = (i, refl, e)

-- an accepted call keeps names apart
pub accepted_apart : {N : Type 0} (same : N → N → Bool) → Alike same → (f : Tables) (p : Plan) (s : Rack N) (call : Call N) → refusal same f p s call ≡ None
    → NamesDiffer same s.entries → NamesDiffer same (after same f p s call).entries
accepted_apart same alike f p s (to_enrol name number) none apart =
    let c1 = passed (eqb f.order p.q) (fault Field f.order) _ none in
    let c2 = passed (not s.opened) (fault Open s.mark) _ c1.1 in
    let c3 = passed (ltb number (p.q ^ p.k) && ltb number (length s.entries)) (fault Card number) _ c2.1 in
    let c4 = passed (not (enrolled s.entries number)) (fault Taken number) _ c3.1 in
    enrolling_keeps_names_apart same alike s.entries number name (name_is_free (number_of same name s.entries) c4.1) apart
accepted_apart same alike f p s (to_strike name) none apart =
    let c1 = passed (not s.opened) (fault Open s.mark) _ none in
    let known = name_is_known (number_of same name s.entries) (λ number. None) c1.1 in
    rw known.1 (striking_keeps_names_apart same s.entries known.0 apart)
accepted_apart same alike f p s to_open none apart = apart
accepted_apart same alike f p s (to_tick mark name) none apart = apart
accepted_apart same alike f p s (to_knock mark slot) none apart = apart
accepted_apart same alike f p s (to_read mark list) none apart = apart
accepted_apart same alike f p s (to_close mark) none apart = apart
accepted_apart same alike f p s (to_judge list) none apart = apart

-- every call does: a refused one changes nothing
pub calls_keep_names_apart : {N : Type 0} (same : N → N → Bool) → Alike same → CallsKeepNamesApart same
calls_keep_names_apart same alike f p s call apart = go (accepts same f p s call) refl
  where
    go : (accepted : Bool) → accepts same f p s call ≡ accepted → NamesDiffer same (cond accepted (after same f p s call) s).entries
    go true e = accepted_apart same alike f p s call (none_refuses (refusal same f p s call) e) apart
    go false e = apart
