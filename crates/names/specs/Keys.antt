-- Names that are the same where their keys are equal. Assumes nothing.
use Rattle.std.specs.Prelude.{◌≡◌, Bool, refl}
use Rattle.std.specs.Bool.{Decides}
use Rattle.std.proofs.Common.{sym, ◌∙◌}
use Rattle.names.specs.Names.{Alike}

-- a test that decides whether the keys are equal is reflexive, symmetric and transitive
pub alike_by : {N K : Type 0} (key : N → K) (same : N → N → Bool) → ((a b : N) → Decides (same a b) (key a ≡ key b)) → Alike same
alike_by key same decides = record {
  reflexive = λ a. (decides a a).1 refl;
  symmetric = λ a b e. (decides b a).1 (sym ((decides a b).0 e));
  transitive = λ a b c e f. (decides a c).1 ((decides a b).0 e ∙ (decides b c).0 f);
}
