-- What the checks of a plan give, one by one. Assumes nothing.
use Rattle.std.proofs.Common.{◌≡◌, ℕ, ◌^◌, ◌<◌, ◌≤◌, Bool, true, false, not, leb, is_some, Some, None, Option, refl, arith}
use Rattle.std.proofs.Math.Nat.{pow-le-pow_left}
use Rattle.std.proofs.Math.Pow.{pow_mono}
use Rattle.std.proofs.lemmas.Bool.{and_parts, leb-true, ltb-true, false≢true}
use Rattle.faults.specs.Faults.{check}
use Rattle.faults.specs.declared.fault.Fault.{Fault}
use Rattle.words.specs.Plans.{burden, plan_refusal, plan_exists}

-- the limits that every plan keeps
pub record Limits (q n k d e : ℕ) : Type 0 where
  pub q_low : 2 ≤ q
  pub q_high : q ≤ 64
  pub n_low : 1 ≤ n
  pub n_high : n ≤ q
  pub k_low : 1 ≤ k
  pub d_low : 1 ≤ d
  pub d_high : d ≤ 32
  pub few_words : q ^ k ≤ 65536
  pub far_apart : burden k d e < n

-- no check refuses: the first passes, and none of the others refuses
pub passed : (passes : Bool) (f : Fault) (rest : Option Fault) → check passes f rest ≡ None → (passes ≡ true) × (rest ≡ None)
passed true f rest e = (refl, e)
passed false f rest e = let z : ◌≡◌ {A = ℕ} 0 1 = cc in absurd (omega arith)

-- where nothing refuses, nothing is
pub none_refuses : (refusal : Option Fault) → not (is_some refusal) ≡ true → refusal ≡ None
none_refuses None e = refl
none_refuses (Some f) e = absurd (false≢true e)

pub limits : (q n k d e : ℕ) → plan_exists q n k d e ≡ true → Limits q n k d e
limits q n k d e exists =
    let c1 = passed _ _ _ (none_refuses (plan_refusal q n k d e) exists) in
    let c2 = passed _ _ _ c1.1 in
    let c3 = passed _ _ _ c2.1 in
    let c4 = passed _ _ _ c3.1 in
    let c5 = passed _ _ _ c4.1 in
    let c6 = passed _ _ _ c5.1 in
    let qs = and_parts (leb 2 q) (leb q 64) c1.0 in
    let ns = and_parts (leb 1 n) (leb n q) c2.0 in
    let ds = and_parts (leb 1 d) (leb d 32) c4.0 in
    record {
      q_low = leb-true 2 q qs.0;
      q_high = leb-true q 64 qs.1;
      n_low = leb-true 1 n ns.0;
      n_high = leb-true n q ns.1;
      k_low = leb-true 1 k c3.0;
      d_low = leb-true 1 d ds.0;
      d_high = leb-true d 32 ds.1;
      few_words = leb-true (q ^ k) 65536 c5.0;
      far_apart = ltb-true (burden k d e) n c6.0;
    }

-- beyond the 16th every power of a number above 1 is above 65,536
pub power_large : (q k : ℕ) → 2 ≤ q → 16 < k → 65536 < q ^ k
power_large q k h large = omega (arith, pow-le-pow_left h k, pow_mono {i = 17} {j = k} large)
