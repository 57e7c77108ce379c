-- What makes a test of names one that tells whether they are the same. Assumes nothing.
use Rattle.std.specs.Prelude.{◌≡◌, ℕ, ◌+◌, Bool, true, cond, ◌&&◌, List, map, nat_le}
use Rattle.std.specs.Str.{bytes_eq}

-- to be the same is reflexive, symmetric and transitive
pub record Alike {N : Type 0} (same : N → N → Bool) : Type 0 where
  pub reflexive : (a : N) → same a a ≡ true
  pub symmetric : (a b : N) → same a b ≡ true → same b a ≡ true
  pub transitive : (a b c : N) → same a b ≡ true → same b c ≡ true → same a c ≡ true

-- a letter A to Z as a to z, and every other byte as it is
abbrev pub folded : ℕ → ℕ
folded byte = cond (nat_le 65 byte && nat_le byte 90) (byte + 32) byte

-- whether two labels have the same bytes but for the case of letters
abbrev pub same_label : List ℕ → List ℕ → Bool
same_label a b = bytes_eq (map folded a) (map folded b)
