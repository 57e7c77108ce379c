-- What every line keeps, and words that several kinds of line share. Assumes nothing.
use Rattle.std.specs.Prelude.{◌≡◌, ℕ, ◌≤◌, Bool, cond, List, [], map, length, ◌==◌, nat_lt, slice_set, refl}
use Rattle.std.proofs.Common.{◌∙◌}
use Rattle.std.specs.Borrow.{MutBor}
use Rattle.std.specs.List.{range_with_len}

-- the laws of a line, whose row is what it means, and of which no call alters what is kept
pub record Laws {S : Type 0} (row : S → List Bool) (kept : S → S → Type 0) : Type 0 where
  -- a row has at most 4,096 slots
  pub few : (l : S) → length (row l) ≤ 4096
  -- a line that keeps what is kept has as many slots as before
  pub sized : (l m : S) → kept l m → length (row m) ≡ length (row l)
  -- a line that is not called keeps what is kept
  pub same : (l : S) → kept l l
  -- and so does one that is called twice
  pub onward : (k l m : S) → kept k l → kept l m → kept k m

-- what a call on slot s of a row of so many slots leaves: the new where the slot is one of the row, and past the row the old
abbrev pub reaching : {A : Type 0} → ℕ → ℕ → A → A → A
reaching slots s new old = cond (nat_lt s slots) new old

-- that slot s of a line was made to stand or to be clear: its row has the slot so, and the memory behind it is as its kind says
abbrev pub Written : {L : Type 0} → (L → List Bool) → (L → ℕ → Bool → L → Type 0) → L → ℕ → Bool → L → Type 0
Written row wrote l s b m = (row m ≡ slice_set (row l) s b) × wrote l s b m

-- a row of n slots, each standing as a test tells, over a line that has just so many slots; over any other it has none
abbrev pub row_over : ℕ → ℕ → (ℕ → Bool) → List Bool
row_over found n test = cond (found == n) (map test (range_with_len 0 n)) []

-- a lent line keeps the laws, and where it lies
pub lent_laws : {L : Type 0} {row : L → List Bool} {kept : L → L → Type 0} → Laws row kept
    → Laws (λ (l : MutBor L). row l.now) (λ l m. (m.ghost_name ≡ l.ghost_name) × kept l.now m.now)
lent_laws laws = record {
  few = λ l. laws.few l.now;
  sized = λ l m k. laws.sized l.now m.now k.1;
  same = λ l. (refl, laws.same l.now);
  onward = λ k l m p q. (q.0 ∙ p.0, laws.onward k.now l.now m.now p.1 q.1);
}
