-- Rows with one slot written, and rows over a line. Assumes nothing.
use Rattle.std.proofs.Common.{◌≡◌, ℕ, ◌<◌, Bool, false, eqb, map, length, get_or, set, sym, ap, ◌∙◌, inl, inr, arith}
use Rattle.std.specs.List.{range_with_len}
use Rattle.std.proofs.lemmas.List.FromFn.{length-map-range_with_len, get_or-map-range_with_len, fill_by_all}
use Rattle.std.proofs.lemmas.List.{length-set, get_or-set_same, get_or-set_other}
use Rattle.std.proofs.lemmas.Bool.{cases_eq, cond-true, cond-false, eq-eqb, ne_eqb}
use Rattle.lines.specs.Lines.{row_over}
use Rattle.lines.specs.Over.{over_length}

-- a row made by a test is, after one slot was written, the row made by the test that tells the same of every other slot
pub set_counted : (f g : ℕ → Bool) (n s : ℕ) (b : Bool) → (s < n → g s ≡ b) → ((i : ℕ) → i < n → (i ≡ s → ⊥) → g i ≡ f i)
    → map g (range_with_len 0 n) ≡ set (map f (range_with_len 0 n)) s b
set_counted f g n s b here others =
    let size = length-map-range_with_len f 0 n in
    sym (fill_by_all g (set (map f (range_with_len 0 n)) s b) n b (length-set (map f (range_with_len 0 n)) s b ∙ size)
    (λ k h. elim (cases_eq k s) [
      | inl same ↦ rw same (get_or-set_same (map f (range_with_len 0 n)) s b b (omega arith) ∙ sym (here (omega arith)))
      | inr other ↦ get_or-set_other (map f (range_with_len 0 n)) s k b b other ∙ get_or-map-range_with_len f 0 n k k b h (omega arith) ∙ sym (others k h other)
    ]))

-- a slot of a row over a line: the line has just so many slots
pub over_within : (found n : ℕ) (test : ℕ → Bool) (s : ℕ) → s < length (row_over found n test) → (found ≡ n) × (s < n)
over_within found n test s h = elim (cases_eq found n) [
  | inl same ↦ (same, rw (over_length found n test, cond-true (eqb found n) n 0 (eq-eqb found n same)) at h)
  | inr other ↦ let none : length (row_over found n test) ≡ 0 = over_length found n test ∙ cond-false (eqb found n) n 0 (ne_eqb found n other) in absurd (omega arith)
]

-- it stands as the test tells
pub over_at : (found n : ℕ) (test : ℕ → Bool) (s : ℕ) → s < length (row_over found n test) → get_or (row_over found n test) s false ≡ test s
over_at found n test s h =
    let p = over_within found n test s h in
    ap (λ row. get_or row s false) (cond-true (eqb found n) _ _ (eq-eqb found n p.0)) ∙ get_or-map-range_with_len test 0 n s s false p.1 (omega arith)

-- and has one slot written where the test tells the same of every other slot
pub over_set : (found found' n : ℕ) (f g : ℕ → Bool) (s : ℕ) (b : Bool) → found ≡ n → found' ≡ n → (s < n → g s ≡ b)
    → ((i : ℕ) → i < n → (i ≡ s → ⊥) → g i ≡ f i) → row_over found' n g ≡ set (row_over found n f) s b
over_set found found' n f g s b same same' here others =
    cond-true (eqb found' n) _ _ (eq-eqb found' n same') ∙ set_counted f g n s b here others
    ∙ ap (λ row. set row s b) (sym (cond-true (eqb found n) _ _ (eq-eqb found n same)))
