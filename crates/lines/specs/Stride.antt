-- Stride lines: every slot of a line below, in steps. Assumes nothing.
use Rattle.std.specs.Prelude.{◌≡◌, ℕ, ◌+◌, ◌*◌, ◌%◌, ◌<◌, Bool, false, cond, ◌&&◌, List, length, ◌==◌, nat_lt, slice_index_or, refl}
use Rattle.std.proofs.Common.{sym, ap₂, ◌∙◌}
use Rattle.frames.specs.Counting.{count}
use Rattle.lines.specs.Lines.{Laws, Written, row_over}
use Rattle.lines.specs.Over.{over_length, over_few}

-- whether a number above 1 divides both a and n
abbrev pub divides_both : ℕ → ℕ → ℕ → Bool
divides_both a n d = nat_lt 1 d && (a % d == 0 && n % d == 0)

-- how many numbers above 1 divide both a and n; none of them is above a
abbrev pub shared_factors : ℕ → ℕ → ℕ
shared_factors a n = count (divides_both a n) (a + 1)

-- whether a stride steps through a line of n slots: it is from 1 to 4,095, and shares no factor above 1 with n
abbrev pub strides : ℕ → ℕ → Bool
strides a n = nat_lt 0 a && (nat_lt a 4096 && shared_factors a n == 0)

-- how many slots a stride line over a line of n slots has
abbrev pub stride_slots : ℕ → ℕ → ℕ
stride_slots a n = cond (strides a n) n 0

-- the slot below a slot of a stride line of n slots
abbrev pub stride_place : ℕ → ℕ → ℕ → ℕ
stride_place a n i = a * i % n

-- the row of a stride line of n slots: slot i is the slot below at a times i modulo n
abbrev pub stride_row : ℕ → ℕ → List Bool → List Bool
stride_row a n below = row_over (length below) n (λ i. slice_index_or below (stride_place a n i) false)

-- what a call that makes slot s stand or be clear does: the slot below, where s is a slot of the row, is made so
abbrev pub StrideWrote : {L : Type 0} → (L → List Bool) → (L → ℕ → Bool → L → Type 0) → ℕ → ℕ → L → ℕ → Bool → L → Type 0
StrideWrote row wrote a n was s b is = s < length (stride_row a n (row was)) → Written row wrote was (stride_place a n s) b is

-- a stride line keeps the laws, the stride and the count
pub stride_laws : {S L : Type 0} {row : L → List Bool} {kept : L → L → Type 0} (below : S → L) (stride slots : S → ℕ) → Laws row kept
    → Laws (λ l. stride_row (stride l) (slots l) (row (below l))) (λ l m. (stride m ≡ stride l) × (slots m ≡ slots l) × kept (below l) (below m))
stride_laws {row} below stride slots laws = record {
  few = λ l. over_few (length (row (below l))) (slots l) _ (laws.few (below l));
  sized = λ l m k. over_length (length (row (below m))) (slots m) _
      ∙ ap₂ (λ found n. cond (found == n) n 0) (laws.sized (below l) (below m) k.2) k.1
      ∙ sym (over_length (length (row (below l))) (slots l) _);
  same = λ l. (refl, refl, laws.same (below l));
  onward = λ k l m p q. (q.0 ∙ p.0, q.1 ∙ p.1, laws.onward (below k) (below l) (below m) p.2 q.2);
}
