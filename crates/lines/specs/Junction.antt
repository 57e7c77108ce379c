-- Junctions of two lines. Assumes nothing.
use Rattle.std.specs.Prelude.{◌≡◌, ℕ, ◌<◌, Bool, false, cond, ◌||◌, List, length, ◌==◌, slice_index_or}
use Rattle.std.proofs.Common.{sym, ap₂, ◌∙◌}
use Rattle.lines.specs.Lines.{Laws, Written, row_over}
use Rattle.lines.specs.Over.{over_length, over_few}

-- the row of a junction: a slot stands when it stands on either line; lines of unequal counts make no slot
abbrev pub junction_row : List Bool → List Bool → List Bool
junction_row first second = row_over (length first) (length second) (λ i. slice_index_or first i false || slice_index_or second i false)

-- what a call that makes slot s stand or be clear does, where s is a slot of the row: the first line's is made so; where it
-- stands the second line is the same value as before, and where it is clear the second line's is made so too
abbrev pub JunctionWrote : {L N : Type 0} → (L → List Bool) → (L → ℕ → Bool → L → Type 0) → (N → List Bool) → (N → ℕ → Bool → N → Type 0)
    → L → N → ℕ → Bool → L → N → Type 0
JunctionWrote row wrote row' wrote' first second s b first' second' =
    s < length (junction_row (row first) (row' second))
    → Written row wrote first s b first' × cond b (second' ≡ second) (Written row' wrote' second s false second')

-- a junction keeps the laws
pub junction_laws : {S L N : Type 0} {row : L → List Bool} {kept : L → L → Type 0} {row' : N → List Bool} {kept' : N → N → Type 0}
    (first : S → L) (second : S → N) → Laws row kept → Laws row' kept'
    → Laws (λ l. junction_row (row (first l)) (row' (second l))) (λ l m. kept (first l) (first m) × kept' (second l) (second m))
junction_laws {row} {row'} first second laws laws' = record {
  few = λ l. over_few (length (row (first l))) (length (row' (second l))) _ (laws.few (first l));
  sized = λ l m k. over_length (length (row (first m))) (length (row' (second m))) _
      ∙ ap₂ (λ found n. cond (found == n) n 0) (laws.sized (first l) (first m) k.0) (laws'.sized (second l) (second m) k.1)
      ∙ sym (over_length (length (row (first l))) (length (row' (second l))) _);
  same = λ l. (laws.same (first l), laws'.same (second l));
  onward = λ k l m p q. (laws.onward (first k) (first l) (first m) p.0 q.0, laws'.onward (second k) (second l) (second m) p.1 q.1);
}
