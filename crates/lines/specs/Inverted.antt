-- Inverted lines. Assumes nothing.
use Rattle.std.specs.Prelude.{Bool, not, List, map}
use Rattle.std.proofs.Common.{sym, ◌∙◌}
use Rattle.std.proofs.lemmas.List.{length-map}
use Rattle.lines.specs.Lines.{Laws}

-- the row of an inverted line: a slot stands where the slot below is clear
abbrev pub inverted_row : List Bool → List Bool
inverted_row below = map not below

-- an inverted line keeps the laws
pub inverted_laws : {S L : Type 0} {row : L → List Bool} {kept : L → L → Type 0} (below : S → L) → Laws row kept
    → Laws (λ l. inverted_row (row (below l))) (λ l m. kept (below l) (below m))
inverted_laws {row} below laws = record {
  few = λ l. rw (length-map (row (below l)) not) (laws.few (below l));
  sized = λ l m k. length-map (row (below m)) not ∙ laws.sized (below l) (below m) k ∙ sym (length-map (row (below l)) not);
  same = λ l. laws.same (below l);
  onward = λ k l m p q. laws.onward (below k) (below l) (below m) p q;
}
