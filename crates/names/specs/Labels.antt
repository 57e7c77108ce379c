-- Labels that are the same but for the case of letters. Assumes nothing.
use Rattle.std.specs.Prelude.{◌≡◌, ℕ, ◌+◌, ◌<◌, ◌≤◌, true, false, List, [], ◌∷◌, ◌++◌, map, length, take, ◌≢◌, slice_index}
use Rattle.std.specs.Bool.{Decides}
use Rattle.std.proofs.Common.{inl, inr, sym, ap, ◌∙◌}
use Rattle.std.proofs.lemmas.Slice.Eq.{bytes_eq-Decides}
use Rattle.std.proofs.lemmas.List.{map_more, take_all, get_or-map}
use Rattle.std.proofs.lemmas.Bool.{cases_Bool}
use Rattle.names.specs.Keys.{alike_by}
use Rattle.names.specs.Names.{Alike, folded, same_label}

-- labels are the same exactly where their folded bytes are equal
pub label_decides : (a b : List ℕ) → Decides (same_label a b) (map folded a ≡ map folded b)
label_decides a b = bytes_eq-Decides (map folded a) (map folded b)

-- to be the same label is reflexive, symmetric and transitive
pub labels_alike : {N : Type 0} (bytes : N → List ℕ) → Alike (λ a b. same_label (bytes a) (bytes b))
labels_alike bytes = alike_by (λ name. map folded (bytes name)) _ (λ a b. label_decides (bytes a) (bytes b))

-- a byte more is the same
pub label_more : (a b : List ℕ) (i : ℕ) → i < length a → i < length b → map folded (take i a) ≡ map folded (take i b) → folded (slice_index a i) ≡ folded (slice_index b i)
    → map folded (take (i + 1) a) ≡ map folded (take (i + 1) b)
label_more a b i ha hb e f = map_more folded a i 0 ha ∙ (ap (λ xs. xs ++ folded (slice_index a i) ∷ []) e ∙ (ap (λ x. map folded (take i b) ++ x ∷ []) f ∙ sym (map_more folded b i 0 hb)))

-- labels whose bytes were all the same are the same
pub label_all : (a b : List ℕ) (i : ℕ) → length a ≤ i → length b ≤ i → map folded (take i a) ≡ map folded (take i b) → same_label a b ≡ true
label_all a b i ha hb e = (label_decides a b).1 (ap (map folded) (sym (take_all i a ha)) ∙ (e ∙ ap (map folded) (take_all i b hb)))

-- labels that differ at a place are not the same
pub label_apart : (a b : List ℕ) (i : ℕ) → i < length a → i < length b → (folded (slice_index a i) ≢ folded (slice_index b i)) → same_label a b ≡ false
label_apart a b i ha hb apart =
    elim (cases_Bool (same_label a b)) [
      | inl e ↦ absurd (apart (sym (get_or-map folded a i 0 0 ha) ∙ (ap (λ xs. slice_index xs i) ((label_decides a b).0 e) ∙ get_or-map folded b i 0 0 hb)))
      | inr e ↦ e
    ]
