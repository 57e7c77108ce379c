-- The words of two different numbers share fewer than k slots.
use Rattle.std.proofs.Common.{◌≡◌, ℕ, ◌*◌, ◌<◌, ◌≤◌, true, ◌&&◌, eqb, sym, refl, ◌∙◌, inl, inr, arith}
use Rattle.std.proofs.lemmas.Bool.{and_parts, eqb-true, eq-eqb}
use Rattle.fields.specs.Lawful.{Tables, Lawful}
use Rattle.fields.proofs.Algebra.{zero_is_an_element}
use Rattle.frames.specs.Counting.{count}
use Rattle.frames.proofs.Counting.{count_exactly_once, count_rows_once, count_rows_exactly_once}
use Rattle.words.specs.Words.{digit, symbol, in_word, shared, WordsShareFewerThanKSlots}
use Rattle.words.proofs.Digits.{digit_below, digits_same}
use Rattle.words.proofs.Values.{value_below, values_agree_at_few}

-- two words share at most one slot of a place, and that only where their symbols are equal
pub shared_le : (f : Tables) (n k a b : ℕ) → shared f n k a b ≤ count (λ i. eqb (symbol f k a i) (symbol f k b i)) n
shared_le f n k a b =
    count_rows_once (λ i s. eqb (symbol f k a i) s && eqb (symbol f k b i) s) (λ i. eqb (symbol f k a i) (symbol f k b i)) n f.order
    (λ i s t bi bs bt hs ht. sym (first i s hs) ∙ first i t ht)
    (λ i s bi bs hs. eq-eqb (symbol f k a i) (symbol f k b i) (first i s hs ∙ sym (second i s hs)))
  where
    first : (i s : ℕ) → (eqb (symbol f k a i) s && eqb (symbol f k b i) s) ≡ true → symbol f k a i ≡ s
    first i s h = eqb-true (symbol f k a i) s (and_parts (eqb (symbol f k a i) s) (eqb (symbol f k b i) s) h).0

    second : (i s : ℕ) → (eqb (symbol f k a i) s && eqb (symbol f k b i) s) ≡ true → symbol f k b i ≡ s
    second i s h = eqb-true (symbol f k b i) s (and_parts (eqb (symbol f k a i) s) (eqb (symbol f k b i) s) h).1

-- the word of a number has one slot for each of its places
pub word_size : (f : Tables) → Lawful f → (n k a : ℕ) → n ≤ f.order → count (in_word f k a) (n * f.order) ≡ n
word_size f l n k a hn =
    count_rows_exactly_once (λ i s. eqb (symbol f k a i) s) n f.order
    (λ i b. count_exactly_once (eqb (symbol f k a i)) f.order (symbol f k a i)
    (value_below f l (digit f.order a) k i (λ j _. digit_below f.order a j (zero_is_an_element f l)) (omega arith))
    (eq-eqb (symbol f k a i) (symbol f k a i) refl)
    (λ s _ t. sym (eqb-true (symbol f k a i) s t)))

-- over every lawful field, the words of two different numbers share at most k - 1 slots
pub words_share : WordsShareFewerThanKSlots
words_share f l n k a b hn ha hb differ =
    elim (values_agree_at_few f l (digit f.order a) (digit f.order b) k n hn (λ j _. digit_below f.order a j pos) (λ j _. digit_below f.order b j pos)) [
      | inl same ↦ absurd (differ (digits_same f.order a b k pos ha hb same))
      | inr few ↦ omega (arith, shared_le f n k a b)
    ]
  where
    pos : 0 < f.order
    pos = zero_is_an_element f l
