-- The slots of a word: those that a test passes, and those that a set's joined words have. Assumes nothing.
use Rattle.std.proofs.Common.{◌≡◌, ℕ, ◌+◌, ◌-◌, ◌*◌, ◌/◌, ◌%◌, ◌^◌, ◌<◌, ◌≤◌, Bool, true, false, cond, ◌&&◌, ◌||◌, eqb, List, [], ◌∷◌, length, sym, refl, ap, ◌∙◌, inl, inr, suc-mul, div-add-mod', arith}
use Rattle.std.specs.List.{AllByRecursion}
use Rattle.std.proofs.lemmas.Bool.{and_parts, and_from, and_right, or_cases, or_parts, or_left, or_right, eqb-true, eqb-false, eq-eqb}
use Rattle.fields.specs.Lawful.{Tables, Lawful}
use Rattle.frames.specs.Counting.{count}
use Rattle.frames.proofs.Counting.{total_same, count_total, count_same, count_mono, count_none, count_exactly_once, count_either, count_rows}
use Rattle.words.specs.Words.{symbol, slot_at, in_word}
use Rattle.words.proofs.Addressing.{symbol_below}
use Rattle.words.proofs.Shared.{words_share}
use Rattle.reader.specs.Distances.{joined}
use Rattle.reader.proofs.Sets.{member}

-- where a test passes, one of two others does: it has at most the sum of their counts
pub count_covered : (f g h : ℕ → Bool) (n : ℕ) → ((i : ℕ) → i < n → f i ≡ true → (g i || h i) ≡ true) → count f n ≤ count g n + count h n
count_covered f g h n c = omega (arith, count_mono f (λ i. g i || h i) n c, count_either g h n)

-- a slot of a member's word is a slot of the joined words
pub joined_has : (f : Tables) (k : ℕ) (xs : List ℕ) (x slot : ℕ) → member xs x ≡ true → in_word f k x slot ≡ true → joined f k xs slot ≡ true
unfolding joined
joined_has f k [] x slot m w = m
joined_has f k (y ∷ ys) x slot m w =
    elim (or_cases (eqb x y) (member ys x) m) [
      | inl e ↦ or_left (in_word f k y slot) (joined f k ys slot) (ap (λ z. in_word f k z slot) (sym (eqb-true x y e)) ∙ w)
      | inr later ↦ or_right (in_word f k y slot) (joined f k ys slot) (joined_has f k ys x slot later w)
    ]

-- the word of a number outside a set shares at most k - 1 slots with each of the set's words
pub overlap : (f : Tables) → Lawful f → (n k x : ℕ) (ys : List ℕ) → n ≤ f.order → x < f.order ^ k → AllByRecursion (λ y. y < f.order ^ k) ys → member ys x ≡ false
    → count (λ slot. in_word f k x slot && joined f k ys slot) (n * f.order) ≤ length ys * (k - 1)
unfolding joined
overlap f l n k x [] hn hx all out =
    omega (arith, count_none (λ slot. in_word f k x slot && false) (n * f.order) (λ i _. and_right (in_word f k x i) false refl))
overlap f l n k x (y ∷ ys) hn hx all out =
    let outs = or_parts (eqb x y) (member ys x) out in
    omega (
      arith,
      suc-mul (length ys) (k - 1),
      overlap f l n k x ys hn hx all.1 outs.1,
      words_share f l n k x y hn hx all.0 (eqb-false x y outs.0),
      count_covered (λ slot. in_word f k x slot && (in_word f k y slot || joined f k ys slot)) (λ slot. in_word f k x slot && in_word f k y slot) (λ slot. in_word f k x slot && joined f k ys slot)
          (n * f.order) (λ i _. spread (in_word f k x i) (in_word f k y i) (joined f k ys i)),
    )
  where
    spread : (a b c : Bool) → (a && (b || c)) ≡ true → ((a && b) || (a && c)) ≡ true
    spread true true c h = refl
    spread true false c h = h
    spread false b c h = h

-- a word's slots that pass a test, counted by its places, are as many as counted over all slots
pub slots_by_places : (f : Tables) → Lawful f → (n k x : ℕ) (test : ℕ → Bool) → n ≤ f.order
    → count (λ place. test (slot_at f k x place)) n ≡ count (λ slot. in_word f k x slot && test slot) (n * f.order)
slots_by_places f l n k x test hn =
    count_total (λ place. test (slot_at f k x place)) n
    ∙ (total_same (λ i. cond (test (slot_at f k x i)) 1 0) (λ i. count (at i) f.order) n (λ i b. row i b (test (slot_at f k x i)) refl)
    ∙ (sym (count_rows at n f.order)
    ∙ count_same (λ s. at (s / f.order) (s % f.order)) (λ slot. in_word f k x slot && test slot) (n * f.order) (λ s _. ap (λ t. in_word f k x s && test t) (div-add-mod' s f.order))))
  where
    at : ℕ → ℕ → Bool
    at i s = eqb (symbol f k x i) s && test (i * f.order + s)

    row : (i : ℕ) → i < n → (b : Bool) → test (slot_at f k x i) ≡ b → cond (test (slot_at f k x i)) 1 0 ≡ count (at i) f.order
    row i b true t =
        ap (λ c. cond c 1 0) t
        ∙ sym (count_exactly_once (at i) f.order (symbol f k x i) (symbol_below f l k x i (omega arith))
        (and_from (eqb (symbol f k x i) (symbol f k x i)) (test (slot_at f k x i)) (eq-eqb (symbol f k x i) (symbol f k x i) refl) t)
        (λ s _ h. sym (eqb-true (symbol f k x i) s (and_parts (eqb (symbol f k x i) s) (test (i * f.order + s)) h).0)))
    row i b false t =
        ap (λ c. cond c 1 0) t
        ∙ sym (count_none (at i) f.order (λ s _. none s (eqb (symbol f k x i) s) refl))
      where
        none : (s : ℕ) (c : Bool) → eqb (symbol f k x i) s ≡ c → (c && test (i * f.order + s)) ≡ false
        none s true e = ap (λ y. test (i * f.order + y)) (sym (eqb-true (symbol f k x i) s e)) ∙ t
        none s false e = refl
