-- Drawing a word into a frame, slot by slot. Assumes nothing.
use Rattle.std.proofs.Common.{◌≡◌, ℕ, ◌+◌, ◌*◌, ◌<◌, ◌≤◌, Bool, eqb, List, length, Ok, Result, sym, ap, ◌∙◌, ap₂, add-zero, add-mul, one-mul, arith}
use Rattle.std.proofs.lemmas.Nat.{mul-add-lt, div-mul-add, mod-mul-add, mul-le}
use Rattle.faults.specs.declared.fault.Fault.{Fault}
use Rattle.fields.specs.Lawful.{Tables}
use Rattle.frames.specs.Frames.{bytes_for, with_slot, framed}
use Rattle.frames.proofs.Slots.{framed_more, framed_again}
use Rattle.words.specs.Words.{symbol, in_word}

-- whether a word has the slot of a symbol at a place
pub in_word_at : (f : Tables) (k number place y : ℕ) → y < f.order → in_word f k number (place * f.order + y) ≡ eqb (symbol f k number place) y
in_word_at f k number place y below =
    ap₂ (λ i s. eqb (symbol f k number i) s) (div-mul-add place f.order y below) (mod-mul-add place f.order y below)

-- a slot of a row of n places lies within the bytes of its frame
pub slot_within : (n q place y : ℕ) (frame : List ℕ) → length frame ≡ bytes_for (n * q) → place < n → y < q → place * q + y < 8 * length frame
slot_within n q place y frame size hp hy = omega (arith, size, mul-add-lt place q y n hp hy)

-- so do the slots of a whole place
pub place_within : (n q place : ℕ) (frame : List ℕ) → length frame ≡ bytes_for (n * q) → place < n → place * q + q ≤ 8 * length frame
place_within n q place frame size hp =
    omega (arith, size, mul-le (place + 1) q n q (omega arith) (omega arith), add-mul place 1 q, one-mul q)

-- a place is begun
pub drawn_start : (test : ℕ → Bool) (q place : ℕ) (old before : List ℕ) → place * q ≤ 8 * length old
    → before ≡ framed test (place * q) old → before ≡ framed test (place * q + 0) before
drawn_start test q place old before within e =
    let m = place * q in
    e ∙ sym (framed_again test m m old (omega arith) within) ∙ ap (framed test m) (sym e) ∙ ap (λ k. framed test k before) (sym (add-zero m))

-- one slot more of a place is drawn
pub drawn_more : (f : Tables) (k number place q y v : ℕ) (old frame : List ℕ) → f.order ≡ q → ◌≡◌ {A = Result ℕ Fault} (Ok v) (Ok (symbol f k number place)) → y < q
    → place * q + y < 8 * length old → frame ≡ framed (in_word f k number) (place * q + y) old
    → with_slot frame (place * q + y) (eqb v y) ≡ framed (in_word f k number) (place * q + (y + 1)) old
drawn_more f k number place q y v old frame order ev below within e =
    let s = place * q + y in
    let same : v ≡ symbol f k number place = cc in
    let known : in_word f k number s ≡ eqb (symbol f k number place) y = ap (λ w. in_word f k number (place * w + y)) (sym order) ∙ in_word_at f k number place y (omega (arith, order)) in
    let told : eqb v y ≡ in_word f k number s = ap (λ w. eqb w y) same ∙ sym known in
    let next : s + 1 ≡ place * q + (y + 1) = omega arith in
    ap (with_slot frame s) told ∙ ap (λ x. with_slot x s (in_word f k number s)) e
    ∙ framed_more (in_word f k number) s old within ∙ ap (λ m. framed (in_word f k number) m old) next

-- one place more is drawn
pub drawn_place : (test : ℕ → Bool) (q place : ℕ) (old before frame : List ℕ) → place * q + q ≤ 8 * length old
    → before ≡ framed test (place * q) old → frame ≡ framed test (place * q + q) before → frame ≡ framed test ((place + 1) * q) old
drawn_place test q place old before frame within eb ef =
    let next : place * q + q ≡ (place + 1) * q = omega (arith, add-mul place 1 q, one-mul q) in
    ef ∙ ap (framed test (place * q + q)) eb ∙ framed_again test (place * q) (place * q + q) old (omega arith) within ∙ ap (λ m. framed test m old) next
