-- The slots of a frame: one written, and all made by a test. Assumes nothing.
use Rattle.std.proofs.Common.{◌≡◌, ℕ, zero, suc, ◌+◌, ◌-◌, ◌*◌, ◌/◌, ◌%◌, ◌^◌, ◌<◌, ◌≤◌, Bool, true, false, cond, eqb, ltb, ◌⊎◌, List, length, get_or, Ok, Err, Result, sym, refl, ap, ◌∙◌, inl, inr, add-zero, add_assoc, mod-lt, pow-suc, arith, pow_pos, pow-add, shr-shr, shr_lt}
use lib.Arith.{digits_lt}
use lib.Pow.{high, low, field, mod-mod-pow}
use Rattle.std.proofs.lemmas.Bool.{cases_eq, cases_lt, cond-true, cond-false, eqb-true, lt-ltb, le-ltb}
use Rattle.std.proofs.lemmas.List.{length-set, get_or-set_same, get_or-set_other, set_past, get_or_past}
use Rattle.std.proofs.lemmas.List.FromFn.{length-map-range_with_len, get_or-map-range_with_len, fill_by_all}
use Rattle.faults.specs.declared.fault.Fault.{Fault}
use Rattle.frames.specs.Counting.{count}
use Rattle.frames.specs.Frames.{bit_set, stands, with_bit, with_slot, byte_of, framed, slot_answer}
use Rattle.frames.proofs.Bytes.{slot_at}
use Rattle.frames.proofs.Counting.{count_full, cond_le}

-- numbers that agree from a bit on have that bit and every later one in common
bits_above : (x y i j : ℕ) → x / 2 ^ i ≡ y / 2 ^ i → i ≤ j → bit_set x j ≡ bit_set y j
bits_above x y i j e h =
    let at : i + (j - i) ≡ j = omega arith in
    ap (λ z. eqb (z % 2) 1) (rw at at (sym (shr-shr x i (j - i)) ∙ ap (λ z. z / 2 ^ (j - i)) e ∙ shr-shr y i (j - i)))

-- numbers that agree below a bit have every earlier bit in common
bits_below : (x y i j : ℕ) → x % 2 ^ i ≡ y % 2 ^ i → j < i → bit_set x j ≡ bit_set y j
bits_below x y i j e h =
    let at : (i - suc j) + (1 + j) ≡ i = omega arith in
    let short = mod-mod-pow x (i - suc j) (1 + j) in
    let other = mod-mod-pow y (i - suc j) (1 + j) in
    let same : x % 2 ^ (1 + j) ≡ y % 2 ^ (1 + j) = sym short ∙ ap (λ z. z % 2 ^ (1 + j)) (rw at e) ∙ other in
    ap (λ z. eqb z 1) (sym (field x 1 j) ∙ ap (λ z. z / 2 ^ j) same ∙ field y 1 j)

-- the bit and what lies below it stay below the next bit
low_part : (x i : ℕ) (b : Bool) → cond b (2 ^ i) 0 + x % 2 ^ i < 2 ^ suc i
low_part x i true = omega (arith, pow-suc 2 i, mod-lt x (pow_pos i))
low_part x i false = omega (arith, pow-suc 2 i, mod-lt x (pow_pos i))

-- what lies above the bit is kept
with_bit_high : (x i : ℕ) (b : Bool) → with_bit x i b / 2 ^ suc i ≡ x / 2 ^ suc i
with_bit_high x i b = rw add_assoc (high (x / 2 ^ suc i) (suc i) (low_part x i b))

-- the bit and what lies above it, as one number
with_bit_split : (x i : ℕ) (b : Bool) → with_bit x i b ≡ (x / 2 ^ suc i * 2 + cond b 1 0) * 2 ^ i + x % 2 ^ i
with_bit_split x i true = rw (pow-suc 2 i) (omega arith)
with_bit_split x i false = rw (pow-suc 2 i) (omega arith)

-- what lies below the bit is kept
with_bit_low : (x i : ℕ) (b : Bool) → with_bit x i b % 2 ^ i ≡ x % 2 ^ i
with_bit_low x i b = rw (with_bit_split x i b) (low (x / 2 ^ suc i * 2 + cond b 1 0) i (mod-lt x (pow_pos i)))

-- a bit reads as it was written
pub with_bit_same : (x i : ℕ) (b : Bool) → bit_set (with_bit x i b) i ≡ b
with_bit_same x i b =
    ap (λ z. eqb (z / 2 ^ i % 2) 1) (with_bit_split x i b)
    ∙ ap (λ z. eqb (z % 2) 1) (high (x / 2 ^ suc i * 2 + cond b 1 0) i (mod-lt x (pow_pos i)))
    ∙ last b (x / 2 ^ suc i)
  where
    last : (b : Bool) (h : ℕ) → eqb ((h * 2 + cond b 1 0) % 2) 1 ≡ b
    last true h = ap (λ z. eqb z 1) (low h 1 (omega arith))
    last false h = ap (λ z. eqb z 1) (low h 1 (omega arith))

-- the other bits stay as they were
pub with_bit_other : (x i j : ℕ) (b : Bool) → (j ≡ i → ⊥) → bit_set (with_bit x i b) j ≡ bit_set x j
with_bit_other x i j b d = elim (cases_lt i j) [
  | inl above ↦ bits_above (with_bit x i b) x (suc i) j (with_bit_high x i b) above
  | inr below ↦ bits_below (with_bit x i b) x i j (with_bit_low x i b) (omega arith)
]

-- a byte stays a byte
pub with_bit_below : (x i : ℕ) (b : Bool) → x < 256 → i < 8 → with_bit x i b < 256
with_bit_below x i b hx hi =
    let at : (7 - i) + suc i ≡ 8 = omega arith in
    let top : x / 2 ^ suc i < 2 ^ (7 - i) = shr_lt (7 - i) (suc i) (rw at hx) in
    let all : 2 ^ (7 - i) * 2 ^ suc i ≡ 256 = sym (pow-add 2 (7 - i) (suc i)) ∙ ap (λ k. 2 ^ k) at in
    rw add_assoc (rw all at (digits_lt top (low_part x i b)))

-- a frame keeps its length
pub length_with_slot : (frame : List ℕ) (s : ℕ) (b : Bool) → length (with_slot frame s b) ≡ length frame
length_with_slot frame s b = length-set frame (s / 8) _

-- a slot reads as it was written
pub stands_same : (frame : List ℕ) (s : ℕ) (b : Bool) → s < 8 * length frame → stands (with_slot frame s b) s ≡ b
stands_same frame s b h =
    ap (λ x. bit_set x (7 - s % 8)) (get_or-set_same frame (s / 8) (with_bit (get_or frame (s / 8) 0) (7 - s % 8) b) 0 (omega arith))
    ∙ with_bit_same (get_or frame (s / 8) 0) (7 - s % 8) b

-- only the byte of the slot is written
byte_with_slot : (frame : List ℕ) (s i : ℕ) (b : Bool)
    → ((i ≡ s / 8) × (get_or (with_slot frame s b) i 0 ≡ with_bit (get_or frame i 0) (7 - s % 8) b)) ⊎ (get_or (with_slot frame s b) i 0 ≡ get_or frame i 0)
byte_with_slot frame s i b =
    let new = with_bit (get_or frame (s / 8) 0) (7 - s % 8) b in
    elim (cases_eq i (s / 8)) [
      | inl e ↦ elim (cases_lt i (length frame)) [
        | inl h ↦ inl (e, rw e (get_or-set_same frame (s / 8) new 0 (omega arith)))
        | inr h ↦ inr (ap (λ xs. get_or xs i 0) (set_past frame (s / 8) new (omega arith)))
      ]
      | inr d ↦ inr (get_or-set_other frame (s / 8) i new 0 d)
    ]

-- the other slots stay as they were
pub stands_other : (frame : List ℕ) (s t : ℕ) (b : Bool) → (t ≡ s → ⊥) → stands (with_slot frame s b) t ≡ stands frame t
stands_other frame s t b d = elim (byte_with_slot frame s (t / 8) b) [
  | inl p ↦ ap (λ x. bit_set x (7 - t % 8)) p.1
      ∙ with_bit_other (get_or frame (t / 8) 0) (7 - s % 8) (7 - t % 8) b (λ e. d (omega (arith, p.0)))
  | inr e ↦ ap (λ x. bit_set x (7 - t % 8)) e
]

-- a frame of bytes stays a frame of bytes
pub bytes_with_slot : (frame : List ℕ) (s : ℕ) (b : Bool) → ((i : ℕ) → get_or frame i 0 < 256) → (i : ℕ) → get_or (with_slot frame s b) i 0 < 256
bytes_with_slot frame s b bytes i = elim (byte_with_slot frame s i b) [
  | inl p ↦ rw p.1 (with_bit_below (get_or frame i 0) (7 - s % 8) b (bytes i) (omega arith))
  | inr e ↦ rw e (bytes i)
]

-- whether a number is the sum of its eight low bits
sum_test : ℕ → Bool
sum_test x = eqb (byte_of (λ k. bit_set x (7 - k)) 0) x

-- every byte is the sum of its bits
every_sum : count sum_test 256 ≡ 256
unfolding count sum_test
every_sum = refl

-- a byte whose bits are what a test tells is the byte that the test makes
byte_from_bits : (test : ℕ → Bool) (j x : ℕ) → x < 256 → ((k : ℕ) → k < 8 → bit_set x (7 - k) ≡ test (8 * j + k)) → x ≡ byte_of test j
unfolding sum_test
byte_from_bits test j x hx h =
    let p0 : bit_set x 7 ≡ test (8 * j) = rw add-zero at (h 0 (omega arith)) in
    let p1 = h 1 (omega arith) in
    let p2 = h 2 (omega arith) in
    let p3 = h 3 (omega arith) in
    let p4 = h 4 (omega arith) in
    let p5 = h 5 (omega arith) in
    let p6 = h 6 (omega arith) in
    let p7 = h 7 (omega arith) in
    sym (eqb-true _ x (count_full sum_test 256 every_sum x hx)) ∙ rw (p0, p1, p2, p3, p4, p5, p6, p7)

-- there is a byte whose first so many bits, from the highest, are what a test tells
byte_with_bits : (f : ℕ → Bool) (n : ℕ) → n ≤ 8 → (x : ℕ) × (x < 256) × ((k : ℕ) → k < n → bit_set x (7 - k) ≡ f k)
byte_with_bits f zero h = (0, omega arith, λ k b. absurd (omega arith))
byte_with_bits f (suc n) h =
    let r = byte_with_bits f n (omega arith) in (
      with_bit r.0 (7 - n) (f n),
      with_bit_below r.0 (7 - n) (f n) r.1 (omega arith),
      λ k b. elim (cases_eq k n) [
        | inl e ↦ rw e (with_bit_same r.0 (7 - n) (f n))
        | inr d ↦ with_bit_other r.0 (7 - n) (7 - k) (f n) (λ e. d (omega arith)) ∙ r.2 k (omega arith)
      ],
    )

-- the bits of the byte that a test makes
bit_of_byte : (test : ℕ → Bool) (j k : ℕ) → k < 8 → bit_set (byte_of test j) (7 - k) ≡ test (8 * j + k)
bit_of_byte test j k h =
    let r = byte_with_bits (λ i. test (8 * j + i)) 8 (omega arith) in
    ap (λ x. bit_set x (7 - k)) (sym (byte_from_bits test j r.0 r.1 r.2)) ∙ r.2 k h

-- the slots after a test has told the first so many
abbrev told : (ℕ → Bool) → ℕ → List ℕ → ℕ → Bool
told test slots old s = cond (ltb s slots) (test s) (stands old s)

-- a frame of bytes is known by its slots: the first so many as a test tells, and the others as they were
pub framed_from : (test : ℕ → Bool) (slots : ℕ) (old new : List ℕ) → length new ≡ length old → ((i : ℕ) → get_or new i 0 < 256)
    → ((s : ℕ) → s < slots → stands new s ≡ test s) → ((s : ℕ) → slots ≤ s → stands new s ≡ stands old s) → new ≡ framed test slots old
framed_from test slots old new len bytes first rest =
    fill_by_all (byte_of (told test slots old)) new (length old) 0 len
    (λ j h. byte_from_bits (told test slots old) j (get_or new j 0) (bytes j) (λ k b. sym (slot_at new j k b) ∙ slot (8 * j + k)))
  where
    slot : (s : ℕ) → stands new s ≡ told test slots old s
    slot s = elim (cases_lt s slots) [
      | inl h ↦ first s h ∙ sym (cond-true _ _ _ (lt-ltb s slots h))
      | inr h ↦ rest s h ∙ sym (cond-false _ _ _ (le-ltb s slots h))
    ]

-- a slot of the bytes of a frame that a test makes
framed_slot : (test : ℕ → Bool) (slots : ℕ) (old : List ℕ) (s : ℕ) → s < 8 * length old → stands (framed test slots old) s ≡ told test slots old s
framed_slot test slots old s h =
    let whole : 8 * (s / 8) + s % 8 ≡ s = omega arith in
    ap (λ x. bit_set x (7 - s % 8)) (get_or-map-range_with_len (byte_of (told test slots old)) 0 (length old) (s / 8) (s / 8) 0 (omega arith) (omega arith))
    ∙ bit_of_byte (told test slots old) (s / 8) (s % 8) (omega arith) ∙ ap (told test slots old) whole

-- the first slots of a frame that a test makes are as the test tells
pub framed_stands : (test : ℕ → Bool) (slots : ℕ) (old : List ℕ) (s : ℕ) → s < 8 * length old → s < slots → stands (framed test slots old) s ≡ test s
framed_stands test slots old s h l = framed_slot test slots old s h ∙ cond-true _ _ _ (lt-ltb s slots l)

-- a frame that a test makes is as long as the frame that it was
pub length_framed : (test : ℕ → Bool) (slots : ℕ) (old : List ℕ) → length (framed test slots old) ≡ length old
length_framed test slots old = length-map-range_with_len (byte_of (told test slots old)) 0 (length old)

-- the other slots of a frame that a test makes are as they were
pub framed_spare : (test : ℕ → Bool) (slots : ℕ) (old : List ℕ) (s : ℕ) → slots ≤ s → stands (framed test slots old) s ≡ stands old s
framed_spare test slots old s l = elim (cases_lt s (8 * length old)) [
  | inl h ↦ framed_slot test slots old s h ∙ cond-false _ _ _ (le-ltb s slots l)
  | inr h ↦ ap (λ x. bit_set x (7 - s % 8))
      (get_or_past (framed test slots old) (s / 8) 0 (omega (arith, length_framed test slots old)) ∙ sym (get_or_past old (s / 8) 0 (omega arith)))
]

-- eight bits make a byte
byte_of_below : (test : ℕ → Bool) (j : ℕ) → byte_of test j < 256
byte_of_below test j =
    omega (
      arith,
      cond_le (test (8 * j)) 128,
      cond_le (test (8 * j + 1)) 64,
      cond_le (test (8 * j + 2)) 32,
      cond_le (test (8 * j + 3)) 16,
      cond_le (test (8 * j + 4)) 8,
      cond_le (test (8 * j + 5)) 4,
      cond_le (test (8 * j + 6)) 2,
      cond_le (test (8 * j + 7)) 1,
    )

-- a frame is made of bytes
pub framed_bytes : (test : ℕ → Bool) (slots : ℕ) (old : List ℕ) (i : ℕ) → get_or (framed test slots old) i 0 < 256
framed_bytes test slots old i =
    let told_byte = byte_of (λ s. cond (ltb s slots) (test s) (stands old s)) in
    elim (cases_lt i (length old)) [
      | inl within ↦ rw (get_or-map-range_with_len told_byte 0 (length old) i i 0 within (omega arith)) (byte_of_below (λ s. cond (ltb s slots) (test s) (stands old s)) i)
      | inr past ↦ let size = length_framed test slots old in rw (get_or_past (framed test slots old) i 0 (omega arith)) (omega arith)
    ]

-- no slot is told yet
pub framed_none : (test : ℕ → Bool) (old : List ℕ) → ((i : ℕ) → get_or old i 0 < 256) → old ≡ framed test 0 old
framed_none test old bytes = framed_from test 0 old old refl bytes (λ s h. absurd (omega arith)) (λ s h. refl)

-- one more slot is told
pub framed_more : (test : ℕ → Bool) (slots : ℕ) (old : List ℕ) → slots < 8 * length old
    → with_slot (framed test slots old) slots (test slots) ≡ framed test (slots + 1) old
framed_more test slots old within =
    let before = framed test slots old in
    let size = length_framed test slots old in
    framed_from test (slots + 1) old (with_slot before slots (test slots)) (length_with_slot before slots (test slots) ∙ size)
    (bytes_with_slot before slots (test slots) (framed_bytes test slots old))
    (λ s h. elim (cases_eq s slots) [
      | inl same ↦ rw same (stands_same before slots (test slots) (omega (arith, size)))
      | inr other ↦ stands_other before slots s (test slots) other ∙ framed_stands test slots old s (omega arith) (omega arith)
    ])
    (λ s h. stands_other before slots s (test slots) (omega arith) ∙ framed_spare test slots old s (omega arith))

-- telling slots that are told already changes nothing
pub framed_again : (test : ℕ → Bool) (less slots : ℕ) (old : List ℕ) → less ≤ slots → slots ≤ 8 * length old
    → framed test slots (framed test less old) ≡ framed test slots old
framed_again test less slots old more within =
    let before = framed test less old in
    let size = length_framed test less old in
    let size' = length_framed test slots before in
    framed_from test slots old (framed test slots before) (size' ∙ size) (framed_bytes test slots before)
    (λ s h. framed_stands test slots before s (omega (arith, size)) h)
    (λ s h. framed_spare test slots before s h ∙ framed_spare test less old s (omega arith))

-- a slot of the row is not refused
pub slot_accepts : {A : Type 0} (slots s : ℕ) (a : A) (d : Fault) → s < slots → ◌≡◌ {A = Result A Fault} (Err d) (slot_answer slots s a) → ⊥
slot_accepts {A} slots s a d within e =
    let accepted : ◌≡◌ {A = Result A Fault} (Err d) (Ok a) = e ∙ cond-true (ltb s slots) _ _ (lt-ltb s slots within) in
    cc
