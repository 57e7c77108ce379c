-- Bytes and their bits. Assumes nothing.
use Rattle.std.proofs.Common.{◌≡◌, ℕ, zero, suc, ◌+◌, ◌-◌, ◌*◌, ◌/◌, ◌%◌, ◌^◌, ◌<◌, ◌≤◌, Bool, true, false, cond, ◌&&◌, eqb, List, [], ◌∷◌, length, take, get_or, Fits, w8, sym, refl, ap, ◌∙◌, ap₂, mod-lt, add_comm, div-one, arith, shr-shr}
use Rattle.std.specs.List.{zip}
use Rattle.std.proofs.lemmas.List.Sums.{sum_by-cons}
use lib.Bits.{bit_and, bit_or, bit_xor, xor_shr, xor_mod, xor_lt}
use lib.Count.{ones, ones_step}
use Rattle.std.proofs.lemmas.Bool.{and_parts, eqb-true}
use Rattle.frames.specs.Counting.{count}
use Rattle.frames.specs.Frames.{bit_set, with_bit, stands, differ, frame_distance, bits_apart}
use Rattle.frames.proofs.Counting.{count_full, count_le, count_split, count_same}

-- the machine's way to set and to clear a bit of a byte
bit_test : ℕ → ℕ → Bool
bit_test byte i = eqb (bit_or byte ((1 * 2 ^ i) % 256)) (with_bit byte i true) && eqb (bit_and byte (255 - (1 * 2 ^ i) % 256)) (with_bit byte i false)

byte_test : ℕ → Bool
byte_test byte = eqb (count (bit_test byte) 8) 8

every_byte : count byte_test 256 ≡ 256
unfolding count byte_test bit_test
every_byte = refl

bit_tested : (byte i : ℕ) → byte < 256 → i < 8 → bit_test byte i ≡ true
unfolding byte_test
bit_tested byte i hb hi = count_full (bit_test byte) 8 (eqb-true _ 8 (count_full byte_test 256 every_byte byte hb)) i hi

-- setting a bit
pub bit_raised : (byte i : ℕ) → byte < 256 → i < 8 → bit_or byte ((1 * 2 ^ i) % 256) ≡ with_bit byte i true
unfolding bit_test
bit_raised byte i hb hi = eqb-true _ _ (and_parts _ _ (bit_tested byte i hb hi)).0

-- clearing a bit
pub bit_cleared : (byte i : ℕ) → byte < 256 → i < 8 → bit_and byte (255 - (1 * 2 ^ i) % 256) ≡ with_bit byte i false
unfolding bit_test
bit_cleared byte i hb hi = eqb-true _ _ (and_parts _ _ (bit_tested byte i hb hi)).1

-- the exclusive or of two bits is 1 where they differ
bits_differ : (a b : ℕ) → a < 2 → b < 2 → cond (differ (eqb a 1) (eqb b 1)) 1 0 ≡ bit_xor a b
bits_differ zero zero ha hb = refl
bits_differ zero (suc zero) ha hb = refl
bits_differ (suc zero) zero ha hb = refl
bits_differ (suc zero) (suc zero) ha hb = refl
bits_differ zero (suc (suc b)) ha hb = absurd (omega arith)
bits_differ (suc zero) (suc (suc b)) ha hb = absurd (omega arith)
bits_differ (suc (suc a)) b ha hb = absurd (omega arith)

-- a bit of an exclusive or
bit_differs : (x y i : ℕ) → cond (differ (bit_set x i) (bit_set y i)) 1 0 ≡ bit_xor x y / 2 ^ i % 2
bit_differs x y i =
    bits_differ (x / 2 ^ i % 2) (y / 2 ^ i % 2) (mod-lt (x / 2 ^ i) (omega arith)) (mod-lt (y / 2 ^ i) (omega arith))
    ∙ sym (ap (λ z. z % 2) (xor_shr x y i) ∙ xor_mod (x / 2 ^ i) (y / 2 ^ i) 1)

-- the upper bits in which two bytes differ are the set bits of their exclusive or
byte_distance : (x y r : ℕ) → x < 256 → y < 256 → r ≤ 8
    → count (λ t. differ (bit_set x (7 - t)) (bit_set y (7 - t))) r ≡ ones (bit_xor x y / 2 ^ (8 - r))
unfolding count ones
byte_distance x y zero hx hy hr =
    let none : bit_xor x y / 256 ≡ 0 = omega (arith, xor_lt 8 x y hx hy) in
    sym (ap ones none)
byte_distance x y (suc r) hx hy hr =
    let z = bit_xor x y in
    let next : 8 - suc r ≡ 7 - r = omega arith in
    let up : (7 - r) + 1 ≡ 8 - r = omega arith in
    ap₂ ◌+◌ (byte_distance x y r hx hy (omega arith)) (bit_differs x y (7 - r))
    ∙ add_comm _ _
    ∙ sym (ap (λ e. ones (z / 2 ^ e)) next ∙ ones_step (z / 2 ^ (7 - r))
    ∙ ap (λ w. z / 2 ^ (7 - r) % 2 + ones w) (shr-shr z (7 - r) 1 ∙ ap (λ e. z / 2 ^ e) up))

-- the slots of byte j
pub slot_at : (frame : List ℕ) (j k : ℕ) → k < 8 → stands frame (8 * j + k) ≡ bit_set (get_or frame j 0) (7 - k)
slot_at frame j k h = ap₂ (λ place turn. bit_set (get_or frame place 0) (7 - turn)) (omega arith) (omega arith)

-- the first slots of one more byte are compared
pub distance_more : (a b : List ℕ) (i r : ℕ) → get_or a i 0 < 256 → get_or b i 0 < 256 → r ≤ 8
    → frame_distance a b (8 * i + r) ≡ frame_distance a b (8 * i) + ones (bit_xor (get_or a i 0) (get_or b i 0) / 2 ^ (8 - r))
distance_more a b i r ha hb hr =
    count_split (λ s. differ (stands a s) (stands b s)) (8 * i) r
    ∙ ap (λ n. frame_distance a b (8 * i) + n)
    (count_same _ (λ t. differ (bit_set (get_or a i 0) (7 - t)) (bit_set (get_or b i 0) (7 - t))) r
    (λ t h. let within : t < 8 = omega arith in ap₂ differ (slot_at a i t within) (slot_at b i t within))
    ∙ byte_distance (get_or a i 0) (get_or b i 0) r ha hb hr)

-- frames differ in no more slots than are compared
pub distance_le : (a b : List ℕ) (slots : ℕ) → frame_distance a b slots ≤ slots
distance_le a b slots = count_le (λ s. differ (stands a s) (stands b s)) slots

-- the slots of a frame without its first byte
stands_next : (x : ℕ) (frame : List ℕ) (s : ℕ) → stands (x ∷ frame) (8 + s) ≡ stands frame s
stands_next x frame s = ap₂ (λ place turn. bit_set (get_or (x ∷ frame) place 0) (7 - turn)) (let e : (8 + s) / 8 ≡ suc (s / 8) = omega arith in e) (omega arith)

-- the slots of whole bytes are compared by the bits of the bytes
pub distance_whole : (a b : List ℕ) (i : ℕ) → ((k : ℕ) → Fits w8 (get_or a k 0)) → ((k : ℕ) → Fits w8 (get_or b k 0)) → i ≤ length a → i ≤ length b
    → bits_apart (take i a) (take i b) ≡ frame_distance a b (8 * i)
unfolding count
distance_whole a b zero ha hb la lb = refl
distance_whole [] b (suc i) ha hb la lb = absurd (omega arith)
distance_whole (x ∷ a) [] (suc i) ha hb la lb = absurd (omega arith)
distance_whole (x ∷ a) (y ∷ b) (suc i) ha hb la lb =
    let bits = λ (bytes : ℕ × ℕ). ones (bit_xor bytes.0 bytes.1) in
    let next : 8 * suc i ≡ 8 + 8 * i = omega arith in
    let first : frame_distance (x ∷ a) (y ∷ b) 8 ≡ bits (x, y) = omega (arith, distance_more (x ∷ a) (y ∷ b) 0 8 (ha 0).fits (hb 0).fits (omega arith), ap ones (div-one (bit_xor x y))) in
    let others = count_same (λ s. differ (stands (x ∷ a) (8 + s)) (stands (y ∷ b) (8 + s))) (λ s. differ (stands a s) (stands b s)) (8 * i)
    (λ s h. ap₂ differ (stands_next x a s) (stands_next y b s)) in
    sum_by-cons bits (x, y) (zip (take i a) (take i b))
    ∙ ap₂ ◌+◌ (sym first) (distance_whole a b i (λ k. ha (suc k)) (λ k. hb (suc k)) (omega arith) (omega arith) ∙ sym others)
    ∙ sym (count_split (λ s. differ (stands (x ∷ a) s) (stands (y ∷ b) s)) 8 (8 * i)) ∙ ap (frame_distance (x ∷ a) (y ∷ b)) (sym next)

-- the slots of a last byte are compared
pub distance_rest : (a b : List ℕ) (slots : ℕ) → get_or a (slots / 8) 0 < 256 → get_or b (slots / 8) 0 < 256
    → frame_distance a b (8 * (slots / 8)) + ones (bit_xor (get_or a (slots / 8) 0) (get_or b (slots / 8) 0) / 2 ^ (8 - slots % 8)) ≡ frame_distance a b slots
distance_rest a b slots ha hb =
    let whole : 8 * (slots / 8) + slots % 8 ≡ slots = omega arith in
    sym (distance_more a b (slots / 8) (slots % 8) ha hb (omega arith)) ∙ ap (frame_distance a b) whole
