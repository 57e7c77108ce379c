-- Packed frames: rows of slots carried in bytes. Assumes nothing.
use Rattle.std.specs.Prelude.{ℕ, suc, ◌+◌, ◌-◌, ◌*◌, ◌/◌, ◌%◌, ◌^◌, Bool, true, false, cond, not, List, map, length, Ok, Err, Result, ◌==◌, nat_lt, slice_index, slice_set, bit_xor, count_ones}
use Rattle.std.specs.List.{range_with_len, sum_by, zip}
use Rattle.faults.specs.Faults.{fault}
use Rattle.faults.specs.declared.fault.Fault.{Fault}
use Rattle.faults.specs.declared.refusal.Refusal.TheVariants.{Slot, Length}
use Rattle.frames.specs.Counting.{count}

-- whether bit i of a byte is set
abbrev pub bit_set : ℕ → ℕ → Bool
bit_set byte i = byte / 2 ^ i % 2 == 1

-- whether a slot stands in a frame: slot s is bit 7 - (s mod 8) of byte s div 8
abbrev pub stands : List ℕ → ℕ → Bool
stands frame s = bit_set (slice_index frame (s / 8)) (7 - s % 8)

-- a byte with bit i set or cleared: what lies above the bit, the bit, and what lies below it
abbrev pub with_bit : ℕ → ℕ → Bool → ℕ
with_bit byte i b = byte / 2 ^ suc i * 2 ^ suc i + cond b (2 ^ i) 0 + byte % 2 ^ i

-- a frame with one slot made to stand or to be clear; a slot past the last byte changes nothing
abbrev pub with_slot : List ℕ → ℕ → Bool → List ℕ
with_slot frame s b = slice_set frame (s / 8) (with_bit (slice_index frame (s / 8)) (7 - s % 8) b)

-- the byte whose eight bits, the highest first, a test tells at the slots of byte j
abbrev pub byte_of : (ℕ → Bool) → ℕ → ℕ
byte_of test j =
    cond (test (8 * j)) 128 0 + cond (test (8 * j + 1)) 64 0 + cond (test (8 * j + 2)) 32 0 + cond (test (8 * j + 3)) 16 0
    + cond (test (8 * j + 4)) 8 0 + cond (test (8 * j + 5)) 4 0 + cond (test (8 * j + 6)) 2 0 + cond (test (8 * j + 7)) 1 0

-- a frame whose first so many slots stand as a test tells, and whose other bits are as they were
abbrev pub framed : (ℕ → Bool) → ℕ → List ℕ → List ℕ
framed test slots frame = map (byte_of (λ s. cond (nat_lt s slots) (test s) (stands frame s))) (range_with_len 0 (length frame))

-- an answer for a slot of a row of so many slots, or refusal 7 with the slot
abbrev pub slot_answer : {A : Type 0} → ℕ → ℕ → A → Result A Fault
slot_answer slots s answer = cond (nat_lt s slots) (Ok answer) (Err (fault Slot s))

-- how many bytes so many slots need
abbrev pub bytes_for : ℕ → ℕ
bytes_for slots = (slots + 7) / 8

-- whether exactly one of two tests passes
abbrev pub differ : Bool → Bool → Bool
differ true b = not b
differ false b = b

-- the number of slots, of the first so many, in which two frames differ
abbrev pub frame_distance : List ℕ → List ℕ → ℕ → ℕ
frame_distance a b slots = count (λ s. differ (stands a s) (stands b s)) slots

-- the number of bits in which the bytes of two rows differ, place by place
abbrev pub bits_apart : List ℕ → List ℕ → ℕ
bits_apart a b = sum_by (λ bytes. count_ones (bit_xor bytes.0 bytes.1)) (zip a b)

-- an answer for a frame of exactly as many bytes as so many slots need, or refusal 5 with its length
abbrev pub length_answer : {A : Type 0} → ℕ → List ℕ → Result A Fault → Result A Fault
length_answer slots frame answer = cond (length frame == bytes_for slots) answer (Err (fault Length (length frame)))

-- the frame distance, or the refusal of the first frame that has not the right length
abbrev pub distance_answer : List ℕ → List ℕ → ℕ → Result ℕ Fault
distance_answer a b slots = length_answer slots a (length_answer slots b (Ok (frame_distance a b slots)))
