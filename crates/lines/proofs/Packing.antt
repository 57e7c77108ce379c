-- What the calls of a packed line give. Assumes nothing.
use Rattle.std.proofs.Common.{◌≡◌, ℕ, ◌*◌, ◌<◌, Bool, false, List, map, length, get_or, set, refl, ap, ◌∙◌, arith}
use denote.Ref.{at_last}
use Rattle.std.specs.List.{range_with_len}
use Rattle.std.proofs.lemmas.List.FromFn.{get_or-map-range_with_len}
use Rattle.frames.specs.Frames.{stands, with_slot}
use Rattle.frames.proofs.Slots.{length_with_slot, stands_same, stands_other}
use Rattle.lines.specs.Packed.{packed_slots, packed_row, packed_after, packed_means, PackedKept, packed_length}
use Rattle.lines.specs.declared.packed.Packed.{Packed}
use Rattle.lines.proofs.Rows.{set_counted}

-- the row has the slot written
pub with_slot_row : (bytes new : List ℕ) (told s : ℕ) (b : Bool) → new ≡ with_slot bytes s b → s < length (packed_row bytes told)
    → packed_row new told ≡ set (packed_row bytes told) s b
with_slot_row bytes new told s b e within =
    ap (λ xs. packed_row xs told) e
    ∙ ap (λ size. map (stands (with_slot bytes s b)) (range_with_len 0 (packed_slots size told))) (length_with_slot bytes s b)
    ∙ set_counted (stands bytes) (stands (with_slot bytes s b)) (packed_slots (length bytes) told) s b
    (λ h. stands_same bytes s b (omega (arith, packed_length bytes told))) (λ i h other. stands_other bytes s i b other)

-- and nothing else is altered
pub with_slot_kept : (was : Packed) (new : List ℕ) (s : ℕ) (b : Bool) → new ≡ with_slot was.bytes.now s b → s < length (packed_means was)
    → PackedKept was (record { bytes = at_last was.bytes new; told = was.told })
with_slot_kept was new s b e within = record {
  place = refl;
  size = ap length e ∙ length_with_slot was.bytes.now s b;
  told = refl;
  spare = λ i h. ap (λ xs. stands xs i) e ∙ stands_other was.bytes.now s i b (λ same. omega arith);
}

-- a slot of the row stands as its bit tells, which lies in the bytes
pub packed_at : (bytes : List ℕ) (told s : ℕ) → s < length (packed_row bytes told) → (get_or (packed_row bytes told) s false ≡ stands bytes s) × (s < 8 * length bytes)
packed_at bytes told s h =
    let size = packed_length bytes told in
    (get_or-map-range_with_len (stands bytes) 0 (packed_slots (length bytes) told) s s false (omega arith) (omega arith), omega arith)

-- what the calls of a packed line rest on
pub ruleset packed_steps = (packed_length, with_slot_row)
