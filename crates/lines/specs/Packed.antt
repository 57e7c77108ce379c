-- Packed lines: rows of slots carried in bytes. Assumes nothing.
use Rattle.std.specs.Prelude.{◌≡◌, ℕ, ◌*◌, ◌≤◌, min, Bool, List, map, length, refl}
use Rattle.std.proofs.Common.{sym, ap₂, ◌∙◌, arith}
use Rattle.std.specs.List.{range_with_len}
use Rattle.std.proofs.lemmas.List.FromFn.{length-map-range_with_len}
use Rattle.frames.specs.Frames.{stands, with_slot}
use Rattle.lines.specs.Lines.{Laws, reaching}
use Rattle.lines.specs.declared.packed.Packed.{Packed}

-- how many slots so many bytes carry: as many as told, or 8 for each byte if fewer, and the first 4,096 at most
abbrev pub packed_slots : ℕ → ℕ → ℕ
packed_slots bytes told = min told (min (8 * bytes) 4096)

-- the row of the slots that the bytes carry
abbrev pub packed_row : List ℕ → ℕ → List Bool
packed_row bytes told = map (stands bytes) (range_with_len 0 (packed_slots (length bytes) told))

-- the bytes after a slot was made to stand or to be clear: one bit is written, and past the row none
abbrev pub packed_after : List ℕ → ℕ → ℕ → Bool → List ℕ
packed_after bytes told s b = reaching (length (packed_row bytes told)) s (with_slot bytes s b) bytes

-- what a packed line means
abbrev pub packed_means : Packed → List Bool
packed_means l = packed_row l.bytes.now l.told

-- what no call on a packed line alters: where its bytes lie, how many there are, the count told, and every bit past the row
pub record PackedKept (was is : Packed) : Type 0 where
  pub place : is.bytes.ghost_name ≡ was.bytes.ghost_name
  pub size : length is.bytes.now ≡ length was.bytes.now
  pub told : is.told ≡ was.told
  pub spare : (s : ℕ) → length (packed_means was) ≤ s → stands is.bytes.now s ≡ stands was.bytes.now s

-- the row has as many slots as the bytes carry
pub packed_length : (bytes : List ℕ) (told : ℕ) → length (packed_row bytes told) ≡ packed_slots (length bytes) told
packed_length bytes told = length-map-range_with_len (stands bytes) 0 (packed_slots (length bytes) told)

-- the row keeps its count
packed_sized : (l m : Packed) → PackedKept l m → length (packed_means m) ≡ length (packed_means l)
packed_sized l m k =
    packed_length m.bytes.now m.told ∙ ap₂ packed_slots k.size k.told ∙ sym (packed_length l.bytes.now l.told)

-- a packed line keeps the laws
pub packed_laws : Laws packed_means PackedKept
packed_laws = record {
  few = λ l. omega (arith, packed_length l.bytes.now l.told);
  sized = packed_sized;
  same = λ l. record { place = refl; size = refl; told = refl; spare = λ s h. refl };
  onward = λ k l m p q. record {
    place = q.place ∙ p.place;
    size = q.size ∙ p.size;
    told = q.told ∙ p.told;
    spare = λ s h. q.spare s (omega (arith, packed_sized k l p)) ∙ p.spare s h;
  };
}
