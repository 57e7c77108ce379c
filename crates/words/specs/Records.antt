-- The plan record: 32 bits in four bytes, packed from the front. Assumes nothing.
use Rattle.std.specs.Prelude.{◌≡◌, ℕ, ◌+◌, ◌-◌, ◌*◌, ◌/◌, ◌%◌, ◌^◌, ◌<◌, cond, List, [], ◌∷◌, length, is_some, None, Ok, Option, Result, ◌==◌, nat_le, slice_index}
use Rattle.faults.specs.Faults.{fault, check, then, answer}
use Rattle.faults.specs.declared.fault.Fault.{Fault}
use Rattle.faults.specs.declared.refusal.Refusal.TheVariants.{Field, Length, Spare}
use Rattle.fields.specs.Choices.{any_tables, choice_refusal, choice_tables}
use Rattle.fields.specs.declared.any.AnyField.{AnyField}
use Rattle.fields.specs.declared.any.FieldChoice.{FieldChoice}
use Rattle.fields.specs.declared.any.FieldChoice.TheVariants.{Prime, Binary}
use Rattle.words.specs.Plans.{plan_refusal}
use Rattle.words.specs.declared.plan.Plan.{Plan}
use Rattle.words.specs.declared.record.NameKind.{NameKind}
use Rattle.words.specs.declared.record.NameKind.TheVariants.{Extensions, RoomLabels}
use Rattle.words.specs.declared.record.PlanRecord.{PlanRecord}

-- a part of the record: its first bit, counted from the front, and how many bits it has
pub record Part : Type 0 where
  pub place : ℕ
  pub width : ℕ

abbrev pub kind_part : Part
kind_part = record { place = 0; width = 2 }

abbrev pub parameter_part : Part
parameter_part = record { place = 2; width = 6 }

abbrev pub n_part : Part
n_part = record { place = 8; width = 7 }

abbrev pub k_part : Part
k_part = record { place = 15; width = 3 }

abbrev pub d_part : Part
d_part = record { place = 18; width = 6 }

abbrev pub e_part : Part
e_part = record { place = 24; width = 5 }

abbrev pub names_part : Part
names_part = record { place = 29; width = 1 }

-- a zero bit
abbrev pub zero_part : ℕ → Part
zero_part place = record { place = place; width = 1 }

-- the value that a part of 32 bits holds
abbrev pub held : Part → ℕ → ℕ
held p bits = bits / 2 ^ (32 - (p.place + p.width)) % 2 ^ p.width

-- a value as bits at its part
abbrev pub put_at : Part → ℕ → ℕ
put_at p value = value * 2 ^ (32 - (p.place + p.width))

-- the number of a kind of field, and its parameter
abbrev pub kind_number : FieldChoice → ℕ
kind_number (Prime p) = 0
kind_number (Binary m) = 1

abbrev pub parameter : FieldChoice → ℕ
parameter (Prime p) = p
parameter (Binary m) = m

-- the number of a kind of names
abbrev pub names_number : NameKind → ℕ
names_number Extensions = 0
names_number RoomLabels = 1

-- each number of a record lies below what its part can hold
pub record FitsItsParts (r : PlanRecord) : Type 0 where
  pub kind : kind_number r.field < 2
  pub parameter : parameter r.field < 64
  pub n : r.n < 128
  pub k : r.k < 8
  pub d : r.d < 64
  pub e : r.e < 32
  pub names : names_number r.names < 2

-- the 32 bits of a record
abbrev pub record_bits : PlanRecord → ℕ
record_bits r =
    put_at kind_part (kind_number r.field) + put_at parameter_part (parameter r.field) + put_at n_part r.n + put_at k_part r.k
    + put_at d_part r.d + put_at e_part r.e + put_at names_part (names_number r.names)

-- 32 bits as four bytes, the first byte highest, and back
abbrev pub bytes_of : ℕ → List ℕ
bytes_of bits = (bits / 16777216 % 256) ∷ (bits / 65536 % 256) ∷ (bits / 256 % 256) ∷ (bits % 256) ∷ []

abbrev pub bits_of : List ℕ → ℕ
bits_of bytes = slice_index bytes 0 * 16777216 + slice_index bytes 1 * 65536 + slice_index bytes 2 * 256 + slice_index bytes 3

-- the four bytes of a record
abbrev pub record_bytes : PlanRecord → List ℕ
record_bytes r = bytes_of (record_bits r)

-- the field that a kind and a parameter mean: the kind is 0 or 1 where it is accepted
abbrev pub field_of : ℕ → ℕ → FieldChoice
field_of kind parameter = cond (kind == 0) (Prime parameter) (Binary parameter)

-- the kind of names that a bit means
abbrev pub names_of : ℕ → NameKind
names_of bit = cond (bit == 0) Extensions RoomLabels

-- the record that 32 bits hold
abbrev pub record_of : ℕ → PlanRecord
record_of bits =
    record {
      field = field_of (held kind_part bits) (held parameter_part bits);
      n = held n_part bits;
      k = held k_part bits;
      d = held d_part bits;
      e = held e_part bits;
      names = names_of (held names_part bits);
    }

-- the checks of a record's numbers: those of its field, then those of its plan
abbrev pub record_refusal : PlanRecord → Option Fault
record_refusal r = then (choice_refusal r.field) (plan_refusal (choice_tables r.field).order r.n r.k r.d r.e)

-- a zero bit is set
abbrev pub zero_refusal : ℕ → ℕ → Option Fault → Option Fault
zero_refusal bits place rest = check (held (zero_part place) bits == 0) (fault Spare place) rest

-- a kind above 1 means no field
abbrev pub kind_refusal : ℕ → ℕ → Option Fault → Option Fault
kind_refusal kind parameter rest = check (nat_le kind 1) (fault Field parameter) rest

-- the checks of 32 bits: the zero bits, the kind, and the record's numbers
abbrev pub bits_refusal : ℕ → Option Fault
bits_refusal bits =
    zero_refusal bits 30 (zero_refusal bits 31 (kind_refusal (held kind_part bits) (held parameter_part bits) (record_refusal (record_of bits))))

-- the checks of reading: the length, then those of the bits
abbrev pub reading_refusal : List ℕ → Option Fault
reading_refusal bytes = check (length bytes == 4) (fault Length (length bytes)) (bits_refusal (bits_of bytes))

-- what reading answers
abbrev pub reading : List ℕ → Result PlanRecord Fault
reading bytes = answer (reading_refusal bytes) (record_of (bits_of bytes))

-- the checks of writing into a target of so many bytes
abbrev pub writing_refusal : PlanRecord → ℕ → Option Fault
writing_refusal r size = check (size == 4) (fault Length size) (record_refusal r)

-- the target after writing: the record's four bytes, or what it was where writing is refused
abbrev pub written : PlanRecord → List ℕ → List ℕ
written r target = cond (is_some (writing_refusal r (length target))) target (record_bytes r)

-- a field and a plan are those that a record means
pub record Meant (r : PlanRecord) (f : AnyField) (p : Plan) : Type 0 where
  pub accepted : record_refusal r ≡ None
  pub field : any_tables f ≡ choice_tables r.field
  pub q : p.q ≡ (choice_tables r.field).order
  pub n : p.n ≡ r.n
  pub k : p.k ≡ r.k
  pub d : p.d ≡ r.d
  pub e : p.e ≡ r.e

-- Reading gives back every record that can be written.
abbrev pub WrittenRecordsReadBack : Type 0
WrittenRecordsReadBack = (r : PlanRecord) → record_refusal r ≡ None → reading (record_bytes r) ≡ Ok r

-- Writing gives back the bytes of every record that can be read.
abbrev pub ReadRecordsWriteBack : Type 0
ReadRecordsWriteBack =
    (bytes : List ℕ) (r : PlanRecord) → ((i : ℕ) → slice_index bytes i < 256) → reading bytes ≡ Ok r → (record_refusal r ≡ None) × (record_bytes r ≡ bytes)
