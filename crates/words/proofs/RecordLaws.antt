-- What holds of a plan record that nothing refuses: its limits, its 32 bits, and that reading and writing undo each other. Assumes nothing.
use Rattle.std.proofs.Common.{◌≡◌, ℕ, zero, suc, ◌+◌, ◌-◌, ◌/◌, ◌%◌, ◌^◌, ◌<◌, ◌≤◌, Bool, true, false, cond, not, eqb, leb, List, [], ◌∷◌, length, get_or, is_some, Some, None, Ok, Option, sym, refl, ap, ◌∙◌, ap₂, inl, inr, mul-le-mul_right, arith}
use native.Mathlib.Nat.{pow-le-pow_left, pow-le-pow_right}
use Rattle.std.proofs.lemmas.Nat.{mod-pow-add}
use Rattle.std.proofs.lemmas.Bool.{and_parts, leb-true, eqb-true, eq-eqb, le-leb, cases_lt}
use Rattle.faults.specs.Faults.{check, then, answer}
use Rattle.faults.specs.declared.fault.Fault.{Fault}
use Rattle.fields.specs.Choices.{choice_refusal, choice_tables}
use Rattle.fields.specs.Kinds.{prime}
use Rattle.fields.specs.declared.any.FieldChoice.{FieldChoice}
use Rattle.fields.specs.declared.any.FieldChoice.TheVariants.{Prime, Binary}
use Rattle.words.specs.Records.{Part, kind_part, parameter_part, n_part, k_part, d_part, e_part, names_part, zero_part, held, put_at, kind_number, parameter, names_number, record_bits, bytes_of, bits_of, record_bytes, record_of, record_refusal, reading_refusal, reading, WrittenRecordsReadBack, ReadRecordsWriteBack, FitsItsParts}
use Rattle.words.specs.declared.record.NameKind.{NameKind}
use Rattle.words.specs.declared.record.NameKind.TheVariants.{Extensions, RoomLabels}
use Rattle.words.specs.declared.record.PlanRecord.{PlanRecord}
use Rattle.words.proofs.Limits.{Limits, limits, passed}

-- two parts of checks refuse nothing: neither does
passed_both : (first rest : Option Fault) → then first rest ≡ None → (first ≡ None) × (rest ≡ None)
passed_both None rest e = (refl, e)
passed_both (Some f) rest e = let z : ◌≡◌ {A = ℕ} 0 1 = cc in absurd (omega arith)

-- a check whose test passes refuses nothing, where the checks after it do not
passing : (passes : Bool) (f : Fault) (rest : Option Fault) → passes ≡ true → rest ≡ None → check passes f rest ≡ None
passing passes f rest a b = rw (a, b)

-- where nothing refuses a record, its field is there and its plan keeps the limits
pub record_limits :
    (r : PlanRecord) → record_refusal r ≡ None → (choice_refusal r.field ≡ None) × Limits (choice_tables r.field).order r.n r.k r.d r.e
record_limits r accepted =
    let parts = passed_both _ _ accepted in
    (parts.0, limits _ _ _ _ _ (ap (λ (o : Option Fault). not (is_some o)) parts.1))

-- there are two kinds of field
kind_fits : (choice : FieldChoice) → kind_number choice < 2
kind_fits (Prime p) = omega arith
kind_fits (Binary m) = omega arith

-- there are two kinds of names
names_fit : (names : NameKind) → names_number names < 2
names_fit Extensions = omega arith
names_fit RoomLabels = omega arith

-- the parameter of a field that is there is at most 61
parameter_fits : (choice : FieldChoice) → choice_refusal choice ≡ None → parameter choice < 64
parameter_fits (Prime p) e = let ps = and_parts (leb p 61) (prime p) (passed _ _ _ e).0 in omega (arith, leb-true p 61 ps.0)
parameter_fits (Binary m) e = let ms = and_parts (leb 2 m) (leb m 6) (passed _ _ _ e).0 in omega (arith, leb-true m 6 ms.1)

-- a plan has at most as many coefficients as its field has elements
pub coefficients_within : {q n k d e : ℕ} → Limits q n k d e → k ≤ q
coefficients_within {q} {n} {k} {d} {e} l = omega (arith, mul-le-mul_right (k - 1) l.d_low)

-- a plan has fewer than 8 coefficients
pub coefficients_few : {q n k d e : ℕ} → Limits q n k d e → k < 8
coefficients_few {q} {n} {k} {d} {e} l = elim (cases_lt k 8) [ inl few ↦ few | inr many ↦ absurd (too_many many) ]
  where
    too_many : 8 ≤ k → ⊥
    too_many many =
        let wide : 8 ≤ q = omega (arith, coefficients_within l) in
        let positive : 0 < q = omega arith in
        omega (arith, l.few_words, pow-le-pow_left wide 8, pow-le-pow_right positive many)

-- where nothing refuses a record, its numbers fit their parts
pub record_fits : (r : PlanRecord) → record_refusal r ≡ None → FitsItsParts r
record_fits r accepted =
    let parts = record_limits r accepted in
    let l = parts.1 in
    record {
      kind = kind_fits r.field;
      parameter = parameter_fits r.field parts.0;
      n = omega (arith, l.n_high, l.q_high);
      k = coefficients_few l;
      d = omega (arith, l.d_high);
      e = omega (arith, l.far_apart, l.n_high, l.q_high);
      names = names_fit r.names;
    }

-- the bits of a record whose numbers fit are below 2^32
pub bits_below : (r : PlanRecord) → record_refusal r ≡ None → record_bits r < 4294967296
bits_below r accepted = omega (arith, record_fits r accepted)

-- each part of some bits holds the number that a record has there, and the zero bits hold 0
pub record Holds (bits : ℕ) (r : PlanRecord) : Type 0 where
  pub kind : held kind_part bits ≡ kind_number r.field
  pub parameter : held parameter_part bits ≡ parameter r.field
  pub n : held n_part bits ≡ r.n
  pub k : held k_part bits ≡ r.k
  pub d : held d_part bits ≡ r.d
  pub e : held e_part bits ≡ r.e
  pub names : held names_part bits ≡ names_number r.names
  pub zero_30 : held (zero_part 30) bits ≡ 0
  pub zero_31 : held (zero_part 31) bits ≡ 0

-- the bits of a record hold its numbers again
pub held_back : (r : PlanRecord) → record_refusal r ≡ None → Holds (record_bits r) r
held_back r accepted = let fits = record_fits r accepted in omega arith

-- the numbers that 32 bits hold decide the record that they hold
pub record_held : (bits : ℕ) (r : PlanRecord) → Holds bits r → record_of bits ≡ r
record_held bits r holds =
    λ i. record {
      field = choice_held r.field _ _ holds.kind holds.parameter i;
      n = holds.n i;
      k = holds.k i;
      d = holds.d i;
      e = holds.e i;
      names = names_held r.names _ holds.names i;
    }
  where
    choice_held : (choice : FieldChoice) (kind p : ℕ) → kind ≡ kind_number choice → p ≡ parameter choice → cond (eqb kind 0) (Prime p) (Binary p) ≡ choice
    choice_held (Prime x) kind p a b = rw (a, b)
    choice_held (Binary x) kind p a b = rw (a, b)

    names_held : (names : NameKind) (number : ℕ) → number ≡ names_number names → cond (eqb number 0) Extensions RoomLabels ≡ names
    names_held Extensions number a = rw a
    names_held RoomLabels number a = rw a

-- the last bits from a part on are the part's value at its place and the bits after it
parted :
    (p : Part) (bits : ℕ)
    → bits % 2 ^ (p.width + (32 - (p.place + p.width))) ≡ put_at p (held p bits) + bits % 2 ^ (32 - (p.place + p.width))
parted p bits = mod-pow-add bits p.width (32 - (p.place + p.width))

-- 32 bits with both zero bits 0 are the bits of the record that they hold, if they hold the number of a kind of field
pub bits_back :
    (bits : ℕ)
    → bits < 4294967296
    → held kind_part bits ≤ 1
    → held (zero_part 30) bits ≡ 0
    → held (zero_part 31) bits ≡ 0
    → record_bits (record_of bits) ≡ bits
bits_back bits below kind zero_30 zero_31 =
    let whole : bits % 4294967296 ≡ bits = omega arith in
    let names : held names_part bits < 2 = omega arith in
    simp (kind_back, parameter_back, names_back)
    (omega (
      arith,
      parted kind_part bits,
      parted parameter_part bits,
      parted n_part bits,
      parted k_part bits,
      parted d_part bits,
      parted e_part bits,
      parted names_part bits,
      parted (zero_part 30) bits,
      parted (zero_part 31) bits,
    ))
  where
    kind_back : (kind p : ℕ) → kind ≤ 1 → kind_number (cond (eqb kind 0) (Prime p) (Binary p)) ≡ kind
    kind_back zero p h = refl
    kind_back (suc zero) p h = refl
    kind_back (suc (suc kind)) p h = absurd (omega arith)

    parameter_back : (kind p : ℕ) → parameter (cond (eqb kind 0) (Prime p) (Binary p)) ≡ p
    parameter_back kind p = elim (eqb kind 0) as (λ b. parameter (cond b (Prime p) (Binary p)) ≡ p) [ true ↦ refl | false ↦ refl ]

    names_back : (number : ℕ) → number < 2 → names_number (cond (eqb number 0) Extensions RoomLabels) ≡ number
    names_back zero h = refl
    names_back (suc zero) h = refl
    names_back (suc (suc number)) h = absurd (omega arith)

-- a number below 2^32 is the number of its four bytes
pub number_back : (bits : ℕ) → bits < 4294967296 → bits_of (bytes_of bits) ≡ bits
number_back bits below = omega (arith, mod-pow-add bits 8 24, mod-pow-add bits 8 16, mod-pow-add bits 8 8)

-- four bytes are the bytes of their number
pub bytes_back : (bytes : List ℕ) → length bytes ≡ 4 → ((i : ℕ) → get_or bytes i 0 < 256) → bytes_of (bits_of bytes) ≡ bytes
bytes_back [] four below = absurd (omega arith)
bytes_back (a ∷ []) four below = absurd (omega arith)
bytes_back (a ∷ b ∷ []) four below = absurd (omega arith)
bytes_back (a ∷ b ∷ c ∷ []) four below = absurd (omega arith)
bytes_back (a ∷ b ∷ c ∷ d ∷ []) four below =
    let a_below : a < 256 = below 0 in
    let b_below : b < 256 = below 1 in
    let c_below : c < 256 = below 2 in
    let d_below : d < 256 = below 3 in
    let a_is : bits_of (a ∷ b ∷ c ∷ d ∷ []) / 16777216 % 256 ≡ a = omega arith in
    let b_is : bits_of (a ∷ b ∷ c ∷ d ∷ []) / 65536 % 256 ≡ b = omega arith in
    let c_is : bits_of (a ∷ b ∷ c ∷ d ∷ []) / 256 % 256 ≡ c = omega arith in
    let d_is : bits_of (a ∷ b ∷ c ∷ d ∷ []) % 256 ≡ d = omega arith in
    cc
bytes_back (a ∷ b ∷ c ∷ d ∷ x ∷ rest) four below = absurd (omega arith)

-- four bytes that hold a record's numbers are read as that record, where nothing refuses it
pub reads : (bytes : List ℕ) (r : PlanRecord) → length bytes ≡ 4 → Holds (bits_of bytes) r → record_refusal r ≡ None → reading bytes ≡ Ok r
reads bytes r four holds accepted = ap₂ answer none same
  where
    same : record_of (bits_of bytes) ≡ r
    same = record_held (bits_of bytes) r holds

    none : reading_refusal bytes ≡ None
    none =
        passing _ _ _ (eq-eqb (length bytes) 4 four)
        (passing _ _ _ (eq-eqb (held (zero_part 30) (bits_of bytes)) 0 holds.zero_30)
        (passing _ _ _ (eq-eqb (held (zero_part 31) (bits_of bytes)) 0 holds.zero_31)
        (passing _ _ _ (le-leb (held kind_part (bits_of bytes)) 1 (omega (arith, holds.kind, kind_fits r.field)))
        (ap record_refusal same ∙ accepted))))

-- reading gives back every record that can be written
pub read_back : WrittenRecordsReadBack
read_back r accepted =
    reads (record_bytes r) r refl (rw (number_back (record_bits r) (bits_below r accepted)) (held_back r accepted)) accepted

-- an answer is a value: nothing refused, and the value is the one that was to be answered
answered : {A : Type 0} (refusal : Option Fault) (value x : A) → answer refusal value ≡ Ok x → (refusal ≡ None) × (value ≡ x)
answered None value x e = (refl, cc)
answered (Some f) value x e = let z : ◌≡◌ {A = ℕ} 0 1 = cc in absurd (omega arith)

-- bytes that are read are four, with both zero bits 0 and the number of a kind of field, and hold a record that nothing refuses
pub record Read (bytes : List ℕ) (r : PlanRecord) : Type 0 where
  pub four : length bytes ≡ 4
  pub zero_30 : held (zero_part 30) (bits_of bytes) ≡ 0
  pub zero_31 : held (zero_part 31) (bits_of bytes) ≡ 0
  pub kind : held kind_part (bits_of bytes) ≤ 1
  pub same : record_of (bits_of bytes) ≡ r
  pub accepted : record_refusal r ≡ None

-- what it means that bytes are read as a record
pub read_parts : (bytes : List ℕ) (r : PlanRecord) → reading bytes ≡ Ok r → Read bytes r
read_parts bytes r e =
    let a = answered (reading_refusal bytes) (record_of (bits_of bytes)) r e in
    let c1 = passed _ _ _ a.0 in
    let c2 = passed _ _ _ c1.1 in
    let c3 = passed _ _ _ c2.1 in
    let c4 = passed _ _ _ c3.1 in
    record {
      four = eqb-true (length bytes) 4 c1.0;
      zero_30 = eqb-true (held (zero_part 30) (bits_of bytes)) 0 c2.0;
      zero_31 = eqb-true (held (zero_part 31) (bits_of bytes)) 0 c3.0;
      kind = leb-true (held kind_part (bits_of bytes)) 1 c4.0;
      same = a.1;
      accepted = ap record_refusal (sym a.1) ∙ c4.1;
    }

-- writing gives back the bytes of every record that can be read
pub write_back : ReadRecordsWriteBack
write_back bytes r below e =
    let parts = read_parts bytes r e in
    let small : bits_of bytes < 4294967296 = omega (arith, below 0, below 1, below 2, below 3) in (
      parts.accepted,
      ap record_bytes (sym parts.same)
          ∙ ap bytes_of (bits_back (bits_of bytes) small parts.kind parts.zero_30 parts.zero_31)
          ∙ bytes_back bytes parts.four below,
    )
