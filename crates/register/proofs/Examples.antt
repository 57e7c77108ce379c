-- The worked readings compute. Assumes nothing.
use Rattle.std.proofs.Common.{◌≡◌, ℕ, List, [], ◌∷◌, ◌++◌, codes, decimal, refl, ap, ◌∙◌, ap₂, arith}
use Rattle.std.proofs.lemmas.Fmt.{decimal_digit, decimal_step}
use Rattle.fields.specs.Kinds.{prime}
use Rattle.fields.specs.Polynomials.{product, remainder, all_below}
use Rattle.frames.specs.Counting.{count}
use Rattle.lines.specs.Packed.{packed_row}
use Rattle.words.specs.Examples.{field_a}
use Rattle.words.specs.Words.{power, value}
use Rattle.words.proofs.Examples.{worked_examples}
use Rattle.reader.specs.Distances.{joined}
use Rattle.register.specs.Examples.{Says, WorkedReadings, exchange_a, enrolled_a}
use Rattle.register.specs.Texts.{told_numbers, verdict_line}
use Rattle.register.specs.Verdicts.{judged}
use Rattle.register.specs.declared.verdict.Verdict.{Verdict}
use Rattle.register.specs.declared.verdict.Verdict.TheVariants.{Overload, Noise, Foreign, Named}

-- numbers of one digit and 12 in decimal
zero_is : decimal 0 ≡ 48 ∷ []
zero_is = decimal_digit 0 (omega arith)

two_is : decimal 2 ≡ 50 ∷ []
two_is = decimal_digit 2 (omega arith)

three_is : decimal 3 ≡ 51 ∷ []
three_is = decimal_digit 3 (omega arith)

seven_is : decimal 7 ≡ 55 ∷ []
seven_is = decimal_digit 7 (omega arith)

twelve_is : decimal 12 ≡ 49 ∷ 50 ∷ []
twelve_is = decimal_step 12 (omega arith) (omega arith) ∙ ap (λ xs. xs ++ 50 ∷ []) (decimal_digit 1 (omega arith))

-- a frame says what its verdict, its numbers and its line say
says : (frame : List ℕ) (v : Verdict) (numbers line : List ℕ) → judged field_a exchange_a enrolled_a (packed_row frame 25) ≡ v
    → told_numbers field_a exchange_a (packed_row frame 25) ≡ numbers → verdict_line v numbers ≡ line → Says frame v numbers line
says frame v numbers line a b c = record { verdict_is = a; numbers_are = b; line_is = ap₂ verdict_line a b ∙ c }

-- the lines of the five verdicts
named_line : verdict_line (Named 2) (0 ∷ 7 ∷ []) ≡ codes "N 2 0 7\n"
named_line = rw (two_is, zero_is, seven_is) refl

foreign_line : verdict_line (Foreign 12 2) (0 ∷ 12 ∷ []) ≡ codes "F 12 2 0 12\n"
foreign_line = rw (twelve_is, two_is, zero_is) refl

overload_line : verdict_line (Overload 3) [] ≡ codes "O 3\n"
overload_line = rw three_is refl

noise_line : verdict_line (Noise 2) [] ≡ codes "X 2\n"
noise_line = rw two_is refl

nobody_line : verdict_line (Named 0) [] ≡ codes "N 0\n"
nobody_line = rw zero_is refl

-- the worked readings
pub worked_readings : WorkedReadings
unfolding prime product remainder all_below power value count joined
worked_readings = record {
  words_and_records = worked_examples;
  cards_0_and_7 = says (0x24 ∷ 0xA3 ∷ 0x0C ∷ 0x00 ∷ []) (Named 2) (0 ∷ 7 ∷ []) (codes "N 2 0 7\n") refl refl named_line;
  first_frame = says (0xA4 ∷ 0xA3 ∷ 0x0C ∷ 0x00 ∷ []) (Named 2) (0 ∷ 7 ∷ []) (codes "N 2 0 7\n") refl refl named_line;
  second_frame = says (0xA4 ∷ 0x71 ∷ 0x28 ∷ 0x00 ∷ []) (Foreign 12 2) (0 ∷ 12 ∷ []) (codes "F 12 2 0 12\n") refl refl foreign_line;
  third_frame = says (0xE6 ∷ 0xB3 ∷ 0x8C ∷ 0x00 ∷ []) (Overload 3) [] (codes "O 3\n") refl refl overload_line;
  fourth_frame = says (0x20 ∷ 0xA3 ∷ 0x0C ∷ 0x00 ∷ []) (Noise 2) [] (codes "X 2\n") refl refl noise_line;
  fifth_frame = says (0x00 ∷ 0x00 ∷ 0x00 ∷ 0x00 ∷ []) (Named 0) [] (codes "N 0\n") refl refl nobody_line;
}
