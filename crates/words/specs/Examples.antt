-- Worked examples, which follow from the definitions alone. Assumes nothing.
use Rattle.std.specs.Prelude.{◌≡◌, ℕ, List, [], ◌∷◌, map, replicate, Ok}
use Rattle.std.specs.List.{range_with_len}
use Rattle.fields.specs.Choices.{choice_tables}
use Rattle.fields.specs.Lawful.{Tables}
use Rattle.fields.specs.declared.any.FieldChoice.TheVariants.{Prime, Binary}
use Rattle.frames.specs.Frames.{framed}
use Rattle.words.specs.Records.{reading}
use Rattle.words.specs.Words.{symbol, in_word}
use Rattle.words.specs.declared.record.NameKind.TheVariants.{Extensions}
use Rattle.words.specs.declared.record.PlanRecord.{PlanRecord}

-- prime 5, five places, two coefficients, two cards together, one wrong slot borne
abbrev pub plan_a : PlanRecord
plan_a = record { field = Prime 5; n = 5; k = 2; d = 2; e = 1; names = Extensions }

-- the prime field of order 5, and the binary field of order 4
abbrev pub field_a : Tables
field_a = choice_tables (Prime 5)

abbrev pub field_b : Tables
field_b = choice_tables (Binary 2)

-- a word as a packed frame with clear spare bits
abbrev pub word_as_frame : Tables → ℕ → ℕ → ℕ → ℕ → List ℕ
word_as_frame f k number slots bytes = framed (in_word f k number) slots (replicate bytes 0)

pub record WorkedExamples : Type 0 where
  pub two_times_three : field_b.times 2 3 ≡ 1
  pub three_times_three : field_b.times 3 3 ≡ 2
  pub record_of_plan_a : reading (0x05 ∷ 0x0A ∷ 0x82 ∷ 0x08 ∷ []) ≡ Ok plan_a
  pub word_0_of_a : word_as_frame field_a 2 0 25 4 ≡ 0x84 ∷ 0x21 ∷ 0x08 ∷ 0x00 ∷ []
  pub symbols_of_7_of_a : map (symbol field_a 2 7) (range_with_len 0 5) ≡ 2 ∷ 3 ∷ 4 ∷ 0 ∷ 1 ∷ []
  pub word_7_of_a : word_as_frame field_a 2 7 25 4 ≡ 0x20 ∷ 0x83 ∷ 0x04 ∷ 0x00 ∷ []
  pub symbols_of_9_of_b : map (symbol field_b 2 9) (range_with_len 0 4) ≡ 1 ∷ 3 ∷ 2 ∷ 0 ∷ []
  pub word_9_of_b : word_as_frame field_b 2 9 16 2 ≡ 0x41 ∷ 0x28 ∷ []
