-- Worked readings, which follow from the definitions alone. Assumes nothing.
use Rattle.std.specs.Prelude.{◌≡◌, ℕ, List, [], ◌∷◌, map, codes, Option, refl}
use Rattle.std.specs.List.{range_with_len}
use Rattle.lines.specs.Packed.{packed_row}
use Rattle.words.specs.Examples.{WorkedExamples, plan_a, field_a}
use Rattle.words.specs.declared.plan.Plan.{Plan}
use Rattle.register.specs.Racks.{numbered}
use Rattle.register.specs.Texts.{told_line, told_numbers}
use Rattle.register.specs.Verdicts.{judged}
use Rattle.names.specs.declared.extension.Extension.{Extension}
use Rattle.register.specs.declared.verdict.Verdict.{Verdict}
use Rattle.register.specs.declared.verdict.Verdict.TheVariants.{Overload, Noise, Foreign, Named}

-- the plan of the record 05 0A 82 08
abbrev pub exchange_a : Plan
exchange_a = record { q = 5; n = plan_a.n; k = plan_a.k; d = plan_a.d; e = plan_a.e; cards = 25; limits = refl; counted = refl }

-- numbers 0, 1 and 7 are enrolled
abbrev pub enrolled_a : List (Option Extension)
enrolled_a = map (numbered (0xC1 ∷ 0x00 ∷ 0x00 ∷ 0x00 ∷ [])) (range_with_len 0 25)

-- what a packed frame says: its verdict, the numbers that it lists, and its line of text
pub record Says (frame : List ℕ) (v : Verdict) (numbers : List ℕ) (line : List ℕ) : Type 0 where
  pub verdict_is : judged field_a exchange_a enrolled_a (packed_row frame 25) ≡ v
  pub numbers_are : told_numbers field_a exchange_a (packed_row frame 25) ≡ numbers
  pub line_is : told_line field_a exchange_a enrolled_a (packed_row frame 25) ≡ line

pub record WorkedReadings : Type 0 where
  pub words_and_records : WorkedExamples
  pub cards_0_and_7 : Says (0x24 ∷ 0xA3 ∷ 0x0C ∷ 0x00 ∷ []) (Named 2) (0 ∷ 7 ∷ []) (codes "N 2 0 7\n")
  pub first_frame : Says (0xA4 ∷ 0xA3 ∷ 0x0C ∷ 0x00 ∷ []) (Named 2) (0 ∷ 7 ∷ []) (codes "N 2 0 7\n")
  pub second_frame : Says (0xA4 ∷ 0x71 ∷ 0x28 ∷ 0x00 ∷ []) (Foreign 12 2) (0 ∷ 12 ∷ []) (codes "F 12 2 0 12\n")
  pub third_frame : Says (0xE6 ∷ 0xB3 ∷ 0x8C ∷ 0x00 ∷ []) (Overload 3) [] (codes "O 3\n")
  pub fourth_frame : Says (0x20 ∷ 0xA3 ∷ 0x0C ∷ 0x00 ∷ []) (Noise 2) [] (codes "X 2\n")
  pub fifth_frame : Says (0x00 ∷ 0x00 ∷ 0x00 ∷ 0x00 ∷ []) (Named 0) [] (codes "N 0\n")
