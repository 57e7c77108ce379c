-- A verdict's line of text. Assumes nothing.
use Rattle.std.specs.Prelude.{ℕ, Bool, cond, List, [], ◌∷◌, ◌++◌, length, drop, decimal, Option}
use Rattle.std.specs.List.{flat_map}
use Rattle.fields.specs.Lawful.{Tables}
use Rattle.words.specs.declared.plan.Plan.{Plan}
use Rattle.reader.specs.Distances.{cover}
use Rattle.reader.specs.Verdicts.{verdict, is_reading}
use Rattle.register.specs.Verdicts.{values, judged}
use Rattle.register.specs.declared.verdict.Verdict.{Verdict}
use Rattle.register.specs.declared.verdict.Verdict.TheVariants.{Overload, Noise, Foreign, Named}

-- the letter of a verdict: O, X, F or N
abbrev pub letter : Verdict → ℕ
letter (Overload count) = 79
letter (Noise distance) = 88
letter (Foreign smallest count) = 70
letter (Named count) = 78

-- a field of the line: a blank and a number in decimal
abbrev pub field : ℕ → List ℕ
field x = 32 ∷ decimal x

-- the line: the letter, the verdict's values and the numbers that are listed, each with a blank before it, and a line feed
abbrev pub verdict_line : Verdict → List ℕ → List ℕ
verdict_line v numbers = letter v ∷ (flat_map field (values v ++ numbers) ++ (10 ∷ []))

-- the numbers that a verdict on a row lists: the covered ones where it is a reading, and none otherwise
abbrev pub told_numbers : Tables → Plan → List Bool → List ℕ
told_numbers f p row = cond (is_reading (verdict f p.n p.k p.d p.e row)) (cover f p.n p.k p.e row) []

-- the line of the verdict on a row
abbrev pub told_line : {N : Type 0} → Tables → Plan → List (Option N) → List Bool → List ℕ
told_line f p entries row = verdict_line (judged f p entries row) (told_numbers f p row)

-- a text with a line at its front, and the rest as it was
abbrev pub with_line : List ℕ → List ℕ → List ℕ
with_line line text = line ++ drop (length line) text

-- how many numbers a verdict lists
abbrev pub listed_count : Verdict → ℕ
listed_count (Overload count) = 0
listed_count (Noise distance) = 0
listed_count (Foreign smallest count) = count
listed_count (Named count) = count
