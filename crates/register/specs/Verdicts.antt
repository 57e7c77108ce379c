-- The verdict on a line by the names that are enrolled. Assumes nothing.
use Rattle.std.specs.Prelude.{ℕ, Bool, not, List, [], ◌∷◌, Some, None, Option}
use Rattle.std.specs.List.{find}
use Rattle.fields.specs.Lawful.{Tables}
use Rattle.words.specs.declared.plan.Plan.{Plan}
use Rattle.reader.specs.Distances.{cover}
use Rattle.reader.specs.Verdicts.{verdict}
use Rattle.reader.specs.declared.verdict.Verdict as unnamed
use Rattle.reader.specs.declared.verdict.Verdict.TheVariants as told
use Rattle.register.specs.Racks.{enrolled}
use Rattle.register.specs.declared.verdict.Verdict.{Verdict}
use Rattle.register.specs.declared.verdict.Verdict.TheVariants.{Overload, Noise, Foreign, Named}

-- the smallest number of an ascending list that is not enrolled
abbrev pub smallest_foreign : {N : Type 0} → List (Option N) → List ℕ → Option ℕ
smallest_foreign entries numbers = find (λ number. not (enrolled entries number)) numbers

-- a reading is foreign where some number of it is not enrolled, and named otherwise
abbrev pub by_names : Option ℕ → ℕ → Verdict
by_names None count = Named count
by_names (Some smallest) count = Foreign smallest count

-- overload and noise are what they are before anyone's name is asked
abbrev pub with_names : unnamed.Verdict → Option ℕ → Verdict
with_names (told.Overload count) foreign = Overload count
with_names (told.Noise distance) foreign = Noise distance
with_names (told.Reading count) foreign = by_names foreign count

-- how many numbers a verdict lists before anyone's name is asked
abbrev pub reading_count : unnamed.Verdict → ℕ
reading_count (told.Overload count) = 0
reading_count (told.Noise distance) = 0
reading_count (told.Reading count) = count

-- the verdict on a row
abbrev pub judged : {N : Type 0} → Tables → Plan → List (Option N) → List Bool → Verdict
judged f p entries row =
    with_names (verdict f p.n p.k p.d p.e row) (smallest_foreign entries (cover f p.n p.k p.e row))

-- the rule that a verdict goes by: the rules are asked in this order, and the first that fits decides
abbrev pub rule : Verdict → ℕ
rule (Overload count) = 1
rule (Noise distance) = 2
rule (Foreign smallest count) = 3
rule (Named count) = 4

-- the values that a verdict carries
abbrev pub values : Verdict → List ℕ
values (Overload count) = count ∷ []
values (Noise distance) = distance ∷ []
values (Foreign smallest count) = smallest ∷ count ∷ []
values (Named count) = count ∷ []
