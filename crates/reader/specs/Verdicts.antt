-- The verdict on a line, before anyone's name is asked. Assumes nothing.
use Rattle.std.specs.Prelude.{ℕ, Bool, true, false, cond, List, ◌++◌, length, drop, nat_lt}
use Rattle.fields.specs.Lawful.{Tables}
use Rattle.reader.specs.Distances.{distance, cover}
use Rattle.reader.specs.declared.verdict.Verdict.{Verdict}
use Rattle.reader.specs.declared.verdict.Verdict.TheVariants.{Overload, Noise, Reading}

-- more than d covered words are an overload; covered words farther than e slots from the line are noise; otherwise they
-- are the reading
abbrev pub verdict : Tables → ℕ → ℕ → ℕ → ℕ → List Bool → Verdict
verdict f n k d e row =
    let c = cover f n k e row in
    cond (nat_lt d (length c)) (Overload (length c)) (cond (nat_lt e (distance f n k row c)) (Noise (distance f n k row c)) (Reading (length c)))

-- whether a verdict is a reading
abbrev pub is_reading : Verdict → Bool
is_reading (Overload count) = false
is_reading (Noise distance) = false
is_reading (Reading count) = true

-- a list after its line is read: where the verdict is a reading it begins with the covered numbers, and its rest is as it
-- was; otherwise all of it is as it was
abbrev pub listed : Tables → ℕ → ℕ → ℕ → ℕ → List Bool → List ℕ → List ℕ
listed f n k d e row list =
    let c = cover f n k e row in
    cond (is_reading (verdict f n k d e row)) (c ++ drop (length c) list) list
