use Rattle.std.proofs.Common.{◌≡◌, ℕ, ◌*◌, ◌<◌, length, get_or}
use Rattle.reader.specs.Working.{Grid, pair_of}
use Rattle.reader.specs.declared.pairs.Pair.{Pair}
use Rattle.reader.proofs.pairs.pair_up.Given as goal

-- the rows so far
abbrev pub invariant-loop-a : goal.invariant-loop-a
invariant-loop-a g l = let f = g.F.Field.tables l.code.field.now in record { sized : length l.pairs ≡ 4096; filled : Grid (pair_of f) f.order (l.a * f.order) l.pairs }

-- and of the row at hand the first entries
abbrev pub invariant-loop-b : goal.invariant-loop-b
invariant-loop-b g l = (d : Pair) (b : ℕ) → b < l.b → get_or l.row b d ≡ pair_of (g.F.Field.tables l.code.field.now) l.a b
