use Rattle.std.proofs.Common.{◌≡◌, ℕ, ◌*◌, ◌<◌, length, get_or}
use Rattle.reader.specs.Working.{Grid, base}
use Rattle.reader.proofs.bases.base_up.Given as goal

-- the rows so far
abbrev pub invariant-loop-high : goal.invariant-loop-high
invariant-loop-high g l =
    let plan = l.code.plan.now in
    record { sized : length l.bases ≡ 65536; filled : Grid (base (g.F.Field.tables l.code.field.now) plan.k) plan.n (l.high * plan.n) l.bases }

-- and of the row at hand the first entries
abbrev pub invariant-loop-place : goal.invariant-loop-place
invariant-loop-place g l = (d i : ℕ) → i < l.place → get_or l.row i d ≡ base (g.F.Field.tables l.code.field.now) l.code.plan.now.k l.high i
