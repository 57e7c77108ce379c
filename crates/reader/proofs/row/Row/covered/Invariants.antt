use Rattle.std.proofs.Common.{◌+◌, ◌*◌}
use Rattle.reader.specs.Distances.{covered}
use Rattle.reader.proofs.Gathering.{Gathered}
use Rattle.reader.proofs.row.Row.covered.Given as goal

-- the covered ones of the numbers so far
abbrev pub invariant-loop-high : goal.invariant-loop-high
invariant-loop-high g l =
    let tables = l.self.tables.now in
    let plan = tables.code.now.plan.now in
    Gathered (covered (g.F.Field.tables tables.code.now.field.now) plan.n plan.k plan.e l.self.slots.now) (l.high * plan.q) l.covered.count l.covered.listed.items

-- and of these higher coefficients the first ones
abbrev pub invariant-loop-lowest : goal.invariant-loop-lowest
invariant-loop-lowest g l =
    let tables = l.self.tables.now in
    let plan = tables.code.now.plan.now in
    Gathered (covered (g.F.Field.tables tables.code.now.field.now) plan.n plan.k plan.e l.self.slots.now) (l.high * plan.q + l.lowest) l.covered.count l.covered.listed.items
