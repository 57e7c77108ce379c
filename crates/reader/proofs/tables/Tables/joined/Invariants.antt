use Rattle.std.proofs.Common.{◌≡◌, ℕ, ◌*◌, ◌<◌, false, get_or, take}
use Rattle.reader.specs.Distances.{joined}
use Rattle.reader.proofs.tables.Tables.joined.Given as goal

-- the words of the numbers so far are joined
abbrev pub invariant-loop-number : goal.invariant-loop-number
invariant-loop-number g l =
    let f = g.F.Field.tables l.self.code.now.field.now in
    (slot : ℕ) → slot < l.self.code.now.plan.now.n * f.order → get_or l.joined slot false ≡ joined f l.self.code.now.plan.now.k (take l.number-index l.numbers) slot
