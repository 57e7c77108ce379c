use Rattle.reader.proofs.Tallying.{Tallied}
use Rattle.reader.proofs.tables.Tables.tally.Given as goal

-- the spots so far have voted
abbrev pub invariant-loop-spot : goal.invariant-loop-spot
invariant-loop-spot g l = Tallied (g.F.Field.tables l.self.code.now.field.now) l.self.code.now.plan.now.k l.high l.spots l.spot-index l.votes
