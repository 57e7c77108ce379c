use Rattle.words.proofs.Evaluating.{Turn}
use Rattle.words.proofs.code.Code.value.Given as goal

-- the terms below x^j are added up, and the next digit and power are at hand
abbrev pub invariant-loop-j : goal.invariant-loop-j
invariant-loop-j g l = Turn (g.F.Field.tables l.self.field.now) l.number l.x l.j l.rest l.power l.sum
