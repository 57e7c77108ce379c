use Rattle.std.proofs.Common.{◌≡◌}
use Rattle.fields.specs.Polynomials.{remainder}
use Rattle.fields.proofs.binary.Binary.reduced.Given as goal

-- the terms from x^(m + i) on are cancelled
abbrev pub invariant-loop-i : goal.invariant-loop-i
invariant-loop-i l = remainder l.self.m l.self.modulus l.i l.rest ≡ remainder l.self.m l.self.modulus l.self.m l.a
