use Rattle.std.proofs.Common.{◌≡◌}
use Rattle.fields.specs.Polynomials.{product}
use Rattle.fields.proofs.binary.Binary.carryless_product.Given as goal

-- the terms of b below x^i are multiplied
abbrev pub invariant-loop-i : goal.invariant-loop-i
invariant-loop-i l = l.sum ≡ product l.i l.a l.b
