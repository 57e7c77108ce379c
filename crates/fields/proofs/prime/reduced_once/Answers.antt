-- One subtraction reduces a number below 2p.
use Rattle.std.proofs.Common.{sym, ◌∙◌, mod-eq_of_lt, arith}
use native.Mathlib.Nat.{mod-eq-sub-mod}
use Rattle.fields.proofs.prime.reduced_once.Goals as goal

pub returns-then-s-p : goal.returns-then-s-p
returns-then-s-p c = sym (mod-eq_of_lt c.if-s-p.true)

pub returns-else-s-p : goal.returns-else-s-p
returns-else-s-p c = sym (mod-eq-sub-mod c.if-s-p.false ∙ mod-eq_of_lt (omega arith))
