-- Speaking leaves the register as it is. Assumes nothing.
use Rattle.std.proofs.Common.{◌≡◌}
use Rattle.night.proofs.exchange.Exchange.speak.Given as goal

abbrev pub invariant-loop-extension : goal.invariant-loop-extension
invariant-loop-extension l = l.self.register ≡ l.fn.self.register

abbrev pub invariant-loop-slot : goal.invariant-loop-slot
invariant-loop-slot l = l.self.register ≡ l.fn.self.register
