-- No bit is set before the place at hand.
use Rattle.bench.specs.Spares.{NoneSet}
use Rattle.bench.proofs.judging.clear_behind.Given as goal

abbrev pub invariant-loop-place : goal.invariant-loop-place
invariant-loop-place l = NoneSet l.bits l.numbers l.place
