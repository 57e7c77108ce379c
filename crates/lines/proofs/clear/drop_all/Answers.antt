-- Each turn drops one more slot.
use Rattle.std.proofs.Common.{arith}
use Rattle.std.proofs.lemmas.Grind.{common_steps}
use Rattle.lines.proofs.clear.drop_all.Goals as goal

pub loop-slot-preserved : goal.loop-slot-preserved
loop-slot-preserved g c =
    let laws = g.L.Line.laws in
    let size = laws.sized _ _ c.loop-slot.invariant.rest in
    record {
      rest = laws.onward _ _ _ c.loop-slot.invariant.rest c.drop.ensures.rest;
      clear = grind (arith, common_steps, size);
    }
