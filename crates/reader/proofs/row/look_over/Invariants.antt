use Rattle.std.proofs.Common.{◌≡◌, take}
use Rattle.reader.proofs.row.look_over.Given as goal

-- the slots so far are taken down
abbrev pub invariant-loop-slot : goal.invariant-loop-slot
invariant-loop-slot g l = l.slots.items ≡ take l.slot (g.L.Line.row l.line)
