use Rattle.std.proofs.Common.{◌≡◌, false, take, replicate}
use Rattle.lines.proofs.clear.drop_all.Given as goal

-- the slots so far are clear, and what is kept stays
abbrev pub invariant-loop-slot : goal.invariant-loop-slot
invariant-loop-slot g l = record {
  rest : g.L.Line.kept l.initial.line l.line;
  clear : take l.slot (g.L.Line.row l.line) ≡ replicate l.slot false;
}
