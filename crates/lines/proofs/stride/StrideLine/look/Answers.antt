-- The slot below tells of the slot.
use Rattle.std.proofs.Common.{arith}
use Rattle.lines.proofs.Steps.{stride_length, stride_at}
use Rattle.lines.proofs.stride.StrideLine.look.Goals as goal

pub returns : goal.returns
returns g c = grind (arith, stride_length, stride_at)
