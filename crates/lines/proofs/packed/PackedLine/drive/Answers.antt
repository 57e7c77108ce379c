-- No other bit is written.
use Rattle.std.proofs.Common.{◌<◌, length, arith, rules}
use Rattle.lines.specs.Packed.{packed_means}
use Rattle.lines.proofs.Packing.{with_slot_kept}
use Rattle.lines.proofs.packed.PackedLine.drive.Goals as goal

pub returns-clause-rest : goal.returns-clause-rest
returns-clause-rest c =
    let within : c.args.slot < length (packed_means c.args.self.now) = grind arith in
    search (rules, with_slot_kept)
