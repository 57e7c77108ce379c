-- No other level is written.
use Rattle.std.proofs.Common.{◌<◌, length, arith}
use Rattle.lines.specs.Level.{level_means}
use Rattle.lines.proofs.Levels.{level_set_kept}
use Rattle.lines.proofs.level.LevelLine.drop.Goals as goal

pub returns-clause-rest : goal.returns-clause-rest
returns-clause-rest c =
    let within : c.args.slot < length (level_means c.args.self.now) = grind arith in
    level_set_kept _ _ _ within
