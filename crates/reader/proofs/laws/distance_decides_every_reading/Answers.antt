use Rattle.reader.proofs.Deciding.{distance_decides}
use Rattle.reader.proofs.laws.distance_decides_every_reading.Goals as goal

pub returns : goal.returns
returns c = distance_decides
