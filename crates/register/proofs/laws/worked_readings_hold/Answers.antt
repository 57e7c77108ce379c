use Rattle.register.proofs.Examples.{worked_readings}
use Rattle.register.proofs.laws.worked_readings_hold.Goals as goal

pub returns : goal.returns
returns c = worked_readings
