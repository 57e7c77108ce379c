use Rattle.register.proofs.Apart.{calls_keep_names_apart}
use Rattle.register.proofs.laws.calls_keep_names_apart.Goals as goal

pub returns : goal.returns
returns g c = calls_keep_names_apart g.N.Name.same g.met.N.Name.alike
