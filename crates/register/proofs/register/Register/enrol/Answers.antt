-- A name that is not enrolled is the same as no enrolled name.
use Rattle.std.proofs.Common.{sym, ◌∙◌}
use Rattle.register.proofs.Naming.{enrolling_keeps_names_apart}
use Rattle.register.proofs.register.Register.enrol.Goals as goal

pub put-requires-clause-apart : goal.put-requires-clause-apart
put-requires-clause-apart g c =
    enrolling_keeps_names_apart g.N.Name.same g.met.N.Name.alike c.args.self.now.entries.now c.args.number c.args.name (sym c.number_of.ensures.found ∙ c.in_default.is) c.args.self.now.apart
