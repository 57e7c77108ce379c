-- What distance guarantees stays true when names are asked.
use Rattle.register.proofs.Judging.{names_keep_promises}
use Rattle.register.proofs.register.Register.judge.Goals as goal

pub returns-clause-promises : goal.returns-clause-promises
returns-clause-promises g c =
    names_keep_promises (g.F.Field.tables c.args.field.now) c.args.plan.now c.args.self.now.entries.now (g.L.Line.row c.args.line.now) c.read.new.list c.in_ok-verdict.verdict c.with_names.result c.with_names.ensures c.in_ok-verdict.ensures.promises
