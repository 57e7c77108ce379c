-- Verdict and list are those of the definitions, and distance decides them.
use Rattle.reader.proofs.Deciding.{reading_decided}
use Rattle.reader.proofs.Planned.{planned_by}
use Rattle.reader.proofs.reading.read.Goals as goal

pub returns-clause-promises : goal.returns-clause-promises
returns-clause-promises g c =
    let f = g.F.Field.tables c.args.field.now in
    let plan = c.args.plan.now in
    let code = c.in_ok-code.ensures in
    let order = rw (code.field, code.plan) at c.in_ok-code.code.same_order in
    let answer = rw (code.field, code.plan) at c.decide.ensures.answer in
    let list = rw (code.field, code.plan) at c.decide.ensures.list in
    rw (answer, list)
    (reading_decided f (g.met.F.Field.lawful c.args.field.now) plan.n plan.k plan.d plan.e (planned_by f plan order) (g.L.Line.row c.args.line.now) c.args.list.now)
