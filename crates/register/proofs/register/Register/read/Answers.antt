-- What distance decides stands together with what the run decides.
use Rattle.std.proofs.Common.{◌≡◌, arith}
use Rattle.std.proofs.lemmas.Grind.{common_steps}
use Rattle.faults.specs.Faults.{answer}
use Rattle.register.specs.Calls.{to_read, refusal, list_left}
use Rattle.register.specs.Racks.{rack_of}
use Rattle.register.specs.Verdicts.{judged}
use Rattle.register.proofs.Guaranteeing.{guaranteed}
use Rattle.register.proofs.register.Register.read.Goals as goal

pub returns-clause-promises : goal.returns-clause-promises
returns-clause-promises g c =
    let same = g.N.Name.same in
    let f = g.F.Field.tables c.args.field.now in
    let plan = c.args.plan.now in
    let rack = rack_of c.args.self.now (g.L.Line.row c.args.line.now) in
    let mark = c.args.frame.now.mark in
    let list = c.args.list.now in
    let refused = refusal same f plan rack (to_read mark list) in
    let told : c.judge.result ≡ answer refused (judged f plan rack.entries rack.row) = grind (arith, common_steps) in
    let left : c.judge.new.list ≡ list_left f plan refused rack.row list = grind (arith, common_steps) in
    guaranteed same g.met.N.Name.alike f (g.met.F.Field.lawful c.args.field.now) plan rack mark list c.judge.new.list c.judge.result told left c.judge.ensures.promises
