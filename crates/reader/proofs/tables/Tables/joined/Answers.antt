-- The marks are the joined words of the numbers so far.
use Rattle.std.proofs.Common.{◌*◌, refl, ap, arith}
use Rattle.words.proofs.Addressing.{slots_few}
use Rattle.reader.proofs.Joining.{unmarked, numbers_more}
use Rattle.reader.proofs.tables.Tables.joined.Goals as goal

pub loop-number-init : goal.loop-number-init
loop-number-init g c =
    let self = c.args.self.now in
    λ slot h. unmarked (g.F.Field.tables self.code.now.field.now) self.code.now.plan.now.k slot _ refl (omega (arith, h, slots_few self.code.now.plan.now, ap (λ q. self.code.now.plan.now.n * q) self.tabled.order))

pub loop-number-preserved : goal.loop-number-preserved
loop-number-preserved g c =
    let self = c.args.self.now in
    let f = g.F.Field.tables self.code.now.field.now in
    numbers_more f self.code.now.plan.now.n self.code.now.plan.now.k f.order c.args.numbers.now c.loop-number.number-index c.loop-number.joined c.mark.new.joined c.loop-number-test.true c.loop-number.invariant c.mark.ensures
