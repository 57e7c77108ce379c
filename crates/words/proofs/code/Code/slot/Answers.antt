use Rattle.std.proofs.Common.{arith}
use Rattle.words.proofs.Addressing.{slot_fits}
use Rattle.words.proofs.code.Code.slot.Goals as goal

pub overflow_add-result : goal.overflow_add-result
overflow_add-result g c =
    let code = c.args.self.now in
    omega (arith, slot_fits (g.F.Field.tables code.field.now) (g.met.F.Field.lawful code.field.now) code.plan.now code.same_order c.args.number c.args.place c.q.result c.in_ok-symbol.symbol c.q.ensures c.in_ok-symbol.ensures)
