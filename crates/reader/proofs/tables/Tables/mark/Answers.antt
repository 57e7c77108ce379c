-- Place by place, the slot of the word is marked.
use Rattle.std.proofs.Common.{refl, arith}
use Rattle.words.specs.Words.{symbol}
use Rattle.words.proofs.Addressing.{symbol_below}
use Rattle.reader.proofs.Planned.{planned_by}
use Rattle.reader.proofs.Joining.{word_more}
use Rattle.reader.proofs.tables.Tables.mark.Goals as goal

pub loop-place-preserved : goal.loop-place-preserved
loop-place-preserved g c =
    let self = c.args.self.now in
    let f = g.F.Field.tables self.code.now.field.now in
    let laws = g.met.F.Field.lawful self.code.now.field.now in
    let lim = planned_by f self.code.now.plan.now self.tabled.order in
    let place = c.loop-place.place in
    let below = symbol_below f laws self.code.now.plan.now.k c.args.number place (omega (arith, lim.n_high, c.loop-place-test.true, c.n-place-end.ensures)) in
    rw c.slot.ensures.is
    (word_more f self.code.now.plan.now.n self.code.now.plan.now.k c.args.number place (symbol f self.code.now.plan.now.k c.args.number place) c.args.joined.now c.loop-place.joined refl below
    (omega (arith, c.slot.ensures.is, c.slot.ensures.few)) c.loop-place.invariant)
