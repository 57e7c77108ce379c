-- Every slot of the frame is told whether the word has it, in the order of the slots.
use Rattle.std.proofs.Common.{◌≡◌, sym, ap, ◌∙◌, zero-mul, arith}
use Rattle.frames.specs.Frames.{framed}
use Rattle.frames.proofs.Slots.{framed_none}
use Rattle.words.specs.Words.{in_word}
use Rattle.words.proofs.Drawing.{slot_within, place_within, drawn_start, drawn_more, drawn_place}
use Rattle.words.proofs.code.Code.draw.Goals as goal

pub loop-place-init : goal.loop-place-init
loop-place-init g c =
    let code = c.args.self.now in
    let test = in_word (g.F.Field.tables code.field.now) code.plan.now.k c.args.number in
    framed_none test c.args.frame.now (λ i. (c.type_inv.frame i).fits) ∙ ap (λ m. framed test m c.args.frame.now) (sym (zero-mul c.q-q.result))

pub loop-y-init : goal.loop-y-init
loop-y-init g c =
    let code = c.args.self.now in
    let place = c.loop-place.place in
    let frame = c.args.frame.now in
    let within = place_within code.plan.now.n c.q-q.result place frame (rw (← c.q-q.ensures) at c.requires) (omega (arith, c.n-place-end.ensures)) in
    drawn_start (in_word (g.F.Field.tables code.field.now) code.plan.now.k c.args.number) c.q-q.result place frame c.loop-place.frame (omega (arith, within)) c.loop-place.invariant

pub loop-y-preserved : goal.loop-y-preserved
loop-y-preserved g c =
    let code = c.args.self.now in
    let place = c.loop-place.place in
    let size = rw (← c.q-q.ensures) at c.requires in
    let within = slot_within code.plan.now.n c.q-q.result place c.loop-y.y c.loop-place.frame (omega (arith, size, c.loop-place.auto.frame))
    (omega (arith, c.n-place-end.ensures)) c.loop-y-test.true in
    rw c.in_ok-put.ensures.after (drawn_more (g.F.Field.tables code.field.now) code.plan.now.k c.args.number place c.q-q.result c.loop-y.y c.in_ok-symbol.symbol c.loop-place.frame c.loop-y.frame
    (code.same_order ∙ sym c.q-q.ensures) c.in_ok-symbol.ensures c.loop-y-test.true within c.loop-y.invariant)

pub loop-place-preserved : goal.loop-place-preserved
loop-place-preserved g c =
    let code = c.args.self.now in
    let q = c.q-q.result in
    let place = c.loop-place.place in
    let frame = c.args.frame.now in
    let within = place_within code.plan.now.n q place frame (rw (← c.q-q.ensures) at c.requires) (omega (arith, c.n-place-end.ensures)) in
    let all : c.loop-y.y ≡ q = omega arith in
    drawn_place (in_word (g.F.Field.tables code.field.now) code.plan.now.k c.args.number) q place frame c.loop-place.frame c.loop-y.frame within c.loop-place.invariant
    (rw all at c.loop-y.invariant)
