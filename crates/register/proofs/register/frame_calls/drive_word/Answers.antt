-- Each turn drives one more place of the card's word, whose slot lies on the row.
use Rattle.std.proofs.Common.{◌≡◌, ◌*◌, ◌<◌, length, sym, ap, ◌∙◌, arith}
use Rattle.frames.proofs.Slots.{slot_accepts}
use Rattle.words.specs.Words.{slot_at}
use Rattle.register.proofs.Driving.{slot_told, driven_more, driven_all}
use Rattle.register.proofs.register.frame_calls.drive_word.Given.{Over}
use Rattle.register.proofs.register.frame_calls.drive_word.Goals.{In_ok-slot}
use Rattle.register.proofs.register.frame_calls.drive_word.Goals as goal

-- the slot of a place, and that it lies on the row
on_the_row : (g : Over) (c : In_ok-slot g)
    → (c.in_ok-slot.field-0 ≡ slot_at (g.F.Field.tables c.args.code.now.field.now) c.args.code.now.plan.now.k c.args.number c.loop-place.place) × (c.in_ok-slot.field-0 < length (g.L.Line.row c.loop-place.line))
on_the_row g c =
    let told = slot_told (g.F.Field.tables c.args.code.now.field.now) (g.met.F.Field.lawful c.args.code.now.field.now) c.args.code.now.plan.now c.args.number c.loop-place.place c.in_ok-slot.field-0 c.args.code.now.same_order (omega (arith, c.loop-place-test.true, c.n-place-end.ensures)) c.in_ok-slot.ensures in
    (told.0, omega (arith, told.1, g.L.Line.laws.sized c.args.line.now c.loop-place.line c.loop-place.invariant.0, c.requires.slots))

pub returns-in_err-drive : goal.returns-in_err-drive
returns-in_err-drive g c =
    absurd (slot_accepts (length (g.L.Line.row c.loop-place.line)) c.in_ok-slot.field-0 tt c.in_err-drive.field-0.0 (on_the_row g (goal.at.returns-in_err-drive g c).In_ok-slot).1 c.in_err-drive.ensures.answer)

pub loop-place-preserved : goal.loop-place-preserved
loop-place-preserved g c =
    let before = c.loop-place.line in
    let told = on_the_row g (goal.at.loop-place-preserved g c).In_ok-slot in (
      g.L.Line.laws.onward c.args.line.now before c.drive.new.self c.loop-place.invariant.0 c.drive.ensures.rest,
      rw c.drive.ensures.after (driven_more (g.F.Field.tables c.args.code.now.field.now) (g.met.F.Field.lawful c.args.code.now.field.now) c.args.code.now.plan.now c.args.number c.loop-place.place c.in_ok-slot.field-0 (g.L.Line.row c.args.line.now) (g.L.Line.row before) c.args.code.now.same_order (omega (arith, c.loop-place-test.true, c.n-place-end.ensures)) told.0 told.1 c.loop-place.invariant.1),
    )

pub returns-clause-after : goal.returns-clause-after
returns-clause-after g c =
    let plan = c.args.code.now.plan.now in
    let all : c.loop-place.place ≡ plan.n = omega (arith, c.loop-place-test.false, c.loop-place.auto.place-end, c.n-place-end.ensures) in
    driven_all (g.F.Field.tables c.args.code.now.field.now) plan c.args.number (g.L.Line.row c.args.line.now) (g.L.Line.row c.loop-place.line) c.args.code.now.same_order (c.requires.slots ∙ ap (λ q. plan.n * q) (sym c.args.code.now.same_order)) (g.L.Line.laws.sized c.args.line.now c.loop-place.line c.loop-place.invariant.0) (rw all at c.loop-place.invariant.1)
