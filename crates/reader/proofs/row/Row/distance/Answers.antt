-- The joined words mark the slots that the row is compared with.
use Rattle.std.proofs.Common.{◌*◌, ◌≤◌, length, sym, ap, ◌∙◌, arith}
use Rattle.words.proofs.Addressing.{slots_few}
use Rattle.reader.proofs.Joining.{differing_pairs, compared_all}
use Rattle.reader.proofs.row.Row.distance.Goals as goal

pub returns : goal.returns
returns g c =
    let self = c.args.self.now in
    let tables = self.tables.now in
    let plan = tables.code.now.plan.now in
    let size = self.long ∙ ap (λ q. plan.n * q) (sym tables.tabled.order) in
    let within : length self.slots.now ≤ length c.joined.result = omega (arith, self.long, slots_few plan) in
    c.differing.ensures
    ∙ differing_pairs self.slots.now c.joined.result within
    ∙ compared_all (g.F.Field.tables tables.code.now.field.now) plan.n plan.k self.slots.now c.joined.result c.args.numbers.now size c.joined.ensures
