-- The base and the lowest digit lead to the symbol.
use Rattle.std.proofs.Common.{◌+◌, ◌*◌, ap}
use Rattle.reader.proofs.Joining.{base_within, symbol_within, told_is, slot_few}
use Rattle.reader.proofs.Pairing.{no_pair}
use Rattle.reader.proofs.tables.Tables.slot.Goals as goal

pub bounds-self-number : goal.bounds-self-number
bounds-self-number g c =
    let self = c.args.self.now in
    rw (c.order-q.ensures, c.n.ensures)
    (base_within (g.F.Field.tables self.code.now.field.now) (g.met.F.Field.lawful self.code.now.field.now) self.code.now.plan.now self.tabled no_pair c.args.number c.args.place c.requires.number c.requires.place)

pub bounds-self-base : goal.bounds-self-base
bounds-self-base g c =
    let self = c.args.self.now in
    rw (c.order-q.ensures, c.n.ensures)
    (symbol_within (g.F.Field.tables self.code.now.field.now) (g.met.F.Field.lawful self.code.now.field.now) self.code.now.plan.now self.tabled no_pair c.args.number c.args.place c.requires.number c.requires.place)

pub returns : goal.returns
returns g c =
    let self = c.args.self.now in
    let f = g.F.Field.tables self.code.now.field.now in
    let laws = g.met.F.Field.lawful self.code.now.field.now in
    let is = told_is f laws self.code.now.plan.now self.tabled no_pair c.args.number c.args.place c.requires.number c.requires.place in
    let few = slot_few f laws self.code.now.plan.now self.tabled no_pair c.args.number c.args.place c.requires.number c.requires.place in
    rw (c.order-q.ensures, c.n.ensures) (record { is = ap (λ s. c.args.place * f.order + s) is; few = few })
