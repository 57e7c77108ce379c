-- The entry before, the sum and the product are within their tables.
use Rattle.reader.proofs.Basing.{upper_within, sum_within, product_within, product_is}
use Rattle.reader.proofs.Pairing.{no_pair}
use Rattle.reader.proofs.bases.base_at.Goals as goal

pub bounds-smaller-high : goal.bounds-smaller-high
bounds-smaller-high g c =
    let code = c.args.code.now in
    rw (c.order-q.ensures, c.n.ensures) (upper_within (g.F.Field.tables code.field.now) (g.met.F.Field.lawful code.field.now) code.plan.now c.requires no_pair)

pub bounds-pairs-high : goal.bounds-pairs-high
bounds-pairs-high g c =
    let code = c.args.code.now in
    rw (c.order-q.ensures, c.n.ensures) (sum_within (g.F.Field.tables code.field.now) (g.met.F.Field.lawful code.field.now) code.plan.now c.requires no_pair)

pub bounds-pairs-place : goal.bounds-pairs-place
bounds-pairs-place g c =
    let code = c.args.code.now in
    rw (c.order-q.ensures, c.n.ensures) (product_within (g.F.Field.tables code.field.now) (g.met.F.Field.lawful code.field.now) code.plan.now c.requires no_pair)

pub returns : goal.returns
returns g c =
    let code = c.args.code.now in
    rw (c.order-q.ensures, c.n.ensures) (product_is (g.F.Field.tables code.field.now) (g.met.F.Field.lawful code.field.now) code.plan.now c.requires no_pair)
