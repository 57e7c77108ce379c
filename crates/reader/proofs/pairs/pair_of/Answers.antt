-- Sums, negatives and products of elements are elements, so that no call refuses and each fits a byte.
use Rattle.std.proofs.Common.{◌<◌, arith}
use Rattle.fields.proofs.Answering.{table_accepts}
use Rattle.reader.proofs.Pairing.{negative_below, negative_value}
use Rattle.reader.proofs.pairs.pair_of.Goals as goal

pub returns-in_err-sum-2 : goal.returns-in_err-sum-2
returns-in_err-sum-2 g c =
    let f = g.F.Field.tables c.args.field.now in
    let laws = g.met.F.Field.lawful c.args.field.now in
    let a = c.args.a in
    let v = c.in_ok-negative.field-0 in
    let same = negative_value f a v c.requires.first c.in_ok-negative.ensures in
    let element : v < f.order = omega (arith, same, negative_below f laws a c.requires.first) in
    absurd (table_accepts f.order f.plus c.args.b v c.in_err-sum-2.field-0.0 c.requires.second element c.in_err-sum-2.ensures)
