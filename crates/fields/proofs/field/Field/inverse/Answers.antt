-- The search tries every element from 1 on.
use Rattle.std.proofs.Common.{rules}
use Rattle.std.proofs.lemmas.Iterator.{first_from_Range}
use Rattle.fields.proofs.Answering.{MakesOne, inverse_searched}
use Rattle.fields.proofs.field.Field.inverse.Goals as goal

pub returns : goal.returns
returns g c =
    let f = g.Self.Field.tables c.args.self.now in
    let a = c.args.a in
    rw (c.ok_or.ensures.value, c.new.ensures)
    (inverse_searched f (g.met.Self.Field.lawful c.args.self.now) _ c.order-order.ensures c.args.a _
    (first_from_Range _ _ _ _ (MakesOne f a) (λ b. MakesOne f a b → ⊥) c.find.ensures.ran (λ b q k. search rules) (λ b q k. search rules)))
