-- Every number of a turn is an element, so that no call of the field refuses.
use Rattle.std.proofs.Common.{◌/◌, sym, refl, ap, ◌∙◌, div-one}
use native.Mathlib.Nat.{pow-zero}
use Rattle.fields.proofs.Answering.{table_value, table_accepts}
use Rattle.words.specs.Words.{power, value}
use Rattle.words.proofs.Evaluating.{digit_is_element, raised_is_element, sum_is_element, next_turn}
use Rattle.words.proofs.code.Code.value.Goals as goal

pub loop-j-init : goal.loop-j-init
unfolding power value
loop-j-init g c = record {
  rest_is = sym (ap (λ p. c.args.number / p) (pow-zero _) ∙ div-one c.args.number);
  raised_is = refl;
  sum_is = refl;
}

pub returns-in_err-product : goal.returns-in_err-product
returns-in_err-product g c =
    let code = c.args.self.now in
    let f = g.F.Field.tables code.field.now in
    let laws = g.met.F.Field.lawful code.field.now in
    let below = rw (← code.same_order) at c.requires in
    let t = c.loop-j.invariant in
    absurd (table_accepts f.order f.times _ _ _ (digit_is_element f laws _ _ below t) (raised_is_element f laws _ _ below t)
    (rw c.order-q.ensures at c.in_err-product.ensures))

pub returns-in_err-sum : goal.returns-in_err-sum
returns-in_err-sum g c =
    let code = c.args.self.now in
    let f = g.F.Field.tables code.field.now in
    let laws = g.met.F.Field.lawful code.field.now in
    let below = rw (← code.same_order) at c.requires in
    let t = c.loop-j.invariant in
    let term = table_value f.order f.times _ _ _ c.in_ok-product.ensures in
    absurd (table_accepts f.order f.plus _ _ _ (sum_is_element f laws _ _ below t) (rw term.2 (laws.products_stay_below _ _ term.0 term.1))
    c.in_err-sum.ensures)

pub loop-j-preserved : goal.loop-j-preserved
loop-j-preserved g c =
    let code = c.args.self.now in
    let f = g.F.Field.tables code.field.now in
    let laws = g.met.F.Field.lawful code.field.now in
    let below = rw (← code.same_order) at c.requires in
    let term = table_value f.order f.times _ _ _ (rw c.order-q.ensures at c.in_ok-product.ensures) in
    let sum = table_value f.order f.plus _ _ _ c.in_ok-sum.ensures in
    let raised = table_value f.order f.times _ _ _ c.in_ok-power.ensures in
    rw c.order-q.ensures (next_turn f laws _ _ below c.loop-j.invariant _ _ _ term.2 raised.2 sum.2)
