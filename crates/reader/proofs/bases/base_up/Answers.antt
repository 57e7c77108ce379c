-- Each row is made of those before it.
use Rattle.std.proofs.Common.{◌≡◌, ℕ, ◌*◌, ◌-◌, length, drop, ap, ◌∙◌, ◌++◌, arith}
use Rattle.std.proofs.lemmas.List.{length-append, length-drop, length-take, length-replicate, get_or-take}
use Rattle.reader.specs.Working.{base}
use Rattle.reader.proofs.Basing.{plan_highs, bases_begin}
use Rattle.reader.proofs.Grids.{grid_row, grid_at}
use Rattle.reader.proofs.Planned.{planned_by, rows_few_by}
use Rattle.reader.proofs.bases.base_up.Goals as goal

pub loop-high-init : goal.loop-high-init
loop-high-init g c =
    let code = c.args.code.now in
    let f = g.F.Field.tables code.field.now in
    record {
      sized = ap length c.requires.zeros ∙ length-replicate {A = ℕ} 65536 0;
      filled = rw c.requires.zeros (bases_begin f (g.met.F.Field.lawful code.field.now) (planned_by f code.plan.now code.same_order));
    }

pub split_at_mut-smaller-requires : goal.split_at_mut-smaller-requires
split_at_mut-smaller-requires g c =
    let code = c.args.code.now in
    let f = g.F.Field.tables code.field.now in
    let highs = plan_highs f code.plan.now c.cards.result c.q.result code.same_order c.cards.ensures c.q.ensures in
    let lim = planned_by f code.plan.now code.same_order in
    let few = rows_few_by f code.plan.now code.same_order c.loop-high.high 0 (omega (arith, highs, c.loop-high-test.true)) (omega (arith, lim.n_low)) in
    rw c.n-n.ensures (omega (arith, few, c.loop-high.invariant.sized))

pub loop-high-preserved : goal.loop-high-preserved
loop-high-preserved g c =
    let code = c.args.code.now in
    let f = g.F.Field.tables code.field.now in
    let n = code.plan.now.n in
    let high = c.loop-high.high in
    let split = c.split_at_mut-smaller in
    let smaller = split.result.0.now in
    let rest = split.result.1.now in
    let row = c.loop-place.row in
    let highs = plan_highs f code.plan.now c.cards.result c.q.result code.same_order c.cards.ensures c.q.ensures in
    let lim = planned_by f code.plan.now code.same_order in
    let few = rows_few_by f code.plan.now code.same_order high (n - 1) (omega (arith, highs, c.loop-high-test.true)) (omega (arith, lim.n_low)) in
    let long : length smaller ≡ high * n = split.ensures.front_len ∙ ap (λ m. high * m) c.n-n.ensures in
    let wide : length row ≡ n = omega (arith, c.loop-place.auto.row, length-take c.n-n.result rest, c.n-n.ensures, split.ensures.front_len, split.ensures.back_len, long, few, lim.n_low, c.loop-high.invariant.sized) in
    let begun = rw c.n-n.ensures at split.ensures.front in
    record {
      sized = omega (arith, length-append smaller (row ++ drop c.n-n.result rest), length-append row (drop c.n-n.result rest), length-drop c.n-n.result rest, wide, c.n-n.ensures, split.ensures.front_len, split.ensures.back_len, long, few, lim.n_low, c.loop-high.invariant.sized);
      filled = grid_row (base f code.plan.now.k) n high smaller row _ long wide
          (λ d i h. rw begun (get_or-take (high * n) c.loop-high.bases i d h ∙ c.loop-high.invariant.filled d i h))
          (λ d b h. c.loop-place.invariant d b (omega (arith, h, wide, c.loop-place.auto.row, c.loop-place-test.false)));
    }

pub returns : goal.returns
returns g c =
    let code = c.args.code.now in
    let f = g.F.Field.tables code.field.now in
    let highs = plan_highs f code.plan.now c.cards.result c.q.result code.same_order c.cards.ensures c.q.ensures in
    λ high place hh hp d. grid_at (base f code.plan.now.k) code.plan.now.n c.loop-high.high high place c.loop-high.bases d (omega (arith, highs, c.loop-high-test.false)) hp c.loop-high.invariant.filled
