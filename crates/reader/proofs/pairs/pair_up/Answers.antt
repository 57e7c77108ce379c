-- Row by row, each entry is what its two elements give.
use Rattle.std.proofs.Common.{◌≡◌, ◌+◌, ◌-◌, ◌*◌, ◌≤◌, length, take, drop, ◌++◌, ap, ◌∙◌, add-mul, one-mul, arith}
use Rattle.std.proofs.lemmas.Nat.{mul-le}
use Rattle.std.proofs.lemmas.List.{length-append, length-drop, length-take, get_or-take}
use Rattle.reader.specs.Working.{pair_of}
use Rattle.reader.proofs.Grids.{grid_row, grid_at}
use Rattle.reader.proofs.Planned.{planned_by}
use Rattle.reader.proofs.pairs.pair_up.Goals as goal

pub loop-a-preserved : goal.loop-a-preserved
loop-a-preserved g c =
    let code = c.args.code.now in
    let f = g.F.Field.tables code.field.now in
    let a = c.loop-a.a in
    let pairs = c.loop-a.pairs in
    let row = c.loop-b.row in
    let q = c.order-q.result in
    let few : q ≤ 64 = omega (arith, c.order-q.ensures, (planned_by f code.plan.now code.same_order).q_high) in
    let fits : a * q + q ≤ 4096 = omega (arith, mul-le (a + 1) q 64 64 (omega (arith, few, c.loop-a-test.true)) few, add-mul a 1 q, one-mul q) in
    let starts : a * q ≡ a * f.order = ap (λ m. a * m) c.order-q.ensures in
    let long : length (take (a * q) pairs) ≡ a * f.order = omega (arith, length-take (a * q) pairs, fits, starts, c.loop-a.invariant.sized) in
    let part : length row ≡ length (take (a * q + q - a * q) (drop (a * q) pairs)) = c.loop-b.auto.row in
    let wide : length row ≡ f.order = omega (arith, part, length-take (a * q + q - a * q) (drop (a * q) pairs), length-drop (a * q) pairs, fits, c.order-q.ensures, c.loop-a.invariant.sized) in
    let rest = drop (a * q + q - a * q) (drop (a * q) pairs) in
    let sized : length (take (a * q) pairs ++ (row ++ rest)) ≡ 4096 =
    omega (arith, length-append (take (a * q) pairs) (row ++ rest), length-append row rest, length-drop (a * q + q - a * q) (drop (a * q) pairs), length-drop (a * q) pairs, wide, long, starts, fits, c.order-q.ensures, c.loop-a.invariant.sized) in
    let filled = grid_row (pair_of f) f.order a (take (a * q) pairs) row rest long wide
    (λ d i h. get_or-take (a * q) pairs i d (omega (arith, h, starts)) ∙ c.loop-a.invariant.filled d i h)
    (λ d b h. c.loop-b.invariant d b (omega (arith, h, wide, c.loop-b.auto.row, c.loop-b-test.false))) in
    record { sized = sized; filled = filled }

pub returns-clause-paired : goal.returns-clause-paired
returns-clause-paired g c =
    let f = g.F.Field.tables c.args.code.now.field.now in
    λ a b ha hb d. grid_at (pair_of f) f.order c.loop-a.a a b c.loop-a.pairs d (omega (arith, ha, c.loop-a-test.false, c.order-q.ensures)) hb c.loop-a.invariant.filled
