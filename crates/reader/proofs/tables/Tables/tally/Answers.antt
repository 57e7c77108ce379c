-- What the tables tell of each spot is the lowest coefficient that it votes for.
use Rattle.std.proofs.Common.{arith}
use Rattle.reader.specs.declared.spot.Spot.{Spot}
use Rattle.reader.proofs.Pairing.{no_pair}
use Rattle.reader.proofs.Tallying.{order_small, tallied_none, votes_few, tallied_more, base_within, pair_within, told_is, told_below}
use Rattle.reader.proofs.tables.Tables.tally.Goals as goal

-- what a read past a list's end would give
abbrev no_spot : Spot
no_spot = record { place = 0; symbol = 0 }

pub loop-spot-init : goal.loop-spot-init
loop-spot-init g c = tallied_none (order_small c.args.self.now.tabled)

pub bounds-self-high : goal.bounds-self-high
bounds-self-high g c =
    let self = c.args.self.now in
    base_within (g.met.F.Field.lawful self.code.now.field.now) self.tabled c.requires.high c.args.spots.now c.requires.within c.loop-spot-test.true no_spot c.order-q.ensures c.n-n.ensures

pub bounds-self-base : goal.bounds-self-base
bounds-self-base g c =
    let self = c.args.self.now in
    pair_within (g.met.F.Field.lawful self.code.now.field.now) self.tabled c.requires.high c.args.spots.now c.requires.within c.loop-spot-test.true no_spot c.order-q.ensures c.n-n.ensures

pub bounds-votes-lowest : goal.bounds-votes-lowest
bounds-votes-lowest g c =
    let self = c.args.self.now in
    omega (arith, order_small self.tabled, told_below (g.met.F.Field.lawful self.code.now.field.now) self.tabled c.requires.high c.args.spots.now c.requires.within c.loop-spot-test.true no_spot c.order-q.ensures c.n-n.ensures no_pair)

pub overflow_add-votes : goal.overflow_add-votes
overflow_add-votes g c =
    let self = c.args.self.now in
    let below = told_below (g.met.F.Field.lawful self.code.now.field.now) self.tabled c.requires.high c.args.spots.now c.requires.within c.loop-spot-test.true no_spot c.order-q.ensures c.n-n.ensures no_pair in
    omega (arith, c.requires.few, votes_few c.loop-spot-test.true c.loop-spot.invariant below)

pub loop-spot-preserved : goal.loop-spot-preserved
loop-spot-preserved g c =
    let self = c.args.self.now in
    let below = told_below (g.met.F.Field.lawful self.code.now.field.now) self.tabled c.requires.high c.args.spots.now c.requires.within c.loop-spot-test.true no_spot c.order-q.ensures c.n-n.ensures no_pair in
    let is = told_is (g.met.F.Field.lawful self.code.now.field.now) self.tabled c.requires.high c.args.spots.now c.requires.within c.loop-spot-test.true no_spot c.order-q.ensures c.n-n.ensures no_pair in
    tallied_more c.loop-spot-test.true c.loop-spot.invariant below no_spot (order_small self.tabled) is

pub bounds-votes-lowest-in-loop-spot : goal.bounds-votes-lowest-in-loop-spot
bounds-votes-lowest-in-loop-spot g c =
    let self = c.args.self.now in
    omega (arith, order_small self.tabled, told_below (g.met.F.Field.lawful self.code.now.field.now) self.tabled c.requires.high c.args.spots.now c.requires.within c.loop-spot-test.true no_spot c.order-q.ensures c.n-n.ensures no_pair)
