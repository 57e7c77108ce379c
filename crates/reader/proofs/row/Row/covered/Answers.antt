-- The numbers come in their order, and each that has the votes is counted.
use Rattle.std.proofs.Common.{◌≡◌, ◌+◌, ◌*◌, ◌^◌, ◌-◌, ◌<◌, true, false, get_or, ◌∙◌, arith}
use Rattle.std.proofs.lemmas.List.{get_or-take, length-take}
use Rattle.std.proofs.lemmas.Bool.{le-leb, lt-leb}
use Rattle.reader.specs.Distances.{covered}
use Rattle.reader.proofs.Covering.{spots_within, highs_are, number_few, covered_told, cover_all}
use Rattle.reader.proofs.Gathering.{gathered_few, gathered_no, gathered_yes}
use Rattle.reader.proofs.row.Row.covered.Goals as goal
use Rattle.reader.proofs.row.Row.covered.Goals.{then-votes-needed, else-votes-needed}

pub tally-votes-requires-clause-within : goal.tally-votes-requires-clause-within
tally-votes-requires-clause-within g c =
    let self = c.args.self.now in
    rw (c.as_slice.ensures.value, c.standing-spots.ensures) (spots_within self.tables.now.code.now.plan.now self.slots.now self.long)

pub note-requires : goal.note-requires
note-requires g c =
    let plan = c.args.self.now.tables.now.code.now.plan.now in
    let high : c.loop-high.high < plan.q ^ (plan.k - 1) = omega (arith, c.loop-high-test.true, highs_are plan c.cards.ensures c.q-q.ensures) in
    let lowest : c.loop-lowest.lowest < plan.q = omega (arith, c.loop-lowest-test.true, length-take c.q-q.result c.tally-votes.result, c.q-q.ensures) in
    omega (arith, number_few plan c.loop-high.high c.loop-lowest.lowest high lowest, gathered_few c.loop-lowest.invariant)

pub loop-lowest-preserved : goal.loop-lowest-preserved
loop-lowest-preserved g c =
    let self = c.args.self.now in
    let tables = self.tables.now in
    let plan = tables.code.now.plan.now in
    let high = c.loop-high.high in
    let lowest = c.loop-lowest.lowest in
    let voted = get_or c.tally-votes.result lowest 0 in
    let test = covered (g.F.Field.tables tables.code.now.field.now) plan.n plan.k plan.e self.slots.now in
    let below : lowest < plan.q = omega (arith, c.loop-lowest-test.true, length-take c.q-q.result c.tally-votes.result, c.q-q.ensures) in
    let told = covered_told tables.tabled (g.met.F.Field.lawful tables.code.now.field.now) high lowest self.slots.now c.as_slice.result.now voted below self.long
    (c.as_slice.ensures.value ∙ c.standing-spots.ensures) (c.tally-votes.ensures lowest below) in
    let read = get_or-take c.q-q.result c.tally-votes.result lowest 0 (omega (arith, below, c.q-q.ensures)) in
    elim c.if-votes-needed.branch [
      | then-votes-needed w ↦
          let yes' : test (high * plan.q + lowest) ≡ true = told ∙ le-leb plan.n (voted + plan.e) (omega (arith, w.if-votes-needed.true, read, c.n.ensures, c.e.ensures)) in
          rw (w.covered-is, w.note.ensures.count, w.note.ensures.listed, c.q-q.ensures) (gathered_yes c.loop-lowest.invariant (high * plan.q + (lowest + 1)) (omega arith) yes')
      | else-votes-needed w ↦
          let no' : test (high * plan.q + lowest) ≡ false = told ∙ lt-leb plan.n (voted + plan.e) (omega (arith, w.if-votes-needed.false, read, c.n.ensures, c.e.ensures)) in
          rw w.covered-is (gathered_no c.loop-lowest.invariant (high * plan.q + (lowest + 1)) (omega arith) no')
    ]

pub returns : goal.returns
returns g c =
    let tables = c.args.self.now.tables.now in
    let plan = tables.code.now.plan.now in
    let all = cover_all tables.tabled c.args.self.now.slots.now c.loop-high.high c.loop-high.covered.count c.loop-high.covered.listed.items
    (omega (arith, c.loop-high-test.false, c.loop-high.auto.high-end, highs_are plan c.cards.ensures c.q-q.ensures)) c.loop-high.invariant in
    record { count = all.0; listed = all.1 }
