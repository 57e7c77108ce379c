-- The slots come in their order, and each that stands is put behind those before it.
use Rattle.std.proofs.Common.{◌≡◌, ℕ, ◌+◌, ◌*◌, ◌<◌, Bool, false, ◌∙◌, sym, length, map, get_or, filter, ap, arith}
use Rattle.std.specs.List.{range_with_len}
use Rattle.words.proofs.Addressing.{slots_few}
use Rattle.reader.specs.Working.{spot_of}
use Rattle.reader.specs.declared.spot.Spot.{Spot}
use Rattle.reader.proofs.Gathering.{kept_no, spots_yes, spots_few, spot_at, row_slot}
use Rattle.reader.proofs.Grids.{cell_below}
use Rattle.reader.proofs.row.Row.standing.Goals as goal
use Rattle.reader.proofs.row.Row.standing.Goals.{then-stands, else-stands}

pub push-requires : goal.push-requires
push-requires g c =
    let plan = c.args.self.now.tables.now.code.now.plan.now in
    let slot : ℕ = c.loop-place.place * plan.q + c.loop-symbol.symbol in
    let few : length c.loop-symbol.spots.items < 4096 =
    omega (
      arith,
      spots_few _ plan.q slot _ c.loop-symbol.invariant,
      cell_below plan.q plan.n c.loop-place.place c.loop-symbol.symbol (omega (arith, c.loop-place-test.true, c.n-place-end.ensures)) (omega (arith, c.loop-symbol-test.true, c.q-q.ensures)),
      slots_few plan,
    ) in
    (omega arith, few)

pub loop-symbol-preserved : goal.loop-symbol-preserved
loop-symbol-preserved g c =
    let self = c.args.self.now in
    let q = self.tables.now.code.now.plan.now.q in
    let place = c.loop-place.place in
    let symbol = c.loop-symbol.symbol in
    let slot : ℕ = place * q + symbol in
    let spot : Spot = record { place = place; symbol = symbol } in
    let test : ℕ → Bool = λ s. get_or self.slots.now s false in
    let below : symbol < q = omega (arith, c.loop-symbol-test.true, c.q-q.ensures) in
    let cut = row_slot self.slots.now place symbol c.q-q.result q c.q-q.ensures below in
    let more = ap (λ n. map (spot_of q) (filter test (range_with_len 0 n))) (let next : slot + 1 ≡ place * q + (symbol + 1) = omega arith in next) in
    elim c.if-stands.branch [
      | then-stands w ↦ rw (w.spots-is, w.push.ensures.items) (spots_yes test q slot c.loop-symbol.spots.items spot c.loop-symbol.invariant (cut ∙ w.if-stands.true) (spot_at q place symbol below) ∙ more)
      | else-stands w ↦ rw w.spots-is (c.loop-symbol.invariant ∙ ap (map (spot_of q)) (sym (kept_no test slot (cut ∙ w.if-stands.false))) ∙ more)
    ]
