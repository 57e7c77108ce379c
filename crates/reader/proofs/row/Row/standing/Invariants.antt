use Rattle.std.proofs.Common.{◌≡◌, ◌+◌, ◌*◌, false, map, get_or, filter}
use Rattle.std.specs.List.{range_with_len}
use Rattle.reader.specs.Working.{spot_of}
use Rattle.reader.proofs.row.Row.standing.Given as goal

-- the standing slots of the places so far
abbrev pub invariant-loop-place : goal.invariant-loop-place
invariant-loop-place g l =
    let q = l.self.tables.now.code.now.plan.now.q in
    l.spots.items ≡ map (spot_of q) (filter (λ slot. get_or l.self.slots.now slot false) (range_with_len 0 (l.place * q)))

-- and of the place at hand the first ones
abbrev pub invariant-loop-symbol : goal.invariant-loop-symbol
invariant-loop-symbol g l =
    let q = l.self.tables.now.code.now.plan.now.q in
    l.spots.items ≡ map (spot_of q) (filter (λ slot. get_or l.self.slots.now slot false) (range_with_len 0 (l.place * q + l.symbol)))
