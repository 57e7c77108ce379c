-- Each turn adds one place.
use Rattle.std.proofs.Common.{sym, arith}
use Rattle.std.proofs.lemmas.List.FromFn.{map-range_with_len_more}
use Rattle.cardsheet.specs.Sheets.{place_of}
use Rattle.cardsheet.proofs.sheet.places_of.Goals as goal

pub loop-place-preserved : goal.loop-place-preserved
loop-place-preserved g c =
    let code = c.args.code.now in
    let place = c.loop-place.place in
    let more = map-range_with_len_more (place_of (g.F.Field.tables code.field.now) code.plan.now.k c.args.number) 0 place place (omega arith) in
    rw (c.in_ok-push.ensures.items, c.loop-place.invariant, c.in_ok-place_of.ensures) (sym more)
