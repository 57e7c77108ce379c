use Rattle.std.proofs.Common.{◌≡◌, map, vec_items}
use Rattle.std.specs.List.{range_with_len}
use Rattle.cardsheet.specs.Sheets.{place_of}
use Rattle.cardsheet.proofs.sheet.places_of.Given as goal

-- the places passed so far are in the list
abbrev pub invariant-loop-place : goal.invariant-loop-place
invariant-loop-place g l = vec_items l.places ≡ map (place_of (g.F.Field.tables l.code.field.now) l.code.plan.now.k l.number) (range_with_len 0 l.place)
