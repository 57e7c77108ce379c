use Rattle.std.proofs.Common.{◌≡◌, ℕ, ◌*◌, ◌/◌, ◌<◌, false, ◌&&◌, ◌||◌, ltb, get_or}
use Rattle.words.specs.Words.{in_word}
use Rattle.register.proofs.register.frame_calls.drive_word.Given as goal

-- the slots of the places so far are driven, and what is kept stays
abbrev pub invariant-loop-place : goal.invariant-loop-place
invariant-loop-place g l =
    let f = g.F.Field.tables l.code.field.now in
    g.L.Line.kept l.initial.line l.line
    × ((slot : ℕ) → slot < l.code.plan.now.n * f.order
    → get_or (g.L.Line.row l.line) slot false ≡ (get_or (g.L.Line.row l.initial.line) slot false || (ltb (slot / f.order) l.place && in_word f l.code.plan.now.k l.number slot)))
