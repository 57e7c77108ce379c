use Rattle.std.proofs.Common.{◌≡◌, ℕ, ◌*◌, ◌/◌, ◌<◌, false, ◌&&◌, ◌||◌, ltb, get_or}
use Rattle.words.specs.Words.{in_word}
use Rattle.reader.proofs.tables.Tables.mark.Given as goal

-- the slots of the places so far are marked
abbrev pub invariant-loop-place : goal.invariant-loop-place
invariant-loop-place g l =
    let f = g.F.Field.tables l.self.code.now.field.now in
    (slot : ℕ) → slot < l.self.code.now.plan.now.n * f.order
    → get_or l.joined slot false ≡ (get_or l.initial.joined slot false || (ltb (slot / f.order) l.place && in_word f l.self.code.now.plan.now.k l.number slot))
