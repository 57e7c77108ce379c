use Rattle.std.proofs.Common.{◌≡◌, ◌+◌, ◌*◌}
use Rattle.frames.specs.Frames.{framed}
use Rattle.words.specs.Words.{in_word}
use Rattle.words.proofs.code.Code.draw.Given as goal

-- the places passed so far are drawn
abbrev pub invariant-loop-place : goal.invariant-loop-place
invariant-loop-place g l =
    let f = g.F.Field.tables l.self.field.now in
    l.frame ≡ framed (in_word f l.self.plan.now.k l.number) (l.place * l.q) l.initial.frame

-- and of the place at hand the first slots
abbrev pub invariant-loop-y : goal.invariant-loop-y
invariant-loop-y g l =
    let f = g.F.Field.tables l.self.field.now in
    l.frame ≡ framed (in_word f l.self.plan.now.k l.number) (l.place * l.q + l.y) l.initial.frame
