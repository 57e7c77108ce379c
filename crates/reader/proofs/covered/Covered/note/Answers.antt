-- A full list stays, since its first 32 are all that it has.
use Rattle.std.proofs.Common.{[], ◌∷◌, ◌++◌, length, sym, ◌∙◌, arith}
use Rattle.std.proofs.lemmas.List.{length_push, take_all, take-append-le}
use Rattle.std.proofs.lemmas.Bool.{eqb-true, eqb-false}
use Rattle.reader.proofs.covered.Covered.note.Goals as goal

pub returns-then-not-is_full-clause-listed : goal.returns-then-not-is_full-clause-listed
returns-then-not-is_full-clause-listed c =
    let items = c.args.self.now.listed.items in
    let other = eqb-false (length items) 32 (sym c.is_full.ensures.value ∙ c.if-not-is_full.true) in
    c.push.ensures.items ∙ sym (take_all 32 (items ++ c.args.number ∷ []) (omega (arith, other, c.is_full.ensures.fits, length_push items c.args.number)))

pub returns-else-not-is_full-clause-listed : goal.returns-else-not-is_full-clause-listed
returns-else-not-is_full-clause-listed c =
    let items = c.args.self.now.listed.items in
    let full = eqb-true (length items) 32 (sym c.is_full.ensures.value ∙ c.if-not-is_full.false) in
    sym (take-append-le 32 items (c.args.number ∷ []) (omega (arith, full)) ∙ take_all 32 items (omega (arith, full)))
