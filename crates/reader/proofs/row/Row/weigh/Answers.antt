-- At most d covered words were all listed, and their distance decides.
use Rattle.std.proofs.Common.{◌++◌, length, drop, sym, ap, ◌∙◌, arith}
use Rattle.std.proofs.lemmas.List.{length-take-le}
use Rattle.reader.proofs.Judging.{listed_fits, listed_below, noise_is, reading_is}
use Rattle.reader.proofs.row.Row.weigh.Goals as goal

pub distance-distance-requires : goal.distance-distance-requires
distance-distance-requires g c =
    let self = c.args.self.now in
    let tables = self.tables.now in
    let covered = c.covered-covered.ensures in
    listed_below (g.F.Field.tables tables.code.now.field.now) tables.code.now.plan.now self.slots.now c.as_slice-numbers.result.now c.args.list.now c.covered-covered.result.count covered.count
    (c.as_slice-numbers.ensures.value ∙ covered.listed) (omega (arith, c.d.ensures, c.if-covered-d.false)) tables.tabled.order

pub returns-then-distance-e : goal.returns-then-distance-e
returns-then-distance-e g c =
    let self = c.args.self.now in
    let tables = self.tables.now in
    let covered = c.covered-covered.ensures in
    let is = noise_is (g.F.Field.tables tables.code.now.field.now) tables.code.now.plan.now self.slots.now c.as_slice-numbers.result.now c.args.list.now c.covered-covered.result.count covered.count
    (c.as_slice-numbers.ensures.value ∙ covered.listed) (omega (arith, c.d.ensures, c.if-covered-d.false))
    c.distance-distance.result c.distance-distance.ensures (omega (arith, c.e.ensures, c.if-distance-e.true)) in
    record { verdict = is.0; list = is.1 }

pub slice_bounds-copy_from_slice-end : goal.slice_bounds-copy_from_slice-end
slice_bounds-copy_from_slice-end g c =
    let self = c.args.self.now in
    let tables = self.tables.now in
    let covered = c.covered-covered.ensures in
    let fits = listed_fits (g.F.Field.tables tables.code.now.field.now) tables.code.now.plan.now self.slots.now c.as_slice-numbers.result.now c.args.list.now c.covered-covered.result.count covered.count
    (c.as_slice-numbers.ensures.value ∙ covered.listed) (omega (arith, c.d.ensures, c.if-covered-d.false)) c.requires in
    fits

pub slice_bounds-copy_from_slice-end-2 : goal.slice_bounds-copy_from_slice-end-2
slice_bounds-copy_from_slice-end-2 g c =
    let self = c.args.self.now in
    let tables = self.tables.now in
    let covered = c.covered-covered.ensures in
    let fits = listed_fits (g.F.Field.tables tables.code.now.field.now) tables.code.now.plan.now self.slots.now c.as_slice-numbers.result.now c.args.list.now c.covered-covered.result.count covered.count
    (c.as_slice-numbers.ensures.value ∙ covered.listed) (omega (arith, c.d.ensures, c.if-covered-d.false)) c.requires in
    sym (length-take-le (length c.as_slice-numbers.result.now) c.args.list.now fits)

pub copy_from_slice-requires : goal.copy_from_slice-requires
copy_from_slice-requires g c =
    let self = c.args.self.now in
    let tables = self.tables.now in
    let covered = c.covered-covered.ensures in
    let fits = listed_fits (g.F.Field.tables tables.code.now.field.now) tables.code.now.plan.now self.slots.now c.as_slice-numbers.result.now c.args.list.now c.covered-covered.result.count covered.count
    (c.as_slice-numbers.ensures.value ∙ covered.listed) (omega (arith, c.d.ensures, c.if-covered-d.false)) c.requires in
    length-take-le (length c.as_slice-numbers.result.now) c.args.list.now fits

pub returns : goal.returns
returns g c =
    let self = c.args.self.now in
    let tables = self.tables.now in
    let covered = c.covered-covered.ensures in
    let is = reading_is (g.F.Field.tables tables.code.now.field.now) tables.code.now.plan.now self.slots.now c.as_slice-numbers.result.now c.args.list.now c.covered-covered.result.count covered.count
    (c.as_slice-numbers.ensures.value ∙ covered.listed) (omega (arith, c.d.ensures, c.if-covered-d.false))
    c.distance-distance.result c.distance-distance.ensures (omega (arith, c.e.ensures, c.if-distance-e.false)) in
    record { verdict = is.0; list = ap (λ xs. xs ++ drop (length c.as_slice-numbers.result.now) c.args.list.now) c.copy_from_slice.ensures.after ∙ is.1 }
