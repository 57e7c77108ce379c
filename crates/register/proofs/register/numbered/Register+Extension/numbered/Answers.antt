-- All entries bear their numbers.
use Rattle.std.proofs.Common.{min, length, None, arith}
use Rattle.std.proofs.lemmas.List.FromFn.{fill_by_all}
use Rattle.std.proofs.lemmas.List.{length-take}
use Rattle.register.specs.Racks.{numbered}
use Rattle.register.proofs.register.numbered.Register+Extension.numbered.Goals as goal

pub returns-clause-entries : goal.returns-clause-entries
returns-clause-entries c =
    let size = length-take c.min-count.result c.args.entries.now in
    fill_by_all (numbered c.args.frame.now) c.loop-number.entries (min (length c.args.entries.now) 65536) None (omega (arith, c.loop-number.auto.entries, c.min-count.ensures, size))
    (λ i h. c.loop-number.invariant i (omega (arith, c.loop-number-test.false, c.min-count.ensures, size)))
