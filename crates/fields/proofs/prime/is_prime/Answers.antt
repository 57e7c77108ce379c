-- Trial division by every number from 2 to p - 1.
use Rattle.std.proofs.Common.{◌-◌, ◌%◌, not, eqb, refl, rules, tests}
use Rattle.std.proofs.lemmas.Iterator.{YieldsList-from_range}
use Rattle.std.proofs.lemmas.Iterator.Search.{all_from_yields_List}
use Rattle.fields.specs.Kinds.{prime}
use Rattle.fields.proofs.prime.is_prime.Goals as goal

pub returns-then-p-ge2 : goal.returns-then-p-ge2
unfolding prime
returns-then-p-ge2 c =
    let p = c.args.p in
    let divided_by_none = all_from_yields_List (λ d. not (eqb (p % d) 0)) _ _ _ c.all.ensures.ran (YieldsList-from_range 2 p (p - 2) refl refl) (λ d b q k. search (rules, tests)) in
    search (rules, tests)
