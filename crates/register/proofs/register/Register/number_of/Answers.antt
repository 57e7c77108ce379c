-- The first entry that holds the same name is found, if there is one.
use Rattle.std.proofs.Common.{◌≡◌, sym, ◌∙◌, rules, tests}
use Rattle.std.proofs.lemmas.Iterator.{YieldsList-from_slice}
use Rattle.std.proofs.lemmas.Iterator.Search.{position_from_yields_List}
use Rattle.register.specs.Racks.{holds, number_of}
use Rattle.register.proofs.register.Register.number_of.Goals.{After-position}
use Rattle.register.proofs.register.Register.number_of.Given.{Over}
use Rattle.register.proofs.register.Register.number_of.Goals as goal

-- what is found is the number of the name
found : (g : Over) (c : After-position g) → c.position.result ≡ number_of g.N.Name.same c.args.name.now c.args.self.now.entries.now
found g c =
    position_from_yields_List (holds g.N.Name.same c.args.name.now) _ _ _ c.position.ensures.ran (YieldsList-from_slice c.args.self.now.entries.now c.iter.ensures.rest) (λ x b q k. search (rules, tests))

pub returns-in_err-number-clause-found : goal.returns-in_err-number-clause-found
returns-in_err-number-clause-found g c = c.from_residual.ensures ∙ (sym c.in_err-number.was ∙ found g (goal.at.returns-in_err-number-clause-found g c).After-position)

pub returns-clause-found : goal.returns-clause-found
returns-clause-found g c = sym c.in_ok-number.was ∙ found g (goal.at.returns-clause-found g c).After-position
