-- The first number that is not enrolled is found, if there is one.
use Rattle.std.proofs.Common.{◌≡◌, not, length, sym, ap, ◌∙◌, option_map, rules, tests}
use Rattle.std.proofs.lemmas.Iterator.{YieldsList-from_slice}
use Rattle.std.proofs.lemmas.Iterator.Search.{find_from_yields_List}
use Rattle.register.specs.Racks.{enrolled}
use Rattle.register.specs.Verdicts.{by_names, smallest_foreign}
use Rattle.register.proofs.register.Register.by_names.Goals.{After-find}
use Rattle.register.proofs.register.Register.by_names.Given.{Over}
use Rattle.register.proofs.register.Register.by_names.Goals as goal

-- what is found is the smallest that is foreign
found : (g : Over) (c : After-find g) → option_map (λ y. y.now) c.find.result ≡ smallest_foreign c.args.self.now.entries.now c.args.numbers.now
found g c =
    find_from_yields_List (λ number. not (enrolled c.args.self.now.entries.now number)) _ _ _ c.find.ensures.ran (YieldsList-from_slice c.args.numbers.now c.iter.ensures.rest) (λ x b q k. search (rules, tests))

pub returns-in-Some : goal.returns-in-Some
returns-in-Some g c = ap (λ o. by_names o (length c.args.numbers.now)) (sym (ap (option_map (λ y. y.now)) c.in-Some.is) ∙ found g (goal.at.returns-in-Some g c).After-find)

pub returns-in-None : goal.returns-in-None
returns-in-None g c = ap (λ o. by_names o (length c.args.numbers.now)) (sym (ap (option_map (λ y. y.now)) c.in-None.is) ∙ found g (goal.at.returns-in-None g c).After-find)
