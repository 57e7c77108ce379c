-- Each entry is filled with none.
use Rattle.std.proofs.Common.{◌≡◌, ◌++◌, [], ◌∷◌, length, replicate, None, refl, ap, sym, ◌∙◌, rules, arith}
use Rattle.std.proofs.lemmas.Fn.{chained_keeps}
use Rattle.std.proofs.lemmas.List.{length-take, length_push, replicate_more}
use Rattle.register.proofs.Naming.{no_names_differ}
use Rattle.register.proofs.register.Register.new.Given.{Over}
use Rattle.register.proofs.register.Register.new.Goals.{After-fill_with}
use Rattle.register.proofs.register.Register.new.Goals as goal

-- all that is filled is none
emptied : (g : Over) (c : After-fill_with g) → c.fill_with.new.self ≡ replicate (length c.fill_with.new.self) None
emptied g c =
    chained_keeps _ (λ xs f. xs ≡ replicate (length xs) None) (λ xs q x v so_far k.
    let none : x ≡ None = search rules in
    ap (λ ys. ys ++ x ∷ []) so_far ∙ (ap (λ y. replicate (length xs) None ++ y ∷ []) none ∙ (replicate_more (length xs) None ∙ ap (λ n. replicate n None) (sym (length_push xs x))))) c.fill_with.new.self _ _ refl c.fill_with.ensures.ran.1

pub invariant_of-result : goal.invariant_of-result
invariant_of-result g c = record {
  small = search rules;
  apart = no_names_differ g.N.Name.same c.fill_with.new.self (emptied g (goal.at.invariant_of-result g c).After-fill_with);
}

pub returns-clause-entries : goal.returns-clause-entries
returns-clause-entries g c =
    emptied g (goal.at.returns-clause-entries g c).After-fill_with
    ∙ ap (λ n. replicate n None) (omega (arith, c.fill_with.ensures.len, c.min-count.ensures, length-take c.min-count.result c.args.entries.now))
