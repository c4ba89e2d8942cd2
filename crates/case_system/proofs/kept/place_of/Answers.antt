use Rattle.std.proofs.Common.{rules}
use Rattle.std.proofs.lemmas.Fn.{always_returns_same}
use Rattle.case_rules.specs.declared.equation.Equation.{Equation}
use Rattle.sparse_poly.specs.Order.{poly_cmp}
use Rattle.case_system.proofs.Placing.{found_place}
use Rattle.case_system.proofs.kept.place_of.Goals as goal

pub returns : goal.returns
returns c =
    found_place c.args.poly.now c.args.equations.now c.binary_search_by.result c.requires c.binary_search_by.ensures.bound
    (c.binary_search_by.ensures.position (λ (e : Equation). poly_cmp e.poly c.args.poly.now) (always_returns_same _ _ _ (λ a r g h. (search rules, search rules))))
