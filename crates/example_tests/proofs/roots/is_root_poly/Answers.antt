use Rattle.std.proofs.Common.{rules, ◌≡◌, ◌≢◌, sym, ◌∙◌}
use Rattle.std.proofs.lemmas.Bool.{true≢false}
use Rattle.std.specs.Prelude.{[]}
use Rattle.std.specs.declared.cmp.Ordering.TheVariants.{Equal}
use Rattle.sparse_poly.specs.Contributions.{IsPoly}
use Rattle.sparse_poly.specs.Order.{poly_cmp}
use Rattle.example_tests.proofs.Rooting.{own_part}
use Rattle.example_tests.proofs.roots.is_root_poly.Goals as goal

pub returns-in-Equal : goal.returns-in-Equal
returns-in-Equal c =
    let poly : IsPoly c.args.poly.now = search rules in
    let some : c.in_ok-part.part ≢ [] = λ e. true≢false (sym (c.is_zero.ensures.1 e) ∙ c.if-is_zero.false) in
    let equal : poly_cmp c.args.poly.now c.in_ok-part.part ≡ Equal = search rules in
    λ t. own_part c.args.poly.now c.in_ok-part.part poly c.in_ok-part.ensures some equal
