use Rattle.std.specs.Prelude.{List, All}
use Rattle.std.proofs.Common.{subst}
use Rattle.sparse_poly.specs.declared.Term.{Term}
use Rattle.sparse_poly.specs.Contributions.{IsPoly}
use Rattle.case_ledger.proofs.RootLists.{form_listed}
use Rattle.case_ledger.proofs.rooting.root_list.Goals as goal

pub returns : goal.returns
returns c = form_listed c.args.root.now c.equations.ensures.form (subst (λ (ps : List (List Term)). All IsPoly ps) c.equations.ensures.equations c.all_are_polys.ensures)
