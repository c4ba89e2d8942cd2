use Rattle.std.proofs.Common.{List, subst}
use Rattle.std.specs.Prelude.{MatchOption}
use Rattle.sparse_poly.specs.Clearing.{IsDividedBy}
use Rattle.case_rules.specs.declared.equation.Equation.{Equation}
use Rattle.case_rules.specs.Cases.{equation_at}
use Rattle.case_rules.specs.Rules.{None_has, IsLowestDividing}
use Rattle.case_state.proofs.shown.Equations.lowest_dividing.Goals as goal

pub returns : goal.returns
returns c = subst (λ (es : List Equation). MatchOption c.lowest_dividing.result (None_has (λ v. IsDividedBy v (equation_at es c.args.i).poly)) (IsLowestDividing (equation_at es c.args.i).poly)) c.self.view_is c.lowest_dividing.ensures
