use Rattle.std.proofs.Common.{rules, arith, ◌≡◌, length, sym, subst}
use Rattle.std.specs.Prelude.{All}
use Rattle.symbol_index.specs.Symbols.{unknowns}
use Rattle.root_system.specs.Forms.{IsRootEquation}
use Rattle.root_system.proofs.Variables.{root_equation}
use Rattle.root_system.proofs.root.Root.with_limit.Goals as goal

pub invariant_of-result : goal.invariant_of-result
invariant_of-result c =
    let count : c.count.result ≡ length (unknowns c.args.problem.now.ring) = search rules in
    record {
      few_unknowns = search rules;
      few_equations = omega arith;
      ascending = c.in_ok-equations.ensures.ascending;
      each = subst (λ n. All (IsRootEquation n) c.in_ok-equations.equations.items) (sym count) (root_equation c.args.problem.now _ c.in_ok-equations.ensures);
    }
