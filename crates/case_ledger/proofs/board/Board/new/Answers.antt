use Rattle.std.specs.Prelude.{◌≡◌}
use Rattle.std.proofs.Common.{arith, sym, subst, ap}
use Rattle.root_system.specs.Forms.{RootEquations}
use Rattle.case_rules.specs.Belonging.{IsRootList}
use Rattle.case_ledger.proofs.Steps.{first_agrees}
use Rattle.case_ledger.proofs.board.Board.new.Goals as goal

pub invariant_of-result : goal.invariant_of-result
invariant_of-result c = c.root.invariant

pub invariant_of-result-2 : goal.invariant_of-result-2
invariant_of-result-2 c =
    let same : c.root.inside.equations.items ≡ c.args.root.equations = ap (λ (r : RootEquations). r.equations) c.root.view_is in
    rw (c.new.ensures.items, c.in_ok-new.ensures, c.in_ok-first.ensures, c.in_ok-case.ensures, c.new-3.ensures, c.equations.ensures.equations, ← same) (record {
      small = c.requires;
      posted = λ k d lt. absurd (omega (arith, lt));
      agrees = first_agrees c.root.inside.equations.items c.args.budget (subst IsRootList (sym same) c.root_list.ensures);
    })
