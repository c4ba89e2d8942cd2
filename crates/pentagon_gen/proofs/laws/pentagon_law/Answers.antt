use Rattle.std.specs.Prelude.{IsTrue}
use Rattle.std.proofs.Common.{sym, ◌∙◌, ap}
use Rattle.symbol_equations.specs.Values.{symbol_value, side_value}
use Rattle.symbol_equations.proofs.Listed.{all_vanish, all_vanish_at}
use Rattle.pentagon_gen.specs.Pentagon.{is_pentagon, left_side, right_side}
use Rattle.pentagon_gen.specs.Differences.{IsPentagonEquation}
use Rattle.pentagon_gen.proofs.laws.pentagon_law.Goals as goal

pub returns : goal.returns
returns g c r x ps elements are =
    let f = g.F.CharZeroField.field in
    let l = g.F.CharZeroField.laws in (
      all_vanish_at f l x elements r (IsPentagonEquation r) ps are (λ at. IsTrue (is_pentagon r at)) left_side (right_side r) (λ left right e. e),
      λ h. (all_vanish f l x elements r (IsPentagonEquation r) ps are).1
          (λ left right e. ap (side_value f (symbol_value f r x)) e.2 ∙ h e.0 e.1 ∙ ap (side_value f (symbol_value f r x)) (sym e.3)),
    )
