-- The variable of the reduction that is due, and what the split that is due is on, have their variables below n.
use Rattle.std.specs.Prelude.{◌≡◌, ◌≢◌, ◌<◌, ℕ, List, []}
use mathlib.Core.Logic.{inl, inr}
use Rattle.std.proofs.Common.{sym, ◌∙◌, ap, subst}
use Rattle.std.specs.declared.option.Option.{Option}
use Rattle.std.specs.declared.option.Option.TheVariants.{Some}
use Rattle.sparse_poly.specs.declared.Term.{Term}
use Rattle.sparse_poly.specs.Contributions.{IsPoly}
use Rattle.sparse_poly.specs.Reads.{main_variable, leading_in}
use Rattle.case_rules.specs.declared.moves.Move.{Move}
use Rattle.case_rules.specs.declared.moves.Move.TheVariants.{Reduce, Split}
use Rattle.case_rules.specs.Cases.{CaseState, known, equation, poly}
use Rattle.case_rules.specs.Rules.{IsInitialSplit, IsSplitOn, IsFactorMove, IsMove, linear, factor, pair_reduction, pair_split, initial_split}
use Rattle.case_rules.specs.Belonging.{Belongs}
use Rattle.case_rules.proofs.Belonging.{regular}
use Rattle.case_rules.proofs.CanMoves.{can_move, leading_poly}
use Rattle.case_rules.proofs.Nonzero.{leading_nonzero, rest_nonzero}
use Rattle.case_rules.proofs.Regular.{IsSound, within_at}
use Rattle.sparse_poly.specs.Reads.{HasVariablesBelow}
use Rattle.legal_ranges.proofs.ReadParts.{main_below, divisor_below}
use Rattle.legal_ranges.proofs.Strips.{IsPolyBelow}
use Rattle.legal_ranges.proofs.Cases.{IsCaseBelow, poly_at, initial_at}

varied_nonzero : (p : List Term) (v : ℕ) → main_variable p ≡ Some v → p ≢ []
varied_nonzero p v e z = cc (sym (ap main_variable z) ∙ e)

module _ (n : ℕ) (c : CaseState) (below : IsCaseBelow n c) where
  split_on_below : (i : ℕ) (by : List Term) (tail : Option ℕ) → IsInitialSplit c i by tail → HasVariablesBelow n by
  split_on_below i by tail m = each m.on
    where
      rest : IsPolyBelow n m.rest
      rest = (initial_at n c i m.v m.factor m.rest below m.initial).rest

      initial_poly : IsPoly (leading_in m.v (poly c i))
      initial_poly = leading_poly m.v (poly c i) (poly_at n c i below).poly

      some : m.rest ≢ []
      some = rest_nonzero (known c) (leading_in m.v (poly c i)) m.factor m.rest initial_poly (leading_nonzero m.v (poly c i) (varied_nonzero (poly c i) m.v m.initial.main)) m.initial.cleared

      each : IsSplitOn m.rest i by tail → HasVariablesBelow n by
      each (inl x) = subst (HasVariablesBelow n) (sym x.2) (divisor_below n x.0 m.rest some x.1.has rest.below)
      each (inr x) = subst (HasVariablesBelow n) (sym x.1) rest.below

  module _ (root : List (List Term)) (belongs : Belongs root c) where
    factor_below : (by : List Term) (tail : Option ℕ) → IsFactorMove c by tail → HasVariablesBelow n by
    factor_below by tail m =
        let sound : IsSound (equation c m.at) = within_at IsSound c.equations m.at m.least.has.place (regular root c belongs) in
        subst (HasVariablesBelow n) (sym m.is_variable) (divisor_below n m.v (poly c m.at) sound.nonzero m.lowest.has (poly_at n c m.at below).below)

    -- what a move is made with
    abbrev IsMoveBelow : Move → Type 0
    IsMoveBelow (Reduce q p v) = v < n
    IsMoveBelow (Split by tail) = HasVariablesBelow n by

    move_below : (m : Move) → IsMove c m → IsMoveBelow m
    move_below m (linear q p v a) = main_below n v (poly c p) a.linear.main (poly_at n c p below).below
    move_below m (factor by tail l a) = factor_below by tail a
    move_below m (pair_reduction q p v l f a) = main_below n v (poly c p) a.pivot.has.main (poly_at n c p below).below
    move_below m (pair_split by tail l f a) = split_on_below a.p by tail a.split
    move_below m (initial_split by tail l f h a) = split_on_below a.at by tail a.split

    pub reduction_variable : (q p v : ℕ) → IsMove c (Reduce q p v) → v < n
    reduction_variable q p v m = move_below (Reduce q p v) m

    pub split_below : (by : List Term) (tail : Option ℕ) → IsMove c (Split by tail) → IsPolyBelow n by
    split_below by tail m = record { poly = (can_move root c belongs (Split by tail) m).1.poly; below = move_below (Split by tail) m }
