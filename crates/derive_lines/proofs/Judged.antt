-- A line by what was found of its references, its multiplier and its sides.
use Rattle.std.specs.Prelude.{◌≡◌, List, MatchOption, IfOk}
use Rattle.std.proofs.Common.{sym, subst}
use Rattle.std.specs.declared.option.Option.{Option}
use Rattle.std.specs.declared.option.Option.TheVariants.{None, Some}
use Rattle.std.specs.declared.result.Result.{Result}
use Rattle.std.specs.declared.result.Result.TheVariants.{Ok, Err}
use Rattle.sparse_poly.specs.declared.Term.{Term}
use Rattle.sparse_poly.specs.Polynomials.{products}
use Rattle.sparse_poly.specs.Contributions.{contributions}
use Rattle.sparse_poly.specs.Clearing.{IsUnit}
use Rattle.derive_lines.specs.declared.parts.Decision.{Decision}
use Rattle.derive_lines.specs.declared.parts.Line.{Line}
use Rattle.derive_lines.specs.declared.parts.Way.{Way}
use Rattle.derive_lines.specs.declared.parts.LineCause.{LineCause}
use Rattle.derive_lines.specs.declared.parts.LineCause.TheVariants.{Reference, Multiplier, Degree, Heavy, Identity}
use Rattle.derive_lines.specs.Lines.{conditions, Refers, reduced, rest, multiplier, left_side, right_side, SidesAgree, IsBadSide, IsGoodLine, IsBadLine}

module _ (root : List (List Term)) (ds : List Decision) (before : List Line) (line : Line) (from by : List Term) where
  judged : (o : Option LineCause) → Refers root ds before line from by → IsUnit (conditions ds) (multiplier line) → MatchOption o (SidesAgree (left_side line from by) (right_side line from)) (IsBadSide (left_side line from by) (right_side line from)) → MatchOption o (IsGoodLine root ds before line) (IsBadLine root ds before line)
  judged None r u m = record { from = from; by = by; refers = r; unit = u; sides = m }
  judged (Some Reference) r u m = absurd m
  judged (Some Multiplier) r u m = absurd m
  judged (Some Degree) r u m = record { from = from; by = by; refers = r; bad = (u, m) }
  judged (Some Heavy) r u m = record { from = from; by = by; refers = r; bad = (u, m) }
  judged (Some Identity) r u m = record { from = from; by = by; refers = r; bad = (u, m) }

  -- the answer of the comparison of both sides, for a line of this way, is that of the line
  pub judged_by_sides : {E : Type 0} (w : Way) (result : Result (Option LineCause) E) → line.way ≡ w → Refers root ds before line from by → IsUnit (conditions ds) (multiplier line) → IfOk result (λ o. MatchOption o (SidesAgree (contributions line.l (reduced w from line.made) line.a by) (products line.m (rest w from line.made))) (IsBadSide (contributions line.l (reduced w from line.made) line.a by) (products line.m (rest w from line.made)))) → IfOk result (λ o. MatchOption o (IsGoodLine root ds before line) (IsBadLine root ds before line))
  judged_by_sides w (Err e) way r u h = h
  judged_by_sides w (Ok o) way r u h = judged o r u (subst (λ w. MatchOption o (SidesAgree (contributions line.l (reduced w from line.made) line.a by) (products line.m (rest w from line.made))) (IsBadSide (contributions line.l (reduced w from line.made) line.a by) (products line.m (rest w from line.made)))) (sym way) h)
