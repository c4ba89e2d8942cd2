use Rattle.std.proofs.Common.{List, ◌∷◌}
use Rattle.std.specs.Prelude.{◌↔◌, ◌⊎◌}
use Rattle.sparse_poly.specs.declared.Term.{Term}
use Rattle.sparse_poly.specs.Clearing.{IsDividedOut, IsDividedOutBy, leading_degree}
use Rattle.derive_lines.specs.Known.{Holds}
use Rattle.refute_cert.proofs.resting.add_divisor.Given as goal

abbrev pub invariant-divisions : goal.invariant-divisions
invariant-divisions l = record {
  cleared : (ns : List (List Term)) (e h : List Term) → IsDividedOut l.units (l.unit ∷ ns) l.cleared.factor l.cleared.rest e h → IsDividedOut l.units (l.unit ∷ ns) l.fn.start.factor l.fn.start.rest e h;
  known : (ns : List (List Term)) (n : List Term) → (Holds l.known n ⊎ IsDividedOutBy l.units n (l.unit ∷ ns) l.cleared.factor l.cleared.rest) ↔ (Holds l.initial.known n ⊎ IsDividedOutBy l.units n (l.unit ∷ ns) l.fn.start.factor l.fn.start.rest);
}

abbrev pub decreases-divisions : goal.decreases-divisions
decreases-divisions l = leading_degree l.cleared.rest
