use Rattle.std.proofs.Common.{drop, length, ◌-◌, ◌≤◌, List}
use Rattle.std.specs.Prelude.{◌↔◌, ◌⊎◌}
use Rattle.sparse_poly.specs.declared.Term.{Term}
use Rattle.sparse_poly.specs.Clearing.{IsDividedOut, IsDividedOutBy}
use Rattle.derive_lines.specs.Known.{Holds}
use Rattle.refute_cert.proofs.resting.add_divisors.Given as goal

abbrev pub invariant-units : goal.invariant-units
invariant-units l = record {
  within : l.i ≤ length l.units;
  cleared : (e h : List Term) → IsDividedOut l.units (drop l.i l.units) l.cleared.factor l.cleared.rest e h → IsDividedOut l.units l.units l.fn.start.factor l.fn.start.rest e h;
  known : (n : List Term) → (Holds l.known n ⊎ IsDividedOutBy l.units n (drop l.i l.units) l.cleared.factor l.cleared.rest) ↔ (Holds l.initial.known n ⊎ IsDividedOutBy l.units n l.units l.fn.start.factor l.fn.start.rest);
}

abbrev pub decreases-units : goal.decreases-units
decreases-units l = length l.units - l.i
