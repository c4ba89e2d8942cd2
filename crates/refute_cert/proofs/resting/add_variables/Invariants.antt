use Rattle.std.proofs.Common.{drop, length, ◌-◌, ◌≤◌, List}
use Rattle.std.specs.Prelude.{◌↔◌, ◌⊎◌}
use Rattle.sparse_poly.specs.declared.Term.{Term}
use Rattle.derive_lines.specs.Known.{Holds}
use Rattle.refute_cert.specs.Resting.{IsDividingVariable}
use Rattle.refute_cert.proofs.resting.add_variables.Given as goal

abbrev pub invariant-units : goal.invariant-units
invariant-units l = record {
  within : l.i ≤ length l.units;
  known : (n : List Term) → (Holds l.known n ⊎ (Holds (drop l.i l.units) n × IsDividingVariable l.m n)) ↔ (Holds l.initial.known n ⊎ (Holds l.units n × IsDividingVariable l.m n));
}

abbrev pub decreases-units : goal.decreases-units
decreases-units l = length l.units - l.i
