-- The limits that stop a step.
use Rattle.std.specs.Prelude.{List}
use Rattle.sparse_poly.specs.declared.Term.{Term}
use Rattle.leaf_cert.specs.declared.ending.Limit.{Limit}
use Rattle.leaf_cert.specs.declared.ending.Limit.TheVariants.{Degree, Coefficient}
use Rattle.leaf_cert.specs.Leaves.{IsTooHigh, IsTooHeavy}

-- contributions are over a limit
abbrev pub IsOver : Limit → List Term → Type 0
IsOver Degree = IsTooHigh
IsOver Coefficient = IsTooHeavy
