use Rattle.std.proofs.Common.{◌≡◌, drop}
use Rattle.sparse_poly.specs.Polynomials.{variable}
use Rattle.sparse_poly.specs.Factors.{is_member}
use Rattle.sparse_poly.proofs.stripping.has_variable.Given as goal

abbrev pub invariant-loop-unit : goal.invariant-loop-unit
invariant-loop-unit l = is_member (drop l.unit-index l.units) (variable l.var) ≡ is_member l.units (variable l.var)
