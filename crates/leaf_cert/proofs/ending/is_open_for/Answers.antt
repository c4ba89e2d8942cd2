use Rattle.std.proofs.Common.{sym, subst}
use Rattle.std.specs.Prelude.{◌↔◌, IfOk, IsTrue}
use Rattle.leaf_cert.specs.Leaves.{IsOpenFor}
use Rattle.leaf_cert.specs.declared.ends.OpenCause.{OpenCause}
use Rattle.leaf_cert.proofs.ending.is_open_for.Goals as goal

pub returns-in-Coefficient : goal.returns-in-Coefficient
returns-in-Coefficient c = subst (λ (e : OpenCause). IfOk c.is_stopped.result (λ b. IsTrue b ↔ IsOpenFor c.args.equations.now c.args.units.now e)) (sym c.in-Coefficient.is) c.is_stopped.ensures

pub returns-in-Degree : goal.returns-in-Degree
returns-in-Degree c = subst (λ (e : OpenCause). IfOk c.is_stopped-in-Degree.result (λ b. IsTrue b ↔ IsOpenFor c.args.equations.now c.args.units.now e)) (sym c.in-Degree.is) c.is_stopped-in-Degree.ensures
