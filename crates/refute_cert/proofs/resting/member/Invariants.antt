use Rattle.std.proofs.Common.{drop}
use Rattle.std.specs.Prelude.{◌↔◌}
use Rattle.derive_lines.specs.Known.{Holds}
use Rattle.refute_cert.proofs.resting.member.Given as goal

abbrev pub invariant-loop-unit : goal.invariant-loop-unit
invariant-loop-unit l = Holds (drop l.unit-index l.units) l.poly ↔ Holds l.units l.poly
