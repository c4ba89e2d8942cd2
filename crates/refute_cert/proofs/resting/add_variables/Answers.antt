use Rattle.std.proofs.Common.{arith, sym, ◌∙◌}
use Rattle.std.proofs.lemmas.Bool.{true≢false}
use Rattle.std.specs.Prelude.{◌⊎◌}
use Rattle.derive_lines.specs.Known.{Holds}
use Rattle.refute_cert.specs.Resting.{IsDividingVariable}
use Rattle.refute_cert.proofs.RestSets.{put, passed_over, all_put}
use Rattle.refute_cert.proofs.resting.add_variables.Goals.{then-branch+in_ok-insert, else-branch}
use Rattle.refute_cert.proofs.resting.add_variables.Goals as goal

pub units-preserved : goal.units-preserved
units-preserved c = elim c.if-branch.branch [
  | then-branch+in_ok-insert w ↦ record { within = omega arith; known = rw w.known-is (put (IsDividingVariable c.args.m.now) c.args.units.now c.units.i c.index-units-i.result c.units.known _ (λ n. Holds c.args.known.now n ⊎ (Holds c.args.units.now n × IsDividingVariable c.args.m.now n)) (omega arith) c.index-units-i.is (c.in_ok-is_dividing_variable.ensures.0 w.if-branch.true) w.in_ok-insert.ensures c.units.invariant.known) }
  | else-branch w ↦ record { within = omega arith; known = rw w.known-is (passed_over (IsDividingVariable c.args.m.now) c.args.units.now c.units.i c.index-units-i.result c.units.known (λ n. Holds c.args.known.now n ⊎ (Holds c.args.units.now n × IsDividingVariable c.args.m.now n)) (omega arith) c.index-units-i.is (λ r. true≢false (sym (c.in_ok-is_dividing_variable.ensures.1 r) ∙ w.if-branch.false)) c.units.invariant.known) }
]

pub returns : goal.returns
returns c = all_put (IsDividingVariable c.args.m.now) c.args.units.now c.units.i c.units.known c.args.known.now (omega arith) c.units.invariant.known
