use Rattle.std.proofs.Common.{length, ◌-◌, ◌≤◌, ◌≡◌, ℕ}
use Rattle.std.specs.Prelude.{slice_get}
use Rattle.std.specs.declared.option.Option.TheVariants.{Some}
use Rattle.derive_lines.specs.declared.parts.Line.{Line}
use Rattle.refute_cert.specs.Cone.{StandsAt, IsRenumberedLine, HavePolyMultipliers}
use Rattle.refute_cert.proofs.copies.copied_lines.Given as goal

abbrev pub invariant-places : goal.invariant-places
invariant-places l = record {
  within : l.i ≤ length l.of_lines;
  so_many : length l.copies.items ≡ l.i;
  polys : HavePolyMultipliers l.copies.items;
  each : (n : ℕ) (new : Line) → slice_get l.copies.items n ≡ Some new → StandsAt l.lines l.of_lines n (λ (old : Line). IsRenumberedLine l.of_decisions l.of_lines old new);
}

abbrev pub decreases-places : goal.decreases-places
decreases-places l = length l.of_lines - l.i
