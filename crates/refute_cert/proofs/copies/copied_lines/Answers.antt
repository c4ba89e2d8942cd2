use Rattle.std.proofs.Common.{arith, rules, sym, subst, ◌≡◌, List, ℕ}
use Rattle.std.specs.Prelude.{slice_get}
use Rattle.std.specs.declared.option.Option.TheVariants.{Some}
use Rattle.derive_lines.specs.declared.parts.Line.{Line}
use Rattle.refute_cert.specs.Cone.{StandsAt, IsRenumberedLine, HavePolyMultipliers}
use Rattle.refute_cert.proofs.Pushes.{stands_pushed, polys_pushed}
use Rattle.refute_cert.proofs.copies.copied_lines.Goals as goal

pub line_at-line-requires : goal.line_at-line-requires
line_at-line-requires c = c.requires.within c.place_at.result (c.places.i, c.place_at.ensures)

pub places-preserved : goal.places-preserved
places-preserved c =
    record {
      within = omega arith;
      so_many = search rules;
      polys = subst HavePolyMultipliers (sym c.in_ok-push.ensures.items) (polys_pushed c.places.copies.items c.in_ok-copied_line.field-0 c.places.invariant.polys c.in_ok-copied_line.ensures.poly);
      each = subst (λ (ys : List Line). (n : ℕ) (new : Line) → slice_get ys n ≡ Some new → StandsAt c.args.lines.now c.args.of_lines.now n (λ (old : Line). IsRenumberedLine c.args.of_decisions.now c.args.of_lines.now old new)) (sym c.in_ok-push.ensures.items) (stands_pushed c.args.lines.now c.args.of_lines.now (λ (x y : Line). IsRenumberedLine c.args.of_decisions.now c.args.of_lines.now x y) c.places.copies.items c.places.i c.place_at.result c.line_at-line.result.now c.in_ok-copied_line.field-0 c.places.invariant.so_many c.places.invariant.each c.place_at.ensures c.line_at-line.ensures c.in_ok-copied_line.ensures.line);
    }
