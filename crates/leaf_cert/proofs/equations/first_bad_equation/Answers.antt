use Rattle.std.proofs.Common.{rules, arith, refl, ◌≡◌, ◌<◌, ◌-◌, length, List, ℕ, suc}
use Rattle.std.specs.Prelude.{slice_get}
use Rattle.std.specs.declared.option.Option.TheVariants.{Some}
use Rattle.std.proofs.lemmas.Option.{slice_get_read}
use Rattle.std.specs.declared.cmp.Ordering.TheVariants.{Less}
use Rattle.sparse_poly.specs.declared.Term.{Term}
use Rattle.sparse_poly.specs.Order.{poly_cmp}
use Rattle.leaf_cert.specs.Leaves.{IsItem}
use Rattle.leaf_cert.proofs.Items.{good_more, above_before, above_none, AreEquations-all}
use Rattle.leaf_cert.proofs.equations.first_bad_equation.Goals.{else-i-gt0-via-then-i-gt0+else-not-is_below, else-i-gt0-via-else-i-gt0}
use Rattle.leaf_cert.proofs.equations.first_bad_equation.Goals as goal

pub equations-preserved : goal.equations-preserved
equations-preserved c =
    let lt : c.equations.i < length c.args.equations.now = omega arith in
    let is : slice_get c.args.equations.now c.equations.i ≡ Some c.index-equations-i.result = slice_get_read c.args.equations.now (length c.args.equations.now) c.equations.i c.index-equations-i.result refl lt c.index-equations-i.is in
    let item : IsItem c.args.root.now c.args.decisions.now c.args.lines.now c.index-equations-i.result = (c.in_ok-items.ensures c.index-equations-i.result).0 (c.has.ensures.0 (search rules)) in
    let above : (j : ℕ) (q : List Term) → suc j ≡ c.equations.i → slice_get c.args.equations.now j ≡ Some q → poly_cmp q c.index-equations-i.result ≡ Less = elim c.else-i-gt0.branch [
      | else-i-gt0-via-then-i-gt0+else-not-is_below w ↦ above_before c.args.equations.now c.equations.i w.index-equations-i-then-i-gt0.result c.index-equations-i.result (omega arith) (slice_get_read c.args.equations.now (length c.args.equations.now) (c.equations.i - 1) w.index-equations-i-then-i-gt0.result refl (omega arith) w.index-equations-i-then-i-gt0.is) (w.is_below.ensures.0 (search rules))
      | else-i-gt0-via-else-i-gt0 w ↦ above_none c.args.equations.now c.equations.i c.index-equations-i.result (λ l. absurd (omega arith))
    ] in
    record {
      within = omega arith;
      good = good_more c.args.root.now c.args.decisions.now c.args.lines.now c.args.equations.now c.equations.i c.index-equations-i.result c.equations.invariant.good is item above;
    }

pub returns : goal.returns
returns c = AreEquations-all c.args.root.now c.args.decisions.now c.args.lines.now c.args.equations.now c.equations.i (omega arith) c.equations.invariant.good
