use Rattle.std.proofs.Common.{arith, rules, sym, subst, ◌≡◌, ◌∙◌, ap, suc, ◌-◌, true}
use Rattle.std.specs.Prelude.{slice_get}
use Rattle.std.specs.declared.option.Option.TheVariants.{Some}
use Rattle.refute_cert.specs.Marks.{AreNeededFrom}
use Rattle.refute_cert.proofs.NeededItems.{needed_start, needed_marked, needed_all}
use Rattle.refute_cert.proofs.needed.needed_items.Goals as goal

pub lines-init : goal.lines-init
lines-init c = record {
  within = omega arith;
  needed = needed_start c.args.lines.now c.args.count c.args.end c.in_ok-of_lines.of_lines.items c.in_ok-of_decisions.of_decisions.items c.mark_item.new.lines.items c.mark_item.new.decisions.items c.in_ok-of_lines.ensures.length c.in_ok-of_decisions.ensures.length c.mark_item.ensures.lines c.mark_item.ensures.decisions c.in_ok-of_lines.ensures.marks c.in_ok-of_decisions.ensures.marks c.mark_item.ensures.marks;
}

pub lines-preserved : goal.lines-preserved
lines-preserved c =
    let so : c.is_marked.result ≡ true = search rules in
    let next : c.lines.k ≡ suc (c.lines.k - 1) = omega arith in
    record {
      within = omega arith;
      needed = needed_marked c.args.lines.now c.args.count c.args.end (c.lines.k - 1) c.line_at-line.result.now c.lines.of_lines.items c.lines.of_decisions.items c.mark_item-in-lines.new.lines.items c.mark_item-in-lines.new.decisions.items c.mark_item-in-lines-2.new.lines.items c.mark_item-in-lines-2.new.decisions.items c.requires c.line_at-line.ensures (ap (λ ms. slice_get ms (c.lines.k - 1)) (sym c.deref.ensures.value) ∙ c.is_marked.ensures ∙ ap Some so) (subst (λ n. AreNeededFrom c.args.lines.now c.args.count c.args.end n c.lines.of_lines.items c.lines.of_decisions.items) next c.lines.invariant.needed) c.mark_item-in-lines.ensures.lines c.mark_item-in-lines.ensures.decisions c.mark_item-in-lines-2.ensures.lines c.mark_item-in-lines-2.ensures.decisions c.mark_item-in-lines.ensures.marks c.mark_item-in-lines-2.ensures.marks;
    }

pub returns : goal.returns
returns c = needed_all c.args.lines.now c.args.count c.args.end c.lines.of_lines.items c.lines.of_decisions.items (subst (λ n. AreNeededFrom c.args.lines.now c.args.count c.args.end n c.lines.of_lines.items c.lines.of_decisions.items) (let z : c.lines.k ≡ 0 = omega arith in z) c.lines.invariant.needed)
