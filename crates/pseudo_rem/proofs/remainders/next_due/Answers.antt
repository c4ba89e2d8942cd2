use Rattle.std.proofs.Common.{rules, arith, ◌≡◌, ◌<◌, sym, ◌∙◌, ap, length, refl}
use Rattle.std.specs.Prelude.{slice_get}
use Rattle.std.specs.declared.option.Option.TheVariants.{Some}
use Rattle.std.proofs.lemmas.Option.{same_Some, slice_get_read}
use Rattle.pseudo_rem.proofs.Scans.{no_member, found_next, same_variable}
use Rattle.pseudo_rem.proofs.remainders.next_due.Goals as goal

pub loop-at-preserved : goal.loop-at-preserved
loop-at-preserved c =
    let lt : c.loop-at.at < length c.args.list.now = omega arith in
    let is : slice_get c.args.list.now c.loop-at.at ≡ Some c.index-list-at.result = slice_get_read c.args.list.now (length c.args.list.now) c.loop-at.at c.index-list-at.result refl lt c.index-list-at.is in
    let found = c.in-Some.ensures in
    record {
      found = (ap (slice_get c.args.list.now) found.0 ∙ is ∙ ap Some (sym found.1), found.2);
      highest = no_member c.args.list.now c.args.n.now c.loop-at.at (Some c.in-Some.due) (λ v p m d. same_variable c.args.n.now p c.in-Some.due.member.now v c.in-Some.due.var (same_Some p c.index-list-at.result (sym m ∙ is) ∙ sym found.1) d found.2)
          (λ j q w l m d. let less = c.is_above.ensures.above (search rules) w (c.loop-at.invariant.highest j q w l m d) in omega (arith, less));
    }

pub returns : goal.returns
returns c = found_next c.args.list.now c.args.n.now c.loop-at.at c.loop-at.next (omega arith) c.loop-at.invariant.found c.loop-at.invariant.highest
