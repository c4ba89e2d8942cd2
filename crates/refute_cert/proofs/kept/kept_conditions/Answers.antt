use Rattle.std.proofs.Common.{arith, rules, ◌≡◌, ◌∙◌, ap, true}
use Rattle.std.specs.declared.option.Option.TheVariants.{Some}
use Rattle.refute_cert.specs.Resting.{IsVariedEnd}
use Rattle.refute_cert.proofs.Rested.{rested_more, rested_all}
use Rattle.refute_cert.proofs.kept.kept_conditions.Goals as goal

pub lines-preserved : goal.lines-preserved
lines-preserved c =
    let so : c.is_marked.result ≡ true = search rules in
    let added = rw c.multiplier.ensures at c.in_ok-add_conditions.ensures in
    record {
      within = omega arith;
      known = rested_more c.args.lines.now c.args.marks.now c.args.units.now (IsVariedEnd c.args.end.now) c.lines.k c.line_at.result.now c.lines.known c.add_conditions.new.known c.lines.invariant.known c.line_at.ensures (c.is_marked.ensures ∙ ap Some so) added;
    }

pub returns : goal.returns
returns c = rested_all c.args.lines.now c.args.marks.now c.args.units.now (IsVariedEnd c.args.end.now) c.lines.k c.lines.known (omega arith) c.lines.invariant.known
