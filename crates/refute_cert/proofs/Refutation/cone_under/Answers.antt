use Rattle.refute_cert.specs.KeptPlaces.{ArePlaces}
use Rattle.refute_cert.proofs.KeptPlaces.{decisions_within, lines_within, all_have_places, end_has_place}
use Rattle.refute_cert.proofs.GoodCones.{cone_made, cone_refutes, cone_within}
use Rattle.refute_cert.proofs.Refutation.cone_under.Goals as goal

pub copied_decisions-requires : goal.copied_decisions-requires
copied_decisions-requires c =
    let places : ArePlaces c.args.root.now c.args.decisions.now c.args.lines.now c.args.end c.deref-of_decisions.result.now c.deref-of_lines.result.now = rw (c.deref-of_decisions.ensures.value, c.deref-of_lines.ensures.value) c.in_ok-kept.ensures in
    decisions_within c.args.root.now c.args.decisions.now c.args.lines.now c.args.end c.requires.refutes c.deref-of_decisions.result.now c.deref-of_lines.result.now places

pub copied_lines-requires-clause-within : goal.copied_lines-requires-clause-within
copied_lines-requires-clause-within c =
    let places : ArePlaces c.args.root.now c.args.decisions.now c.args.lines.now c.args.end c.deref-of_decisions.result.now c.deref-of_lines.result.now = rw (c.deref-of_decisions.ensures.value, c.deref-of_lines.ensures.value) c.in_ok-kept.ensures in
    lines_within c.args.root.now c.args.decisions.now c.args.lines.now c.args.end c.requires.refutes c.deref-of_decisions.result.now c.deref-of_lines.result.now places

pub copied_lines-requires-clause-places : goal.copied_lines-requires-clause-places
copied_lines-requires-clause-places c =
    let places : ArePlaces c.args.root.now c.args.decisions.now c.args.lines.now c.args.end c.deref-of_decisions.result.now c.deref-of_lines.result.now = rw (c.deref-of_decisions.ensures.value, c.deref-of_lines.ensures.value) c.in_ok-kept.ensures in
    all_have_places c.args.root.now c.args.decisions.now c.args.lines.now c.args.end c.requires.refutes c.deref-of_decisions.result.now c.deref-of_lines.result.now places

pub renumbered-new_end-requires-clause-place : goal.renumbered-new_end-requires-clause-place
renumbered-new_end-requires-clause-place c =
    let places : ArePlaces c.args.root.now c.args.decisions.now c.args.lines.now c.args.end c.deref-of_decisions.result.now c.deref-of_lines.result.now = rw (c.deref-of_decisions.ensures.value, c.deref-of_lines.ensures.value) c.in_ok-kept.ensures in
    end_has_place c.args.root.now c.args.decisions.now c.args.lines.now c.args.end c.requires.refutes c.deref-of_decisions.result.now c.deref-of_lines.result.now places

pub returns-clause-cone : goal.returns-clause-cone
returns-clause-cone c =
    let places : ArePlaces c.args.root.now c.args.decisions.now c.args.lines.now c.args.end c.deref-of_decisions.result.now c.deref-of_lines.result.now = rw (c.deref-of_decisions.ensures.value, c.deref-of_lines.ensures.value) c.in_ok-kept.ensures in
    cone_made c.args.root.now c.args.decisions.now c.args.lines.now c.args.end c.deref-of_decisions.result.now c.deref-of_lines.result.now places c.in_ok-pattern.pattern.items c.in_ok-copies.copies.items c.renumbered-new_end.result c.in_ok-pattern.ensures.length c.in_ok-pattern.ensures.each c.in_ok-copies.ensures.length c.in_ok-copies.ensures.each c.renumbered-new_end.ensures

pub returns-clause-good : goal.returns-clause-good
returns-clause-good c =
    let places : ArePlaces c.args.root.now c.args.decisions.now c.args.lines.now c.args.end c.deref-of_decisions.result.now c.deref-of_lines.result.now = rw (c.deref-of_decisions.ensures.value, c.deref-of_lines.ensures.value) c.in_ok-kept.ensures in
    cone_refutes c.args.root.now c.args.decisions.now c.args.lines.now c.args.end c.requires.refutes _ (cone_made c.args.root.now c.args.decisions.now c.args.lines.now c.args.end c.deref-of_decisions.result.now c.deref-of_lines.result.now places c.in_ok-pattern.pattern.items c.in_ok-copies.copies.items c.renumbered-new_end.result c.in_ok-pattern.ensures.length c.in_ok-pattern.ensures.each c.in_ok-copies.ensures.length c.in_ok-copies.ensures.each c.renumbered-new_end.ensures) c.in_ok-copies.ensures.polys

pub returns-clause-within : goal.returns-clause-within
returns-clause-within c =
    let places : ArePlaces c.args.root.now c.args.decisions.now c.args.lines.now c.args.end c.deref-of_decisions.result.now c.deref-of_lines.result.now = rw (c.deref-of_decisions.ensures.value, c.deref-of_lines.ensures.value) c.in_ok-kept.ensures in
    cone_within c.args.root.now c.args.decisions.now c.args.lines.now c.args.end _ (cone_made c.args.root.now c.args.decisions.now c.args.lines.now c.args.end c.deref-of_decisions.result.now c.deref-of_lines.result.now places c.in_ok-pattern.pattern.items c.in_ok-copies.copies.items c.renumbered-new_end.result c.in_ok-pattern.ensures.length c.in_ok-pattern.ensures.each c.in_ok-copies.ensures.length c.in_ok-copies.ensures.each c.renumbered-new_end.ensures)
