use Rattle.std.proofs.Common.{sym}
use Rattle.refute_cert.proofs.KeptPlaces.{refer_earlier, places_are}
use Rattle.refute_cert.proofs.kept_places.kept_places.Goals as goal

pub needed_items-requires : goal.needed_items-requires
needed_items-requires c = refer_earlier c.args.root.now c.args.decisions.now c.args.lines.now c.requires.refutes.lines

pub returns : goal.returns
returns c =
    let known = rw c.requires.units at rw c.deref.ensures.value at c.in_ok-known.ensures in
    let kept = rw c.deref-2.ensures.value at c.in_ok-kept.ensures in
    let js = rw c.deref-3.ensures.value at c.in_ok-places.ensures.places in
    let ks = rw c.deref-4.ensures.value at c.in_ok-places-2.ensures.places in
    places_are c.args.root.now c.args.decisions.now c.args.lines.now c.args.end c.in-Some.end_poly.now (sym c.in-Some.ensures) c.in_ok-needed.needed.lines.items c.in_ok-needed.needed.decisions.items c.in_ok-needed.ensures c.in_ok-known.known known c.in_ok-kept.kept.items c.in_ok-places.field-0.items c.in_ok-places-2.field-0.items kept c.in_ok-places.ensures.ascend c.in_ok-places-2.ensures.ascend js ks
