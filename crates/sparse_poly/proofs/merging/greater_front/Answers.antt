use Rattle.std.proofs.Common.{rules, sym, ◌≡◌, ◌<◌, length, slice_index_or}
use Rattle.sparse_poly.proofs.Merges.{fronts_same, front_above, turned}
use Rattle.sparse_poly.proofs.merging.greater_front.Goals as goal

pub returns-in-Less : goal.returns-in-Less
returns-in-Less c =
    let first : c.in-Some.x.now ≡ slice_index_or c.args.first.now.items 0 c.in-Some.x.now = search rules in
    let second : c.in-Some-front.y.now ≡ slice_index_or c.args.second.now.items 0 c.in-Some-front.y.now = search rules in
    let more : 0 < length c.args.second.now.items = search rules in
    (more, λ vs y e r. front_above _ _ vs _ _ y second first (sym c.in-Less.ensures) e r)

pub returns-in-Equal : goal.returns-in-Equal
returns-in-Equal c =
    let first : c.in-Some.x.now ≡ slice_index_or c.args.first.now.items 0 c.in-Some.x.now = search rules in
    let second : c.in-Some-front.y.now ≡ slice_index_or c.args.second.now.items 0 c.in-Some-front.y.now = search rules in
    let some : 0 < length c.args.first.now.items = search rules in
    let more : 0 < length c.args.second.now.items = search rules in
    (some, more, λ us vs x y e f. fronts_same _ _ us vs _ _ x y first second (sym c.in-Equal.ensures) e f)

pub returns-in-Greater : goal.returns-in-Greater
returns-in-Greater c =
    let first : c.in-Some.x.now ≡ slice_index_or c.args.first.now.items 0 c.in-Some.x.now = search rules in
    let second : c.in-Some-front.y.now ≡ slice_index_or c.args.second.now.items 0 c.in-Some-front.y.now = search rules in
    let some : 0 < length c.args.first.now.items = search rules in
    (some, λ us x e r. front_above _ _ us _ _ x first second (turned c.in-Some.x.now.monomial c.in-Some-front.y.now.monomial (sym c.in-Greater.ensures)) e r)
