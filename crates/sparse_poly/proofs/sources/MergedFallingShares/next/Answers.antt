use Rattle.std.proofs.Common.{rules, ◌≡◌, ◌<◌}
use Rattle.sparse_poly.proofs.PackedSources.{next_first, next_second, next_both, never_empty}
use Rattle.sparse_poly.proofs.sources.MergedFallingShares.next.Goals as goal

pub returns-in_err-x-in-Equal-clause-next : goal.returns-in_err-x-in-Equal-clause-next
returns-in_err-x-in-Equal-clause-next g c = absurd (never_empty _ c.in-Some.x c.in-Some.ensures c.in_err-x-in-Equal.ensures.next.0)

pub returns-in_err-y-in-Equal-clause-next : goal.returns-in_err-y-in-Equal-clause-next
returns-in_err-y-in-Equal-clause-next g c = absurd (never_empty _ c.in-Some-front.y c.in-Some-front.ensures c.in_err-y-in-Equal.ensures.next.0)

pub returns-in-Less-clause-next : goal.returns-in-Less-clause-next
returns-in-Less-clause-next g c =
    let less : c.in-Some.x < c.in-Some-front.y = search rules in
    next_second _ _ _ c.in-Some.x c.in-Some-front.y _ c.in-Some.ensures c.in-Some-front.ensures less c.next-in-Less.ensures.next

pub returns-in_ok-y-in-Equal-clause-next : goal.returns-in_ok-y-in-Equal-clause-next
returns-in_ok-y-in-Equal-clause-next g c =
    let same : c.in-Some.x ≡ c.in-Some-front.y = search rules in
    next_both _ _ _ _ c.in-Some.x c.in-Some-front.y c.in_ok-x-in-Equal.x c.in_ok-y-in-Equal.y c.joined.result c.in-Some.ensures c.in-Some-front.ensures same c.in_ok-x-in-Equal.ensures.next c.in_ok-y-in-Equal.ensures.next c.joined.ensures.word c.joined.ensures.sum

pub returns-in-Greater-clause-next : goal.returns-in-Greater-clause-next
returns-in-Greater-clause-next g c =
    let more : c.in-Some-front.y < c.in-Some.x = search rules in
    next_first _ _ _ c.in-Some.x c.in-Some-front.y _ c.in-Some.ensures c.in-Some-front.ensures more c.next-in-Greater.ensures.next
