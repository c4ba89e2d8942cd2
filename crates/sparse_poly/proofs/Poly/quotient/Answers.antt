use Rattle.std.proofs.Common.{rules, ◌≡◌, ◌∙◌, ◌∷◌, ◌-◌, drop, take, length}
use Rattle.sparse_poly.proofs.LongDivision.{stopped_quotient, by_first}
use Rattle.sparse_poly.proofs.OneQuotient.{degree_apart, heavy_apart}
use Rattle.sparse_poly.proofs.Poly.quotient.Goals as goal

pub returns-in-Err-Degree : goal.returns-in-Err-Degree
returns-in-Err-Degree c =
    let same : c.as_slice.result.now ≡ c.args.n.now = search rules in
    let whole : c.leading-item.result ∷ take (length c.as_slice.result.now - 1) (drop 1 c.as_slice.result.now) ≡ c.args.n.now = by_first c.as_slice.result.now c.leading-item.result c.in-len1-up.len_at_least c.leading-item.is ∙ same in
    rw (← c.terms-whole.ensures.value) (stopped_quotient c.leading-item.result _ c.args.n.now c.terms-whole.result.now c.in-Some.terms.items c.in-Err-Degree.field-0 whole c.terms-divisor.ensures.poly (rw c.in-Some.is at c.in_ok-terms.ensures) (rw (c.in_ok-quotient.ensures ∙ c.laid.ensures) at c.in-Err-Degree.ensures) (degree_apart _ _ c.in-Err-Degree.field-0-is))

pub returns-in-Err-Heavy : goal.returns-in-Err-Heavy
returns-in-Err-Heavy c =
    let same : c.as_slice.result.now ≡ c.args.n.now = search rules in
    let whole : c.leading-item.result ∷ take (length c.as_slice.result.now - 1) (drop 1 c.as_slice.result.now) ≡ c.args.n.now = by_first c.as_slice.result.now c.leading-item.result c.in-len1-up.len_at_least c.leading-item.is ∙ same in
    rw (← c.terms-whole.ensures.value) (stopped_quotient c.leading-item.result _ c.args.n.now c.terms-whole.result.now c.in-Some.terms.items c.in-Err-Heavy.field-0 whole c.terms-divisor.ensures.poly (rw c.in-Some.is at c.in_ok-terms.ensures) (rw (c.in_ok-quotient.ensures ∙ c.laid.ensures) at c.in-Err-Heavy.ensures) (heavy_apart _ _ c.in-Err-Heavy.field-0-is))
