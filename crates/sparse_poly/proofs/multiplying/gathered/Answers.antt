use Rattle.std.proofs.Common.{rules, ◌≡◌, ◌++◌, ◌∷◌, [], to_z, of_z}
use Rattle.std.specs.Int.{w128}
use Rattle.sparse_poly.proofs.Rows.{Gathered-more, Agree-once}
use Rattle.sparse_poly.proofs.multiplying.gathered.Goals as goal

pub terms-preserved : goal.terms-preserved
terms-preserved c =
    let left : c.terms.terms.items ≡ c.pop.new.self.items ++ c.in-Some.term ∷ [] = search rules in
    let made : c.push.new.self.items ≡ c.terms.shares.items ++ c.share_of.result ∷ [] = search rules in
    let same : to_z w128 (of_z w128 c.in-Some.term.coeff) ≡ c.in-Some.term.coeff = search rules in
    Gathered-more _ _ _ _ _ c.in-Some.term c.share_of.result c.terms.invariant left made c.share_of.ensures.monomial (Agree-once _ _ _ (rw same at c.share_of.ensures.sum)) c.len-powers.ensures.monomial
