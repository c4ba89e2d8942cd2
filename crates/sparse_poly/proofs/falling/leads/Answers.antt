use Rattle.std.proofs.Common.{rules, arith, ◌≡◌, ◌≢◌, ◌≤◌, pos, unsigned_abs}
use Rattle.sparse_poly.specs.Contributions.{max_coeff}
use Rattle.sparse_poly.proofs.InOrder.{IsPoly-before}
use Rattle.sparse_poly.proofs.falling.leads.Goals as goal

pub returns-in-len1-up : goal.returns-in-len1-up
returns-in-len1-up c =
    let size : unsigned_abs c.args.term.now.coeff ≡ c.unsigned_abs-size.result = search rules in
    let small : unsigned_abs c.args.term.now.coeff ≤ max_coeff = omega (arith, size, c.if-size.false) in
    let apart : c.args.term.now.coeff ≢ pos 0 = search rules in
    IsPoly-before _ _ _ _ c.in-len1-up.len_at_least c.next-item.is (search rules) apart small c.len-powers.ensures.monomial
