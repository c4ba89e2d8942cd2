use Rattle.std.proofs.Common.{◌≡◌, drop}
use Rattle.sparse_poly.specs.Factors.{is_member}
use Rattle.sparse_poly.proofs.stripping.contains.Given as goal

abbrev pub invariant-loop-member : goal.invariant-loop-member
invariant-loop-member l = is_member (drop l.member-index l.list) l.poly ≡ is_member l.list l.poly
