use Rattle.std.proofs.Common.{rules}
use Rattle.std.specs.BinaryHeap.{heap_items}
use Rattle.sparse_poly.specs.Owing.{owed_terms}
use Rattle.sparse_poly.proofs.Owings.{none_above}
use Rattle.sparse_poly.proofs.owing.row_above.Goals as goal

pub returns-in_default : goal.returns-in_default
returns-in_default c = none_above c.args.monomial.now c.in_ok-row.row.now.first.monomial (owed_terms (heap_items c.args.owed.now)) c.in_ok-row.ensures (λ e. c.in_default.not-Less (search rules))
