use Rattle.std.proofs.Common.{◌≡◌, subst, map}
use Rattle.sparse_poly.specs.Contributions.{IsResult, IsFault}
use Rattle.poly_text.specs.Raw.{raw}
use Rattle.poly_text.proofs.Read.{all_taken, one_result, monomial_at, no_fault}
use Rattle.poly_text.proofs.reader.poly_of.Goals as goal

pub from_powers-requires : goal.from_powers-requires
from_powers-requires c = rw c.deref.ensures.value (monomial_at c.args.terms.now c.loop-term.term-index c.term-item.result c.requires c.loop-term-test.true c.term-item.is)

pub returns-in-Ok : goal.returns-in-Ok
returns-in-Ok c =
    let e : c.loop-term.list.items ≡ map raw c.args.terms.now = all_taken c.args.terms.now c.loop-term.term-index c.loop-term.list.items c.loop-term.invariant c.loop-term-test.false in
    one_result (map raw c.args.terms.now) c.in-Ok.poly c.requires (subst (λ ts. IsResult ts c.in-Ok.poly) e c.in-Ok.ensures.answer)

pub unreachable-requires : goal.unreachable-requires
unreachable-requires c =
    let e : c.loop-term.list.items ≡ map raw c.args.terms.now = all_taken c.args.terms.now c.loop-term.term-index c.loop-term.list.items c.loop-term.invariant c.loop-term-test.false in
    no_fault (map raw c.args.terms.now) c.in-Err.fault c.requires (subst (λ ts. IsFault ts c.in-Err.fault) e c.in-Err.ensures.answer) c.in-Err.ensures.degree c.in_default.not-OutOfMemory
