use Rattle.std.proofs.Common.{◌/◌, length}
use Rattle.std.proofs.lemmas.Result.{IfOk-weaker}
use Rattle.sparse_poly.proofs.Packings.{term_halves}
use Rattle.sparse_poly.proofs.PackedTerms.{product_same, product_merged}
use Rattle.sparse_poly.proofs.packing.+listed.Goals as goal

pub returns-then-ts-le2-clause-sums : goal.returns-then-ts-le2-clause-sums
returns-then-ts-le2-clause-sums t c = IfOk-weaker c.collected.result _ _ (λ v s. product_same _ _ _ _ _ s c.pair.ensures.sums) c.collected.ensures.same

pub returns-clause-sums : goal.returns-clause-sums
returns-clause-sums t c =
    let merged = rw (c.deref.ensures.value, c.deref-2.ensures.value) at c.merge.ensures in
    IfOk-weaker c.merge.result _ _ (λ v m. product_merged c.args.minus c.args.ts.now c.args.us.now _ _ _ _ _ (term_halves c.args.ts.now (length c.args.ts.now / 2)) c.in_ok-first.ensures.sums c.in_ok-second.ensures.sums m) merged

pub returns-clause-falls : goal.returns-clause-falls
returns-clause-falls t c =
    let merged = rw (c.deref.ensures.value, c.deref-2.ensures.value) at c.merge.ensures in
    IfOk-weaker c.merge.result _ _ (λ v m. m.falling c.in_ok-first.ensures.falls c.in_ok-second.ensures.falls) merged
